-- What each call on a block answers, its tests in their order, and what it leaves.
use Rattle.std.specs.Prelude.{ℕ, Bool, true, false, cond, not, List, Ok, Err, Result, nat_le}
use Rattle.block.specs.declared.fault.BlockFault.{BlockFault}
use Rattle.block.specs.declared.fault.BlockFault.TheVariants.{LineCut, AlreadyOut, HostileOut, NotOut, LineWhole, BeyondLines}
use Rattle.block.specs.Meaning.{Meaning, is_out, any_out, with_out, with_whole}

-- accepted, or refused for a fault
abbrev pub BlockAnswer : Type 0
BlockAnswer = Result (Unit {0}) BlockFault

-- what a call leaves: the new meaning where it is accepted, the old one where it is refused
abbrev pub after : BlockAnswer → Meaning → Meaning → Meaning
after (Ok _) new old = new
after (Err _) new old = old

-- route r is beyond the lines
abbrev pub beyond : Meaning → ℕ → Bool
beyond m r = nat_le m.lines r

-- what a give of r is answered, with the set of routes that are hostile to r
abbrev pub give_answer : Meaning → ℕ → List Bool → BlockAnswer
give_answer m r hostiles =
    cond (beyond m r) (Err BeyondLines)
    (cond (not m.whole) (Err LineCut)
    (cond (is_out m r) (Err AlreadyOut)
    (cond (any_out m hostiles) (Err HostileOut)
    (Ok tt))))

-- a give that is accepted leaves the consent of r out
abbrev pub give_after : Meaning → ℕ → List Bool → Meaning
give_after m r hostiles = after (give_answer m r hostiles) (with_out m r true) m

-- what a return of r is answered
abbrev pub return_answer : Meaning → ℕ → BlockAnswer
return_answer m r =
    cond (beyond m r) (Err BeyondLines)
    (cond (not m.whole) (Err LineCut)
    (cond (not (is_out m r)) (Err NotOut)
    (Ok tt)))

-- a return that is accepted leaves the consent of r at home
abbrev pub return_after : Meaning → ℕ → Meaning
return_after m r = after (return_answer m r) (with_out m r false) m

-- what a cut is answered
abbrev pub cut_answer : Meaning → BlockAnswer
cut_answer m =
    cond (not m.whole) (Err LineCut)
    (Ok tt)

-- a cut that is accepted leaves the line cut
abbrev pub cut_after : Meaning → Meaning
cut_after m = after (cut_answer m) (with_whole m false) m

-- what a mend is answered
abbrev pub mend_answer : Meaning → BlockAnswer
mend_answer m =
    cond m.whole (Err LineWhole)
    (Ok tt)

-- a mend that is accepted leaves the line whole
abbrev pub mend_after : Meaning → Meaning
mend_after m = after (mend_answer m) (with_whole m true) m
