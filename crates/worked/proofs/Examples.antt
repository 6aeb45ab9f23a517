-- The examples, computed.
use mathlib.Core.List.{List, [], ◌∷◌, ◌++◌, map}
use mathlib.Core.Path.{◌≡◌, refl}
use lib.ListN.{take}
use Rattle.sheet.specs.Decode.{decode}
use Rattle.sheet.specs.Hostility.{are_hostile, hostiles_of}
use Rattle.sheet.specs.Worked.{answers, answer_of, copies}
use Rattle.block.specs.Meaning.{any_out}
use Rattle.board.specs.Boards.{fell}
use Rattle.frame.specs.declared.call.Call.TheVariants.{Give, Set, Hold, Trail, Restore, Contact, Release, Cut, Mend}
use Rattle.worked.specs.Worked.{ExamplesStand, at, call, duty_answers, examples, expected, ok, said, seen, sights, worked_duty, sight_of, cleared, both_cleared, start}
use Rattle.frame.specs.Runs.{run_after}
use mathlib.Core.Bool.{true, false}
use Rattle.board.specs.declared.board.Stage.TheVariants.{Open, Cleared, Run, Spent}
use Rattle.board.specs.declared.board.Arm.TheVariants as arm

copied : map (λ s. answer_of (decode s)) copies ≡ answers
copied = refl

worked : said (worked_duty ++ (call Give 1 ∷ [])) ≡ duty_answers ++ (ok ∷ [])
unfolding are_hostile hostiles_of any_out fell
worked = refl

spent : said (take 17 worked_duty ++ (call Hold 0 ∷ [])) ≡ take 17 duty_answers ++ (at 23 0 ∷ [])
unfolding are_hostile hostiles_of any_out fell
spent = refl

others : said (call Give 0 ∷ call Give 2 ∷ call Give 1 ∷ []) ++ (said (call Give 2 ∷ call Set 2 ∷ call Hold 2 ∷ call Release 2 ∷ []) ++ (said (call Cut 0 ∷ call Give 0 ∷ []) ++ said (call Mend 0 ∷ []))) ≡ (ok ∷ ok ∷ at 33 1 ∷ []) ++ ((ok ∷ ok ∷ ok ∷ at 29 2 ∷ []) ++ ((ok ∷ at 31 0 ∷ []) ++ (at 35 0 ∷ [])))
unfolding are_hostile hostiles_of any_out fell
others = refl

joined : {A : Type 0} {xs xs' ys ys' : List A} → xs ≡ xs' → ys ≡ ys' → xs ++ ys ≡ xs' ++ ys'
joined e f = cc

answered : examples ≡ expected
answered = joined copied (joined worked (joined spent others))

one_clear : sight_of (run_after cleared start) ≡ record { arms = arm.Clear ∷ arm.Normal ∷ []; fields = Cleared ∷ Open ∷ []; whole = true }
unfolding are_hostile hostiles_of any_out fell
one_clear = refl

both_clear : sight_of (run_after both_cleared start) ≡ record { arms = arm.Clear ∷ arm.Clear ∷ []; fields = Cleared ∷ Cleared ∷ []; whole = true }
unfolding are_hostile hostiles_of any_out fell
both_clear = refl

both_fallen : sight_of (run_after (both_cleared ++ (call Trail 0 ∷ [])) start) ≡ record { arms = arm.Fallen ∷ arm.Fallen ∷ []; fields = Cleared ∷ Cleared ∷ []; whole = true }
unfolding are_hostile hostiles_of any_out fell
both_fallen = refl

behind_its_train : sight_of (run_after (both_cleared ++ (call Contact 2 ∷ [])) start) ≡ record { arms = arm.Clear ∷ arm.Fallen ∷ []; fields = Cleared ∷ Run ∷ []; whole = true }
unfolding are_hostile hostiles_of any_out fell
behind_its_train = refl

spent_field : sight_of (run_after (cleared ++ (call Contact 0 ∷ call Restore 0 ∷ call Release 0 ∷ [])) start) ≡ record { arms = arm.Normal ∷ arm.Normal ∷ []; fields = Spent ∷ Open ∷ []; whole = true }
unfolding are_hostile hostiles_of any_out fell
spent_field = refl

cut_line : sight_of (run_after (cleared ++ (call Cut 0 ∷ [])) start) ≡ record { arms = arm.Clear ∷ arm.Normal ∷ []; fields = Cleared ∷ Open ∷ []; whole = false }
unfolding are_hostile hostiles_of any_out fell
cut_line = refl

next : {A : Type 0} {x x' : A} {xs xs' : List A} → x ≡ x' → xs ≡ xs' → x ∷ xs ≡ x' ∷ xs'
next e f = cc

reached : sights ≡ seen
reached = next one_clear (next both_clear (next both_fallen (next behind_its_train (next spent_field (next cut_line refl)))))

pub examples_stand : ExamplesStand
examples_stand = record { plan = refl; answered = answered; reached = reached }
