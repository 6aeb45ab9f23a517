-- Entries of a list: which letter names which call, and what is written into an entry.
use Rattle.std.specs.Prelude.{◌≡◌, ℕ, cond, Some, None, Ok, Err, Option, Result, ◌==◌}
use Rattle.board.specs.Answers.{Answer, answer_number, answer_place, refuse}
use Rattle.board.specs.declared.answer.FrameFault.TheVariants.{UnknownCall}
use Rattle.frame.specs.declared.call.Call.{Call}
use Rattle.frame.specs.declared.call.Call.TheVariants.{Give, Throw, Trail, Recouple, Set, Hold, Pull, Restore, Contact, Release, Normal, Return, Cut, Mend}
use Rattle.frame.specs.declared.call.UnknownLetter.{UnknownLetter}
use Rattle.frame.specs.declared.entry.Entry.{Entry}
use Rattle.frame.specs.Calls.{State, answer_of, after}

-- the letters, by their codes: g p t c s h l d a f n b x m
abbrev pub letter : Call → ℕ
letter Give = 103
letter Throw = 112
letter Trail = 116
letter Recouple = 99
letter Set = 115
letter Hold = 104
letter Pull = 108
letter Restore = 100
letter Contact = 97
letter Release = 102
letter Normal = 110
letter Return = 98
letter Cut = 120
letter Mend = 109

-- the call that a letter names
abbrev pub call_of : ℕ → Option Call
call_of x =
    cond (x == letter Give) (Some Give)
    (cond (x == letter Throw) (Some Throw)
    (cond (x == letter Trail) (Some Trail)
    (cond (x == letter Recouple) (Some Recouple)
    (cond (x == letter Set) (Some Set)
    (cond (x == letter Hold) (Some Hold)
    (cond (x == letter Pull) (Some Pull)
    (cond (x == letter Restore) (Some Restore)
    (cond (x == letter Contact) (Some Contact)
    (cond (x == letter Release) (Some Release)
    (cond (x == letter Normal) (Some Normal)
    (cond (x == letter Return) (Some Return)
    (cond (x == letter Cut) (Some Cut)
    (cond (x == letter Mend) (Some Mend)
    None)))))))))))))

-- what a letter is turned into: the call that it names, or itself where it names none
abbrev pub call_or : ℕ → Option Call → Result Call UnknownLetter
call_or x (Some c) = Ok c
call_or x None = Err (record { 0 = x })

abbrev pub Names : ℕ → Result Call UnknownLetter → Type 0
Names x said = said ≡ call_or x (call_of x)

-- a call that is still to be worked
abbrev pub unworked : ℕ → ℕ → Entry
unworked l n = record { letter = l; number = n; answer = 0; place = 0 }

-- an entry with its answer and place written into it
abbrev pub noted : Entry → Answer → Entry
noted e a = record { letter = e.letter; number = e.number; answer = answer_number a; place = answer_place a }

-- the entry of a call, with its answer
abbrev pub called : Call → ℕ → Answer → Entry
called c n a = noted (unworked (letter c) n) a

-- what an entry answers, and how all stands after it
abbrev pub entry_answer : Entry → State → Answer
entry_answer e s = elim (call_of e.letter) [ Some c ↦ answer_of c e.number s | None ↦ refuse UnknownCall e.number ]

abbrev pub entry_after : Entry → State → State
entry_after e s = elim (call_of e.letter) [ Some c ↦ after c e.number s | None ↦ s ]
