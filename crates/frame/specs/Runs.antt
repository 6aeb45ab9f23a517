-- A list of entries, worked one by one, and a duty: a loading and then a list.
use Rattle.std.specs.Prelude.{List, [], ◌∷◌, Ok, Err}
use Rattle.sheet.specs.declared.layout.Layout.{Layout}
use Rattle.board.specs.Answers.{Answer}
use Rattle.frame.specs.declared.entry.Entry.{Entry}
use Rattle.frame.specs.Calls.{State, loaded}
use Rattle.frame.specs.Entries.{noted, entry_answer, entry_after}

-- how all stands after a list
abbrev pub run_after : List Entry → State → State
run_after [] s = s
run_after (e ∷ es) s = run_after es (entry_after e s)

-- the list with each entry's answer and place
abbrev pub run_noted : List Entry → State → List Entry
run_noted [] s = []
run_noted (e ∷ es) s = noted e (entry_answer e s) ∷ run_noted es (entry_after e s)

-- a duty, by what its loading answers: a refused one leaves the list and the frame
abbrev pub duty_noted : Answer → Layout → State → List Entry → List Entry
duty_noted (Ok _) l s es = run_noted es (loaded l s.block)
duty_noted (Err _) l s es = es

abbrev pub duty_after : Answer → Layout → State → List Entry → State
duty_after (Ok _) l s es = run_after es (loaded l s.block)
duty_after (Err _) l s es = s
