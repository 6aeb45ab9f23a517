-- A run over a list of entries, entry by entry.
use Rattle.std.proofs.Common.{◌≡◌, ℕ, ◌≤◌, List, [], ◌++◌, length, take, drop, sym, ap, ◌∙◌}
use Rattle.std.proofs.lemmas.List.{append-nil, drop_all, take_all}
use Rattle.sheet.specs.declared.layout.Layout.{Layout}
use Rattle.board.specs.Answers.{accepted, settled}
use Rattle.frame.specs.declared.entry.Entry.{Entry}
use Rattle.frame.specs.Calls.{State, load_answer, load_after, loaded}
use Rattle.frame.specs.Runs.{run_after, run_noted}

module _ (all : List Entry) (start : State) where
  -- what is left of the list, from how all stands now, gives what the whole list gives
  abbrev pub Left : List Entry → ℕ → State → Type 0
  Left es i now = (run_after (drop i es) now ≡ run_after all start) × (take i es ++ run_noted (drop i es) now ≡ run_noted all start)

  pub left_none : (es : List Entry) (i : ℕ) (now : State) → length es ≤ i → Left es i now → (es ≡ run_noted all start) × (now ≡ run_after all start)
  left_none es i now l h =
      let d : drop i es ≡ [] = drop_all i es l in
      let t : take i es ≡ es = take_all i es l in
      let h1 : es ++ [] ≡ run_noted all start = rw (d, t) at h.1 in
      (sym (append-nil es) ∙ h1, rw d at h.0)

pub load_stands : (l : Layout) (s s' : State) → accepted ≡ load_answer l s → s' ≡ load_after l s → s' ≡ loaded l s.block
load_stands l s s' a h = h ∙ ap (λ x. settled x (loaded l s.block) s) (sym a)
