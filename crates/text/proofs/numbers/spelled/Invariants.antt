use Rattle.std.proofs.Common.{◌≡◌, ◌≤◌, drop}
use Rattle.text.specs.Numerals.{spelled_to}
use Rattle.text.proofs.Digits.{read_on}
use Rattle.text.proofs.numbers.spelled.Given as goal

abbrev pub invariant-loop-byte : goal.invariant-loop-byte
invariant-loop-byte l = (l.number ≤ l.most) × (read_on l.most l.number (drop l.byte-index l.text) ≡ spelled_to l.most l.text)
