use Rattle.std.proofs.Common.{take}
use Rattle.std.specs.Fmt.{HasWritten, IsPlainFormatter}
use Rattle.survey.specs.Words.{fault_lines}
use Rattle.survey.proofs.words.FaultLinesDisplay.fmt.Given as goal

abbrev pub invariant-loop-fault : goal.invariant-loop-fault
invariant-loop-fault g l =
    IsPlainFormatter l.initial.f → HasWritten g.W.Write.write_str_gives l.initial.f (fault_lines l.self.sheet.now (take l.fault-index l.fault-items)) l.f
