use Rattle.std.proofs.Common.{rules}
use Rattle.std.proofs.lemmas.List.{append_assoc}
use Rattle.survey.specs.Report.{total_line}
use Rattle.survey.proofs.report.faults_report.Goals as goal

pub returns : goal.returns
unfolding total_line
returns c = search (rules, append_assoc)
