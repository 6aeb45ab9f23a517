use Rattle.worked.proofs.Examples.{examples_stand}
use Rattle.worked.proofs.calls.Goals as goal

pub returns-clause-examples : goal.returns-clause-examples
returns-clause-examples c = examples_stand
