use Rattle.execution.proofs.PartLaws.{part-front, part-chain, part-sparing, part-rounds}
use Rattle.execution.proofs.law.shared_rounds_are_few.Goals as goal

pub returns-clause-executed : goal.returns-clause-executed
returns-clause-executed c = λ modes whole p end among none. part-front modes whole p end among none

pub returns-clause-chain : goal.returns-clause-chain
returns-clause-chain c = λ log part is of. part-chain log part is of

pub returns-clause-sparing : goal.returns-clause-sparing
returns-clause-sparing c = λ log part steps is of run. part-sparing log part steps is of run

pub returns-clause-greatest : goal.returns-clause-greatest
returns-clause-greatest c = λ log is some. part-rounds log is some
