use Rattle.std.proofs.Common.{refl}
use Rattle.rules_spreads.proofs.SpanLaws.{has-all}
use Rattle.rules_spreads.proofs.operation_set.OperationSet.all.Goals as goal

pub returns : goal.returns
returns c = λ i lt. has-all _ i lt refl
