use Rattle.std.proofs.Common.{refl}
use Rattle.rules_spreads.proofs.SpanLaws.{has-without}
use Rattle.rules_spreads.proofs.operation_set.OperationSet.without.Goals as goal

pub returns : goal.returns
returns c = λ i lt. has-without c.args.self _ c.args.number i c.requires lt refl
