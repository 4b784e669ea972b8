use Rattle.std.proofs.Common.{refl}
use Rattle.rules_spreads.proofs.SpanLaws.{has-with}
use Rattle.rules_spreads.proofs.operation_set.OperationSet.with.Goals as goal

pub returns : goal.returns
returns c = λ i. has-with c.args.self _ c.args.number i c.requires refl
