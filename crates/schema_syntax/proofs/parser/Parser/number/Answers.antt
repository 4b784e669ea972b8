use Rattle.schema_syntax.proofs.Values.{int_read, float_read}
use Rattle.std.proofs.Common.{◌∙◌, sym}
use Rattle.schema_syntax.proofs.parser.Parser.number.Goals as goal

pub returns-in-Some : goal.returns-in-Some
returns-in-Some c = int_read _ c.in_ok-number.number _ _ _ c.in-Some.ensures c.in_ok-number.ensures.ok

pub returns-in-Some-float : goal.returns-in-Some-float
returns-in-Some-float c = float_read _ c.in_ok-number-2.number _ _ _ (sym c.in_default.ensures.0 ∙ c.in-Some-float.ensures) c.in_ok-number-2.ensures.ok
