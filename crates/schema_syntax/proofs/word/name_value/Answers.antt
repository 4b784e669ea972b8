use Rattle.schema_syntax.proofs.Values.{true_value, false_value, null_value, enum_value}
use Rattle.schema_syntax.proofs.word.name_value.Goals as goal

pub returns-in-True : goal.returns-in-True
returns-in-True c = true_value _ c.in-True.ensures

pub returns-in-False : goal.returns-in-False
returns-in-False c = false_value _ c.in-False.ensures

pub returns-in-Null : goal.returns-in-Null
returns-in-Null c = null_value _ c.in-Null.ensures

pub returns-in_ok-from_str-in_default : goal.returns-in_ok-from_str-in_default
returns-in_ok-from_str-in_default c = enum_value _ c.in_ok-from_str-in_default.field-0 _ c.keyword_of.ensures c.in_default.not-True c.in_default.not-False c.in_default.not-Null c.in_ok-from_str-in_default.ensures.ok
