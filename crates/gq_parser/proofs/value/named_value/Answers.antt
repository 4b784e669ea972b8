use Rattle.std.proofs.Common.{subst}
use Rattle.gq_parser.specs.Keywords.{IsEnumName}
use Rattle.gq_parser.specs.Grammar.{yes, no, null, enum}
use Rattle.gq_parser.proofs.Views.{literal_boolean, literal_null, literal_enum}
use Rattle.gq_parser.proofs.Steps.{not_words}
use Rattle.gq_parser.proofs.value.named_value.Goals as goal

pub returns-in-True-clause-value : goal.returns-in-True-clause-value
returns-in-True-clause-value c = λ constness after. rw (← c.in-True.ensures, c.new.ensures, literal_boolean) yes

pub returns-in-False-clause-value : goal.returns-in-False-clause-value
returns-in-False-clause-value c = λ constness after. rw (← c.in-False.ensures, c.new-in-False.ensures, literal_boolean) no

pub returns-in-Null-clause-value : goal.returns-in-Null-clause-value
returns-in-Null-clause-value c = λ constness after. rw (← c.in-Null.ensures, c.new-in-Null.ensures, literal_null) null

pub returns-in_ok-from_str-in_default : goal.returns-in_ok-from_str-in_default
returns-in_ok-from_str-in_default c = record {
  value = λ constness after. rw (c.new-in_default.ensures, literal_enum, c.in_ok-from_str-in_default.ensures.ok) (enum (subst IsEnumName c.keyword_of.ensures (not_words _ c.in_default.not-True c.in_default.not-False c.in_default.not-Null)));
  fault = tt;
}
