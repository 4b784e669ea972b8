-- Definitions of what contracts see of the statements that were read.
use Rattle.std.specs.Prelude.{List, [], ◌∷◌, map, option_map}
use Rattle.bindings_syntax.specs.declared.statement.By.{By}
use Rattle.bindings_syntax.specs.declared.statement.KeyPart.{KeyPart}
use Rattle.bindings_syntax.specs.declared.statement.KeyPart.TheVariants as part
use Rattle.bindings_syntax.specs.declared.statement.ViaWords.{ViaWords}
use Rattle.bindings_syntax.specs.declared.statement.ViaLoaders.{ViaLoaders}
use Rattle.bindings_syntax.specs.declared.statement.ViaLoaders.TheVariants as steps
use Rattle.bindings_syntax.specs.declared.statement.KeyWords.{KeyWords}
use Rattle.bindings_syntax.specs.declared.statement.KeyWords.TheVariants as source
use Rattle.bindings_syntax.specs.declared.statement.Form.{Form}
use Rattle.bindings_syntax.specs.declared.statement.Form.TheVariants as form
use Rattle.bindings_syntax.specs.declared.statement.Statement.{Statement}
use Rattle.bindings_syntax.specs.declared.statement.Statement.TheVariants as statement
use Rattle.bindings_syntax.specs.declared.statement.NumberedStatement.{NumberedStatement}
use Rattle.bindings_syntax.specs.declared.statement.BindingsText.{BindingsText}
use Rattle.bindings_syntax.specs.Statements.{ByOf, PartOf, argument_part, column_part, KeyOf, from_argument, from_column, from_all, from_pair, StepOf, FormOf, to_column, to_one, to_many, to_each, to_via, StatementOf, loader_line, field_line}
use Rattle.bindings_syntax.specs.Reading.{NumberedOf, BindingsTextOf}

abbrev pub by_seen : By → ByOf
by_seen by =
    record { column = by.column.now; second = option_map (λ t. t.now) by.second; fold = by.fold }

abbrev pub part_seen : KeyPart → PartOf
part_seen (part.Argument name) = argument_part name.now
part_seen (part.Column name) = column_part name.now

abbrev pub key_seen : KeyWords → KeyOf
key_seen (source.Argument name) = from_argument name.now
key_seen (source.Column name) = from_column name.now
key_seen source.All = from_all
key_seen (source.Pair one two) = from_pair (part_seen one) (part_seen two)

abbrev pub step_seen : ViaWords → StepOf
step_seen step = (step.loader.now, step.column.now)

abbrev pub steps_seen : ViaLoaders → List StepOf
steps_seen (steps.One first) = step_seen first ∷ []
steps_seen (steps.Two first second) = step_seen first ∷ step_seen second ∷ []
steps_seen (steps.Three first second third) =
    step_seen first ∷ step_seen second ∷ step_seen third ∷ []

abbrev pub form_seen : Form → FormOf
form_seen (form.Column column) = to_column column.now
form_seen (form.One loader key) = to_one loader.now (key_seen key)
form_seen (form.Many loader key) = to_many loader.now (key_seen key)
form_seen (form.Each loader argument) = to_each loader.now argument.now
form_seen (form.Via loader key following) = to_via loader.now (key_seen key) (steps_seen following)

abbrev pub statement_seen : Statement → StatementOf
statement_seen (statement.Loader name table by) =
    loader_line name.now table.now (option_map by_seen by)
statement_seen (statement.Field type_name field_name form) =
    field_line type_name.now field_name.now (form_seen form)

abbrev pub numbered_seen : NumberedStatement → NumberedOf
numbered_seen numbered =
    record { line = numbered.line; statement = statement_seen numbered.statement }

abbrev pub text_seen : BindingsText → BindingsTextOf
text_seen text = record {
  is_headed = text.is_headed;
  statements = map numbered_seen text.statements.items;
  bad_line = text.bad_line;
}
