use Rattle.std.proofs.Common.{◌∙◌, ap}
use Rattle.std.specs.Prelude.{is_some}
use Rattle.schema_syntax.specs.Tree.{names_of}
use Rattle.gq_schema.specs.Types.{is_called}
use Rattle.gq_schema.proofs.PlaceLaws.{is_some-place_from}
use Rattle.gq_schema.proofs.index.IndexedDefinition.has_value.Goals as goal

pub returns-in-Enum : goal.returns-in-Enum
returns-in-Enum c =
    let at = rw c.in-Enum.is at c.place_of.ensures in
    rw c.in-Enum.is (c.is_some.ensures ∙ (ap is_some at ∙ is_some-place_from (is_called c.args.value.now) 0 (names_of c.in-Enum.field-0.values.items)))
