-- Fragments On Composite Types (section 5.5.1.3).
use Rattle.std.specs.Prelude.{false, List, filter_map, Option}
use Rattle.std.specs.Option.{option_map_or}
use Rattle.gq_parser.specs.Tree.{Condition}
use Rattle.schema_syntax.specs.Tree.{Definition}
use Rattle.gq_schema.specs.Kinds.{is_leaf}
use Rattle.gq_schema.specs.Types.{kind_in}
use Rattle.rules_parts.specs.Broken.{BrokenOf}
use Rattle.rules_parts.specs.Parts.{PartsOf}
use Rattle.rules_typed.specs.DefaultWords.{named_if}
use Rattle.rules_typed.specs.TypeConditions.{conditions}

abbrev pub leaf_type : List Definition → Condition → Option BrokenOf
leaf_type defs c = named_if (option_map_or is_leaf (kind_in defs c.name) false) c.name c.place

-- the type conditions that name a scalar or an enum
abbrev pub fragments_on_composite_types : PartsOf → List BrokenOf
fragments_on_composite_types p = filter_map (leaf_type p.definitions) (conditions p)
