-- Fragment Spread Type Existence (section 5.5.1.2).
use Rattle.std.specs.Prelude.{is_none, List, filter_map, Option}
use Rattle.gq_parser.specs.Tree.{Condition}
use Rattle.schema_syntax.specs.Tree.{Definition}
use Rattle.gq_schema.specs.Types.{kind_in}
use Rattle.rules_parts.specs.Broken.{BrokenOf}
use Rattle.rules_parts.specs.Parts.{PartsOf}
use Rattle.rules_typed.specs.DefaultWords.{named_if}
use Rattle.rules_typed.specs.TypeConditions.{conditions}

abbrev pub unknown_type : List Definition → Condition → Option BrokenOf
unknown_type defs c = named_if (is_none (kind_in defs c.name)) c.name c.place

-- the type conditions that name no type
abbrev pub fragment_spread_type_existence : PartsOf → List BrokenOf
fragment_spread_type_existence p = filter_map (unknown_type p.definitions) (conditions p)
