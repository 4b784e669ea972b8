-- Operation Name Uniqueness (October 2021, section 5.2.1.1): no two operations have one name.
use Rattle.std.specs.Prelude.{List, Option, filter_map}
use Rattle.std.specs.Option.{option_map}
use Rattle.gq_parser.specs.Tree.{Operation}
use Rattle.rules_parts.specs.Broken.{BrokenOf}
use Rattle.rules_parts.specs.Parts.{PartsOf}
use Rattle.rules_untyped.specs.Named.{named}
use Rattle.rules_untyped.specs.Repeated.{repeated}

abbrev pub named_operation : Operation → Option BrokenOf
named_operation o = option_map (λ n. named n o.place) o.name

-- the operations whose name an earlier one has
abbrev pub operation_name_uniqueness : PartsOf → List BrokenOf
operation_name_uniqueness p = repeated (filter_map named_operation p.document.operations)
