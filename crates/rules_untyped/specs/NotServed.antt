-- Definitions of what isn't served: operations of another kind than query (October 2021, section 2.3), and the fields `__schema`
-- and `__type` of introspection (section 4.1).
use Rattle.std.specs.Prelude.{ℕ, Bool, ◌||◌, List, ◌++◌, Option, Some, None, map, filter, filter_map, codes, bytes_eq}
use Rattle.std.specs.Option.{option_map}
use Rattle.gq_parser.specs.declared.tree.OperationKind.{OperationKind}
use Rattle.gq_parser.specs.declared.tree.OperationKind.TheVariants.{Query, Mutation, Subscription}
use Rattle.gq_parser.specs.Tree.{Operation}
use Rattle.rules_parts.specs.Broken.{BrokenOf}
use Rattle.rules_parts.specs.Parts.{PartsOf, FieldPart}
use Rattle.rules_untyped.specs.Named.{named}

-- the word of a kind that isn't served
abbrev pub other_kind : OperationKind → Option (List ℕ)
other_kind Query = None
other_kind Mutation = Some (codes "mutation")
other_kind Subscription = Some (codes "subscription")

abbrev pub operation_not_served : Operation → Option BrokenOf
operation_not_served o = option_map (λ word. named word o.place) (other_kind o.kind)

abbrev pub is_introspection : FieldPart → Bool
is_introspection f = bytes_eq f.name (codes "__schema") || bytes_eq f.name (codes "__type")

abbrev pub named_field : FieldPart → BrokenOf
named_field f = named f.name f.place

abbrev pub not_served : PartsOf → List BrokenOf
not_served p = filter_map operation_not_served p.document.operations
    ++ map named_field (filter is_introspection p.fields)
