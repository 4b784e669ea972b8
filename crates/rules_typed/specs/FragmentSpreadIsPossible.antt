-- Fragment Spread Is Possible (section 5.5.2.3).
use Rattle.std.specs.Prelude.{ℕ, Bool, false, not, List, [], ◌++◌, filter_map, slice_get, Option, Some, None, unwrap_or}
use Rattle.std.specs.List.{list_any}
use Rattle.std.specs.Option.{option_and_then}
use Rattle.text_place.specs.declared.place.Place.{Place}
use Rattle.gq_parser.specs.Tree.{Condition, Fragment}
use Rattle.schema_syntax.specs.Tree.{Definition}
use Rattle.gq_schema.specs.Types.{possible_in, can_be}
use Rattle.rules_parts.specs.Broken.{BrokenOf}
use Rattle.rules_parts.specs.Parents.{composite_in}
use Rattle.rules_parts.specs.Parts.{SpreadPart, InlinePart, PartsOf}
use Rattle.rules_typed.specs.DefaultWords.{named_if}

-- An object type is a possible type of both.
abbrev pub may_overlap : List Definition → List ℕ → List ℕ → Bool
may_overlap defs one other = list_any (can_be defs other) (unwrap_or (possible_in defs one) [])

-- No object type is a possible type of the parent type and of the fragment's type, which are both composite.
abbrev pub is_impossible : List Definition → Option (List ℕ) → Option (List ℕ) → Bool
is_impossible defs None ty = false
is_impossible defs (Some parent) None = false
is_impossible defs (Some parent) (Some ty) = not (may_overlap defs parent ty)

-- the composite type that the fragment of this number is for
abbrev pub fragment_type : PartsOf → ℕ → Option (List ℕ)
fragment_type p i = option_and_then (λ (f : Fragment). composite_in p.definitions f.condition.name)
    (slice_get p.document.fragments i)

abbrev pub impossible_spread : PartsOf → SpreadPart → Option BrokenOf
impossible_spread p s =
    named_if (is_impossible p.definitions s.parent (option_and_then (fragment_type p) s.target))
    s.name s.place

-- an inline fragment with a type condition, at its own place
abbrev pub impossible_condition : List Definition
    → Option (List ℕ) → Place → Condition → Option BrokenOf
impossible_condition defs parent place c =
    named_if (is_impossible defs parent (composite_in defs c.name)) c.name place

abbrev pub impossible_inline : List Definition → InlinePart → Option BrokenOf
impossible_inline defs i = option_and_then (impossible_condition defs i.parent i.place) i.condition

-- the spreads, and then the inline fragments, that can't be of an object that they stand in
abbrev pub fragment_spread_is_possible : PartsOf → List BrokenOf
fragment_spread_is_possible p = filter_map (impossible_spread p) p.spreads
    ++ filter_map (impossible_inline p.definitions) p.inlines
