-- The types that fragments and inline fragments are for (section 2.8.1).
use Rattle.std.specs.Prelude.{List, ◌++◌, map, filter_map, Option}
use Rattle.gq_parser.specs.Tree.{Condition, Fragment}
use Rattle.rules_parts.specs.Parts.{InlinePart, PartsOf}

abbrev pub condition_of : Fragment → Condition
condition_of f = f.condition

abbrev pub inline_condition : InlinePart → Option Condition
inline_condition i = i.condition

-- those of fragments, and then those of inline fragments
abbrev pub conditions : PartsOf → List Condition
conditions p = map condition_of p.document.fragments ++ filter_map inline_condition p.inlines
