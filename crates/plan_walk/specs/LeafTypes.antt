-- Definitions of which texts are right at a leaf's type.
use Rattle.std.specs.Prelude.{ℕ, ◌||◌, List, [], ◌∷◌, Option, Some, None, codes, bytes_eq, if◌then◌else◌}
use Rattle.gq_parser.specs.Tree.{TypeTree, Named, ListOf}
use Rattle.schema_syntax.specs.Tree.{Definition}
use Rattle.gq_schema.specs.Types.{has_value}
use Rattle.execution.specs.Program.{Leaf, LeafValue, Text, Null, Fault}
use Rattle.plan_program.specs.PlanPrograms.{boolean_of, int_leaf, text_if, or_bad}
use Rattle.plan_program.specs.Texts.{no_column_message}
use Rattle.plan_walk.specs.declared.leaf_type.LeafType.{LeafType}
use Rattle.plan_walk.specs.declared.leaf_type.LeafType.TheVariants as type

-- gives what the type of this name says of texts (section 3.5, Result Coercion)
abbrev pub named_type : List ℕ → LeafType
named_type name =
    if bytes_eq name (codes "Int") then type.Int
    else (if bytes_eq name (codes "Boolean") then type.Boolean
    else (if bytes_eq name (codes "String") || bytes_eq name (codes "ID") then type.Text
    else type.Named name))

-- at a list no text is right
abbrev pub leaf_type : TypeTree → LeafType
leaf_type (Named p name non_null) = named_type name
leaf_type (ListOf p t non_null) = type.List

-- gives what a text is at a leaf's type
abbrev pub leaf_at : List Definition → LeafType → List ℕ → Option Leaf
leaf_at defs type.Int t = int_leaf t
leaf_at defs type.Boolean t = boolean_of t
leaf_at defs type.Text t = Some (Text t)
leaf_at defs (type.Named name) t = text_if (has_value defs name t) t
leaf_at defs type.List t = None

-- gives what a cell is there; an empty one is null
abbrev pub cell_at : List Definition → List ℕ → LeafType → Option (List ℕ) → LeafValue
cell_at defs column ty None = Fault (no_column_message column)
cell_at defs column ty (Some []) = Null
cell_at defs column ty (Some (c ∷ cs)) = or_bad column (leaf_at defs ty (c ∷ cs))
