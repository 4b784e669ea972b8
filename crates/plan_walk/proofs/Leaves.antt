-- What a leaf's type says of a cell is what its field's type says.
use Rattle.std.proofs.Common.{◌≡◌, ℕ, Bool, true, false, ◌||◌, List, [], ◌∷◌, Option, Some, None, refl, ap, bytes_eq, codes, if◌then◌else◌}
use Rattle.gq_parser.specs.Tree.{TypeTree, Named, ListOf}
use Rattle.schema_syntax.specs.Tree.{Definition}
use Rattle.gq_schema.specs.Types.{has_value}
use Rattle.plan_program.specs.PlanPrograms.{boolean_of, text_if, int_leaf, or_bad, leaf_of, cell_value}
use Rattle.plan_walk.specs.LeafTypes.{leaf_type, leaf_at, cell_at}
use Rattle.plan_walk.specs.declared.leaf_type.LeafType.TheVariants as type

-- whichever name it is
by-name : (int boolean string id : Bool) (defs : List Definition) (name t : List ℕ)
    → leaf_at defs (if int then type.Int else (if boolean then type.Boolean else (if string || id then type.Text else type.Named name))) t
    ≡ (if int then int_leaf t else (if boolean then boolean_of t else text_if (string || (id || has_value defs name t)) t))
by-name true boolean string id defs name t = refl
by-name false true string id defs name t = refl
by-name false false true id defs name t = refl
by-name false false false true defs name t = refl
by-name false false false false defs name t = refl

leaf-alike : (defs : List Definition) (ty : TypeTree) (t : List ℕ) → leaf_at defs (leaf_type ty) t ≡ leaf_of defs ty t
leaf-alike defs (Named p name non_null) t =
    by-name (bytes_eq name (codes "Int")) (bytes_eq name (codes "Boolean")) (bytes_eq name (codes "String")) (bytes_eq name (codes "ID")) defs name t
leaf-alike defs (ListOf p ty non_null) t = refl

pub cell-alike : (defs : List Definition) (column : List ℕ) (ty : TypeTree) (cell : Option (List ℕ)) → cell_at defs column (leaf_type ty) cell ≡ cell_value defs column ty cell
cell-alike defs column ty None = refl
cell-alike defs column ty (Some []) = refl
cell-alike defs column ty (Some (c ∷ cs)) = ap (or_bad column) (leaf-alike defs ty (c ∷ cs))
