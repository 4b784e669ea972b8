-- The selections of a document, each before those inside it.
use Rattle.std.specs.Prelude.{ℕ, ◌+◌, List, [], ◌∷◌, ◌++◌, Option, None}
use Rattle.gq_parser.specs.Tree.{Field, Spread, Inline, Below, nothing_below, below, SelectionSet, set_at, Selection, Selections, no_selection, and_selection, Operation, Fragment, Document, set_of, selection_of}
use Rattle.gq_parser.specs.declared.tree.SelectionSet as rust-set
use Rattle.gq_parser.specs.declared.tree.Selection as rust-tree
use Rattle.schema_syntax.specs.Tree.{Definition}
use Rattle.schema_syntax.specs.declared.tree.Definition as rust-definition
use Rattle.gq_schema.specs.Types.{tree_of}
use Rattle.gq_schema.specs.declared.found.FoundType.{FoundType}
use Rattle.rules_parts.specs.declared.part.Owner.{Owner}
use Rattle.rules_parts.specs.declared.part.Owner.TheVariants as owner
use Rattle.rules_parts.specs.Pieces.{SelectionPart}
use Rattle.rules_parts.specs.Found.{type_named}
use Rattle.rules_parts.specs.Parents.{known_field, inside_operation, inside_field, inside_condition, inside_inline}

abbrev mutual
  -- the selections in a set of this parent type
  pub selections_in : List Definition → Owner → Option (List ℕ) → SelectionSet → List SelectionPart
  selections_in defs o parent (set_at p ss) = selections_among defs o parent ss

  pub selections_among : List Definition → Owner → Option (List ℕ) → Selections → List SelectionPart
  selections_among defs o parent no_selection = []
  selections_among defs o parent (and_selection s ss) =
      selections_from defs o parent s ++ selections_among defs o parent ss

  -- a selection, and those inside it
  pub selections_from : List Definition → Owner → Option (List ℕ) → Selection → List SelectionPart
  selections_from defs o parent (Field p alias name as' ds b) =
      let definition = known_field defs parent name in
      let inside = inside_field defs definition in
      record {
        owner = o;
        parent = parent;
        definition = definition;
        inside = inside;
        selection = Field p alias name as' ds b;
      } ∷ selections_below defs o inside b
  selections_from defs o parent (Spread p name ds) =
      record {
        owner = o;
        parent = parent;
        definition = None;
        inside = None;
        selection = Spread p name ds;
      } ∷ []
  selections_from defs o parent (Inline p c ds s) =
      let inside = inside_inline defs parent c in
      record {
        owner = o;
        parent = parent;
        definition = None;
        inside = inside;
        selection = Inline p c ds s;
      } ∷ selections_in defs o inside s

  pub selections_below : List Definition → Owner → Option (List ℕ) → Below → List SelectionPart
  selections_below defs o inside nothing_below = []
  selections_below defs o inside (below s) = selections_in defs o inside s

-- those of operations, the first of which has the number i
abbrev pub operation_selections : List Definition → ℕ → List Operation → List SelectionPart
operation_selections defs i [] = []
operation_selections defs i (o ∷ os) = selections_in defs (owner.Operation i)
    (inside_operation defs) o.selection_set ++ operation_selections defs (i + 1) os

-- those of fragments, the first of which has the number i
abbrev pub fragment_selections : List Definition → ℕ → List Fragment → List SelectionPart
fragment_selections defs i [] = []
fragment_selections defs i (f ∷ fs) = selections_in defs (owner.Fragment i)
    (inside_condition defs f.condition) f.selection_set ++ fragment_selections defs (i + 1) fs

-- operations first, and then fragments
abbrev pub document_selections : List Definition → Document → List SelectionPart
document_selections defs d =
    operation_selections defs 0 d.operations ++ fragment_selections defs 0 d.fragments

-- gives the same of a set and of a selection that were read
abbrev pub read_selections_in : List rust-definition.Definition → Owner
    → Option FoundType → rust-set.SelectionSet → List SelectionPart
read_selections_in schema o parent set =
    selections_in (tree_of schema) o (type_named parent) (set_of set)

abbrev pub read_selections_from : List rust-definition.Definition → Owner
    → Option FoundType → rust-tree.Selection → List SelectionPart
read_selections_from schema o parent selection =
    selections_from (tree_of schema) o (type_named parent) (selection_of selection)
