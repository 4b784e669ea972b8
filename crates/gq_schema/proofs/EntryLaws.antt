-- The field of a type that was found, by its place.
use Rattle.std.proofs.Common.{◌≡◌, ◌∙◌, sym, ap, ℕ, ◌<◌, List, [], length, map, get_or, arith, Option, Some, None}
use Rattle.std.specs.Prelude.{find}
use Rattle.std.specs.Global.{Vec}
use Rattle.std.specs.Option.{option_map_or}
use Rattle.std.proofs.lemmas.List.{length-map}
use Rattle.gq_parser.specs.Tree.{type_of}
use Rattle.schema_syntax.specs.declared.tree.Definition as rust
use Rattle.schema_syntax.specs.declared.tree.FieldDefinition.{FieldDefinition}
use Rattle.schema_syntax.specs.Tree.{Field, Definition, definition_of, field_of, fields_of}
use Rattle.gq_schema.specs.declared.entries.TypeEntry.{TypeEntry}
use Rattle.gq_schema.specs.declared.index.IndexedDefinition.{IndexedDefinition}
use Rattle.gq_schema.specs.Entries.{entry_in, own_entries}
use Rattle.gq_schema.specs.Indexes.{definition_in, tree_in}
use Rattle.gq_schema.specs.Places.{place_from}
use Rattle.gq_schema.specs.Types.{tree_of, defines, is_field, own_fields, field_in, core_of}
use Rattle.gq_schema.proofs.PlaceLaws.{none_at, seen_within, seen_first, found_within, found_first, seen_at, made_of, made_length}

abbrev pub items_of : Vec TypeEntry → List TypeEntry
items_of v = v.items

-- the fields where the type's definition is this
abbrev in_type : List ℕ → Option Definition → Option Field
in_type name o = find (is_field name) (option_map_or own_fields o [])

pub no_type : (ds : List rust.Definition) (ty name : List ℕ) (entry : TypeEntry) → entry ≡ entry_in (tree_of ds) ty → entry.place ≡ None → field_in (tree_of ds) ty name ≡ None
no_type ds ty name entry is none = ap (in_type name) (none_at definition_of (defines ty) 0 ds (ap (λ (e : TypeEntry). e.place) (sym is) ∙ none))

-- where the type's definition stands
pub type_at : (all : List IndexedDefinition) (ty : List ℕ) (ds : List rust.Definition) (entry : TypeEntry) (number : ℕ) → map definition_in all ≡ ds → entry ≡ entry_in (tree_of ds) ty → entry.place ≡ Some number → place_from 0 (defines ty) (tree_in all) ≡ Some number
type_at all ty ds entry number view is at = ap (λ (xs : List rust.Definition). place_from 0 (defines ty) (tree_of xs)) view ∙ (ap (λ (e : TypeEntry). e.place) (sym is) ∙ at)

pub type_below : (all : List IndexedDefinition) (ty : List ℕ) (number : ℕ) → place_from 0 (defines ty) (tree_in all) ≡ Some number → number < length all
type_below all ty number at = seen_within definition_of definition_in (defines ty) all number at

pub entry_as : (all : List IndexedDefinition) (ds : List rust.Definition) (q : List ℕ) (e : TypeEntry) → map definition_in all ≡ ds → e ≡ entry_in (tree_in all) q → e ≡ entry_in (tree_of ds) q
entry_as all ds q e view is = is ∙ ap (λ (xs : List rust.Definition). entry_in (tree_of xs) q) view

abbrev entry_for : List Definition → Field → TypeEntry
entry_for defs f = entry_in defs (core_of f.of_type).text

-- the definition of the type ty stands at this place, and has these fields
module _ (all : List IndexedDefinition) (ty : List ℕ) (number : ℕ) (indexed : IndexedDefinition) (fields : List FieldDefinition)
    (at : place_from 0 (defines ty) (tree_in all) ≡ Some number) (is : indexed ≡ get_or all number indexed) (own : fields_of fields ≡ own_fields (definition_of indexed.definition)) where
  in_own : (name : List ℕ) → field_in (tree_in all) ty name ≡ find (is_field name) (fields_of fields)
  in_own name = ap (in_type name) (seen_first definition_of definition_in (defines ty) all number indexed at is) ∙ ap (find (is_field name)) (sym own)

  pub no_field : (name : List ℕ) → place_from 0 (is_field name) (own_fields (definition_of indexed.definition)) ≡ None → field_in (tree_in all) ty name ≡ None
  no_field name h = in_own name ∙ none_at field_of (is_field name) 0 fields (ap (place_from 0 (is_field name)) own ∙ h)

  -- the field stands at this place
  module _ (name : List ℕ) (place : ℕ) (stands : place_from 0 (is_field name) (own_fields (definition_of indexed.definition)) ≡ Some place) where
    among : place_from 0 (is_field name) (fields_of fields) ≡ Some place
    among = ap (place_from 0 (is_field name)) own ∙ stands

    pub place-below : place < length fields
    place-below = found_within field_of (is_field name) fields place among

    pub the_field : (x : FieldDefinition) → x ≡ get_or fields place x → field_in (tree_in all) ty name ≡ Some (field_of x)
    the_field x x-is = in_own name ∙ found_first field_of (is_field name) fields place x among x-is

    -- its entry stands there too
    module _ (rows : List (Vec TypeEntry)) (entries : Vec TypeEntry) (made : map items_of rows ≡ map (own_entries (tree_in all)) (tree_in all)) (row-is : entries ≡ get_or rows number entries) where
      row-made : entries.items ≡ map (entry_for (tree_in all)) (fields_of fields)
      row-made =
          let below : number < length all = seen_within definition_of definition_in (defines ty) all number at in
          let long : number < length (map definition_of (map definition_in all)) = omega (arith, below, length-map all definition_in, length-map (map definition_in all) definition_of) in
          let d-is = seen_at definition_of (map definition_in all) number (definition_in indexed) (seen_at definition_in all number indexed is) in
          made_of (own_entries (tree_in all)) (tree_in all) (map items_of rows) number (definition_of (definition_in indexed)) entries.items made long d-is (seen_at items_of rows number entries row-is)
          ∙ ap (map (entry_for (tree_in all))) (sym own)

      pub entry-below : place < length entries.items
      entry-below =
          let below = place-below in
          let same : length entries.items ≡ length (fields_of fields) = made_length (entry_for (tree_in all)) (fields_of fields) entries.items row-made in
          omega (arith, below, same, length-map fields field_of)

      pub the_entry : (x : FieldDefinition) (e : TypeEntry) → x ≡ get_or fields place x → e ≡ get_or entries.items place e → e ≡ entry_in (tree_in all) (core_of (type_of x.of_type)).text
      the_entry x e x-is e-is =
          let below = place-below in
          let long : place < length (fields_of fields) = omega (arith, below, length-map fields field_of) in
          made_of (entry_for (tree_in all)) (fields_of fields) entries.items place (field_of x) e row-made long (seen_at field_of fields place x x-is) e-is

-- a row of entries for each definition
pub row-below : (all : List IndexedDefinition) (ty : List ℕ) (number : ℕ) (rows : List (Vec TypeEntry)) → place_from 0 (defines ty) (tree_in all) ≡ Some number → map items_of rows ≡ map (own_entries (tree_in all)) (tree_in all) → number < length rows
row-below all ty number rows at made =
    let below : number < length all = seen_within definition_of definition_in (defines ty) all number at in
    let same : length (map items_of rows) ≡ length (map definition_of (map definition_in all)) = made_length (own_entries (tree_in all)) (tree_in all) (map items_of rows) made in
    omega (arith, below, same, length-map rows items_of, length-map all definition_in, length-map (map definition_in all) definition_of)
