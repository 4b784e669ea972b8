-- Definitions of which binding the line of a field gives.
use Rattle.std.specs.Prelude.{ℕ, Bool, false, not, is_some, is_none, ◌&&◌, List, [], ◌∷◌, Option, Some, None, option_map, option_and_then, if◌then◌else◌}
use Rattle.std.specs.Option.{option_map_or}
use Rattle.bindings_syntax.specs.Statements.{ByOf, PartOf, argument_part, column_part, KeyOf, from_argument, from_column, from_all, from_pair, FormOf, to_column, to_one, to_many, to_each, to_via}
use Rattle.bindings_syntax.specs.Statements as source
use Rattle.schema_syntax.specs.Tree.{Field, Definition}
use Rattle.gq_schema.specs.Types.{field_in}
use Rattle.gq_bindings.specs.Tree.{LoaderOf, StepOf, BindingOf, by_column, by_one, by_many, by_each, by_via, loader_in}
use Rattle.gq_bindings.specs.Types.{is_object_type, is_root_type, is_leaf_type, is_composite_type, is_composite_list, is_key_type, is_key_list, takes}

abbrev pub is_by_one : Option ByOf → Bool
is_by_one by = option_map_or (λ (b : ByOf). is_none b.second) by false

abbrev pub is_by_two : Option ByOf → Bool
is_by_two by = option_map_or (λ (b : ByOf). is_some b.second) by false

-- the number of the loader of this name, which has to be defined and to find its rows by exactly one column
abbrev pub keyed_loader : List LoaderOf → List ℕ → Option ℕ
keyed_loader loaders name = option_and_then
    (λ (l : ℕ × LoaderOf). if is_by_one l.1.by then Some l.0 else None) (loader_in loaders name)

-- the number of the loader of this name, which has to be defined and to find its rows by two columns
abbrev pub paired_loader : List LoaderOf → List ℕ → Option ℕ
paired_loader loaders name = option_and_then
    (λ (l : ℕ × LoaderOf). if is_by_two l.1.by then Some l.0 else None) (loader_in loaders name)

-- the number of the loader of this name, which has to be defined and to give all rows
abbrev pub whole_loader : List LoaderOf → List ℕ → Option ℕ
whole_loader loaders name = option_and_then
    (λ (l : ℕ × LoaderOf). if is_some l.1.by then None else Some l.0) (loader_in loaders name)

-- a part of a key: an argument of the field that is an Int, an ID or a String; a column of the row that the field belongs to, but the root
-- has no row
abbrev pub part_fits : Bool → Field → PartOf → Bool
part_fits of_root field (argument_part a) = takes is_key_type field a
part_fits of_root field (column_part c) = not of_root

-- The number of the loader of this name, which the field can ask with this key: one part with a loader by one column, two with a loader by
-- two; `all` exactly with a loader that gives all rows.
abbrev pub asked_loader : List LoaderOf → Bool → Field → List ℕ → KeyOf → Option ℕ
asked_loader loaders of_root field name (from_argument a) =
    if takes is_key_type field a then keyed_loader loaders name else None
asked_loader loaders of_root field name (from_column c) =
    if of_root then None else keyed_loader loaders name
asked_loader loaders of_root field name from_all = whole_loader loaders name
asked_loader loaders of_root field name (from_pair one two) =
    if part_fits of_root field one && part_fits of_root field two
    then paired_loader loaders name else None

-- a loader of `via` after its first, which has to find its rows by one column
abbrev pub later_step : List LoaderOf → source.StepOf → Option StepOf
later_step loaders s =
    option_map (λ (n : ℕ). record { loader = n; column = s.1 }) (keyed_loader loaders s.0)

abbrev pub later_steps : List LoaderOf → List source.StepOf → Option (List StepOf)
later_steps loaders [] = Some []
later_steps loaders (s ∷ ss) = option_and_then
    (λ (t : StepOf). option_map (λ (ts : List StepOf). t ∷ ts) (later_steps loaders ss))
    (later_step loaders s)

-- the binding of `via`, where each of its loaders is there
abbrev pub via_loaders : List LoaderOf → Option ℕ → KeyOf → List source.StepOf → Option BindingOf
via_loaders loaders first key steps = option_and_then (λ (n : ℕ).
    option_map (λ (ss : List StepOf). by_via n key ss) (later_steps loaders steps)) first

-- `via` is for a list of composites
abbrev pub via_binding : List Definition → List LoaderOf → Bool
    → Field → List ℕ → KeyOf → List source.StepOf → Option BindingOf
via_binding defs loaders of_root field l key steps =
    if is_composite_list defs field.of_type
    then via_loaders loaders (asked_loader loaders of_root field l key) key steps else None

-- `column` is for a leaf, and not on the root
abbrev pub column_binding : List Definition → Bool → Field → List ℕ → Option BindingOf
column_binding defs of_root field c =
    if not of_root && is_leaf_type defs field.of_type then Some (by_column c) else None

-- `each` is for a list of composites, with an argument that is a list of keys
abbrev pub each_binding : List Definition → List LoaderOf
    → Field → List ℕ → List ℕ → Option BindingOf
each_binding defs loaders field l a =
    if is_composite_list defs field.of_type && takes is_key_list field a
    then option_map (λ n. by_each n a) (keyed_loader loaders l) else None

-- Gives what a form gives for a field. `one` is for a composite, `many` is for a list of composites.
abbrev pub form_binding : List Definition → List LoaderOf → Bool → Field → FormOf → Option BindingOf
form_binding defs loaders of_root field (to_column c) = column_binding defs of_root field c
form_binding defs loaders of_root field (to_one l key) =
    if is_composite_type defs field.of_type
    then option_map (λ n. by_one n key) (asked_loader loaders of_root field l key) else None
form_binding defs loaders of_root field (to_many l key) =
    if is_composite_list defs field.of_type
    then option_map (λ n. by_many n key) (asked_loader loaders of_root field l key) else None
form_binding defs loaders of_root field (to_each l a) = each_binding defs loaders field l a
form_binding defs loaders of_root field (to_via l key steps) =
    via_binding defs loaders of_root field l key steps

-- gives what a form gives for the field of this name of this type, which has to be an object type with such a field
abbrev pub field_binding : List Definition → List LoaderOf
    → List ℕ → List ℕ → FormOf → Option BindingOf
field_binding defs loaders ty name form =
    if is_object_type defs ty
    then option_and_then
    (λ (field : Field). form_binding defs loaders (is_root_type defs ty) field form)
    (field_in defs ty name)
    else None
