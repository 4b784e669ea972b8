-- When a complaint on bindings is true.
use Rattle.std.specs.Prelude.{◌≡◌, ℕ, ◌<◌, ◌^◌, ◌-◌, ◌⊎◌, Bool, true, false, not, ◌||◌, ◌&&◌, is_some, List, Option, Some, None, option_map, find, codes, bytes_eq}
use Rattle.std.specs.Option.{option_map_or}
use Rattle.bindings_syntax.specs.Cuts.{cut_at}
use Rattle.bindings_syntax.specs.Reading.{BindingsTextOf, bindings_text}
use Rattle.gq_parser.specs.Tree.{TypeTree, Named, ListOf}
use Rattle.schema_syntax.specs.Tree.{Definition, Object, Field}
use Rattle.gq_schema.specs.Kinds.{is_leaf}
use Rattle.gq_schema.specs.Scan.{first_in}
use Rattle.gq_schema.specs.Types.{field_in, kind_in, root_in}
use Rattle.fault_sentences.specs.declared.bindings.BindingsComplaint.{BindingsComplaint}
use Rattle.fault_sentences.specs.declared.bindings.BindingsComplaint.TheVariants as complaint
use Rattle.fault_sentences.specs.Lines.{LineOf, line_in, dot, word_in, is_blank, is_bound, is_column, is_defined, is_form, is_object_type, missing_argument, takes_column, BeginsWith, IsOfField, IsOfObject, IsNew, HasForm, HasArguments}

-- ---- of a line

-- neither `loader` nor `field`
abbrev pub is_other_word : List ℕ → Bool
is_other_word word = not (bytes_eq word (codes "loader") || bytes_eq word (codes "field"))

-- The third word is no form.
pub record IsOtherForm (l : LineOf) (word : List ℕ) : Type 0 where
  pub ty : List ℕ
  pub field : List ℕ
  pub new : IsNew l ty field
  pub word_is : word ≡ word_in l 2
  pub other : is_form word ≡ false

-- The loader behind the form isn't defined before.
pub record IsUnknownLoader (l : LineOf) (loader : List ℕ) : Type 0 where
  pub ty : List ℕ
  pub field : List ℕ
  pub new : IsNew l ty field
  pub form : is_form (word_in l 2) ≡ true
  pub loaded : is_column l ≡ false
  pub loader_is : loader ≡ word_in l 3
  pub unknown : is_defined l.text l.number loader ≡ false

-- A column is asked of the root, which has none.
pub record IsOfRoot (l : LineOf) (ty field : List ℕ) : Type 0 where
  pub arguments : HasArguments l ty field
  pub of_root : ty ≡ root_in l.defs
  pub column : takes_column l ≡ true

-- Nothing else is wrong that has a complaint.
pub record IsUnfit (l : LineOf) (form ty field : List ℕ) : Type 0 where
  pub arguments : HasArguments l ty field
  pub not_of_root : bytes_eq ty (root_in l.defs) && takes_column l ≡ false
  pub form_is : form ≡ word_in l 2

-- The complaint is true of the line, and those that look less far into it aren't.
abbrev pub IsTrueOfLine : LineOf → BindingsComplaint → Type 0
IsTrueOfLine l complaint.NoVersion = ⊥
IsTrueOfLine l complaint.BlankLine = is_blank l ≡ true
IsTrueOfLine l (complaint.OtherVersion line) =
    (is_blank l ≡ false) × (l.text.is_headed ≡ false) × (line.now ≡ l.bytes)
IsTrueOfLine l (complaint.OtherWord word) =
    (is_blank l ≡ false) × BeginsWith word.now l × (is_other_word word.now ≡ true)
IsTrueOfLine l (complaint.LoaderTwice loader) = BeginsWith (codes "loader") l
    × (loader.now ≡ word_in l 1) × (is_defined l.text l.number loader.now ≡ true)
IsTrueOfLine l complaint.BadLoader =
    BeginsWith (codes "loader") l × (is_defined l.text l.number (word_in l 1) ≡ false)
IsTrueOfLine l (complaint.NoField word) = BeginsWith (codes "field") l
    × (word.now ≡ word_in l 1) × (cut_at dot word.now ≡ None)
IsTrueOfLine l (complaint.UnknownType ty) =
    (field : List ℕ) × IsOfField l ty.now field × (kind_in l.defs ty.now ≡ None)
IsTrueOfLine l (complaint.UnknownField ty field) = IsOfField l ty.now field.now
    × (is_some (kind_in l.defs ty.now) ≡ true) × (field_in l.defs ty.now field.now ≡ None)
IsTrueOfLine l (complaint.NoObject ty) = (field : List ℕ) × IsOfField l ty.now field
    × (is_some (field_in l.defs ty.now field) ≡ true) × (is_object_type l.defs ty.now ≡ false)
IsTrueOfLine l (complaint.FieldTwice ty field) =
    IsOfObject l ty.now field.now × (is_bound l.text l.number ty.now field.now ≡ true)
IsTrueOfLine l (complaint.OtherForm word) = IsOtherForm l word.now
IsTrueOfLine l (complaint.UnknownLoader loader) = IsUnknownLoader l loader.now
IsTrueOfLine l (complaint.UnknownArgument ty field argument) =
    HasForm l ty.now field.now × (missing_argument l ty.now field.now ≡ Some argument.now)
IsTrueOfLine l (complaint.RootColumn ty field) = IsOfRoot l ty.now field.now
IsTrueOfLine l (complaint.Unfit form ty field) = IsUnfit l form.now ty.now field.now
IsTrueOfLine l (complaint.Unbound ty field) = ⊥
IsTrueOfLine l complaint.Refused = ⊥

-- ---- of a line that is missing

-- a scalar or an enum, and no list
abbrev pub is_leaf_type : List Definition → TypeTree → Bool
is_leaf_type defs (Named p name non_null) = option_map_or is_leaf (kind_in defs name) false
is_leaf_type defs (ListOf p item non_null) = false

-- Each field of the root needs a line, and each other one that isn't of a scalar or an enum.
abbrev pub needs_line : List Definition → List ℕ → Field → Bool
needs_line defs ty f = bytes_eq ty (root_in defs) || not (is_leaf_type defs f.of_type)

-- the field of a type needs a line, and no line is of it
abbrev pub lacks_line : List Definition → BindingsTextOf → List ℕ → Field → Bool
lacks_line defs text ty f = needs_line defs ty f && not (is_bound text (2 ^ 64 - 1) ty f.name.text)

-- an object type and its first field that lacks a line
abbrev pub unbound_of : List Definition → BindingsTextOf → Definition → Option (List ℕ × List ℕ)
unbound_of defs text (Object n is fs) =
    option_map (λ (f : Field). (n.text, f.name.text)) (find (lacks_line defs text n.text) fs)
unbound_of defs text _ = None

-- the first field of the schema that lacks a line, with its type
abbrev pub first_unbound : List Definition → BindingsTextOf → Option (List ℕ × List ℕ)
first_unbound defs text = first_in (unbound_of defs text) defs

-- The complaint is true of bindings in which no line is bad.
abbrev pub IsTrueOfNoLine : List Definition → BindingsTextOf → BindingsComplaint → Type 0
IsTrueOfNoLine defs text complaint.NoVersion = text.is_headed ≡ false
IsTrueOfNoLine defs text (complaint.Unbound ty field) =
    (text.is_headed ≡ true) × (first_unbound defs text ≡ Some (ty.now, field.now))
IsTrueOfNoLine defs text complaint.Refused =
    (text.is_headed ≡ true) × (first_unbound defs text ≡ None)
IsTrueOfNoLine defs text _ = ⊥

-- ---- of bindings

-- The complaint is true of the line of this number, or for 0 of bindings in which no line is bad.
abbrev pub IsTrueOfBindings : List Definition → List ℕ → ℕ → BindingsComplaint → Type 0
IsTrueOfBindings defs bindings number c =
    ((number ≡ 0) × IsTrueOfNoLine defs (bindings_text bindings) c)
    ⊎ ((0 < number) × IsTrueOfLine (line_in defs bindings number) c)
