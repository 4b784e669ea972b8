-- The words of complaints on bindings.
use Rattle.std.specs.Prelude.{ℕ, List, [], ◌∷◌, codes}
use Rattle.fault_sentences.specs.declared.bindings.BindingsComplaint.{BindingsComplaint}
use Rattle.fault_sentences.specs.declared.bindings.BindingsComplaint.TheVariants as complaint

-- a name in quotes, between two texts
abbrev pub on_name : List ℕ → List ℕ → List ℕ → List (List ℕ)
on_name before name behind = before ∷ name ∷ behind ∷ []

-- a field of a type in quotes, between two texts
abbrev pub on_field : List ℕ → List ℕ → List ℕ → List ℕ → List (List ℕ)
on_field before ty field behind = before ∷ ty ∷ codes "." ∷ field ∷ behind ∷ []

abbrev pub unfit : List ℕ → List ℕ → List ℕ → List (List ℕ)
unfit form ty field = codes "the form \"" ∷ form
    ∷ codes "\" with this key doesn't fit the type of \"" ∷ ty ∷ codes "." ∷ field
    ∷ codes "\" and the loader" ∷ []

abbrev pub unknown_field : List ℕ → List ℕ → List (List ℕ)
unknown_field ty field =
    codes "the type \"" ∷ ty ∷ codes "\" has no field \"" ∷ field ∷ codes "\"" ∷ []

abbrev pub unknown_argument : List ℕ → List ℕ → List ℕ → List (List ℕ)
unknown_argument ty field argument = codes "\"" ∷ ty ∷ codes "." ∷ field
    ∷ codes "\" has no argument \"" ∷ argument ∷ codes "\"" ∷ []

abbrev pub bindings_words : BindingsComplaint → List (List ℕ)
bindings_words complaint.NoVersion =
    codes "there is no line \"bindings 1\" or \"bindings 2\"" ∷ []
bindings_words (complaint.OtherVersion line) =
    on_name (codes "the first line is \"bindings 1\" or \"bindings 2\", and not \"")
    line.now (codes "\"")
bindings_words complaint.BlankLine =
    codes "a line of spaces alone, or with a space before its #, is none" ∷ []
bindings_words (complaint.OtherWord word) =
    on_name (codes "a line begins with \"loader\" or \"field\", and not \"") word.now (codes "\"")
bindings_words (complaint.LoaderTwice loader) =
    on_name (codes "there is another loader \"") loader.now (codes "\" before")
bindings_words complaint.BadLoader =
    codes "a loader is \"loader NAME TABLE\", or \"loader NAME TABLE by COLUMN\"" ∷ []
bindings_words (complaint.NoField word) =
    on_name (codes "\"") word.now (codes "\" is no field, as \"Query.user\" is one")
bindings_words (complaint.UnknownType ty) =
    on_name (codes "the schema has no type \"") ty.now (codes "\"")
bindings_words (complaint.UnknownField ty field) = unknown_field ty.now field.now
bindings_words (complaint.NoObject ty) =
    on_name (codes "\"") ty.now (codes "\" is no object type, and its fields have no lines")
bindings_words (complaint.FieldTwice ty field) =
    on_field (codes "there is another line for \"") ty.now field.now (codes "\" before")
bindings_words (complaint.OtherForm word) =
    on_name (codes "\"") word.now (codes "\" is none of the forms column, one, many, each, via")
bindings_words (complaint.UnknownLoader loader) =
    on_name (codes "there is no loader \"") loader.now (codes "\" before")
bindings_words (complaint.UnknownArgument ty field argument) =
    unknown_argument ty.now field.now argument.now
bindings_words (complaint.RootColumn ty field) =
    on_field (codes "\"") ty.now field.now
    (codes "\" is a field of the root, which has no columns")
bindings_words (complaint.Unfit form ty field) = unfit form.now ty.now field.now
bindings_words (complaint.Unbound ty field) =
    on_field (codes "there is no line for the field \"") ty.now field.now (codes "\"")
bindings_words complaint.Refused = codes "the bindings are refused" ∷ []
