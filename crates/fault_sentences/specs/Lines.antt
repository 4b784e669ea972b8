-- A line of bindings over a schema, and what is looked up in them.
use Rattle.std.specs.Prelude.{◌≡◌, ℕ, ◌-◌, nat_lt, Bool, true, false, not, ◌||◌, ◌&&◌, is_some, List, [], get_or, Option, Some, None, find, codes, bytes_eq}
use Rattle.std.specs.List.{list_any}
use Rattle.std.specs.Option.{option_map_or}
use Rattle.bindings_syntax.specs.Cuts.{cut_at}
use Rattle.bindings_syntax.specs.Lines.{is_skipped, statement_lines}
use Rattle.bindings_syntax.specs.Reading.{NumberedOf, BindingsTextOf, bindings_text}
use Rattle.bindings_syntax.specs.Statements.{StatementOf, loader_line, field_line}
use Rattle.bindings_syntax.specs.Words.{words_of}
use Rattle.schema_syntax.specs.Tree.{Definition, Field}
use Rattle.gq_schema.specs.Implements.{argument_in}
use Rattle.gq_schema.specs.Kinds.{is_object}
use Rattle.gq_schema.specs.Types.{field_in, kind_in}
use Rattle.fault_sentences.specs.Behind.{behind}

-- ---- look-ups in the lines before

-- a line that defines the loader
abbrev pub defines : List ℕ → StatementOf → Bool
defines loader (loader_line name table by) = bytes_eq name loader
defines loader (field_line ty field form) = false

-- a line of the field
abbrev pub binds : List ℕ → List ℕ → StatementOf → Bool
binds of_type of_field (loader_line name table by) = false
binds of_type of_field (field_line ty field form) = bytes_eq ty of_type && bytes_eq field of_field

abbrev pub defines_before : ℕ → List ℕ → NumberedOf → Bool
defines_before line loader s = nat_lt s.line line && defines loader s.statement

abbrev pub binds_before : ℕ → List ℕ → List ℕ → NumberedOf → Bool
binds_before line ty field s = nat_lt s.line line && binds ty field s.statement

-- a line before this one, where no line has the number 0
abbrev pub is_defined : BindingsTextOf → ℕ → List ℕ → Bool
is_defined text line loader = list_any (defines_before line loader) text.statements

abbrev pub is_bound : BindingsTextOf → ℕ → List ℕ → List ℕ → Bool
is_bound text line ty field = list_any (binds_before line ty field) text.statements

-- ---- a line

-- the byte of `.`
abbrev pub dot : ℕ
dot = 46

-- the line of this number, from 1; empty where there is none
abbrev pub line_of : List ℕ → ℕ → List ℕ
line_of bindings number = get_or (statement_lines bindings) (number - 1) []

-- a line of bindings over a schema: what the bindings say, and the line's number, bytes and words
pub record LineOf : Type 0 where
  pub defs : List Definition
  pub text : BindingsTextOf
  pub number : ℕ
  pub bytes : List ℕ
  pub words : List (List ℕ)

abbrev pub line_in : List Definition → List ℕ → ℕ → LineOf
line_in defs bindings number = record {
  defs = defs;
  text = bindings_text bindings;
  number = number;
  bytes = line_of bindings number;
  words = words_of (line_of bindings number);
}

-- a word by its index, from 0; empty where there is none
abbrev pub word_in : LineOf → ℕ → List ℕ
word_in l i = get_or l.words i []

-- no word, or a first one that begins with `#`
abbrev pub is_blank : LineOf → Bool
is_blank l = is_skipped (word_in l 0)

abbrev pub is_form : List ℕ → Bool
is_form w = bytes_eq w (codes "column") || (bytes_eq w (codes "one") || (bytes_eq w (codes "many")
    || (bytes_eq w (codes "each") || bytes_eq w (codes "via"))))

-- the form `column`
abbrev pub is_column : LineOf → Bool
is_column l = bytes_eq (word_in l 2) (codes "column")

-- the form `column`, or a key that begins with `column`
abbrev pub takes_column : LineOf → Bool
takes_column l = is_column l || bytes_eq (word_in l 4) (codes "column")

abbrev pub is_arg : List ℕ → Bool
is_arg w = bytes_eq w (codes "arg")

-- the words right behind an `arg`
abbrev pub argument_names : List (List ℕ) → List (List ℕ)
argument_names words = behind is_arg words

-- it is no argument of the field
abbrev pub lacks : Field → List ℕ → Bool
lacks f argument = not (is_some (argument_in f.arguments argument))

-- the field of the type is there and lacks the argument
abbrev pub lacks_argument : List Definition → List ℕ → List ℕ → List ℕ → Bool
lacks_argument defs ty field argument =
    option_map_or (λ (f : Field). lacks f argument) (field_in defs ty field) false

-- the first argument that the line names and the field lacks
abbrev pub missing_argument : LineOf → List ℕ → List ℕ → Option (List ℕ)
missing_argument l ty field = find (lacks_argument l.defs ty field) (argument_names l.words)

abbrev pub is_object_type : List Definition → List ℕ → Bool
is_object_type defs ty = option_map_or is_object (kind_in defs ty) false

-- ---- how far a line is right

-- The text has a version, and the line begins with this word.
pub record BeginsWith (word : List ℕ) (l : LineOf) : Type 0 where
  pub headed : l.text.is_headed ≡ true
  pub first : word_in l 0 ≡ word

-- The line begins with `field`, and its second word is a type and a field, cut at the first dot.
pub record IsOfField (l : LineOf) (ty field : List ℕ) : Type 0 where
  pub begins : BeginsWith (codes "field") l
  pub names : cut_at dot (word_in l 1) ≡ Some (ty, field)

-- The field is one of an object type of the schema.
pub record IsOfObject (l : LineOf) (ty field : List ℕ) : Type 0 where
  pub of_field : IsOfField l ty field
  pub is_there : is_some (field_in l.defs ty field) ≡ true
  pub of_object : is_object_type l.defs ty ≡ true

-- No line before is of that field.
pub record IsNew (l : LineOf) (ty field : List ℕ) : Type 0 where
  pub of_object : IsOfObject l ty field
  pub is_new : is_bound l.text l.number ty field ≡ false

-- The third word is a form, and the loader behind it, which only `column` has not, is defined before.
pub record HasForm (l : LineOf) (ty field : List ℕ) : Type 0 where
  pub new : IsNew l ty field
  pub form : is_form (word_in l 2) ≡ true
  pub loader : is_column l || is_defined l.text l.number (word_in l 3) ≡ true

-- The field has each argument that the line names.
pub record HasArguments (l : LineOf) (ty field : List ℕ) : Type 0 where
  pub form : HasForm l ty field
  pub arguments : missing_argument l ty field ≡ None
