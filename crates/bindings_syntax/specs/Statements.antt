-- The statements of a bindings text, and the words that make them.
use Rattle.std.specs.Prelude.{List, [], ◌∷◌, Bool, true, false, Option, Some, None, option_map, option_and_then, codes, bytes_eq, if◌then◌else◌}
use Rattle.bindings_syntax.specs.Cuts.{Text, cut_at}
use Rattle.bindings_syntax.specs.declared.statement.Version.{Version}
use Rattle.bindings_syntax.specs.declared.statement.Version.TheVariants as version

-- by which column, or by which two, a loader finds its rows
pub record ByOf : Type 0 where
  pub column : Text
  pub second : Option Text
  pub fold : Bool

-- a part of a key of two
pub data PartOf : Type 0 where
  argument_part : Text → PartOf
  column_part : Text → PartOf

-- says where a field takes its keys from
pub data KeyOf : Type 0 where
  from_argument : Text → KeyOf
  from_column : Text → KeyOf
  from_all : KeyOf
  from_pair : PartOf → PartOf → KeyOf

-- a loader of `via` after its first, with the column that has its key
abbrev pub StepOf : Type 0
StepOf = Text × Text

-- says how a field is answered
pub data FormOf : Type 0 where
  to_column : (column : Text) → FormOf
  to_one : (loader : Text) (key : KeyOf) → FormOf
  to_many : (loader : Text) (key : KeyOf) → FormOf
  to_each : (loader argument : Text) → FormOf
  to_via : (loader : Text) (key : KeyOf) (steps : List StepOf) → FormOf

pub data StatementOf : Type 0 where
  loader_line : (name table : Text) (by : Option ByOf) → StatementOf
  field_line : (type_name field_name : Text) (form : FormOf) → StatementOf

abbrev pub version_number : Text → Option Version
version_number number =
    if bytes_eq number (codes "1") then Some version.One
    else (if bytes_eq number (codes "2") then Some version.Two else None)

-- `bindings 1` or `bindings 2`
abbrev pub version_of : List Text → Option Version
version_of (word ∷ number ∷ []) =
    if bytes_eq word (codes "bindings") then version_number number else None
version_of words = None

-- gives what only version 2 has
abbrev pub in_two : {X : Type 0} → Version → Option X → Option X
in_two version.One x = None
in_two version.Two x = x

-- COLUMN; COLUMN `fold`; in version 2 also COLUMN COLUMN2, and COLUMN COLUMN2 `fold`
abbrev pub columns_of : Version → List Text → Option ByOf
columns_of v (column ∷ []) = Some (record { column = column; second = None; fold = false })
columns_of v (column ∷ last ∷ []) =
    if bytes_eq last (codes "fold")
    then Some (record { column = column; second = None; fold = true })
    else in_two v (Some (record { column = column; second = Some last; fold = false }))
columns_of v (column ∷ second ∷ last ∷ []) =
    in_two v (if bytes_eq last (codes "fold")
    then Some (record { column = column; second = Some second; fold = true }) else None)
columns_of v words = None

-- nothing, or `by` and columns
abbrev pub by_of : Version → List Text → Option (Option ByOf)
by_of v [] = Some None
by_of v (word ∷ words) =
    if bytes_eq word (codes "by") then option_map (λ by. Some by) (columns_of v words) else None

-- NAME TABLE, and by which columns
abbrev pub loader_of : Version → List Text → Option StatementOf
loader_of v (name ∷ table ∷ words) = option_map (λ by. loader_line name table by) (by_of v words)
loader_of v words = None

-- the words behind this one, where it is the first
abbrev pub behind : Text → List Text → Option (List Text)
behind word [] = None
behind word (first ∷ words) = if bytes_eq first word then Some words else None

-- PART is `arg NAME` or `column NAME`; with the words behind it
abbrev pub part_of : List Text → Option (PartOf × List Text)
part_of (word ∷ name ∷ words) =
    if bytes_eq word (codes "arg") then Some (argument_part name, words)
    else (if bytes_eq word (codes "column") then Some (column_part name, words) else None)
part_of words = None

-- a part as a key of its own
abbrev pub lone_part : PartOf → KeyOf
lone_part (argument_part name) = from_argument name
lone_part (column_part name) = from_column name

abbrev pub pair_with : PartOf → PartOf × List Text → KeyOf × List Text
pair_with one p = (from_pair one p.0, p.1)

-- a part, or two where words stand behind `and`
abbrev pub joined_with : PartOf → List Text → Option (List Text) → Option (KeyOf × List Text)
joined_with one words None = Some (lone_part one, words)
joined_with one words (Some more) = option_map (pair_with one) (part_of more)

-- in version 2 the word `and` behind a part joins it to another
abbrev pub joined_of : Version → PartOf → List Text → Option (KeyOf × List Text)
joined_of version.One one words = Some (lone_part one, words)
joined_of version.Two one words = joined_with one words (behind (codes "and") words)

abbrev pub after_part : Version → PartOf × List Text → Option (KeyOf × List Text)
after_part v p = joined_of v p.0 p.1

abbrev pub key_from : Version → List Text → Option (List Text) → Option (KeyOf × List Text)
key_from v words None = option_and_then (after_part v) (part_of words)
key_from v words (Some rest) = Some (from_all, rest)

-- KEY is `all`, or PART, or in version 2 PART `and` PART; with the words behind it
abbrev pub key_of : Version → List Text → Option (KeyOf × List Text)
key_of v words = key_from v words (behind (codes "all") words)

-- KEY and nothing behind it
abbrev pub alone : KeyOf × List Text → Option KeyOf
alone (key, []) = Some key
alone (key, word ∷ words) = None

abbrev pub lone_key : Version → List Text → Option KeyOf
lone_key v words = option_and_then alone (key_of v words)

-- up to two times LOADER COLUMN
abbrev pub more_steps : List Text → Option (List StepOf)
more_steps [] = Some []
more_steps (loader ∷ column ∷ []) = Some ((loader, column) ∷ [])
more_steps (loader ∷ column ∷ last ∷ its_column ∷ []) =
    Some ((loader, column) ∷ (last, its_column) ∷ [])
more_steps words = None

-- gives what may stand after the first LOADER COLUMN: in version 1 nothing
abbrev pub further_of : Version → List Text → Option (List StepOf)
further_of version.One [] = Some []
further_of version.One (word ∷ words) = None
further_of version.Two words = more_steps words

-- LOADER COLUMN, and in version 2 up to two more of these
abbrev pub steps_of : Version → List Text → Option (List StepOf)
steps_of v (loader ∷ column ∷ words) =
    option_map (λ further. (loader, column) ∷ further) (further_of v words)
steps_of v words = None

abbrev pub with_steps : Version → Text → KeyOf × List Text → Option FormOf
with_steps v loader (key, words) = option_map (λ steps. to_via loader key steps) (steps_of v words)

-- KEY, and the loaders after the first with their columns
abbrev pub via_of : Version → Text → List Text → Option FormOf
via_of v loader words = option_and_then (with_steps v loader) (key_of v words)

-- `arg NAME`
abbrev pub each_of : Text → List Text → Option FormOf
each_of loader (word ∷ name ∷ []) =
    if bytes_eq word (codes "arg") then Some (to_each loader name) else None
each_of loader words = None

-- gives what stands behind `one`, `many`, `each` and `via`: LOADER first
abbrev pub loaded_of : Version → Text → Text → List Text → Option FormOf
loaded_of v kind loader words =
    if bytes_eq kind (codes "one") then option_map (λ key. to_one loader key) (lone_key v words)
    else (if bytes_eq kind (codes "many")
    then option_map (λ key. to_many loader key) (lone_key v words)
    else (if bytes_eq kind (codes "each") then each_of loader words
    else (if bytes_eq kind (codes "via") then via_of v loader words else None)))

-- `column COLUMN`
abbrev pub column_of : Text → List Text → Option FormOf
column_of column [] = Some (to_column column)
column_of column words = None

-- `column COLUMN`, `one LOADER KEY`, `many LOADER KEY`, `each LOADER arg NAME`, `via LOADER KEY LOADER2 COLUMN ..`
abbrev pub form_of : Version → List Text → Option FormOf
form_of v (kind ∷ first ∷ words) =
    if bytes_eq kind (codes "column") then column_of first words else loaded_of v kind first words
form_of v words = None

-- T.F is cut at its first dot
abbrev pub field_of : Version → List Text → Option StatementOf
field_of v [] = None
field_of v (word ∷ words) = option_and_then (λ names.
    option_map (λ form. field_line names.0 names.1 form) (form_of v words)) (cut_at 46 word)

-- the statement that these words are in a text of this version, if they are one
abbrev pub statement_of : Version → List Text → Option StatementOf
statement_of v [] = None
statement_of v (word ∷ words) =
    if bytes_eq word (codes "loader") then loader_of v words
    else (if bytes_eq word (codes "field") then field_of v words else None)
