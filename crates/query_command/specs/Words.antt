-- The parts of a command line.
use Rattle.std.specs.Prelude.{◌≡◌, ◌≢◌, ◌⊎◌, ◌<◌, ◌^◌, ℕ, List, [], ◌∷◌, ◌++◌, Bool, true, false, Option, Some, None, MatchOption, Any, codes, map, option_map, string_bytes, unwrap_or}
use Rattle.std.specs.Global.{Vec}
use Rattle.std.specs.List.{All}
use Rattle.std.specs.Option.{SomeIff}
use Rattle.std.specs.Str.Parse.{IsNumeral, digits_value, without_leading_plus}
use Rattle.clap.specs.Words.{Row, Kinds, IsAmong, all_of, first_of, one_of, fault_of, matches_of}
use Rattle.clap.specs.declared.error.kind.ErrorKind.{ErrorKind}
use Rattle.clap.specs.declared.error.kind.ErrorKind.TheVariants.{DisplayHelp, DisplayVersion, OutOfMemory}
use Rattle.server_lines.specs.declared.fault.ServeFault.TheVariants as serve
use Rattle.query_command.specs.Command.{command_line}
use Rattle.query_command.specs.declared.run_end.RunEnd.{RunEnd}
use Rattle.query_command.specs.declared.run_end.RunEnd.TheVariants as stop
use Rattle.world_files.specs.declared.files.TableFile.{TableFile}
use Rattle.query_command.specs.declared.command_words.CommandWords.{CommandWords}

abbrev pub equals_sign : ℕ
equals_sign = 61

abbrev pub HasNoEquals : List ℕ → Type 0
HasNoEquals text = All (λ b. b ≢ equals_sign) text

-- the word of a table
abbrev pub joined : TableFile → List ℕ
joined t = string_bytes t.name ++ equals_sign ∷ string_bytes t.file

-- the words name these tables, each cut at its first `=`
pub record AreTables (words : List (List ℕ)) (tables : List TableFile) : Type 0 where
  pub whole : map joined tables ≡ words
  pub first : All (λ t. HasNoEquals (string_bytes t.name)) tables

-- the tables that the words name; none where one has no `=`
abbrev pub NamesTables : List (List ℕ) → Option (Vec TableFile) → Type 0
NamesTables words found =
    MatchOption found (Any HasNoEquals words) (λ tables. AreTables words tables.items)

-- the text of a number in decimal, where there is one that fits
abbrev pub IsNumber : Option (List ℕ) → Option ℕ → Type 0
IsNumber None n = n ≡ None
IsNumber (Some text) n = SomeIff n (IsNumeral 10 (without_leading_plus text)
    × (digits_value 10 (without_leading_plus text) < 2 ^ 32))
    (digits_value 10 (without_leading_plus text))

-- tells whether `clap` has set a flag
abbrev pub IsFlag : Option (List ℕ) → Bool → Type 0
IsFlag None b = b ≡ false
IsFlag (Some text) b = (text ≡ codes "true" → b ≡ true) × (text ≡ codes "false" → b ≡ false)

-- the text of an argument, empty where it has none
abbrev pub text_at : List Row → List ℕ → List ℕ
text_at rows id = unwrap_or (first_of id rows) []

-- the words of the tables
abbrev pub table_words : List Row → List (List ℕ)
table_words rows = unwrap_or (all_of (codes "NAME=F") rows) []

-- the parts of what `clap` reads
pub record IsWords (rows : List Row) (words : CommandWords) : Type 0 where
  pub schema : string_bytes words.files.schema ≡ text_at rows (codes "schema")
  pub bindings : string_bytes words.files.bindings ≡ text_at rows (codes "bindings")
  pub workers : IsNumber (one_of (codes "workers") rows) words.workers
  pub max_batch : IsNumber (one_of (codes "max-batch") rows) words.files.max_batch
  pub max_answer : IsNumber (one_of (codes "max-answer") rows) words.max_answer
  pub max_work : IsNumber (one_of (codes "max-work") rows) words.max_work
  pub explain : IsFlag (one_of (codes "explain") rows) words.explain
  pub trace : option_map string_bytes words.trace ≡ first_of (codes "trace") rows
  pub requests : string_bytes words.requests ≡ text_at rows (codes "REQUESTS")
  pub tables : AreTables (table_words rows) words.files.tables.items

-- `clap` takes the words, and these are their parts
pub record IsRead (texts : List (List ℕ)) (words : CommandWords) : Type 0 where
  pub taken : fault_of command_line texts ≡ []
  pub parts : IsWords (matches_of command_line texts) words

-- the word of a table has no `=`
pub record IsBadTable (rows : List Row) (text : List ℕ) : Type 0 where
  pub said : text ≡ codes "bad table"
  pub some : Any HasNoEquals (table_words rows)

-- a run ends for words without parts: the word of a table has no `=`, or memory ran out
abbrev pub IsUnread : List Row → RunEnd → Type 0
IsUnread rows stop.Served = ⊥
IsUnread rows (stop.Help text) = ⊥
IsUnread rows (stop.Command text) = IsBadTable rows (string_bytes text)
IsUnread rows (stop.World fault) = ⊥
IsUnread rows (stop.Table fault) = ⊥
IsUnread rows stop.File = ⊥
IsUnread rows (stop.Serve fault) = fault ≡ serve.NoMemory

-- help or the version was asked for
abbrev pub IsShown : ErrorKind → Type 0
IsShown kind = (kind ≡ DisplayHelp) ⊎ (kind ≡ DisplayVersion)

-- says how an error of this kind ends a run
abbrev pub Refuses : ErrorKind → RunEnd → Type 0
Refuses kind stop.Served = ⊥
Refuses kind (stop.Help text) = IsShown kind
Refuses kind (stop.Command text) = ¬ (IsShown kind) × (kind ≢ OutOfMemory)
Refuses kind (stop.World fault) = ⊥
Refuses kind (stop.Table fault) = ⊥
Refuses kind stop.File = ⊥
Refuses kind (stop.Serve fault) = fault ≡ serve.NoMemory

-- `clap` shows help, or refuses the words
abbrev pub IsRefusedWith : Kinds → RunEnd → Type 0
IsRefusedWith kinds stop = (kind : ErrorKind) × IsAmong kind kinds × Refuses kind stop

-- End of a run whose words have no parts: by what `clap` says of them, or, where it takes them, for a table. Of memory this says
-- nothing.
abbrev pub IsRefused : List (List ℕ) → RunEnd → Type 0
IsRefused texts stop.Served = ⊥
IsRefused texts (stop.Help text) = IsRefusedWith (fault_of command_line texts) (stop.Help text)
IsRefused texts (stop.Command text) =
    IsRefusedWith (fault_of command_line texts) (stop.Command text)
    ⊎ ((fault_of command_line texts ≡ [])
    × IsBadTable (matches_of command_line texts) (string_bytes text))
IsRefused texts (stop.World fault) = ⊥
IsRefused texts (stop.Table fault) = ⊥
IsRefused texts stop.File = ⊥
IsRefused texts (stop.Serve fault) = fault ≡ serve.NoMemory
