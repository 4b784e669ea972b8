-- What stands at a place of a schema.
use Rattle.std.specs.Prelude.{◌≡◌, ℕ, ◌+◌, ◌<◌, ◌⊎◌, Bool, true, false, ◌||◌, List, [], ◌∷◌, length, get_or, slice_get, slice_range, filter, map, take, Option, codes, bytes_eq}
use Rattle.std.specs.Option.{option_map_or}
use Rattle.std.specs.Str.{IsCharBoundary}
use Rattle.text_place.specs.declared.place.Place.{Place}
use Rattle.gq_lexer.specs.declared.fault.LexFault.{LexFault}
use Rattle.gq_lexer.specs.declared.token.Token.{Token}
use Rattle.gq_lexer.specs.declared.token.TokenKind.{TokenKind}
use Rattle.gq_lexer.specs.declared.token.TokenKind.TheVariants as kind
use Rattle.gq_lexer.specs.Faults.{IsLexed}
use Rattle.gq_lexer.specs.Place.{place_of}
use Rattle.gq_lexer.specs.Tokens.{bytes_of}
use Rattle.fault_sentences.specs.Behind.{behind}

-- ---- tokens and characters

-- the token of this index is this, and stands at the place
pub record IsAt (at : Place) (i : ℕ) (t : Token) (tokens : List Token) : Type 0 where
  pub within : i < length tokens
  pub there : t ≡ get_or tokens i t
  pub line_is : t.line ≡ at.line
  pub column_is : t.column ≡ at.column

-- none of these tokens stands at the place
abbrev pub NoneIsAt : Place → List Token → Type 0
NoneIsAt at tokens = (i : ℕ) (t : Token) → IsAt at i t tokens → ⊥

-- a character of the text begins at this offset, which has this place
pub record BeginsAt (text : List ℕ) (at : Place) (i : ℕ) : Type 0 where
  pub within : i < length text
  pub boundary : IsCharBoundary text i
  pub line_is : (place_of text i).line ≡ at.line
  pub column_is : (place_of text i).column ≡ at.column

-- no character of the text begins at the place, and so no token
abbrev pub NothingIsAt : List ℕ → Place → Type 0
NothingIsAt text at = (i : ℕ) → BeginsAt text at i → ⊥

-- this is the character at a place, up to the next one
pub record IsCharacterAt (text : List ℕ) (at : Place) (word : List ℕ) : Type 0 where
  pub start : ℕ
  pub end : ℕ
  pub begins : BeginsAt text at start
  pub after : start < end
  pub boundary : IsCharBoundary text end
  pub nearest : (i : ℕ) → start < i → i < end → IsCharBoundary text i → ⊥
  pub word_is : word ≡ slice_range text start end

-- ---- around a token

-- what a token by its index is written as; empty where there is none
abbrev pub text_at : List ℕ → List Token → ℕ → List ℕ
text_at text tokens i = option_map_or (bytes_of text) (slice_get tokens i) []

-- the word that begins the definition of a type with fields
abbrev pub is_definition : List ℕ → Token → Bool
is_definition text t =
    bytes_eq (bytes_of text t) (codes "type") || bytes_eq (bytes_of text t) (codes "interface")

abbrev pub is_name : TokenKind → Bool
is_name kind.Name = true
is_name _ = false

-- the names that stand right behind such a word
abbrev pub defined_names : List ℕ → List Token → List (List ℕ)
defined_names text tokens = map (bytes_of text)
    (filter (λ (t : Token). is_name t.kind) (behind (is_definition text) tokens))

-- the last of these names, or else this one
abbrev pub last_of : List ℕ → List (List ℕ) → List ℕ
last_of name [] = name
last_of name (next ∷ names) = last_of next names

-- the last of those that are defined; empty where there is none
abbrev pub last_defined : List ℕ → List Token → List ℕ
last_defined text tokens = last_of [] (defined_names text tokens)

-- ---- what stands there

-- a word at a place, the token behind it, and the type with fields that is defined last before it; empty where there is none
pub record Found : Type 0 where
  pub word : List ℕ
  pub next : List ℕ
  pub of_type : List ℕ

-- the word is a token of the text
pub record IsTokenAt (text : List ℕ) (at : Place) (found : Found) : Type 0 where
  pub tokens : List Token
  pub fault : Option LexFault
  pub lexed : IsLexed text tokens fault
  pub i : ℕ
  pub t : Token
  pub stands : IsAt at i t tokens
  pub word_is : found.word ≡ bytes_of text t
  pub next_is : found.next ≡ text_at text tokens (i + 1)
  pub type_is : found.of_type ≡ last_defined text (take i tokens)

-- the word is a character, and no token of the text stands there
pub record IsCharacterAlone (text : List ℕ) (at : Place) (found : Found) : Type 0 where
  pub tokens : List Token
  pub fault : Option LexFault
  pub lexed : IsLexed text tokens fault
  pub none : NoneIsAt at tokens
  pub character : IsCharacterAt text at found.word
  pub no_next : found.next ≡ []
  pub no_type : found.of_type ≡ []

abbrev pub StandsAt : List ℕ → Place → Found → Type 0
StandsAt text at found = IsTokenAt text at found ⊎ IsCharacterAlone text at found
