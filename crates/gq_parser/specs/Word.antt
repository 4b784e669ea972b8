-- Definitions of what the grammar speaks of: words, and tokens, which are words with their places.
use Rattle.std.specs.Prelude.{◌≡◌, ℕ, List, [], ◌∷◌, map, Option, Some, None}
use Rattle.text_place.specs.declared.place.Place.{Place}
use Rattle.gq_lexer.specs.declared.token.Punct as lexer
use Rattle.gq_lexer.specs.declared.token.TokenKind as lexer-kind
use Rattle.gq_lexer.specs.declared.token.TokenKind.TheVariants as kind
use Rattle.gq_lexer.specs.declared.token.Token as lexer-token
use Rattle.gq_lexer.specs.Tokens.{bytes_of}
use Rattle.gq_lexer.specs.StringOf.{string_of}
use Rattle.gq_parser.specs.declared.keyword.Keyword.{Keyword}
pub use Rattle.gq_parser.specs.Keywords.{keyword_of, IsFragmentName, IsEnumName}

-- A punctuator, a name with what it is where a word is wanted, a number with its text, or a string with its value.
pub data Word : Type 0 where
  Punct : lexer.Punct → Word
  Name : Keyword → List ℕ → Word
  Int : List ℕ → Word
  Float : List ℕ → Word
  Text : List ℕ → Word

pub data Token : Type 0 where
  at : Place → Word → Token

-- ---- the tokens of a text

-- gives what a token of this kind and with these bytes says
abbrev pub word : lexer-kind.TokenKind → List ℕ → Word
word (kind.Punct p) bytes = Punct p
word kind.Name bytes = Name (keyword_of bytes) bytes
word kind.Int bytes = Int bytes
word kind.Float bytes = Float bytes
word kind.Str bytes = Text (string_of kind.Str bytes)
word kind.BlockStr bytes = Text (string_of kind.BlockStr bytes)

abbrev pub token_of : List ℕ → lexer-token.Token → Token
token_of text t = at (record { line = t.line; column = t.column }) (word t.kind (bytes_of text t))

abbrev pub tokens_of : List ℕ → List lexer-token.Token → List Token
tokens_of text tokens = map (token_of text) tokens

-- a name is what its bytes say
abbrev pub IsSpelled : Token → Type 0
IsSpelled (at p (Name k n)) = keyword_of n ≡ k
IsSpelled (at p _) = Unit {0}

abbrev pub AreSpelled : List Token → Type 0
AreSpelled [] = Unit {0}
AreSpelled (t ∷ ts) = IsSpelled t × AreSpelled ts

-- the place of the first of these tokens
abbrev pub place_of_next : List Token → Option Place
place_of_next [] = None
place_of_next (at p w ∷ ts) = Some p
