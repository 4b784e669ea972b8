-- The value of a string token (section 2.9.4, "String Value", of the GraphQL specification of October 2021).
use Rattle.std.specs.Prelude.{ℕ, ◌-◌, List, [], length, slice_range}
use Rattle.gq_lexer.specs.declared.token.TokenKind.{TokenKind}
use Rattle.gq_lexer.specs.declared.token.TokenKind.TheVariants as kind
use Rattle.gq_lexer.specs.Unescape.{unescaped}
use Rattle.gq_lexer.specs.Block.{raw_of, block_value}

-- without as many bytes at the front and at the end
abbrev pub between : ℕ → List ℕ → List ℕ
between n bytes = slice_range bytes n (length bytes - n)

-- The value of the token of this kind and with these bytes, quotes included. Other kinds have none.
unfoldable pub string_of : TokenKind → List ℕ → List ℕ
string_of kind.Str bytes = unescaped 0 (between 1 bytes)
string_of kind.BlockStr bytes = block_value (raw_of (between 3 bytes))
string_of kind.Name bytes = []
string_of kind.Int bytes = []
string_of kind.Float bytes = []
string_of (kind.Punct p) bytes = []

-- the kinds of string tokens
abbrev pub IsString : TokenKind → Type 0
IsString kind.Str = Unit {0}
IsString kind.BlockStr = Unit {0}
IsString kind.Name = ⊥
IsString kind.Int = ⊥
IsString kind.Float = ⊥
IsString (kind.Punct p) = ⊥
