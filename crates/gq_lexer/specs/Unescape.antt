-- Definitions of how the value of a string is found from left to right. What it is says Value, which doesn't name this.
use Rattle.std.specs.Prelude.{ℕ, zero, suc, Bool, ◌==◌, not, List, [], ◌∷◌, ◌++◌, drop, Option, Some, None, if◌then◌else◌}
use Rattle.std.specs.Char.{encode_utf8}
use Rattle.gq_lexer.specs.Characters.{is_escaped, is_high_surrogate, is_low_surrogate}
use Rattle.gq_lexer.specs.Element.{Element, plain, escape, unit, pair, unit_of}
use Rattle.gq_lexer.specs.Pieces.{code_unit}
use Rattle.gq_lexer.specs.declared.unescape.EscapeValue.{EscapeValue}
use Rattle.gq_lexer.specs.Value.{escaped_char, pair_char}

-- a byte that begins no escape
abbrev pub is_plain : ℕ → Bool
is_plain b = not (b == 92)

-- gives how the character of an escape is found, and the escape's length without its backslash
abbrev pub low_value : ℕ → Option ℕ → Option EscapeValue
low_value high None = None
low_value high (Some low) =
    if is_low_surrogate low then Some (record { code = pair_char high low; len = 11 }) else None

abbrev pub unit_value : Option ℕ → List ℕ → Option EscapeValue
unit_value None digits = None
unit_value (Some u) digits = if is_high_surrogate u then low_value u (code_unit (drop 6 digits))
    else Some (record { code = u; len = 5 })

abbrev pub escape_value : List ℕ → Option EscapeValue
escape_value [] = None
escape_value (c ∷ cs) = if is_escaped c then Some (record { code = escaped_char c; len = 1 })
    else unit_value (code_unit cs) cs

-- the character that an escape stands for
abbrev pub char_of : Element → ℕ
char_of (plain b) = b
char_of (escape c) = escaped_char c
char_of (unit h) = unit_of h
char_of (pair high low) = pair_char (unit_of high) (unit_of low)

-- gives what an escape leads to, where `go` goes on behind its backslash and skips some bytes
abbrev pub on_escape : Option EscapeValue → (ℕ → List ℕ) → List ℕ
on_escape None go = []
on_escape (Some e) go = encode_utf8 e.code ++ go e.len

-- The bytes with each escape replaced by its character, where `skip` bytes more belong to the escape that was read last.
unfoldable pub unescaped : ℕ → List ℕ → List ℕ
unescaped skip [] = []
unescaped (suc skip) (b ∷ bs) = unescaped skip bs
unescaped zero (b ∷ bs) =
    if is_plain b then b ∷ unescaped 0 bs else on_escape (escape_value bs) (λ n. unescaped n bs)
