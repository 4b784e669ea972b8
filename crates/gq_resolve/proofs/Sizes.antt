-- The text of an answer has at least the bytes that are counted of it.
use Rattle.std.proofs.Common.{◌≡◌, ◌≤◌, ◌+◌, ◌/◌, ◌%◌, ◌==◌, ℕ, suc, zero, Bool, true, false, cond, List, [], ◌∷◌, ◌++◌, length, subst, arith, length-append, codes, decimal, if◌then◌else◌, nat_lt}
use Rattle.std.specs.Char.{digit_char}
use Rattle.std.specs.Fmt.{digits_onto, digit_glyph}
use Rattle.std.proofs.DigitsParse.{digits_onto-nil}
use Rattle.json.specs.Token.{Token, begin_object, end_object, begin_array, end_array, key, string, number, boolean, null, bad}
use Rattle.json.specs.Word.{after_number}
use Rattle.json.specs.Print.{escape_letter, escape_byte, escape, quoted, IsNumber, IsPrintable, token_text, ends, separator, print_from}
use Rattle.json.specs.Json.{Members, member, no_members, array}
use Rattle.answer_json.specs.Answer.{places_json, path_json, error_json, errors_json}
use Rattle.json.specs.Tree.{json_tokens, items_tokens, members_tokens}
use Rattle.execution.specs.Program.{Part, Key, Item}
use Rattle.execution.specs.Completion.{ErrorOf, AnsweredOf}
use Rattle.gq_resolve.specs.Answered.{json_of, errors_before, answered_json, answer_text}
use Rattle.gq_resolve.specs.Texted.{error_size}

-- ---- texts of tokens

-- the bytes of tokens, without commas
abbrev bytes_of : List Token → ℕ
bytes_of [] = 0
bytes_of (t ∷ ts) = length (token_text t) + bytes_of ts

bytes-append : (ts us : List Token) → bytes_of (ts ++ us) ≡ bytes_of ts + bytes_of us
bytes-append [] us = omega arith
bytes-append (t ∷ ts) us = omega (arith, bytes-append ts us)

printed : (c : Bool) (ts : List Token) → bytes_of ts ≤ length (print_from c ts)
unfolding print_from
printed c [] = omega arith
printed c (t ∷ ts) = omega (arith, length-append (separator c t) (token_text t ++ print_from (ends t) ts), length-append (token_text t) (print_from (ends t) ts), printed (ends t) ts)

some-byte : (a b : Bool) (xs ys zs : List ℕ) → 1 ≤ length xs → 1 ≤ length ys → 1 ≤ length zs → 1 ≤ length (cond a xs (cond b ys zs))
some-byte true b xs ys zs x y z = x
some-byte false true xs ys zs x y z = y
some-byte false false xs ys zs x y z = z

byte-escaped : (x : ℕ) → 1 ≤ length (escape_byte x)
unfolding escape_byte
byte-escaped x =
    some-byte (nat_lt 0 (escape_letter x)) (nat_lt x 32) (92 ∷ escape_letter x ∷ []) (92 ∷ 117 ∷ 48 ∷ 48 ∷ digit_char (x / 16) ∷ digit_char (x % 16) ∷ []) (x ∷ []) (omega arith) (omega arith) (omega arith)

escaped : (s : List ℕ) → length s ≤ length (escape s)
escaped [] = omega arith
escaped (x ∷ xs) = omega (arith, length-append (escape_byte x) (escape xs), byte-escaped x, escaped xs)

pub in-quotes : (s : List ℕ) → suc (length s) ≤ length (quoted s)
in-quotes s = omega (arith, length-append (escape s) (34 ∷ []), escaped s)

number-takes-some : (s : List ℕ) → IsNumber s → 1 ≤ length s
unfolding after_number
number-takes-some [] p = absurd (cc p)
number-takes-some (b ∷ bs) p = omega arith

-- a token that can be written takes a byte
pub takes-some : (t : Token) → IsPrintable t → 1 ≤ length (token_text t)
takes-some begin_object p = omega arith
takes-some end_object p = omega arith
takes-some begin_array p = omega arith
takes-some end_array p = omega arith
takes-some (key s) p = omega (arith, in-quotes s, length-append (quoted s) (58 ∷ []))
takes-some (string s) p = omega (arith, in-quotes s)
takes-some (number s) p = number-takes-some s p
takes-some (boolean true) p = omega arith
takes-some (boolean false) p = omega arith
takes-some null p = omega arith
takes-some bad p = absurd p

-- ---- numbers

digits-grow : (k base : ℕ) (upper : Bool) (n : ℕ) (acc : List ℕ) → length acc ≤ length (digits_onto k base upper n acc)
digits-grow zero base upper n acc = omega arith
digits-grow (suc k) base upper n acc = go (n / base == 0) (digits-grow k base upper (n / base) (digit_glyph upper (n % base) ∷ acc))
  where
    go : (b : Bool) → suc (length acc) ≤ length (digits_onto k base upper (n / base) (digit_glyph upper (n % base) ∷ acc)) → length acc ≤ length (if b then digit_glyph upper (n % base) ∷ acc else digits_onto k base upper (n / base) (digit_glyph upper (n % base) ∷ acc))
    go true more = omega arith
    go false more = omega (arith, more)

some-digits : (k base : ℕ) (upper : Bool) (n : ℕ) → 1 ≤ length (digits_onto (suc k) base upper n [])
some-digits k base upper n = go (n / base == 0)
  where
    go : (b : Bool) → 1 ≤ length (if b then digit_glyph upper (n % base) ∷ [] else digits_onto k base upper (n / base) (digit_glyph upper (n % base) ∷ []))
    go true = omega arith
    go false = omega (arith, digits-grow k base upper (n / base) (digit_glyph upper (n % base) ∷ []))

some-decimal : (n : ℕ) → 1 ≤ length (decimal n)
some-decimal n = subst (λ (ds : List ℕ). 1 ≤ length ds) (digits_onto-nil 10 false n) (some-digits 63 10 false n)

-- ---- errors

abbrev pub errors_size : List ErrorOf → ℕ
errors_size [] = 0
errors_size (e ∷ es) = error_size e + errors_size es

path-sure : (path : List Part) → length path ≤ bytes_of (items_tokens (path_json path))
path-sure [] = omega arith
path-sure (Key k ∷ ps) = omega (arith, in-quotes k, path-sure ps)
path-sure (Item n ∷ ps) = omega (arith, some-decimal n, path-sure ps)

error-sure : (e : ErrorOf) → error_size e ≤ bytes_of (json_tokens (error_json e))
error-sure e = omega (arith, in-quotes e.message, path-sure e.path, bytes-append (items_tokens (path_json e.path)) (members_tokens no_members), bytes-append (json_tokens (places_json e.place)) (members_tokens (member (codes "path") (array (path_json e.path)) no_members)))

errors-sure : (es : List ErrorOf) → errors_size es ≤ bytes_of (items_tokens (errors_json es))
errors-sure [] = omega arith
errors-sure (e ∷ es) = omega (arith, error-sure e, bytes-append (json_tokens (error_json e)) (items_tokens (errors_json es)), errors-sure es)

-- ---- answers

members-sure : (es : List ErrorOf) (others : Members) → errors_size es ≤ bytes_of (members_tokens (errors_before es others))
members-sure [] others = omega arith
members-sure (e ∷ es) others = omega (arith, errors-sure (e ∷ es), bytes-append (items_tokens (errors_json (e ∷ es))) (members_tokens others))

-- of the errors so many bytes are sure
pub answer-sure : (a : AnsweredOf) → errors_size a.errors ≤ length (answer_text a)
answer-sure a = omega (arith, printed false (json_tokens (answered_json a)), members-sure a.errors (member (codes "data") (json_of a.response) no_members))
