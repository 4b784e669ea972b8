-- Each token stands in its text, between characters: its first and its last byte are ASCII.
use Rattle.std.proofs.Common.{◌≡◌, ℕ, ◌+◌, ◌-◌, ◌<◌, ◌≤◌, Bool, true, List, [], ◌∷◌, ◌++◌, ◌||◌, eqb, length, get_or, drop, IsUtf8, All, slice_range, refl, sym, ap, subst, ◌∙◌, arith, inl, inr, append_assoc}
use Rattle.std.specs.List.{list_all, concat}
use Rattle.std.specs.Str.{IsCharBoundary}
use Rattle.std.proofs.iter.FirstChar.{beside_ascii}
use Rattle.std.proofs.lemmas.Bool.{and_parts}
use Rattle.std.proofs.lemmas.Bool.Decides.{nat_tests}
use Rattle.std.proofs.lemmas.List.{take_at, drop_at, drop-drop, get_or-drop, get_or_append_left, length-append, length-drop}
use Rattle.std.proofs.lemmas.List.Elements.{All-nil, All-cons, All-append}
use Rattle.std.proofs.Math.Seq.{get_or-append_seam}
use Rattle.gq_lexer.specs.declared.token.TokenKind.{TokenKind}
use Rattle.gq_lexer.specs.declared.token.TokenKind.TheVariants as kind
use Rattle.gq_lexer.specs.declared.token.Punct.{Punct}
use Rattle.gq_lexer.specs.declared.token.Punct.TheVariants as punct
use Rattle.gq_lexer.specs.declared.token.Token.{Token}
use Rattle.gq_lexer.specs.declared.scan.ScannedKind.{ScannedKind}
use Rattle.gq_lexer.specs.declared.scan.ScannedKind.TheVariants as shape
use Rattle.gq_lexer.specs.declared.quoted.Quotes.{Quotes}
use Rattle.gq_lexer.specs.declared.quoted.Quotes.TheVariants as quotes
use Rattle.gq_lexer.specs.Characters.{is_digit, is_name_start, is_name_continue}
use Rattle.gq_lexer.specs.Grammar.{IsPart, IsName, IsUnsigned, IsInt, IsDigits, IsFraction, IsSigned, IsExponent, IsFloat, IsQuoted, spelling, quotes_of}
use Rattle.gq_lexer.specs.Tokens.{Part, Reads, tokens_from, token_of, AreTokens, IsToken}
use Rattle.std.proofs.Common.{Option, Some, None}
use Rattle.gq_lexer.specs.declared.fault.LexFault.{LexFault}
use Rattle.gq_lexer.specs.Faults.{AreTokensBefore, IsLexed}
use Rattle.gq_lexer.proofs.Numbers.{OrNone}

abbrev Ascii : List ℕ → Type 0
Ascii bs = All (λ b. b < 128) bs

-- says what begins and ends with a byte of ASCII
pub record Edges (bs : List ℕ) : Type 0 where
  pub some : 0 < length bs
  pub first : get_or bs 0 0 < 128
  pub last : get_or bs (length bs - 1) 0 < 128

edges_ascii : (bs : List ℕ) → 0 < length bs → Ascii bs → Edges bs
edges_ascii bs some all = record { some = some; first = all 0 0 some; last = all (length bs - 1) 0 (omega arith) }

run_ascii : (p : ℕ → Bool) → ((b : ℕ) → p b ≡ true → b < 128) → (bs : List ℕ) → list_all p bs ≡ true → Ascii bs
run_ascii p small [] all = All-nil (λ b. b < 128)
run_ascii p small (b ∷ bs) all =
    let parts = and_parts (p b) (list_all p bs) all in
    All-cons (λ c. c < 128) b bs (small b parts.0) (run_ascii p small bs parts.1)

one_ascii : (b : ℕ) (bs : List ℕ) → b < 128 → Ascii bs → Ascii (b ∷ bs)
one_ascii b bs small all = All-cons (λ c. c < 128) b bs small all

both_ascii : (bs cs : List ℕ) → Ascii bs → Ascii cs → Ascii (bs ++ cs)
both_ascii bs cs b c = All-append (λ c. c < 128) bs cs b c

digit_small : (b : ℕ) → is_digit b ≡ true → b < 128
digit_small b h = grind (arith, nat_tests)

name_small : (b : ℕ) → is_name_continue b ≡ true → b < 128
name_small b h = grind (arith, nat_tests)

start_small : (b : ℕ) → is_name_start b ≡ true → b < 128
start_small b h = grind (arith, nat_tests)

sign_small : (b : ℕ) → (eqb b 43 || eqb b 45) ≡ true → b < 128
sign_small b h = grind (arith, nat_tests)

letter_small : (b : ℕ) → (eqb b 101 || eqb b 69) ≡ true → b < 128
letter_small b h = grind (arith, nat_tests)

unsigned_ascii : (bs : List ℕ) → IsUnsigned bs → Ascii bs
unsigned_ascii [] h = absurd h
unsigned_ascii (b ∷ bs) h = one_ascii b bs (digit_small b h.0) (run_ascii is_digit digit_small bs h.1)

int_ascii : (bs : List ℕ) → IsInt bs → Ascii bs
int_ascii bs (inl h) = unsigned_ascii bs h
int_ascii bs (inr (ds, is, h)) = subst Ascii (sym is) (one_ascii 45 ds (omega arith) (unsigned_ascii ds h))

int_some : (bs : List ℕ) → IsInt bs → 0 < length bs
int_some [] (inl h) = absurd h
int_some [] (inr h) = absurd (omega (arith, ap length h.1))
int_some (b ∷ bs) h = omega arith

digits_ascii : (bs : List ℕ) → IsDigits bs → Ascii bs
digits_ascii [] h = absurd h
digits_ascii (b ∷ bs) h = run_ascii is_digit digit_small (b ∷ bs) h

fraction_ascii : (bs : List ℕ) → OrNone IsFraction bs → Ascii bs
fraction_ascii bs (inl none) = subst Ascii (sym none) (All-nil (λ b. b < 128))
fraction_ascii [] (inr h) = absurd h
fraction_ascii (b ∷ bs) (inr h) = one_ascii b bs (omega (arith, h.0)) (digits_ascii bs h.1)

signed_ascii : (bs : List ℕ) → IsSigned bs → Ascii bs
signed_ascii [] h = absurd h
signed_ascii (b ∷ bs) h = one_ascii b bs (sign_small b h.0) (digits_ascii bs h.1)

exponent_ascii : (bs : List ℕ) → OrNone IsExponent bs → Ascii bs
exponent_ascii bs (inl none) = subst Ascii (sym none) (All-nil (λ b. b < 128))
exponent_ascii [] (inr h) = absurd h
exponent_ascii (b ∷ bs) (inr (h, inl ds)) = one_ascii b bs (letter_small b h) (digits_ascii bs ds)
exponent_ascii (b ∷ bs) (inr (h, inr ds)) = one_ascii b bs (letter_small b h) (signed_ascii bs ds)

float_edges : (bs : List ℕ) → IsFloat bs → Edges bs
float_edges bs h =
    let all = both_ascii h.int (h.fraction ++ h.exponent) (int_ascii h.int h.is_int) (both_ascii h.fraction h.exponent (fraction_ascii h.fraction h.is_fraction) (exponent_ascii h.exponent h.is_exponent)) in
    let some : 0 < length bs = omega (arith, ap length h.whole, length-append h.int (h.fraction ++ h.exponent), int_some h.int h.is_int) in
    edges_ascii bs some (subst Ascii (sym h.whole) all)

name_edges : (bs : List ℕ) → IsName bs → Edges bs
name_edges [] h = absurd h
name_edges (b ∷ bs) h = edges_ascii (b ∷ bs) (omega arith) (one_ascii b bs (start_small b h.0) (run_ascii is_name_continue name_small bs h.1))

punct_edges : (p : Punct) → Edges (spelling p)
punct_edges punct.Bang = record { some = omega arith; first = omega arith; last = omega arith }
punct_edges punct.Dollar = record { some = omega arith; first = omega arith; last = omega arith }
punct_edges punct.Amp = record { some = omega arith; first = omega arith; last = omega arith }
punct_edges punct.ParenLeft = record { some = omega arith; first = omega arith; last = omega arith }
punct_edges punct.ParenRight = record { some = omega arith; first = omega arith; last = omega arith }
punct_edges punct.Spread = record { some = omega arith; first = omega arith; last = omega arith }
punct_edges punct.Colon = record { some = omega arith; first = omega arith; last = omega arith }
punct_edges punct.Equals = record { some = omega arith; first = omega arith; last = omega arith }
punct_edges punct.At = record { some = omega arith; first = omega arith; last = omega arith }
punct_edges punct.BracketLeft = record { some = omega arith; first = omega arith; last = omega arith }
punct_edges punct.BracketRight = record { some = omega arith; first = omega arith; last = omega arith }
punct_edges punct.BraceLeft = record { some = omega arith; first = omega arith; last = omega arith }
punct_edges punct.Pipe = record { some = omega arith; first = omega arith; last = omega arith }
punct_edges punct.BraceRight = record { some = omega arith; first = omega arith; last = omega arith }

-- the bytes of a string: quotes, a body and quotes
pub record IsBetween (q : Quotes) (bs : List ℕ) : Type 0 where
  pub body : List ℕ
  pub whole : bs ≡ quotes_of q ++ (body ++ quotes_of q)
  pub len : length bs ≡ length (quotes_of q) + length body + length (quotes_of q)

abbrev pub quoted_between : (q : Quotes) (bs rest : List ℕ) → IsQuoted q bs rest → IsBetween q bs
quoted_between q bs rest h =
    let body = concat h.pieces in
    record { body = body; whole = h.whole; len = omega (arith, ap length h.whole, length-append (quotes_of q) (body ++ quotes_of q), length-append body (quotes_of q)) }

quoted_edges : (q : Quotes) (bs rest : List ℕ) → IsQuoted q bs rest → Edges bs
quoted_edges q bs rest h = go q (quoted_between q bs rest h)
  where
    go : (q : Quotes) → IsBetween q bs → Edges bs
    go quotes.Single b =
        let front : List ℕ = 34 ∷ b.body in
        let last : get_or bs (length bs - 1) 0 ≡ 34 = let n : length bs - 1 ≡ length front = omega (arith, b.len) in rw (n, b.whole) (get_or-append_seam front 34 [] 0) in
        let first : get_or bs 0 0 ≡ 34 = rw b.whole refl in
        record { some = omega (arith, b.len); first = omega (arith, first); last = omega (arith, last) }
    go quotes.Triple b =
        let front : List ℕ = 34 ∷ 34 ∷ 34 ∷ (b.body ++ 34 ∷ 34 ∷ []) in
        let joined : bs ≡ front ++ 34 ∷ [] = b.whole ∙ ap (λ (x : List ℕ). 34 ∷ 34 ∷ 34 ∷ x) (sym (append_assoc b.body (34 ∷ 34 ∷ []) (34 ∷ []))) in
        let last : get_or bs (length bs - 1) 0 ≡ 34 = let n : length bs - 1 ≡ length front = omega (arith, b.len, length-append b.body (34 ∷ 34 ∷ [])) in rw (n, joined) (get_or-append_seam front 34 [] 0) in
        let first : get_or bs 0 0 ≡ 34 = rw b.whole refl in
        record { some = omega (arith, b.len); first = omega (arith, first); last = omega (arith, last) }

token_edges : (k : TokenKind) (bs rest : List ℕ) → IsPart (shape.Token k) bs rest → Edges bs
token_edges (kind.Punct p) bs rest h = subst Edges (sym h) (punct_edges p)
token_edges kind.Name bs rest h = name_edges bs h.0
token_edges kind.Int bs rest h = edges_ascii bs (int_some bs h.0) (int_ascii bs h.0)
token_edges kind.Float bs rest h = float_edges bs h.0
token_edges kind.Str bs rest h = quoted_edges quotes.Single bs rest h.0
token_edges kind.BlockStr bs rest h = quoted_edges quotes.Triple bs rest h

-- a byte of a part of the text
byte_at : (text bs after : List ℕ) (start i : ℕ) → drop start text ≡ bs ++ after → i < length bs → get_or text (start + i) 0 ≡ get_or bs i 0
byte_at text bs after start i e within = sym (get_or-drop start text i 0) ∙ ap (λ (x : List ℕ). get_or x i 0) e ∙ get_or_append_left bs after 0 i within

one_token : (text bs after : List ℕ) (start line column : ℕ) (k : TokenKind) → IsUtf8 text → start ≤ length text → drop start text ≡ bs ++ after → IsPart (shape.Token k) bs after
    → IsToken text (record { kind = k; start = start; end = start + length bs; line = line; column = column })
one_token text bs after start line column k utf8 begins e part =
    let n = length bs in
    let edges = token_edges k bs after part in
    let some = edges.some in
    let within : start + n ≤ length text = omega (arith, ap length e, length-append bs after, length-drop start text) in
    let first : get_or text start 0 < 128 = let at : start + 0 ≡ start = omega arith in omega (arith, ap (λ (i : ℕ). get_or text i 0) at, byte_at text bs after start 0 e some, edges.first) in
    let last : get_or text (start + (n - 1)) 0 < 128 = omega (arith, byte_at text bs after start (n - 1) e (omega arith), edges.last) in
    let behind : start + (n - 1) + 1 ≡ start + n = omega arith in
    let span : start + n - start ≡ n = omega arith in
    let bytes : slice_range text start (start + n) ≡ bs = rw (span, e) (take_at bs after n refl) in
    let rest : drop (start + n) text ≡ after = sym (drop-drop n start text) ∙ ap (drop n) e ∙ drop_at bs after n refl in
    record {
      order = omega arith;
      within = within;
      starts = (beside_ascii text start utf8 (omega arith) first).0;
      ends = subst (IsCharBoundary text) behind (beside_ascii text (start + (n - 1)) utf8 (omega arith) last).1;
      part = subst (λ (x : List ℕ). IsPart (shape.Token k) x (drop (start + n) text)) (sym bytes) (subst (λ (x : List ℕ). IsPart (shape.Token k) bs x) (sym rest) part);
    }

inside_from : (text end : List ℕ) → IsUtf8 text → (ps : List Part) (start : ℕ) → start ≤ length text → Reads ps (drop start text) end → All (IsToken text) (tokens_from text start ps)
inside_from text end utf8 [] start begins h = All-nil (IsToken text)
inside_from text end utf8 (p ∷ ps) start begins h =
    let n = length p.bytes in
    let within : start + n ≤ length text = omega (arith, ap length h.1, length-append p.bytes h.0, length-drop start text) in
    let rest : h.0 ≡ drop (start + n) text = sym (sym (drop-drop n start text) ∙ ap (drop n) h.1 ∙ drop_at p.bytes h.0 n refl) in
    All-append (IsToken text) (token_of p.shape text start (start + n)) (tokens_from text (start + n) ps) (one p.shape h.2)
    (inside_from text end utf8 ps (start + n) within (subst (λ (t : List ℕ). Reads ps t end) rest h.3))
  where
    one : (s : ScannedKind) → IsPart s p.bytes h.0 → All (IsToken text) (token_of s text start (start + length p.bytes))
    one (shape.Token k) part = All-cons (IsToken text) _ [] (one_token text p.bytes h.0 start _ _ k utf8 begins h.1 part) (All-nil (IsToken text))
    one shape.Space part = All-nil (IsToken text)
    one shape.LineEnd part = All-nil (IsToken text)
    one shape.ByteOrderMark part = All-nil (IsToken text)
    one shape.Comment part = All-nil (IsToken text)

-- the tokens of a text stand in it
pub tokens_inside : (text : List ℕ) (tokens : List Token) → IsUtf8 text → AreTokens text tokens → All (IsToken text) tokens
tokens_inside text tokens utf8 h = subst (All (IsToken text)) (sym h.tokens_are) (inside_from text [] utf8 h.parts 0 (omega arith) h.whole)

-- and so do those before a fault
pub before_inside : (text : List ℕ) (tokens : List Token) (f : LexFault) → IsUtf8 text → AreTokensBefore text tokens f → All (IsToken text) tokens
before_inside text tokens f utf8 h = subst (All (IsToken text)) (sym h.tokens_are) (inside_from text h.stops.rest utf8 h.stops.parts 0 (omega arith) h.stops.front)

pub lexed_inside : (text : List ℕ) (tokens : List Token) (f : Option LexFault) → IsUtf8 text → IsLexed text tokens f → All (IsToken text) tokens
lexed_inside text tokens None utf8 h = tokens_inside text tokens utf8 h
lexed_inside text tokens (Some f) utf8 h = before_inside text tokens f utf8 h
