-- String tokens: where their quotes stand, and what their values are.
use Rattle.std.proofs.Common.{◌≡◌, ℕ, ◌-◌, ◌≤◌, Bool, true, false, cond, ◌&&◌, eqb, List, [], ◌∷◌, ◌++◌, length, get_or, take, drop, IsUtf8, refl, sym, ap, subst, ◌∙◌, arith, inl, inr}
use Rattle.std.specs.Prelude.{nat_eq}
use Rattle.std.specs.List.{flat_map, concat, starts_with, AllByRecursion}
use Rattle.std.proofs.lemmas.Bool.{and_parts, cases_Bool, eqb-true, true≢false}
use Rattle.std.specs.Str.{IsCharBoundary}
use Rattle.std.proofs.iter.FirstChar.{beside_ascii}
use Rattle.std.proofs.lemmas.Bool.Decides.{nat_tests}
use Rattle.std.proofs.lemmas.List.{take_at}
use Rattle.std.proofs.Math.Seq.{get_or-append_seam}
use Rattle.gq_lexer.specs.declared.token.TokenKind.{TokenKind}
use Rattle.gq_lexer.specs.declared.token.TokenKind.TheVariants as kind
use Rattle.gq_lexer.specs.declared.scan.ScannedKind.TheVariants as shape
use Rattle.gq_lexer.specs.declared.quoted.Quotes.TheVariants as quotes
use Rattle.gq_lexer.specs.Element.{Element, plain, escape, unit, pair, spelled, unicode, IsElement}
use Rattle.gq_lexer.specs.Grammar.{IsPart, ReadsPieces, IsQuoted, IsBlockPiece, quotes_of}
use Rattle.gq_lexer.specs.Value.{value_of, IsSpelled, HasValue}
use Rattle.gq_lexer.specs.Unescape.{is_plain, unescaped}
use Rattle.gq_lexer.specs.Block.{raw_of, raw_piece, block_value}
use Rattle.gq_lexer.specs.StringOf.{IsString, string_of, between}
use Rattle.gq_lexer.proofs.Runs.{starts_more}
use Rattle.gq_lexer.proofs.PieceLaws.{hex_found}
use Rattle.gq_lexer.proofs.StringLaws.{reads_concat}
use Rattle.gq_lexer.proofs.Inside.{IsBetween, quoted_between}

-- the quotes are cut off between characters, and the body is left
pub record IsCut (n : ℕ) (bs body : List ℕ) : Type 0 where
  pub order : n ≤ length bs - n
  pub opens : IsCharBoundary bs n
  pub closes : IsCharBoundary bs (length bs - n)
  pub body_is : between n bs ≡ body

-- the body stands between the quotes
pub single_body : (bs : List ℕ) → (b : IsBetween quotes.Single bs) → between 1 bs ≡ b.body
single_body bs b =
    let inner : length b.body ≡ length bs - 1 - 1 = omega (arith, b.len) in
    ap (λ (x : List ℕ). take (length bs - 1 - 1) (drop 1 x)) b.whole ∙ take_at b.body (34 ∷ []) (length bs - 1 - 1) inner

pub triple_body : (bs : List ℕ) → (b : IsBetween quotes.Triple bs) → between 3 bs ≡ b.body
triple_body bs b =
    let inner : length b.body ≡ length bs - 3 - 3 = omega (arith, b.len) in
    ap (λ (x : List ℕ). take (length bs - 3 - 3) (drop 3 x)) b.whole ∙ take_at b.body (34 ∷ 34 ∷ 34 ∷ []) (length bs - 3 - 3) inner

pub single_cut : (bs : List ℕ) → IsUtf8 bs → (b : IsBetween quotes.Single bs) → IsCut 1 bs b.body
single_cut bs utf8 b =
    let front : List ℕ = 34 ∷ b.body in
    let n : length bs - 1 ≡ length front = omega (arith, b.len) in
    let first : get_or bs 0 0 ≡ 34 = rw b.whole refl in
    let last : get_or bs (length bs - 1) 0 ≡ 34 = rw (n, b.whole) (get_or-append_seam front 34 [] 0) in
    record {
      order = omega (arith, b.len);
      opens = (beside_ascii bs 0 utf8 (omega (arith, b.len)) (omega (arith, first))).1;
      closes = (beside_ascii bs (length bs - 1) utf8 (omega (arith, b.len)) (omega (arith, last))).0;
      body_is = single_body bs b;
    }

pub triple_cut : (bs : List ℕ) → IsUtf8 bs → (b : IsBetween quotes.Triple bs) → IsCut 3 bs b.body
triple_cut bs utf8 b =
    let front : List ℕ = 34 ∷ 34 ∷ 34 ∷ b.body in
    let n : length bs - 3 ≡ length front = omega (arith, b.len) in
    let third : get_or bs 2 0 ≡ 34 = rw b.whole refl in
    let last : get_or bs (length bs - 3) 0 ≡ 34 = rw (n, b.whole) (get_or-append_seam front 34 (34 ∷ 34 ∷ []) 0) in
    record {
      order = omega (arith, b.len);
      opens = (beside_ascii bs 2 utf8 (omega (arith, b.len)) (omega (arith, third))).1;
      closes = (beside_ascii bs (length bs - 3) utf8 (omega (arith, b.len)) (omega (arith, last))).0;
      body_is = triple_body bs b;
    }

-- ---- the kinds of a string token

str_kind : (k : TokenKind) → IsString k → (k ≡ kind.BlockStr → ⊥) → k ≡ kind.Str
str_kind kind.Str string other = refl
str_kind kind.BlockStr string other = absurd (other refl)
str_kind kind.Name string other = absurd string
str_kind kind.Int string other = absurd string
str_kind kind.Float string other = absurd string
str_kind (kind.Punct p) string other = absurd string

pub str_part : (k : TokenKind) (bs rest : List ℕ) → IsString k → (k ≡ kind.BlockStr → ⊥) → IsPart (shape.Token k) bs rest → IsQuoted quotes.Single bs rest
str_part k bs rest string other part = (subst (λ (j : TokenKind). IsPart (shape.Token j) bs rest) (str_kind k string other) part).0

pub block_part : (k : TokenKind) (bs rest : List ℕ) → k ≡ kind.BlockStr → IsPart (shape.Token k) bs rest → IsQuoted quotes.Triple bs rest
block_part k bs rest e part = subst (λ (j : TokenKind). IsPart (shape.Token j) bs rest) e part

-- ---- what stands between the quotes of a string

pieces_spelled : (pieces : List (List ℕ)) (text tail : List ℕ) → ReadsPieces quotes.Single pieces text tail → IsSpelled (concat pieces)
pieces_spelled [] text tail h = record { elements = []; are = tt; spelled_so = refl }
pieces_spelled (bs ∷ pieces) text tail h =
    let more = pieces_spelled pieces h.0 tail h.3 in
    record { elements = h.2.0 ∷ more.elements; are = (h.2.2, more.are); spelled_so = λ i. h.2.1 i ++ more.spelled_so i }

pub quoted_spelled : (bs rest : List ℕ) → IsUtf8 bs → IsQuoted quotes.Single bs rest → IsSpelled (between 1 bs)
quoted_spelled bs rest utf8 h = subst IsSpelled (sym (single_cut bs utf8 (quoted_between quotes.Single bs rest h)).body_is) (pieces_spelled h.pieces _ _ h.inside)

-- one element
one_value : (e : Element) (rest : List ℕ) → IsElement e → unescaped 0 (spelled e ++ rest) ≡ value_of e ++ unescaped 0 rest
unfolding unescaped
one_value (plain b) rest h = let itself : is_plain b ≡ true = grind (arith, nat_tests) in rw itself refl
one_value (escape c) rest h = rw h refl
one_value (unit h) rest (hex, high, low) = rw (hex_found h rest hex, high) refl
one_value (pair h l) rest (hex, lex, high, low) = rw (hex_found h (unicode l ++ rest) hex, high, hex_found l rest lex, low) refl

all_values : (es : List Element) → AllByRecursion IsElement es → unescaped 0 (flat_map spelled es) ≡ flat_map value_of es
unfolding unescaped
all_values [] are = refl
all_values (e ∷ es) are = one_value e (flat_map spelled es) are.0 ∙ ap (λ (x : List ℕ). value_of e ++ x) (all_values es are.1)

-- the value by elements is the one that is found from the left
pub value_found : (bytes value : List ℕ) → HasValue bytes value → value ≡ unescaped 0 bytes
value_found bytes value h = h.value_is ∙ sym (all_values h.elements h.are) ∙ ap (unescaped 0) (sym h.spelled_so)

-- ---- `string_of` of each kind

pub string_of_str : (k : TokenKind) (bs value body : List ℕ) → IsString k → (k ≡ kind.BlockStr → ⊥) → body ≡ between 1 bs → HasValue body value → value ≡ string_of k bs
unfolding string_of
string_of_str k bs value body string other e h = rw (str_kind k string other) (value_found body value h ∙ ap (unescaped 0) e)

pub string_of_block : (k : TokenKind) (bs value body : List ℕ) → k ≡ kind.BlockStr → body ≡ between 3 bs → value ≡ block_value (raw_of body) → value ≡ string_of k bs
unfolding string_of
string_of_block k bs value body is e h = rw is (h ∙ ap (λ (x : List ℕ). block_value (raw_of x)) e)

-- ---- the same by pieces

pub str_value : (bs rest value : List ℕ) (h : IsQuoted quotes.Single bs rest) → HasValue (concat h.pieces) value → string_of kind.Str bs ≡ value
unfolding string_of
str_value bs rest value h v = sym (value_found (concat h.pieces) value v ∙ ap (unescaped 0) (sym (single_body bs (quoted_between quotes.Single bs rest h))))

pub str_has_value : (bs rest : List ℕ) (h : IsQuoted quotes.Single bs rest) → HasValue (concat h.pieces) (string_of kind.Str bs)
unfolding string_of
str_has_value bs rest h =
    let spelled = pieces_spelled h.pieces (concat h.pieces ++ (quotes_of quotes.Single ++ rest)) (quotes_of quotes.Single ++ rest) h.inside in
    record {
      elements = spelled.elements;
      are = spelled.are;
      spelled_so = spelled.spelled_so;
      value_is = ap (unescaped 0) (single_body bs (quoted_between quotes.Single bs rest h) ∙ spelled.spelled_so) ∙ all_values spelled.elements spelled.are;
    }

pieces_raw : (pieces : List (List ℕ)) (text tail : List ℕ) → ReadsPieces quotes.Triple pieces text tail → raw_of (concat pieces) ≡ flat_map raw_piece pieces
unfolding raw_of
pieces_raw [] text tail h = refl
pieces_raw (bs ∷ pieces) text tail (after, parts, piece, rest) = one piece (pieces_raw pieces after tail rest) (reads_concat quotes.Triple pieces after tail rest)
  where
    one : IsBlockPiece bs after → raw_of (concat pieces) ≡ flat_map raw_piece pieces → after ≡ concat pieces ++ tail → raw_of (bs ++ concat pieces) ≡ raw_piece bs ++ flat_map raw_piece pieces
    one (inl is) more e = rw is (ap (λ (x : List ℕ). 34 ∷ 34 ∷ 34 ∷ x) more)
    one (inr (b, is, source, no_close, no_escape)) more e = rw is (byte (eqb b 92 && starts_with nat_eq (concat pieces) (34 ∷ 34 ∷ 34 ∷ [])) refl ∙ rw alone (ap (λ (x : List ℕ). b ∷ x) more))
      where
        alone : starts_with nat_eq (b ∷ []) (92 ∷ 34 ∷ 34 ∷ 34 ∷ []) ≡ false
        alone = elim (cases_Bool (eqb 92 b)) [ inl same ↦ rw same refl | inr other ↦ rw other refl ]

        byte : (escape : Bool) → escape ≡ (eqb b 92 && starts_with nat_eq (concat pieces) (34 ∷ 34 ∷ 34 ∷ [])) → cond escape (raw_of (concat pieces)) (b ∷ raw_of (concat pieces)) ≡ b ∷ raw_of (concat pieces)
        byte false h = refl
        byte true h =
            let both = and_parts (eqb b 92) (starts_with nat_eq (concat pieces) (34 ∷ 34 ∷ 34 ∷ [])) (sym h) in
            let backslash : b ≡ 92 = eqb-true b 92 both.0 in
            let quotes : starts_with nat_eq after (34 ∷ 34 ∷ 34 ∷ []) ≡ true = rw e (starts_more (34 ∷ 34 ∷ 34 ∷ []) (concat pieces) tail both.1) in
            let first : starts_with nat_eq (b ∷ after) (92 ∷ 34 ∷ 34 ∷ 34 ∷ []) ≡ true = rw (backslash, quotes) refl in
            absurd (true≢false (sym first ∙ no_escape))

pub block_by_pieces : (bs rest : List ℕ) (h : IsQuoted quotes.Triple bs rest) → string_of kind.BlockStr bs ≡ block_value (flat_map raw_piece h.pieces)
unfolding string_of
block_by_pieces bs rest h =
    ap block_value (ap raw_of (triple_body bs (quoted_between quotes.Triple bs rest h)) ∙ pieces_raw h.pieces (concat h.pieces ++ (quotes_of quotes.Triple ++ rest)) (quotes_of quotes.Triple ++ rest) h.inside)
