-- A JSON string in a text of UTF-8 says UTF-8 that is no longer than the text.
use Rattle.std.proofs.Common.{◌≡◌, ◌<◌, ◌≤◌, ◌+◌, ◌&&◌, ℕ, Bool, true, false, cond, eqb, ltb, List, [], ◌∷◌, ◌++◌, length, drop, get_or, Option, Some, None, IsUtf8, refl, sym, ap, subst, ◌∙◌, arith, append_assoc}
use Rattle.std.specs.Option.{option_and_then}
use Rattle.std.specs.Char.{digit_value, is_digit, encode_utf8, IsScalar}
use Rattle.std.proofs.lemmas.Bool.{cond_both}
use Rattle.std.proofs.lemmas.Bool.Decides.{nat_tests}
use Rattle.std.proofs.lemmas.List.{append-nil, take_at, drop_at, drop-drop, length-append}
use Rattle.std.proofs.lemmas.List.Elements.{All-nil, All-cons}
use Rattle.std.proofs.lemmas.Str.{IsUtf8-append, IsUtf8-take, IsUtf8-drop, IsUtf8-encode, IsUtf8-from_ascii, IsCharBoundary-before_ascii, IsCharBoundary-after_ascii}
use Rattle.std.proofs.lemmas.Str.Ascii.{IsAscii-from_all}
use Rattle.std.proofs.Math.Seq.{get_or-append_seam}
use Rattle.json.specs.Text.{code_unit, short_escape, is_high_surrogate, is_low_surrogate, surrogate_pair, Within, plain, after_backslash, after_u, after_high, prepend, content}

-- ---- a byte of ASCII in a text of UTF-8, and what may stand in its place

module _ (pre : List ℕ) (x : ℕ) (xs : List ℕ) (utf8 : IsUtf8 (pre ++ x ∷ xs)) (small : x < 128) where
  inside : length pre < length (pre ++ x ∷ xs)
  inside = omega (arith, length-append pre (x ∷ xs))

  low : get_or (pre ++ x ∷ xs) (length pre) 0 < 128
  low = let it = get_or-append_seam pre x xs 0 in omega (arith, it, small)

  before-byte : IsUtf8 pre
  before-byte = subst IsUtf8 (take_at pre (x ∷ xs) (length pre) refl) (IsUtf8-take (pre ++ x ∷ xs) (length pre) utf8 (IsCharBoundary-before_ascii (pre ++ x ∷ xs) (length pre) inside low))

  pub after-byte : IsUtf8 xs
  after-byte =
      let e : drop (length pre + 1) (pre ++ x ∷ xs) ≡ xs = sym (drop-drop 1 (length pre) (pre ++ x ∷ xs)) ∙ ap (drop 1) (drop_at pre (x ∷ xs) (length pre) refl) in
      subst IsUtf8 e (IsUtf8-drop (pre ++ x ∷ xs) (length pre + 1) utf8 (IsCharBoundary-after_ascii (pre ++ x ∷ xs) (length pre) utf8 inside low))

  replaced : (cs : List ℕ) → IsUtf8 cs → IsUtf8 ((pre ++ cs) ++ xs)
  replaced cs h = IsUtf8-append (pre ++ cs) xs (IsUtf8-append pre cs before-byte h) after-byte

  skipped : IsUtf8 (pre ++ xs)
  skipped = IsUtf8-append pre xs before-byte after-byte

one-byte : (x : ℕ) → x < 128 → IsUtf8 (x ∷ [])
one-byte x small = IsUtf8-from_ascii (x ∷ []) (IsAscii-from_all (x ∷ []) (All-cons (λ b. b < 128) x [] small (All-nil (λ b. b < 128))))

-- ---- what is read behind some bytes

-- behind these bytes it is UTF-8, and it has at most `n` bytes
abbrev pub Reads : List ℕ → ℕ → Option (List ℕ) → Type 0
Reads pre n None = Unit {0}
Reads pre n (Some s) = IsUtf8 (pre ++ s) × (length s ≤ n)

given : (pre : List ℕ) (n : ℕ) (f : ℕ → Option (List ℕ)) (o : Option ℕ) → ((v : ℕ) → o ≡ Some v → Reads pre n (f v)) → Reads pre n (option_and_then f o)
given pre n f None g = tt
given pre n f (Some v) g = g v refl

moved : (pre more : List ℕ) (n m : ℕ) (o : Option (List ℕ)) → length more + m ≤ n → Reads (pre ++ more) m o → Reads pre n (prepend more o)
moved pre more n m None le h = tt
moved pre more n m (Some s) le h = let short = h.1 in (rw append_assoc at h.0, omega (arith, le, short, length-append more s))

longer : (pre : List ℕ) (n m : ℕ) (o : Option (List ℕ)) → m ≤ n → Reads pre m o → Reads pre n o
longer pre n m None le h = tt
longer pre n m (Some s) le h = let short = h.1 in (h.0, omega (arith, le, short))

-- ---- escapes

escape-small : (x c : ℕ) → short_escape x ≡ Some c → (x < 128) × (c < 128)
unfolding short_escape
escape-small x c e = grind (arith, nat_tests)

hex-small : (x : ℕ) → is_digit x 16 ≡ true → (x < 128) × (digit_value x < 16)
hex-small x h = grind (arith, nat_tests)

all-true : (p q r s : Bool) (n v : ℕ) → cond (p && q && r && s) (Some n) None ≡ Some v → (p ≡ true) × (q ≡ true) × (r ≡ true) × (s ≡ true) × (n ≡ v)
all-true p q r s n v e = grind arith

unit-small : (a b c d v : ℕ) → code_unit a b c d ≡ Some v → (a < 128) × (b < 128) × (c < 128) × (d < 128) × (v < 65536)
unfolding code_unit
unit-small a b c d v e =
    let t = all-true _ _ _ _ _ v e in
    let ha = hex-small a t.0 in
    let hb = hex-small b t.1 in
    let hc = hex-small c t.2 in
    let hd = hex-small d t.3 in
    omega (arith, ha, hb, hc, hd, t.4)

single-scalar : (v : ℕ) → v < 65536 → is_high_surrogate v ≡ false → is_low_surrogate v ≡ false → IsScalar v
single-scalar v below high low' = grind (arith, nat_tests)

pair-scalar : (h l : ℕ) → is_high_surrogate h ≡ true → is_low_surrogate l ≡ true → IsScalar (surrogate_pair h l)
pair-scalar h l high low' = grind (arith, nat_tests)

encoded-short : (v : ℕ) → length (encode_utf8 v) ≤ 4
unfolding encode_utf8
encoded-short v = grind arith

-- ---- the content of a string

abbrev Holds : Within → Type 0
Holds (after_high h) = is_high_surrogate h ≡ true
Holds w = Unit {0}

pub content-reads : (w : Within) (pre xs : List ℕ) → Holds w → IsUtf8 (pre ++ xs) → Reads pre (length xs) (content w xs)
unfolding content
content-reads plain pre (x ∷ xs) holds utf8 =
    cond_both (eqb x 34) _ _ (Reads pre _) (λ q. let small : x < 128 = grind (arith, nat_tests) in (rw append-nil (before-byte pre x xs utf8 small), omega arith))
    (λ _. cond_both (eqb x 92) _ _ (Reads pre _) (λ q. let small : x < 128 = grind (arith, nat_tests) in longer pre _ (length xs) _ (omega arith) (content-reads after_backslash pre xs tt (skipped pre x xs utf8 small)))
    (λ _. cond_both (ltb x 32) _ _ (Reads pre _) (λ _. tt) (λ _. moved pre (x ∷ []) _ (length xs) _ (omega arith) (content-reads plain (pre ++ x ∷ []) xs tt (rw append_assoc utf8)))))
content-reads after_backslash pre (x ∷ xs) holds utf8 =
    cond_both (eqb x 117) _ _ (Reads pre _) (λ q. let small : x < 128 = grind (arith, nat_tests) in longer pre _ (length xs) _ (omega arith) (content-reads after_u pre xs tt (skipped pre x xs utf8 small)))
    (λ _. given pre _ _ (short_escape x) (λ c e. let small = escape-small x c e in moved pre (c ∷ []) _ (length xs) _ (omega arith) (content-reads plain (pre ++ c ∷ []) xs tt (replaced pre x xs utf8 small.0 (c ∷ []) (one-byte c small.1)))))
content-reads after_u pre (a ∷ b ∷ c ∷ d ∷ xs) holds utf8 =
    given pre _ _ (code_unit a b c d) (λ v e.
    let small = unit-small a b c d v e in
    let last = skipped pre c (d ∷ xs) (skipped pre b (c ∷ d ∷ xs) (skipped pre a (b ∷ c ∷ d ∷ xs) utf8 small.0) small.1) small.2 in
    cond_both (is_high_surrogate v) _ _ (Reads pre _) (λ high. longer pre _ (length xs) _ (omega arith) (content-reads (after_high v) pre xs high (skipped pre d xs last small.3)))
    (λ high. cond_both (is_low_surrogate v) _ _ (Reads pre _) (λ _. tt) (λ low'.
    moved pre (encode_utf8 v) _ (length xs) _ (let short = encoded-short v in omega (arith, short)) (content-reads plain (pre ++ encode_utf8 v) xs tt (replaced pre d xs last small.3 (encode_utf8 v) (IsUtf8-encode v (single-scalar v small.4 high low')))))))
content-reads (after_high h) pre (s ∷ u ∷ a ∷ b ∷ c ∷ d ∷ xs) holds utf8 =
    cond_both (eqb s 92 && eqb u 117) _ _ (Reads pre _) (λ q.
    given pre _ _ (code_unit a b c d) (λ v e.
    let small = unit-small a b c d v e in
    let s-small : s < 128 = grind (arith, nat_tests) in
    let u-small : u < 128 = grind (arith, nat_tests) in
    let digits = skipped pre u (a ∷ b ∷ c ∷ d ∷ xs) (skipped pre s (u ∷ a ∷ b ∷ c ∷ d ∷ xs) utf8 s-small) u-small in
    let last = skipped pre c (d ∷ xs) (skipped pre b (c ∷ d ∷ xs) (skipped pre a (b ∷ c ∷ d ∷ xs) digits small.0) small.1) small.2 in
    cond_both (is_low_surrogate v) _ _ (Reads pre _) (λ low'.
    moved pre (encode_utf8 (surrogate_pair h v)) _ (length xs) _ (let short = encoded-short (surrogate_pair h v) in omega (arith, short))
    (content-reads plain (pre ++ encode_utf8 (surrogate_pair h v)) xs tt (replaced pre d xs last small.3 (encode_utf8 (surrogate_pair h v)) (IsUtf8-encode (surrogate_pair h v) (pair-scalar h v holds low')))))
    (λ _. tt))) (λ _. tt)
content-reads w pre xs holds utf8 = tt
