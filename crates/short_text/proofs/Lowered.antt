-- A text stays UTF-8 where `A` to `Z` are made small.
use Rattle.std.proofs.Common.{◌≡◌, ℕ, ◌+◌, ◌/◌, ◌<◌, ◌≤◌, Bool, true, false, cond, ltb, ◌⊎◌, inl, inr, List, [], ◌∷◌, ◌++◌, map, IsUtf8, refl, sym, ap, ◌∙◌, arith}
use Rattle.std.proofs.Math.Utf8.{scalar, scalars, encode, encodes, low_scalar, next}
use Rattle.std.proofs.lemmas.Bool.{cases_lt, le-ltb, ltb-true, and_parts, and_from}
use Rattle.std.proofs.lemmas.List.{map-append}
use Rattle.std.proofs.lemmas.Str.{encode_ascii}
use Rattle.std.specs.Char.{to_ascii_lowercase}

low : (b : ℕ) → b < 128 → to_ascii_lowercase b < 128
low b lt = go (ltb b 65) (ltb b 91) refl where
  go : (x y : Bool) → ltb b 91 ≡ y → cond x b (cond y (b + 32) b) < 128
  go true y e = lt
  go false true e = omega (arith, ltb-true b 91 e)
  go false false e = lt

high : (b : ℕ) → 128 ≤ b → to_ascii_lowercase b ≡ b
high b le = rw (le-ltb b 65 (omega arith), le-ltb b 91 (omega arith)) refl

two : {a a' : ℕ} {xs xs' : List ℕ} → a ≡ a' → xs ≡ xs' → a ∷ xs ≡ a' ∷ xs'
two p q i = p i ∷ q i

-- a character above ASCII keeps its bytes, which are all above ASCII
wide : (c : ℕ) → 128 ≤ c → map to_ascii_lowercase (encode c) ≡ encode c
unfolding encode
wide c le = rw (le-ltb c 128 le) (go (ltb c 2048) (ltb c 65536)) where
  one : (n : ℕ) → to_ascii_lowercase (next n) ≡ next n
  one n = high (next n) (omega arith)

  go : (x y : Bool) → map to_ascii_lowercase (cond x ((192 + c / 64) ∷ next c ∷ []) (cond y ((224 + c / 4096) ∷ next (c / 64) ∷ next c ∷ []) ((240 + c / 262144) ∷ next (c / 4096) ∷ next (c / 64) ∷ next c ∷ []))) ≡ cond x ((192 + c / 64) ∷ next c ∷ []) (cond y ((224 + c / 4096) ∷ next (c / 64) ∷ next c ∷ []) ((240 + c / 262144) ∷ next (c / 4096) ∷ next (c / 64) ∷ next c ∷ []))
  go true y = two (high (192 + c / 64) (omega arith)) (two (one c) refl)
  go false true = two (high (224 + c / 4096) (omega arith)) (two (one (c / 64)) (two (one c) refl))
  go false false = two (high (240 + c / 262144) (omega arith)) (two (one (c / 4096)) (two (one (c / 64)) (two (one c) refl)))

letter : (c : ℕ) → map to_ascii_lowercase (encode c) ≡ encode (to_ascii_lowercase c)
letter c = go (cases_lt c 128) where
  go : (c < 128) ⊎ (128 ≤ c) → map to_ascii_lowercase (encode c) ≡ encode (to_ascii_lowercase c)
  go (inl lt) = ap (map to_ascii_lowercase) (encode_ascii c lt) ∙ sym (encode_ascii (to_ascii_lowercase c) (low c lt))
  go (inr le) = wide c le ∙ ap encode (sym (high c le))

still : (c : ℕ) → scalar c ≡ true → scalar (to_ascii_lowercase c) ≡ true
still c is = go (cases_lt c 128) where
  go : (c < 128) ⊎ (128 ≤ c) → scalar (to_ascii_lowercase c) ≡ true
  go (inl lt) = low_scalar (to_ascii_lowercase c) (omega (arith, low c lt))
  go (inr le) = ap scalar (high c le) ∙ is

letters : (cs : List ℕ) → scalars cs ≡ true → (scalars (map to_ascii_lowercase cs) ≡ true) × (encodes (map to_ascii_lowercase cs) ≡ map to_ascii_lowercase (encodes cs))
letters [] are = (refl, refl)
letters (c ∷ cs) are =
    let both = and_parts (scalar c) (scalars cs) are in
    let rest = letters cs both.1 in
    (and_from (scalar (to_ascii_lowercase c)) (scalars (map to_ascii_lowercase cs)) (still c both.0) rest.0, (λ i. sym (letter c) i ++ rest.1 i) ∙ sym (map-append to_ascii_lowercase (encode c) (encodes cs)))

pub IsUtf8-lowered : (bs : List ℕ) → IsUtf8 bs → IsUtf8 (map to_ascii_lowercase bs)
IsUtf8-lowered bs text =
    let on = letters text.0 text.1.0 in
    (map to_ascii_lowercase text.0, (on.0, on.1 ∙ ap (map to_ascii_lowercase) text.1.1))
