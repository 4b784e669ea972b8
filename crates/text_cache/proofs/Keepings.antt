-- What is kept, and what one text more changes.
use Rattle.std.proofs.Common.{◌≡◌, ◌≢◌, ◌∙◌, refl, sym, ap, ℕ, ◌+◌, ◌<◌, ◌≤◌, Bool, true, false, cond, List, [], ◌∷◌, map, length, Option, Some, None, Result, Ok, Err, OnOk, OnErr, is_some, MatchOption, bytes_eq, string_bytes, arith}
use Rattle.std.specs.List.Sorted.{IsPermutation}
use Rattle.std.specs.Map.{keys_of, lookup}
use Rattle.std.specs.declared.string.String.{String}
use Rattle.std.specs.declared.alloc.Global.{Global}
use Rattle.std.specs.declared.alloc.AllocError.{AllocError}
use Rattle.std.proofs.lemmas.List.{length-map}
use Rattle.std.proofs.lemmas.List.Sorted.{IsPermutation-map, length_permutation, sum_by_pushed}
use Rattle.std.proofs.lemmas.Slice.Eq.{bytes_eq-Decides}
use Rattle.text_cache.specs.declared.cache.CacheLimits.{CacheLimits}
use Rattle.text_cache.specs.TextCaches.{bytes_of, HasRoom}
use Rattle.text_cache.specs.Keeping.{entries_of, IsKeeping, MakesRoom, fits, emptied, Adds}

-- a text is found among the texts as it is in the map
pub lookup-entries : {V : Type 0} (q : List ℕ) (held : List (String Global × V)) → lookup (bytes_eq q) (entries_of held) ≡ lookup (λ (k : String Global). bytes_eq q (string_bytes k)) held
lookup-entries q [] = refl
lookup-entries {V} q (e ∷ es) = ap (λ (o : Option V). cond (bytes_eq q (string_bytes e.0)) (Some e.1) o) (lookup-entries q es)

-- the texts are the bytes of the keys
keys-entries : {V : Type 0} (held : List (String Global × V)) → keys_of (entries_of held) ≡ map string_bytes (keys_of held)
keys-entries [] = refl
keys-entries (e ∷ es) = ap (λ (ts : List (List ℕ)). string_bytes e.0 ∷ ts) (keys-entries es)

length-entries : {V : Type 0} (held : List (String Global × V)) → length (entries_of held) ≡ length held
length-entries {V} held = length-map held (λ (e : String Global × V). (string_bytes e.0, e.1))

length-texts : {V : Type 0} (entries : List (List ℕ × V)) → length (keys_of entries) ≡ length entries
length-texts {V} entries = length-map entries (λ (e : List ℕ × V). e.0)

module _ {V : Type 0} (old new : List (String Global × V)) (bytes : ℕ) (text : String Global) (value : V) where
  -- what the map's `insert` says of each text
  abbrev pub IsUpdated : Type 0
  IsUpdated = (q : List ℕ) → lookup (λ (k : String Global). bytes_eq q (string_bytes k)) new
      ≡ cond (bytes_eq (string_bytes text) q) (Some value) (lookup (λ (k : String Global). bytes_eq q (string_bytes k)) old)

  found-entries : IsUpdated → (q : List ℕ) → lookup (bytes_eq q) (entries_of new) ≡ cond (bytes_eq (string_bytes text) q) (Some value) (lookup (bytes_eq q) (entries_of old))
  found-entries h q = lookup-entries q new ∙ h q ∙ ap (λ (o : Option V). cond (bytes_eq (string_bytes text) q) (Some value) o) (sym (lookup-entries q old))

  -- a new text
  pub adds-new : (was : Option V) (Q : V → Type 0) (more : ℕ) → is_some was ≡ false → more ≡ length (string_bytes text) → IsUpdated → MatchOption was (IsPermutation ((text, value) ∷ old) new) Q
      → Adds (entries_of old) bytes (string_bytes text) value (entries_of new) (bytes + more)
  adds-new (Some v) Q more was len h all = cc
  adds-new None Q more was len h all =
      let entries : IsPermutation (entries_of ((text, value) ∷ old)) (entries_of new) = IsPermutation-map (λ (e : String Global × V). (string_bytes e.0, e.1)) ((text, value) ∷ old) new all in
      let texts : IsPermutation (keys_of (entries_of ((text, value) ∷ old))) (keys_of (entries_of new)) = IsPermutation-map (λ (e : List ℕ × V). e.0) (entries_of ((text, value) ∷ old)) (entries_of new) entries in
      let total : bytes_of (keys_of (entries_of new)) ≡ length (string_bytes text) + bytes_of (keys_of (entries_of old))
      = sum_by_pushed length (string_bytes text) (keys_of (entries_of old)) (keys_of (entries_of new)) texts in
      let many : length (entries_of new) ≡ length (entries_of ((text, value) ∷ old)) = length_permutation (entries_of ((text, value) ∷ old)) (entries_of new) entries in
      record {
        found = found-entries h;
        few = omega (arith, many);
        short = omega (arith, len);
        count = λ same. omega (arith, total, same, len);
      }

  -- another value for a text that is kept
  pub adds-again : IsUpdated → keys_of new ≡ keys_of old → Adds (entries_of old) bytes (string_bytes text) value (entries_of new) bytes
  adds-again h same =
      let texts : keys_of (entries_of new) ≡ keys_of (entries_of old) = keys-entries new ∙ ap (λ (ks : List (String Global)). map string_bytes ks) same ∙ sym (keys-entries old) in
      record {
        found = found-entries h;
        few = omega (arith, ap (λ (ts : List (List ℕ)). length ts) texts, length-texts (entries_of new), length-texts (entries_of old));
        short = omega arith;
        count = λ is. ap bytes_of texts ∙ is;
      }

-- where one text more fits, room leaves all
pub room-stays : {V : Type 0} (limits : CacheLimits) (old new : List (String Global × V)) (bytes after : ℕ) (text : List ℕ) → IsKeeping limits (entries_of old) bytes → HasRoom limits (keys_of (entries_of old)) text
    → MakesRoom limits old bytes (length text) new after → new ≡ old
room-stays limits old new bytes after text keeping room (fits few short same e) = same
room-stays limits old new bytes after text keeping room (emptied full none e) =
    let few : length old < limits.texts = omega (arith, room.one, length-texts (entries_of old), length-entries old) in
    let short : bytes + length text ≤ limits.bytes = omega (arith, room.bytes, keeping.count) in
    absurd (full (few, short))

-- the others are found as before
others-found : {V : Type 0} (old new : List (List ℕ × V)) (text : List ℕ) (value : V) (bytes after : ℕ) → Adds old bytes text value new after
    → (other : List ℕ) → other ≢ text → lookup (bytes_eq other) new ≡ lookup (bytes_eq other) old
others-found {V} old new text value bytes after added other apart = added.found other ∙ ap (λ (b : Bool). cond b (Some value) (lookup (bytes_eq other) old)) (unequal (bytes_eq text other) refl)
  where
    unequal : (b : Bool) → bytes_eq text other ≡ b → b ≡ false
    unequal true e = absurd (apart (sym ((bytes_eq-Decides text other).0 e)))
    unequal false e = refl

-- where one text more fits, the others are found as before, whether it is added or memory runs out
pub others-stay : {V : Type 0} (between new : List (String Global × V)) (key : String Global) (text : List ℕ) (value : V) (bytes after : ℕ) (r : Result (Unit {0}) AllocError) → string_bytes key ≡ text
    → OnOk r (Adds (entries_of between) bytes (string_bytes key) value (entries_of new) after) → OnErr r ((new ≡ between) × (after ≡ bytes))
    → (other : List ℕ) → other ≢ text → lookup (bytes_eq other) (entries_of new) ≡ lookup (bytes_eq other) (entries_of between)
others-stay between new key text value bytes after (Ok x) is added failed other apart = others-found (entries_of between) (entries_of new) (string_bytes key) value bytes after added other (λ same. apart (same ∙ is))
others-stay {V} between new key text value bytes after (Err e) is added failed other apart = ap (λ (es : List (String Global × V)). lookup (bytes_eq other) (entries_of es)) failed.0
