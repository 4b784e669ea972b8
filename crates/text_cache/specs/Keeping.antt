-- How texts with their values stand in a hash map, and how one more changes them.
use Rattle.std.specs.Prelude.{◌≡◌, ◌≤◌, ◌<◌, ◌+◌, ℕ, List, [], Some, if◌then◌else◌, length, map, bytes_eq, string_bytes}
use Rattle.std.specs.Map.{keys_of, lookup}
use Rattle.std.specs.declared.string.String.{String}
use Rattle.std.specs.declared.alloc.Global.{Global}
use Rattle.text_cache.specs.declared.cache.CacheLimits.{CacheLimits}
use Rattle.text_cache.specs.TextCaches.{bytes_of, AreBounded}

-- the texts with their values
abbrev pub entries_of : {V : Type 0} → List (String Global × V) → List (List ℕ × V)
entries_of held = map (λ e. (string_bytes e.0, e.1)) held

-- the texts are within the limits, and have `bytes` bytes together
pub record IsKeeping {V : Type 0} (limits : CacheLimits)
    (entries : List (List ℕ × V)) (bytes : ℕ) : Type 0 where
  pub count : bytes_of (keys_of entries) ≡ bytes
  pub bounded : AreBounded limits (keys_of entries)

-- All is let go, or nothing where one more text of `more` bytes fits.
pub data MakesRoom {A : Type 0} (limits : CacheLimits) (old : List A) (bytes more : ℕ)
    (new : List A) (after : ℕ) : Type 0 where
  fits : length old < limits.texts → bytes + more ≤ limits.bytes
      → new ≡ old → after ≡ bytes → MakesRoom limits old bytes more new after
  emptied : ¬ ((length old < limits.texts) × (bytes + more ≤ limits.bytes))
      → new ≡ [] → after ≡ 0 → MakesRoom limits old bytes more new after

-- A text has this value, and all others have what they had. The bytes that are counted are still those of all texts.
pub record Adds {V : Type 0} (old : List (List ℕ × V)) (bytes : ℕ) (text : List ℕ) (value : V)
    (new : List (List ℕ × V)) (after : ℕ) : Type 0 where
  pub found : (q : List ℕ) → lookup (bytes_eq q) new
      ≡ (if bytes_eq text q then Some value else lookup (bytes_eq q) old)
  pub few : length new ≤ length old + 1
  pub short : after ≤ bytes + length text
  pub count : bytes_of (keys_of old) ≡ bytes → bytes_of (keys_of new) ≡ after
