-- Definitions of texts with their values, within limits.
use Rattle.std.specs.Prelude.{◌≡◌, ◌≢◌, ◌⊎◌, ◌≤◌, ◌<◌, ◌+◌, ℕ, List, [], Option, Some, None, length, bytes_eq}
use Rattle.std.specs.List.{sum_by}
use Rattle.std.specs.Map.{keys_of, lookup}
use Rattle.text_cache.specs.declared.cache.CacheLimits.{CacheLimits}

-- texts with their values, and how many are kept at most
pub record TextCacheOf (V : Type 0) : Type 0 where
  pub entries : List (List ℕ × V)
  pub limits : CacheLimits

-- gives the value of a text
abbrev pub find : {V : Type 0} → TextCacheOf V → List ℕ → Option V
find cache text = lookup (bytes_eq text) cache.entries

-- the texts that are kept
abbrev pub texts_of : {V : Type 0} → TextCacheOf V → List (List ℕ)
texts_of cache = keys_of cache.entries

-- how many bytes texts have together
abbrev pub bytes_of : List (List ℕ) → ℕ
bytes_of texts = sum_by length texts

-- texts are within the limits
pub record AreBounded (limits : CacheLimits) (texts : List (List ℕ)) : Type 0 where
  pub few : length texts ≤ limits.texts
  pub short : bytes_of texts ≤ limits.bytes

-- one text more fits
pub record HasRoom (limits : CacheLimits) (texts : List (List ℕ)) (text : List ℕ) : Type 0 where
  pub one : length texts < limits.texts
  pub bytes : bytes_of texts + length text ≤ limits.bytes

-- a text fits where no other is kept
abbrev pub FitsAlone : CacheLimits → List ℕ → Type 0
FitsAlone limits text = HasRoom limits [] text

-- what is kept has these limits, and is within them
pub record IsBounded {V : Type 0} (limits : CacheLimits) (cache : TextCacheOf V) : Type 0 where
  pub same_limits : cache.limits ≡ limits
  pub texts : AreBounded limits (texts_of cache)

-- each other text is found as before
abbrev pub OthersStay : {V : Type 0} → TextCacheOf V → TextCacheOf V → List ℕ → Type 0
OthersStay old new text = (other : List ℕ) → other ≢ text → find new other ≡ find old other

-- what is found under a text is what was found, or nothing, or this value if it is this text
abbrev pub FindsNoOther : {V : Type 0} → TextCacheOf V → TextCacheOf V → List ℕ → V → Type 0
FindsNoOther old new text value = (any : List ℕ) → (find new any ≡ find old any)
    ⊎ ((find new any ≡ None) ⊎ ((any ≡ text) × (find new any ≡ Some value)))

-- nothing has changed, or all is let go
abbrev pub IsAsBeforeOrEmpty : {V : Type 0} → TextCacheOf V → TextCacheOf V → Type 0
IsAsBeforeOrEmpty old new = (new ≡ old) ⊎ (new.entries ≡ [])
