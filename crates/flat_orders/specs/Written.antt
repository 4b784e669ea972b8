-- Definitions of how lists of keys are written into flat buffers, and what such buffers say.
use Rattle.std.specs.Prelude.{ℕ, ◌≡◌, List, [], ◌∷◌, map, take, drop, length}
use Rattle.std.specs.List.{flat_map, sum_by}
use Rattle.load_memory.specs.Keys.{KeyOf, all, text, pair}

-- ---- what buffers say

-- the key of these texts: none asks for everything, and two are a pair
abbrev pub key_said : List (List ℕ) → KeyOf
key_said [] = all
key_said (t ∷ []) = text t
key_said (s ∷ t ∷ more) = pair s t

-- a key for each number of texts, in order
unfoldable pub keys_said : List ℕ → List (List ℕ) → List KeyOf
keys_said [] texts = []
keys_said (n ∷ ns) texts = key_said (take n texts) ∷ keys_said ns (drop n texts)

-- a list for each number of keys, in order
unfoldable pub lists_of : List ℕ → List KeyOf → List (List KeyOf)
lists_of [] keys = []
lists_of (n ∷ ns) keys = take n keys ∷ lists_of ns (drop n keys)

-- the lists of keys that these numbers and texts say: how many keys each list has, how many texts each key has, and the texts
abbrev pub lists_said : List ℕ → List ℕ → List (List ℕ) → List (List KeyOf)
lists_said counts shapes texts = lists_of counts (keys_said shapes texts)

-- ---- how they are written

abbrev pub texts_in : KeyOf → List (List ℕ)
texts_in all = []
texts_in (text t) = t ∷ []
texts_in (pair s t) = s ∷ t ∷ []

abbrev pub shape_of : KeyOf → ℕ
shape_of key = length (texts_in key)

-- the keys of all lists, and their texts
abbrev pub keys_in : List (List KeyOf) → List KeyOf
keys_in lists = flat_map (λ keys. keys) lists

abbrev pub all_texts : List (List KeyOf) → List (List ℕ)
all_texts lists = flat_map texts_in (keys_in lists)

-- the bytes of texts
abbrev pub size_of : List (List ℕ) → ℕ
size_of texts = sum_by length texts

-- buffers are of just the size that the lists take: for the numbers of keys, the numbers of texts, the ends and the bytes
abbrev pub AreOfSize : List (List KeyOf) → List ℕ → List ℕ → List ℕ → List ℕ → Type 0
AreOfSize lists counts shapes ends bytes = (length counts ≡ length lists)
    × (length shapes ≡ length (keys_in lists))
    × (length ends ≡ length (all_texts lists)) × (length bytes ≡ size_of (all_texts lists))

-- these buffers are the lists, written
pub record AreWritten (lists : List (List KeyOf)) (counts shapes : List ℕ)
    (texts : List (List ℕ)) : Type 0 where
  pub counts_are : counts ≡ map length lists
  pub shapes_are : shapes ≡ map shape_of (keys_in lists)
  pub texts_are : texts ≡ all_texts lists
