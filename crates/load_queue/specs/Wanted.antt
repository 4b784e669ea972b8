-- The keys that are wanted of each loader: in order, of equal cache keys only the first.
use Rattle.std.specs.Prelude.{◌≡◌, ◌≤◌, map, length, take, ℕ, zero, suc, Bool, false, List, [], ◌∷◌, ◌++◌, if◌then◌else◌}
use Rattle.std.specs.List.{list_any}
use Rattle.load_memory.specs.Keys.{KeyOf, cache_of, folded, same_key}
use Rattle.load_memory.specs.declared.key.KeyMode.{KeyMode}
use Rattle.load_memory.specs.declared.key.KeyMode.TheVariants.{Exact}
use Rattle.load_queue.specs.declared.wants.SeenKeys.{SeenKeys}

-- says what is wanted of one loader, whose keys are compared by its mode
pub record WantedOf : Type 0 where
  pub mode : KeyMode
  pub keys : List KeyOf

abbrev pub nothing_wanted : KeyMode → WantedOf
nothing_wanted mode = record { mode = mode; keys = [] }

-- of the first keys, as many as were counted, the cache keys were seen, and no others
pub record HaveSeen (mode : KeyMode) (seen : SeenKeys) (keys : List KeyOf) : Type 0 where
  pub within : seen.count ≤ length keys
  pub same : (key : KeyOf) → list_any (same_key key) (map cache_of seen.cache_keys.keys)
      ≡ list_any (same_key key) (map (folded mode) (take seen.count keys))

-- tells whether a key with an equal cache key is wanted
abbrev pub is_wanted : WantedOf → KeyOf → Bool
is_wanted w key = list_any (λ k. same_key (folded w.mode key) (folded w.mode k)) w.keys

abbrev pub with_key : WantedOf → KeyOf → WantedOf
with_key w key = if is_wanted w key then w else record { mode = w.mode; keys = w.keys ++ key ∷ [] }

-- gives what is wanted of loaders of these modes, of which the first have lists; nothing of the others
abbrev pub wanted_in : List WantedOf → List KeyMode → List WantedOf
wanted_in [] modes = map nothing_wanted modes
wanted_in (w ∷ ws) [] = []
wanted_in (w ∷ ws) (m ∷ modes) = w ∷ wanted_in ws modes

-- gives how the loader of a number compares its keys
abbrev pub mode_wanted : List WantedOf → ℕ → KeyMode
mode_wanted [] loader = Exact
mode_wanted (w ∷ ws) zero = w.mode
mode_wanted (w ∷ ws) (suc loader) = mode_wanted ws loader

-- gives the same of all loaders, by the loader's number
abbrev pub keys_wanted : List WantedOf → ℕ → List KeyOf
keys_wanted [] loader = []
keys_wanted (w ∷ ws) zero = w.keys
keys_wanted (w ∷ ws) (suc loader) = keys_wanted ws loader

abbrev pub is_key_wanted : List WantedOf → ℕ → KeyOf → Bool
is_key_wanted [] loader key = false
is_key_wanted (w ∷ ws) zero key = is_wanted w key
is_key_wanted (w ∷ ws) (suc loader) key = is_key_wanted ws loader key

abbrev pub with_wanted : List WantedOf → ℕ → KeyOf → List WantedOf
with_wanted [] loader key = []
with_wanted (w ∷ ws) zero key = with_key w key ∷ ws
with_wanted (w ∷ ws) (suc loader) key = w ∷ with_wanted ws loader key

-- gives what is wanted once the keys of a loader are taken
abbrev pub taken_from : List WantedOf → ℕ → List WantedOf
taken_from [] loader = []
taken_from (w ∷ ws) zero = nothing_wanted w.mode ∷ ws
taken_from (w ∷ ws) (suc loader) = w ∷ taken_from ws loader
