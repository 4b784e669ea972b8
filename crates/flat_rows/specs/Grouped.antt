-- How rows are sorted to keys: each goes to the place of the first key that the loader takes for its own. No public clause names these.
use Rattle.std.specs.Prelude.{ℕ, suc, ◌≡◌, ◌==◌, ◌<◌, ◌≤◌, ◌+◌, Bool, false, List, [], ◌∷◌, Option, Some, None, map, filter, length, get_or, position, bytes_eq, is_none, option_map, if◌then◌else◌}
use Rattle.std.specs.HashMap.{HashMap}
use Rattle.std.specs.Map.{lookup}
use Rattle.std.specs.declared.hash.FoldHasher.{FoldHasher}
use Rattle.std.specs.declared.hash.BuildHasherDefault.{BuildHasherDefault}
use Rattle.load_memory.specs.Keys.{KeyOf, all, text, pair, cache_of, folded, same_key}
use Rattle.load_memory.specs.Rows.{RowOf, SheetOf, row_at}
use Rattle.load_memory.specs.declared.key.CacheKey.{CacheKey}
use Rattle.load_memory.specs.declared.key.KeyMode.{KeyMode}
use Rattle.flat_rows.specs.Keyed.{ByOf, key_in}
use Rattle.flat_rows.specs.declared.fault.FlatFault.TheVariants as flat
use Rattle.flat_rows.specs.declared.keyed.KeyPlaces.{KeyPlaces}
use Rattle.flat_rows.specs.declared.keyed.KeyPlaces.TheVariants as places
use Rattle.flat_rows.specs.declared.keyed.KeyedFault.{KeyedFault}
use Rattle.flat_rows.specs.declared.keyed.KeyedFault.TheVariants as fault

-- ---- the columns of a key, by their places

abbrev pub IsPlaceOf : List (List ℕ) → List ℕ → ℕ → Type 0
IsPlaceOf names name i = position (λ n. bytes_eq n name) names ≡ Some i

abbrev pub HasPlaces : List (List ℕ) → KeyOf → KeyPlaces → Type 0
HasPlaces names all places.All = Unit {0}
HasPlaces names (text one) (places.One i) = IsPlaceOf names one i
HasPlaces names (pair one two) (places.Two i j) = IsPlaceOf names one i × IsPlaceOf names two j
HasPlaces names columns found = ⊥

abbrev pub AreWithin : KeyPlaces → ℕ → Type 0
AreWithin places.All width = Unit {0}
AreWithin (places.One i) width = i < width
AreWithin (places.Two i j) width = (i < width) × (j < width)

-- the key that fields have at these places
abbrev pub fields_key : KeyPlaces → List (List ℕ) → KeyOf
fields_key places.All fields = all
fields_key (places.One i) fields = text (get_or fields i [])
fields_key (places.Two i j) fields = pair (get_or fields i []) (get_or fields j [])

-- at these places each row has its key
pub record FindsKeys (s : SheetOf) (columns : KeyOf) (found : KeyPlaces) : Type 0 where
  pub within : AreWithin found (length s.names)
  pub keys_are : (i : ℕ) → i < length s.rows
      → fields_key found (get_or s.rows i []) ≡ key_in columns (row_at s i)

-- ---- the places of keys

abbrev pub FirstPlacesOf : Type 0
FirstPlacesOf = HashMap CacheKey ℕ (BuildHasherDefault FoldHasher)

-- the place that is noted for a key, as its mode compares it
abbrev pub place_in : FirstPlacesOf → KeyOf → Option ℕ
place_in m key = lookup (λ x. same_key key (cache_of x)) m.entries

-- with one key more, at a place: where none was noted, it is that of the key, if it is this one
abbrev pub noted : Option ℕ → Bool → ℕ → Option ℕ
noted (Some p) same place = Some p
noted None same place = if same then Some place else None

-- the place of the first of the keys that is this one
abbrev pub first_place : KeyMode → List KeyOf → KeyOf → Option ℕ
first_place mode [] cached = None
first_place mode (k ∷ ks) cached = if same_key cached (folded mode k) then Some 0
    else option_map suc (first_place mode ks cached)

-- for each key the place of the first that is the same
abbrev pub first_places : KeyMode → List KeyOf → List (Option ℕ)
first_places mode keys = map (λ k. first_place mode keys (folded mode k)) keys

-- each is the place of one that comes no later, and that is its own
abbrev pub AreFirsts : List ℕ → Type 0
AreFirsts firsts = (i : ℕ) → i < length firsts → (get_or firsts i 0 ≤ i)
    × (get_or firsts (get_or firsts i 0) 0 ≡ get_or firsts i 0)

-- ---- the rows at a place

abbrev pub is_place : ℕ → Option ℕ → Bool
is_place p None = false
is_place p (Some q) = q == p

-- where a row goes
abbrev pub look_by : ByOf → (KeyOf → Option ℕ) → RowOf → Option ℕ
look_by by look row = look (folded by.mode (key_in by.columns row))

abbrev pub rows_to : (RowOf → Option ℕ) → List RowOf → ℕ → List RowOf
rows_to look given p = filter (λ row. is_place p (look row)) given

pub record AreGroups (look : RowOf → Option ℕ) (given : List RowOf) (count : ℕ)
    (groups : List (List RowOf)) : Type 0 where
  pub many : length groups ≡ count
  pub rows_are : (p : ℕ) → p < count → get_or groups p [] ≡ rows_to look given p
  pub all_go : (i : ℕ) → i < length given → is_none (look (get_or given i [])) ≡ false

-- a row goes nowhere, or memory ran out
abbrev pub GroupFault : (RowOf → Option ℕ) → List RowOf → KeyedFault → Type 0
GroupFault look given (fault.Rows e) = e ≡ flat.NoMemory
GroupFault look given fault.BadFaults = ⊥
GroupFault look given fault.NoKeyColumn = ⊥
GroupFault look given (fault.NotAsked number) = (place : ℕ) × (number ≡ place + 1)
    × (position (λ row. is_none (look row)) given ≡ Some place)
