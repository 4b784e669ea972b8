-- Rows that are sorted to keys: the places of keys, and the rows at a place.
use Rattle.std.proofs.Common.{◌≡◌, ◌≤◌, ◌<◌, ◌+◌, ℕ, zero, suc, Bool, true, false, List, [], ◌∷◌, ◌++◌, Option, Some, None, length, get_or, drop, refl, ap, sym, ◌∙◌, subst, arith}
use Rattle.std.specs.Prelude.{◌==◌, ◌||◌, bytes_eq, filter, position, slice_set, option_map, is_some, if◌then◌else◌}
use Rattle.std.specs.List.{list_any}
use Rattle.std.specs.Map.{lookup, KeepsOthers}
use Rattle.std.proofs.Math.Path.{fun_ext}
use Rattle.std.proofs.lemmas.Bool.{eqb-true, eq-eqb, false≢true}
use Rattle.std.proofs.lemmas.List.{append-nil, get_or-set_same, get_or-set_other}
use Rattle.std.proofs.lemmas.List.Elements.{filter-append}
use Rattle.load_memory.specs.Keys.{KeyOf, all, text, pair, cache_of, folded, same_key}
use Rattle.load_memory.specs.Rows.{RowOf, paired}
use Rattle.load_memory.specs.declared.key.CacheKey.{CacheKey}
use Rattle.load_memory.specs.declared.key.KeyMode.{KeyMode}
use Rattle.load_memory.specs.contracts.key.CacheKeyPartialEq.TheImpl as cache_eq
use Rattle.load_memory.proofs.Looks.{same_key-is, same_key-refl}
use Rattle.load_memory.proofs.LoaderMemoryLaws.{cache-eq}
use Rattle.load_memory.proofs.RowLaws.{cell_of-at, column-within}
use Rattle.flat_rows.specs.Grouped.{AreGroups, AreWithin, HasPlaces, fields_key, first_place, is_place, noted, rows_to}
use Rattle.flat_rows.specs.Keyed.{HasColumns, field_in, key_in, text_or_empty}
use Rattle.flat_rows.specs.declared.keyed.KeyPlaces.{KeyPlaces}
use Rattle.flat_rows.specs.declared.keyed.KeyPlaces.TheVariants as places

abbrev pub equal : CacheKey → CacheKey → Bool
equal = (cache_eq.eq-value).it

abbrev pub Noted : Type 0
Noted = List (CacheKey × ℕ)

abbrev pub at_key : Noted → KeyOf → Option ℕ
at_key es key = lookup (λ x. same_key key (cache_of x)) es

-- ---- the map's own test of keys

lookup-same : (test : CacheKey → Bool) (q : KeyOf) → ((x : CacheKey) → test x ≡ same_key q (cache_of x)) → (es : Noted) → lookup test es ≡ at_key es q
lookup-same test q is [] = refl
lookup-same test q is (e ∷ es) = rw (is e.0, lookup-same test q is es) refl

pub lookup-key : (k : CacheKey) (es : Noted) → lookup (equal k) es ≡ at_key es (cache_of k)
lookup-key k es = lookup-same (equal k) (cache_of k) (cache-eq k) es

pub noted-there : (f : KeyOf → Option ℕ) (k : KeyOf) (p place : ℕ) → f k ≡ Some p → (q : KeyOf) → f q ≡ noted (f q) (same_key q k) place
noted-there f k p place there q = go (same_key q k) refl (f q) refl where
  go : (b : Bool) → same_key q k ≡ b → (x : Option ℕ) → f q ≡ x → x ≡ noted x b place
  go b at (Some x) is = refl
  go false at None is = refl
  go true at None is = absurd (cc (sym is ∙ ap f (same_key-is q k at) ∙ there))

noted-written : (k : CacheKey) (place : ℕ) (old new : Noted) → lookup (equal k) old ≡ None → lookup (equal k) new ≡ Some place → KeepsOthers equal (equal k) old new
    → (q : KeyOf) → at_key new q ≡ noted (at_key old q) (same_key q (cache_of k)) place
unfolding KeepsOthers
noted-written k place old new none here others q = go (same_key q (cache_of k)) refl where
  go : (b : Bool) → same_key q (cache_of k) ≡ b → at_key new q ≡ noted (at_key old q) b place
  go true e =
      let same = same_key-is q (cache_of k) e in
      let was : at_key old q ≡ None = ap (at_key old) same ∙ sym (lookup-key k old) ∙ none in
      rw was (ap (at_key new) same ∙ sym (lookup-key k new) ∙ here)
  go false e =
      let test : CacheKey → Bool = λ x. same_key q (cache_of x) in
      let one : (x y : CacheKey) → test x ≡ true → test y ≡ equal x y = λ x y h. ap (λ w. same_key w (cache_of y)) (same_key-is q (cache_of x) h) ∙ sym (cache-eq x y) in
      let apart : (x : CacheKey) → equal k x ≡ true → test x ≡ false = λ x h. ap (same_key q) (sym (same_key-is (cache_of k) (cache_of x) (sym (cache-eq k x) ∙ h))) ∙ e in
      others test one apart ∙ stays (at_key old q)
    where
      stays : (x : Option ℕ) → x ≡ noted x false place
      stays None = refl
      stays (Some x) = refl

pub noted-new : (k : CacheKey) (place : ℕ) (old new written : Noted) → lookup (equal k) old ≡ None → lookup (equal k) written ≡ Some place → KeepsOthers equal (equal k) old written → new ≡ written
    → (q : KeyOf) → at_key new q ≡ noted (at_key old q) (same_key q (cache_of k)) place
noted-new k place old new written none here others same = subst (λ es. (q : KeyOf) → at_key es q ≡ noted (at_key old q) (same_key q (cache_of k)) place) (sym same) (noted-written k place old written none here others)

-- ---- the place of the first key that is the same

module _ (mode : KeyMode) where
  pub first-more : (ks : List KeyOf) (k q : KeyOf) → first_place mode (ks ++ k ∷ []) q ≡ noted (first_place mode ks q) (same_key q (folded mode k)) (length ks)
  first-more [] k q = go (same_key q (folded mode k)) where
    go : (b : Bool) → (if b then Some 0 else option_map suc None) ≡ noted None b 0
    go true = refl
    go false = refl
  first-more (x ∷ ks) k q = go (same_key q (folded mode x)) (first_place mode (ks ++ k ∷ []) q) (first_place mode ks q) (same_key q (folded mode k)) (first-more ks k q) where
    go : (b : Bool) (r s : Option ℕ) (c : Bool) → r ≡ noted s c (length ks) → (if b then Some 0 else option_map suc r) ≡ noted (if b then Some 0 else option_map suc s) c (suc (length ks))
    go true r s c e = refl
    go false r None true e = rw e refl
    go false r None false e = rw e refl
    go false r (Some p) c e = rw e refl

  pub first-within : (ks : List KeyOf) (q : KeyOf) (p : ℕ) (d : KeyOf) → first_place mode ks q ≡ Some p → (p < length ks) × (q ≡ folded mode (get_or ks p d))
  first-within [] q p d e = absurd (cc e)
  first-within (k ∷ ks) q p d e = go (same_key q (folded mode k)) refl (first_place mode ks q) (λ r is. first-within ks q r d is) e where
    go : (b : Bool) → same_key q (folded mode k) ≡ b → (r : Option ℕ) → ((n : ℕ) → r ≡ Some n → (n < length ks) × (q ≡ folded mode (get_or ks n d)))
        → (if b then Some 0 else option_map suc r) ≡ Some p → (p < length (k ∷ ks)) × (q ≡ folded mode (get_or (k ∷ ks) p d))
    go true at r later e = let first : 0 ≡ p = cc e in rw (← first) (omega arith, same_key-is q (folded mode k) at)
    go false at None later e = absurd (cc e)
    go false at (Some n) later e =
        let next : suc n ≡ p = cc e in let rest = later n refl in
        rw (← next) (omega (arith, rest.0), rest.1)

  pub first-stays : (xs ys : List KeyOf) (q : KeyOf) (p : ℕ) → first_place mode xs q ≡ Some p → first_place mode (xs ++ ys) q ≡ Some p
  first-stays [] ys q p e = absurd (cc e)
  first-stays (k ∷ xs) ys q p e = go (same_key q (folded mode k)) (first_place mode xs q) (λ n is. first-stays xs ys q n is) e where
    go : (b : Bool) (r : Option ℕ) → ((n : ℕ) → r ≡ Some n → first_place mode (xs ++ ys) q ≡ Some n) → (if b then Some 0 else option_map suc r) ≡ Some p
        → (if b then Some 0 else option_map suc (first_place mode (xs ++ ys) q)) ≡ Some p
    go true r later e = e
    go false None later e = absurd (cc e)
    go false (Some n) later e = rw (later n refl) e

  pub first-there : (ks : List KeyOf) (i : ℕ) (d : KeyOf) → i < length ks → (p : ℕ) × (first_place mode ks (folded mode (get_or ks i d)) ≡ Some p) × (p ≤ i)
  first-there [] i d lt = absurd (omega (arith, lt))
  first-there (k ∷ ks) zero d lt = (0, rw (same_key-refl (folded mode k)) refl, omega arith)
  first-there (k ∷ ks) (suc i) d lt = go (same_key (folded mode (get_or ks i d)) (folded mode k)) (first-there ks i d (omega (arith, lt))) where
    go : (b : Bool) → (p : ℕ) × (first_place mode ks (folded mode (get_or ks i d)) ≡ Some p) × (p ≤ i)
        → (p : ℕ) × ((if b then Some 0 else option_map suc (first_place mode ks (folded mode (get_or ks i d)))) ≡ Some p) × (p ≤ suc i)
    go true h = (0, refl, omega arith)
    go false h = (suc h.0, rw h.1 refl, omega (arith, h.2))

  -- a key is among those that were asked for where it has a place
  pub asked-first : (ks : List KeyOf) (q : KeyOf) → list_any (λ k. same_key q (folded mode k)) ks ≡ is_some (first_place mode ks q)
  asked-first [] q = refl
  asked-first (k ∷ ks) q = go (same_key q (folded mode k)) (first_place mode ks q) (asked-first ks q) where
    go : (b : Bool) (r : Option ℕ) → list_any (λ k. same_key q (folded mode k)) ks ≡ is_some r → (b || list_any (λ k. same_key q (folded mode k)) ks) ≡ is_some (if b then Some 0 else option_map suc r)
    go true r e = refl
    go false None e = e
    go false (Some r) e = e

  -- the keys at a place are those that are the same as the first there
  pub place-same : (ks : List KeyOf) (i f : ℕ) (d : KeyOf) → first_place mode ks (folded mode (get_or ks i d)) ≡ Some f → (q : KeyOf) → is_place f (first_place mode ks q) ≡ same_key q (folded mode (get_or ks i d))
  place-same ks i f d at q = go (same_key q (folded mode (get_or ks i d))) refl where
    other : (b : Bool) → same_key q (folded mode (get_or ks i d)) ≡ false → (r : Option ℕ) → first_place mode ks q ≡ r → is_place f r ≡ b → b ≡ false
    other false apart r is e = refl
    other true apart None is e = absurd (false≢true e)
    other true apart (Some p) is e =
        let here = first-within ks q p d is in let there = first-within ks (folded mode (get_or ks i d)) f d at in
        let same : q ≡ folded mode (get_or ks i d) = here.1 ∙ ap (λ n. folded mode (get_or ks n d)) (eqb-true p f e) ∙ sym there.1 in
        absurd (false≢true (sym apart ∙ ap (λ k. same_key k (folded mode (get_or ks i d))) same ∙ same_key-refl (folded mode (get_or ks i d))))

    go : (b : Bool) → same_key q (folded mode (get_or ks i d)) ≡ b → is_place f (first_place mode ks q) ≡ b
    go true e = rw (same_key-is q (folded mode (get_or ks i d)) e, at) (eq-eqb f f refl)
    go false e = other (is_place f (first_place mode ks q)) e (first_place mode ks q) refl refl

-- ---- rows at places

pub filter-same : {X : Type 0} (p q : X → Bool) → ((x : X) → p x ≡ q x) → (xs : List X) → filter p xs ≡ filter q xs
filter-same p q same xs = ap (λ t. filter t xs) (fun_ext same)

-- one row more goes to its place
module _ (look : RowOf → Option ℕ) (given : List RowOf) (row : RowOf) (place : ℕ) (goes : look row ≡ Some place) where
  to-place : (p : ℕ) → rows_to look (given ++ row ∷ []) p ≡ (if place == p then rows_to look given p ++ row ∷ [] else rows_to look given p)
  to-place p = filter-append (λ r. is_place p (look r)) given (row ∷ []) ∙ go (place == p) refl where
    go : (b : Bool) → (place == p) ≡ b → rows_to look given p ++ filter (λ r. is_place p (look r)) (row ∷ []) ≡ (if b then rows_to look given p ++ row ∷ [] else rows_to look given p)
    go true e = rw (goes, e) refl
    go false e = rw (goes, e) (append-nil (rows_to look given p))

  pub one-more-row : (count : ℕ) (groups : List (List RowOf)) (was : List RowOf) → place < count → was ≡ get_or groups place [] → AreGroups look given count groups
      → (p : ℕ) → p < count → get_or (slice_set groups place (was ++ row ∷ [])) p [] ≡ rows_to look (given ++ row ∷ []) p
  one-more-row count groups was lt at h p within = go (place == p) refl ∙ sym (to-place p) where
    go : (b : Bool) → (place == p) ≡ b → get_or (slice_set groups place (was ++ row ∷ [])) p [] ≡ (if b then rows_to look given p ++ row ∷ [] else rows_to look given p)
    go true e =
        let same = eqb-true place p e in
        rw (← same) (get_or-set_same groups place (was ++ row ∷ []) [] (omega (arith, lt, h.many)) ∙ ap (λ rs. rs ++ row ∷ []) (at ∙ h.rows_are place lt))
    go false e = get_or-set_other groups place p (was ++ row ∷ []) [] (λ same. false≢true (sym e ∙ eq-eqb place p (sym same))) ∙ h.rows_are p within

-- ---- the key of a row, by the places of its columns

field-at : (names fields : List (List ℕ)) (name : List ℕ) (i : ℕ) → length fields ≡ length names → position (λ n. bytes_eq n name) names ≡ Some i → get_or fields i [] ≡ field_in (paired names fields) name
field-at names fields name i wide at = sym (ap text_or_empty (cell_of-at name names fields i wide (sym at)))

pub key-found : (names fields : List (List ℕ)) (columns : KeyOf) (found : KeyPlaces) → length fields ≡ length names → HasPlaces names columns found → fields_key found fields ≡ key_in columns (paired names fields)
key-found names fields all places.All wide h = refl
key-found names fields all (places.One i) wide h = absurd h
key-found names fields all (places.Two i j) wide h = absurd h
key-found names fields (text one) places.All wide h = absurd h
key-found names fields (text one) (places.One i) wide h = ap text (field-at names fields one i wide h)
key-found names fields (text one) (places.Two i j) wide h = absurd h
key-found names fields (pair one two) places.All wide h = absurd h
key-found names fields (pair one two) (places.One i) wide h = absurd h
key-found names fields (pair one two) (places.Two i j) wide h = rw (field-at names fields one i wide h.0, field-at names fields two j wide h.1) refl

pub places-within : (names : List (List ℕ)) (columns : KeyOf) (found : KeyPlaces) → HasPlaces names columns found → AreWithin found (length names)
places-within names all places.All h = tt
places-within names all (places.One i) h = absurd h
places-within names all (places.Two i j) h = absurd h
places-within names (text one) places.All h = absurd h
places-within names (text one) (places.One i) h = column-within one names i (sym h)
places-within names (text one) (places.Two i j) h = absurd h
places-within names (pair one two) places.All h = absurd h
places-within names (pair one two) (places.One i) h = absurd h
places-within names (pair one two) (places.Two i j) h = (column-within one names i (sym h.0), column-within two names j (sym h.1))

pub columns-found : (names : List (List ℕ)) (columns : KeyOf) (found : KeyPlaces) → HasPlaces names columns found → HasColumns names columns
columns-found names all places.All h = tt
columns-found names all (places.One i) h = absurd h
columns-found names all (places.Two i j) h = absurd h
columns-found names (text one) places.All h = absurd h
columns-found names (text one) (places.One i) h = ap is_some h
columns-found names (text one) (places.Two i j) h = absurd h
columns-found names (pair one two) places.All h = absurd h
columns-found names (pair one two) (places.One i) h = absurd h
columns-found names (pair one two) (places.Two i j) h = (ap is_some h.0, ap is_some h.1)

-- ---- what is left of a list

pub drop-parts : {X : Type 0} (xs : List X) (i : ℕ) (x d : X) (rest : List X) → drop i xs ≡ x ∷ rest → (i < length xs) × (x ≡ get_or xs i d) × (rest ≡ drop (i + 1) xs)
drop-parts [] zero x d rest e = absurd (cc e)
drop-parts [] (suc i) x d rest e = absurd (cc e)
drop-parts (y ∷ xs) zero x d rest e = (omega arith, sym (cc e), sym (cc e))
drop-parts (y ∷ xs) (suc i) x d rest e =
    let later = drop-parts xs i x d rest e in
    let on : suc i + 1 ≡ suc (i + 1) = omega arith in
    (omega (arith, later.0), later.1, rw on later.2)

pub drop-all : {X : Type 0} (xs : List X) (i : ℕ) → drop i xs ≡ [] → length xs ≤ i
drop-all [] i e = omega arith
drop-all (y ∷ xs) zero e = absurd (cc e)
drop-all (y ∷ xs) (suc i) e = let later = drop-all xs i e in omega (arith, later)
