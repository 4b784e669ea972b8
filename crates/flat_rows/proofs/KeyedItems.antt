-- The items of keys, from the rows at the places of the first keys.
use Rattle.std.proofs.Common.{◌≡◌, ◌≤◌, ◌<◌, ◌+◌, ℕ, zero, suc, Bool, true, false, List, [], ◌∷◌, ◌++◌, Option, Some, None, map, length, get_or, take, drop, refl, ap, sym, ◌∙◌, arith}
use Rattle.std.specs.Prelude.{IfSome, position, not, is_some, is_none, slice_set, ◌==◌}
use Rattle.std.proofs.Math.Path.{fun_ext}
use Rattle.std.proofs.lemmas.Bool.{eqb-true, eqb-false}
use Rattle.std.proofs.lemmas.List.{ext_get_or, get_or-map, get_or-take, length-map, length-set, length-take-le, map-append, take_more, take-append-drop}
use Rattle.load_memory.specs.Keys.{KeyOf, cache_of, folded, same_key}
use Rattle.load_memory.specs.Outcomes.{ItemOf, rows}
use Rattle.load_memory.specs.Rows.{RowOf, SheetOf, paired, row_at}
use Rattle.load_memory.specs.declared.key.CacheKey.{CacheKey}
use Rattle.load_memory.specs.declared.key.KeyMode.{KeyMode}
use Rattle.load_memory.proofs.RowLaws.{position-found, position-none}
use Rattle.flat_rows.specs.Grouped.{AreFirsts, AreGroups, FindsKeys, GroupFault, fields_key, first_place, first_places, is_place, look_by, noted, rows_to}
use Rattle.flat_rows.specs.Keyed.{AreAsked, ArePlaces, AreRows, ByOf, KeyedReplyFault, LacksKeyColumn, LaidRows, first_unasked, is_asked, key_in, keyed_items, not_asked, of_rows, no_memory, rows_in_sheet, rows_laid, rows_of, sheet_laid}
use Rattle.flat_rows.specs.declared.fault.FlatFault.TheVariants as flat
use Rattle.flat_rows.specs.declared.keyed.KeyPlaces.{KeyPlaces}
use Rattle.flat_rows.specs.declared.keyed.KeyedFault.{KeyedFault}
use Rattle.flat_rows.specs.declared.keyed.KeyedFault.TheVariants as fault
use Rattle.flat_rows.proofs.KeyedLaws.{Noted, asked-first, at_key, filter-same, first-more, first-stays, first-there, first-within, one-more-row, place-same}

-- ---- one key more is noted

module _ (mode : KeyMode) (ks : List KeyOf) (i : ℕ) (key : KeyOf) (lt : i < length ks) (at : key ≡ get_or ks i key) where
  next : take (i + 1) ks ≡ take i ks ++ key ∷ []
  next = take_more ks i key lt ∙ ap (λ k. take i ks ++ k ∷ []) (sym at)

  pub noted-more : (cached : CacheKey) → cache_of cached ≡ folded mode key → (old new : Noted) → ((q : KeyOf) → at_key old q ≡ first_place mode (take i ks) q)
      → ((q : KeyOf) → at_key new q ≡ noted (at_key old q) (same_key q (cache_of cached)) i) → (q : KeyOf) → at_key new q ≡ first_place mode (take (i + 1) ks) q
  noted-more cached is old new was more q =
      more q ∙ rw (was q, is) refl
      ∙ ap (λ n. noted (first_place mode (take i ks) q) (same_key q (folded mode key)) n) (sym (length-take-le i ks (omega (arith, lt))))
      ∙ sym (first-more mode (take i ks) key q) ∙ ap (λ l. first_place mode l q) (sym next)

  pub place-more : (p : ℕ) (found : List ℕ) → first_place mode (take (i + 1) ks) (folded mode key) ≡ Some p
      → map (λ p. Some p) found ≡ map (λ k. first_place mode ks (folded mode k)) (take i ks)
      → map (λ p. Some p) (found ++ p ∷ []) ≡ map (λ k. first_place mode ks (folded mode k)) (take (i + 1) ks)
  place-more p found here was =
      let all = ap (λ l. first_place mode l (folded mode key)) (sym (take-append-drop (i + 1) ks)) ∙ first-stays mode (take (i + 1) ks) (drop (i + 1) ks) (folded mode key) p here in
      map-append (λ p. Some p) found (p ∷ []) ∙ rw (was, ← all) refl
      ∙ sym (map-append (λ k. first_place mode ks (folded mode k)) (take i ks) (key ∷ [])) ∙ ap (map (λ k. first_place mode ks (folded mode k))) (sym next)

-- ---- a row without a place

pub place-none : (look : RowOf → Option ℕ) (given : List RowOf) (i : ℕ) → i < length given → ((k : ℕ) → k < i → is_none (look (get_or given k [])) ≡ false) → is_none (look (get_or given i [])) ≡ true
    → position (λ row. is_none (look row)) given ≡ Some i
place-none look given i lt before here = sym (position-found (λ row. is_none (look row)) given [] i lt before here)

-- the row at a place of a sheet
pub row-in : (s : SheetOf) (i : ℕ) → i < length s.rows → get_or (rows_in_sheet s) i [] ≡ row_at s i
row-in s i lt = get_or-map (paired s.names) s.rows i [] [] lt

-- it goes where its key is found
pub look-row : (by : ByOf) (at : KeyOf → Option ℕ) (s : SheetOf) (i : ℕ) (found : KeyPlaces) → FindsKeys s by.columns found → i < length s.rows → (cached key : KeyOf) → cached ≡ folded by.mode key
    → key ≡ fields_key found (get_or s.rows i []) → look_by by at (get_or (rows_in_sheet s) i []) ≡ at cached
look-row by at s i found finds lt cached key is key-is =
    ap (λ k. at (folded by.mode k)) (ap (key_in by.columns) (row-in s i lt) ∙ sym (finds.keys_are i lt) ∙ sym key-is) ∙ ap at (sym is)

pub gone-before : (look : RowOf → Option ℕ) (given : List RowOf) (i : ℕ) → i ≤ length given → ((k : ℕ) → k < length (take i given) → is_none (look (get_or (take i given) k [])) ≡ false)
    → (k : ℕ) → k < i → is_none (look (get_or given k [])) ≡ false
gone-before look given i le h k lt = ap (λ r. is_none (look r)) (sym (get_or-take i given k [] lt)) ∙ h k (omega (arith, lt, length-take-le i given le))

pub some-within : (r : Option ℕ) (n p : ℕ) → IfSome r (λ p. p < n) → Some p ≡ r → p < n
some-within r n p h is = rw (← is) at h

get_or-inside : {X : Type 0} (xs : List X) (i : ℕ) (d e : X) → i < length xs → get_or xs i d ≡ get_or xs i e
get_or-inside [] i d e lt = absurd (omega (arith, lt))
get_or-inside (x ∷ xs) zero d e lt = refl
get_or-inside (x ∷ xs) (suc i) d e lt = get_or-inside xs i d e (omega (arith, lt))

-- one row more went to its place
pub row-more : (look : RowOf → Option ℕ) (given : List RowOf) (i place count : ℕ) (groups : List (List RowOf)) (was : List RowOf) → i < length given → look (get_or given i []) ≡ Some place → place < count
    → was ≡ get_or groups place was → AreGroups look (take i given) count groups → AreGroups look (take (i + 1) given) count (slice_set groups place (was ++ get_or given i [] ∷ []))
row-more look given i place count groups was lt goes room at h =
    let row : RowOf = get_or given i [] in
    let there : was ≡ get_or groups place [] = at ∙ get_or-inside groups place was [] (omega (arith, room, h.many)) in
    let more = one-more-row look (take i given) row place goes count groups was room there h in
    let before = gone-before look given i (omega (arith, lt)) h.all_go in
    record {
      many = length-set groups place (was ++ row ∷ []) ∙ h.many;
      rows_are = λ p within. more p within ∙ ap (λ l. rows_to look l p) (sym (take_more given i [] lt));
      all_go = λ k within. ap (λ r. is_none (look r)) (get_or-take (i + 1) given k [] (inside k within)) ∙ go k before (k == i) refl (inside k within);
    }
  where
    inside : (k : ℕ) → k < length (take (i + 1) given) → k < i + 1
    inside k within = omega (arith, within, length-take-le (i + 1) given (omega (arith, lt)))

    go : (k : ℕ) → ((k : ℕ) → k < i → is_none (look (get_or given k [])) ≡ false) → (b : Bool) → (k == i) ≡ b → k < i + 1 → is_none (look (get_or given k [])) ≡ false
    go k before true e below = rw (eqb-true k i e, goes) refl
    go k before false e below = before k (omega (arith, below, eqb-false k i e))

-- ---- the items of the keys, one after another

abbrev pub item_at : List (List RowOf) → ℕ → ItemOf
item_at groups p = rows (get_or groups p [])

-- the item of the next key is that of the first that is the same
pub next-is : (groups : List (List RowOf)) (of_keys : List ℕ) (i first : ℕ) (items : List ItemOf) (item : ItemOf) (r : List RowOf) → AreFirsts of_keys → i < length of_keys → first ≡ get_or of_keys i 0
    → r ≡ get_or groups i [] → items ≡ map (item_at groups) (take i of_keys) → (first ≡ i → item ≡ rows r) → (first < i → item ≡ get_or items first (rows [])) → item ≡ item_at groups (get_or of_keys i 0)
next-is groups of_keys i first items item r firsts lt first-is r-is items-are own other = go (first == i) refl where
  early : first ≤ i
  early = omega (arith, first-is, (firsts i lt).0)

  its-own : get_or of_keys first 0 ≡ first
  its-own = rw first-is (firsts i lt).1

  go : (b : Bool) → (first == i) ≡ b → item ≡ item_at groups (get_or of_keys i 0)
  go true e =
      let same = eqb-true first i e in
      own same ∙ ap rows (r-is ∙ ap (λ p. get_or groups p []) (sym same ∙ first-is))
  go false e =
      let below : first < i = omega (arith, early, eqb-false first i e) in
      let within : first < length (take i of_keys) = omega (arith, below, length-take-le i of_keys (omega (arith, lt))) in
      other below ∙ ap (λ l. get_or l first (rows [])) items-are ∙ get_or-map (item_at groups) (take i of_keys) first 0 (rows []) within
      ∙ ap (item_at groups) (get_or-take i of_keys first 0 below ∙ its-own ∙ first-is)

-- ---- all keys were noted

module _ (by : ByOf) (ks : List KeyOf) (at : KeyOf → Option ℕ) (of_keys : List ℕ) (places : (q : KeyOf) → at q ≡ first_place by.mode ks q) (firsts : map (λ p. Some p) of_keys ≡ first_places by.mode ks) where
  abbrev first_of : KeyOf → Option ℕ
  first_of key = first_place by.mode ks (folded by.mode key)

  as-many : length of_keys ≡ length ks
  as-many = sym (length-map of_keys (λ p. Some p)) ∙ ap length firsts ∙ length-map ks first_of

  first-at : (i : ℕ) (d : KeyOf) → i < length ks → first_of (get_or ks i d) ≡ Some (get_or of_keys i 0)
  first-at i d lt =
      let all : get_or (map (λ p. Some p) of_keys) i None ≡ get_or (map first_of ks) i None = ap (λ l. get_or l i None) firsts in
      sym (get_or-map first_of ks i d None lt) ∙ sym all ∙ get_or-map (λ p. Some p) of_keys i 0 None (omega (arith, lt, as-many))

  pub within : (q : KeyOf) → IfSome (at q) (λ p. p < length of_keys)
  within q = go (at q) (sym (places q)) where
    go : (r : Option ℕ) → first_place by.mode ks q ≡ r → IfSome r (λ p. p < length of_keys)
    go None is = tt
    go (Some p) is = omega (arith, as-many, (first-within by.mode ks q p q is).0)

  some-is : (p q : ℕ) → Some p ≡ Some q → p ≡ q
  some-is p q e = cc e

  pub are-firsts : AreFirsts of_keys
  are-firsts i lt =
      let p = get_or of_keys i 0 in let d : KeyOf = get_or ks i (folded by.mode (get_or ks 0 (key_in by.columns []))) in
      let inside : i < length ks = omega (arith, lt, as-many) in
      let here = first-at i d inside in let there = first-there by.mode ks i d inside in let found = first-within by.mode ks (folded by.mode (get_or ks i d)) p d here in
      let same : there.0 ≡ p = some-is there.0 p (sym there.1 ∙ here) in
      let again : first_of (get_or ks p d) ≡ Some p = ap (first_place by.mode ks) (sym found.1) ∙ here in
      (omega (arith, same, there.2), some-is (get_or of_keys p 0) p (sym (first-at p d found.0) ∙ again))

  abbrev pub look : RowOf → Option ℕ
  look = look_by by at

  pub under-keys : (given : List RowOf) (groups : List (List RowOf)) → AreGroups look given (length of_keys) groups → map (λ p. rows (get_or groups p [])) of_keys ≡ keyed_items by ks given
  under-keys given groups h =
      ext_get_or (rows []) (map (λ p. rows (get_or groups p [])) of_keys) (keyed_items by ks given)
      (length-map of_keys (λ p. rows (get_or groups p [])) ∙ as-many ∙ sym (length-map ks (λ key. rows (rows_of by given key))))
      (λ i lt. one i (omega (arith, lt, length-map of_keys (λ p. rows (get_or groups p [])))))
    where
      one : (i : ℕ) → i < length of_keys → get_or (map (λ p. rows (get_or groups p [])) of_keys) i (rows []) ≡ get_or (keyed_items by ks given) i (rows [])
      one i lt =
          let p = get_or of_keys i 0 in let d : KeyOf = key_in by.columns [] in
          let inside : i < length ks = omega (arith, lt, as-many) in
          let here = first-at i d inside in
          let room : p < length of_keys = omega (arith, as-many, (first-within by.mode ks (folded by.mode (get_or ks i d)) p d here).0) in
          let same : rows_to look given p ≡ rows_of by given (get_or ks i d) =
          filter-same (λ row. is_place p (look row)) (λ row. same_key (folded by.mode (key_in by.columns row)) (folded by.mode (get_or ks i d)))
          (λ row. ap (is_place p) (places (folded by.mode (key_in by.columns row))) ∙ place-same by.mode ks i p d here (folded by.mode (key_in by.columns row))) given in
          get_or-map (λ p. rows (get_or groups p [])) of_keys i 0 (rows []) lt ∙ ap rows (h.rows_are p room ∙ same)
          ∙ sym (get_or-map (λ key. rows (rows_of by given key)) ks i d (rows []) inside)

  unasked : (row : RowOf) → not (is_asked by ks row) ≡ is_none (look row)
  unasked row = ap not (asked-first by.mode ks (folded by.mode (key_in by.columns row))) ∙ go (first_place by.mode ks (folded by.mode (key_in by.columns row))) ∙ ap is_none (sym (places (folded by.mode (key_in by.columns row)))) where
    go : (r : Option ℕ) → not (is_some r) ≡ is_none r
    go None = refl
    go (Some p) = refl

  first-is : (given : List RowOf) → first_unasked by ks given ≡ position (λ row. is_none (look row)) given
  first-is given = ap (λ test. position test given) (fun_ext unasked)

  pub all-asked : (given : List RowOf) (groups : List (List RowOf)) → AreGroups look given (length of_keys) groups → AreAsked by ks given
  all-asked given groups h = first-is given ∙ sym (position-none (λ row. is_none (look row)) given [] (length given) refl (λ k lt. h.all_go k lt))

  pub group-fault : (r : LaidRows) → ArePlaces (length ks) r.faults → AreRows r → ¬ (LacksKeyColumn (sheet_laid r).names r.count by.columns) → (e : KeyedFault) → GroupFault look (rows_laid r) e
      → KeyedReplyFault by ks r e
  group-fault r placed formed columned fault.BadFaults h = absurd h
  group-fault r placed formed columned (fault.Rows e) h = rw h (of_rows flat.NoMemory placed no_memory)
  group-fault r placed formed columned fault.NoKeyColumn h = absurd h
  group-fault r placed formed columned (fault.NotAsked number) h = not_asked number placed formed columned (h.0, h.1, first-is (rows_laid r) ∙ h.2)
