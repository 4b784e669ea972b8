-- No path expands more fragments than there are, where no fragment reaches itself: each spreads
-- only fragments that reach fewer.
use Rattle.std.proofs.Common.{◌≡◌, ◌∙◌, sym, ap, refl, ℕ, zero, suc, ◌+◌, ◌<◌, ◌≤◌, Bool, true, false, List, [], ◌∷◌, ◌++◌, length, Option, Some, None, find, arith, eq-eqb, if◌then◌else◌}
use Rattle.std.specs.Prelude.{◌||◌, ◌==◌, ◌-◌, max, nat_lt, slice_get, slice_index_or, filter_map}
use Rattle.std.specs.Option.{option_map_or}
use Rattle.std.proofs.lemmas.Bool.{lt-ltb, and_from}
use Rattle.std.proofs.lemmas.List.Folds.{list_any-append}
use Rattle.std.proofs.lemmas.List.Elements.{filter_map-append}
use Rattle.gq_schema.specs.Places.{place_from}
use Rattle.gq_parser.specs.Tree.{Selection, Field, Spread, Inline, Below, nothing_below, below, SelectionSet, set_at, Selections, no_selection, and_selection, Fragment, Document}
use Rattle.schema_syntax.specs.Tree.{Definition}
use Rattle.merging_members.specs.Fragments as members
use Rattle.merging_members.specs.Ranked.{spreads_in, spreads_among, spreads_from, spreads_below, rank_of, is_under, IsRanked}
use Rattle.merging_members.proofs.Tallies.{tally, tally-less, tally-out}
use Rattle.rules_parts.specs.declared.part.Owner.{Owner}
use Rattle.rules_parts.specs.declared.part.Owner.TheVariants as owner
use Rattle.rules_parts.specs.Parts.{SelectionPart, SpreadPart}
use Rattle.rules_parts.specs.Parents.{known_field, inside_field, inside_inline, inside_condition}
use Rattle.rules_parts.specs.Fragments.{is_fragment, fragment_place}
use Rattle.rules_parts.specs.Selections.{selections_in, selections_among, selections_from, selections_below, operation_selections, fragment_selections}
use Rattle.rules_parts.specs.Listing.{spread_part, parts_of}
use Rattle.rules_spreads.specs.Graphs.{GraphOf, fragment_number, target_of, targets_of, rows_from, row_at, graph_of}
use Rattle.rules_spreads.specs.Reach.{is_among, spreads, reaches, is_cyclic, are_known, Reaches, start, along}
use Rattle.rules_spreads.specs.Levels.{levels_in, levels_among, levels_from, levels_below, levels_named, levels_expanded}
use Rattle.rules_spreads.specs.Rules.{cycles_among, fragment_spreads_must_not_form_cycles}
use Rattle.rules_spreads.proofs.ReachLaws.{through_sound, reaches_complete}
use Rattle.rules_spreads.proofs.RowLaws.{length-rows_from, graph-known}

-- ---- what holds of each name that is spread

abbrev mutual
  pub EachIn : (List ℕ → Type 0) → SelectionSet → Type 0
  EachIn R (set_at p ss) = EachAmong R ss

  EachAmong : (List ℕ → Type 0) → Selections → Type 0
  EachAmong R no_selection = Unit {0}
  EachAmong R (and_selection s ss) = EachFrom R s × EachAmong R ss

  EachFrom : (List ℕ → Type 0) → Selection → Type 0
  EachFrom R (Field p alias name as' ds b) = EachBelow R b
  EachFrom R (Spread p name ds) = R name
  EachFrom R (Inline p c ds s) = EachIn R s

  EachBelow : (List ℕ → Type 0) → Below → Type 0
  EachBelow R nothing_below = Unit {0}
  EachBelow R (below s) = EachIn R s

mutual
  pub map-in : (R S : List ℕ → Type 0) → ((name : List ℕ) → R name → S name) → (s : SelectionSet) → EachIn R s → EachIn S s
  map-in R S f (set_at p ss) h = map-among R S f ss h

  map-among : (R S : List ℕ → Type 0) → ((name : List ℕ) → R name → S name) → (ss : Selections) → EachAmong R ss → EachAmong S ss
  map-among R S f no_selection h = tt
  map-among R S f (and_selection s ss) h = (map-from R S f s h.0, map-among R S f ss h.1)

  map-from : (R S : List ℕ → Type 0) → ((name : List ℕ) → R name → S name) → (s : Selection) → EachFrom R s → EachFrom S s
  map-from R S f (Field p alias name as' ds b) h = map-below R S f b h
  map-from R S f (Spread p name ds) h = f name h
  map-from R S f (Inline p c ds s) h = map-in R S f s h

  map-below : (R S : List ℕ → Type 0) → ((name : List ℕ) → R name → S name) → (b : Below) → EachBelow R b → EachBelow S b
  map-below R S f nothing_below h = tt
  map-below R S f (below s) h = map-in R S f s h

-- levels are the same where those of each name are
mutual
  same-in : (a b : List ℕ → ℕ) (s : SelectionSet) → EachIn (λ name. a name ≡ b name) s → levels_in a s ≡ levels_in b s
  same-in a b (set_at p ss) h = same-among a b ss h

  same-among : (a b : List ℕ → ℕ) (ss : Selections) → EachAmong (λ name. a name ≡ b name) ss → levels_among a ss ≡ levels_among b ss
  same-among a b no_selection h = refl
  same-among a b (and_selection s ss) h = ap (λ n. max n (levels_among a ss)) (same-from a b s h.0) ∙ ap (λ n. max (levels_from b s) n) (same-among a b ss h.1)

  same-from : (a b : List ℕ → ℕ) (s : Selection) → EachFrom (λ name. a name ≡ b name) s → levels_from a s ≡ levels_from b s
  same-from a b (Field p alias name as' ds i) h = ap (λ n. n + 1) (same-below a b i h)
  same-from a b (Spread p name ds) h = h
  same-from a b (Inline p c ds s) h = same-in a b s h

  same-below : (a b : List ℕ → ℕ) (i : Below) → EachBelow (λ name. a name ≡ b name) i → levels_below a i ≡ levels_below b i
  same-below a b nothing_below h = refl
  same-below a b (below s) h = same-in a b s h

-- ---- places of fragments

-- a fragment that is found is at a place
pub found-place : (test : Fragment → Bool) (n : ℕ) (fs : List Fragment) (f : Fragment) → find test fs ≡ Some f → (i : ℕ) × (place_from n test fs ≡ Some (n + i)) × (slice_get fs i ≡ Some f)
found-place test n [] f h = absurd (cc h)
found-place test n (g ∷ fs) f h = go (test g) (λ k. found-place test (n + 1) fs f k) h
  where
    go : (b : Bool) → (find test fs ≡ Some f → (i : ℕ) × (place_from (n + 1) test fs ≡ Some ((n + 1) + i)) × (slice_get fs i ≡ Some f))
        → (if b then Some g else find test fs) ≡ Some f → (i : ℕ) × ((if b then Some n else place_from (n + 1) test fs) ≡ Some (n + i)) × (slice_get (g ∷ fs) i ≡ Some f)
    go true rest k = let e : n ≡ n + 0 = omega arith in (0, ap (λ m. Some m) e, k)
    go false rest k = let r = rest k in let e : (n + 1) + r.0 ≡ n + suc r.0 = omega arith in (suc r.0, r.1 ∙ ap (λ m. Some m) e, r.2)

pub place-below : (test : Fragment → Bool) (n : ℕ) (fs : List Fragment) (k : ℕ) → place_from n test fs ≡ Some k → k < n + length fs
place-below test n [] k h = absurd (cc h)
place-below test n (g ∷ fs) k h = go (test g) (λ e. place-below test (n + 1) fs k e) h
  where
    go : (b : Bool) → (place_from (n + 1) test fs ≡ Some k → k < (n + 1) + length fs) → (if b then Some n else place_from (n + 1) test fs) ≡ Some k → k < n + length (g ∷ fs)
    go true rest e = let same : n ≡ k = cc in omega arith
    go false rest e = let r = rest e in omega (arith, r)

-- ---- what a fragment's selections tell the graph

module _ (fragments : List Fragment) (j : ℕ) where
  abbrev spread_from : List SelectionPart → List ℕ
  spread_from parts = targets_of (length fragments) fragment_number (filter_map (spread_part fragments) parts) j

  spread_from-append : (xs ys : List SelectionPart) → spread_from (xs ++ ys) ≡ spread_from xs ++ spread_from ys
  spread_from-append xs ys =
      ap (λ (ss : List SpreadPart). filter_map (target_of (length fragments) fragment_number j) ss) (filter_map-append (spread_part fragments) xs ys)
      ∙ filter_map-append (target_of (length fragments) fragment_number j) (filter_map (spread_part fragments) xs) (filter_map (spread_part fragments) ys)

  abbrev pub Has : ℕ → List SelectionPart → Type 0
  Has k parts = is_among k (spread_from parts) ≡ true

  has-either : (k : ℕ) (xs ys : List SelectionPart) → is_among k (spread_from (xs ++ ys)) ≡ (is_among k (spread_from xs) || is_among k (spread_from ys))
  has-either k xs ys = ap (is_among k) (spread_from-append xs ys) ∙ list_any-append (λ m. m == k) (spread_from xs) (spread_from ys)

  has-left : (k : ℕ) (xs ys : List SelectionPart) → Has k xs → Has k (xs ++ ys)
  has-left k xs ys h = has-either k xs ys ∙ ap (λ b. b || is_among k (spread_from ys)) h

  has-right : (k : ℕ) (xs ys : List SelectionPart) → Has k ys → Has k (xs ++ ys)
  has-right k xs ys h = has-either k xs ys ∙ ap (λ b. is_among k (spread_from xs) || b) h ∙ go (is_among k (spread_from xs))
    where
      go : (b : Bool) → (b || true) ≡ true
      go true = refl
      go false = refl

  abbrev pub Known : (ℕ → Type 0) → List ℕ → Type 0
  Known Q name = (k : ℕ) → fragment_place fragments name ≡ Some k → Q k

  own-spread : (part : SelectionPart) (p : _) (name : List ℕ) (ds : _) (k : ℕ) → part.owner ≡ owner.Fragment j → part.selection ≡ Spread p name ds → fragment_place fragments name ≡ Some k → Has k (part ∷ [])
  own-spread part p name ds k own is place =
      let lt = place-below (is_fragment name) 0 fragments k place in
      let known : nat_lt k (length fragments) ≡ true = lt-ltb k (length fragments) (omega (arith, lt)) in
      let same : (j == j) ≡ true = eq-eqb j j refl in
      let here : (k == k) ≡ true = eq-eqb k k refl in
      rw (is, own, same, place, known, here) refl

  mutual
    pub each-in : (Q : ℕ → Type 0) (defs : List Definition) (parent : Option (List ℕ)) (s : SelectionSet) → ((k : ℕ) → Has k (selections_in defs (owner.Fragment j) parent s) → Q k) → EachIn (Known Q) s
    each-in Q defs parent (set_at p ss) h = each-among Q defs parent ss h

    each-among : (Q : ℕ → Type 0) (defs : List Definition) (parent : Option (List ℕ)) (ss : Selections) → ((k : ℕ) → Has k (selections_among defs (owner.Fragment j) parent ss) → Q k) → EachAmong (Known Q) ss
    each-among Q defs parent no_selection h = tt
    each-among Q defs parent (and_selection s ss) h = (
      each-from Q defs parent s (λ k i. h k (has-left k (selections_from defs (owner.Fragment j) parent s) (selections_among defs (owner.Fragment j) parent ss) i)),
      each-among Q defs parent ss (λ k i. h k (has-right k (selections_from defs (owner.Fragment j) parent s) (selections_among defs (owner.Fragment j) parent ss) i)),
    )

    each-from : (Q : ℕ → Type 0) (defs : List Definition) (parent : Option (List ℕ)) (s : Selection) → ((k : ℕ) → Has k (selections_from defs (owner.Fragment j) parent s) → Q k) → EachFrom (Known Q) s
    each-from Q defs parent (Field p alias name as' ds b) h = each-below Q defs (inside_field defs (known_field defs parent name)) b (λ k i. h k i)
    each-from Q defs parent (Spread p name ds) h = λ k e. h k (own-spread (record { owner = owner.Fragment j; parent = parent; definition = None; inside = None; selection = Spread p name ds }) p name ds k refl refl e)
    each-from Q defs parent (Inline p c ds s) h = each-in Q defs (inside_inline defs parent c) s (λ k i. h k i)

    each-below : (Q : ℕ → Type 0) (defs : List Definition) (inside : Option (List ℕ)) (b : Below) → ((k : ℕ) → Has k (selections_below defs (owner.Fragment j) inside b) → Q k) → EachBelow (Known Q) b
    each-below Q defs inside nothing_below h = tt
    each-below Q defs inside (below s) h = each-in Q defs inside s h

  -- the selections of a fragment are among those of the document
  among-fragments : (defs : List Definition) (k i : ℕ) (fs : List Fragment) (x : ℕ) (f : Fragment) → slice_get fs x ≡ Some f → j ≡ i + x → Has k (selections_in defs (owner.Fragment j) (inside_condition defs f.condition) f.selection_set) → Has k (fragment_selections defs i fs)
  among-fragments defs k i [] x f here at h = absurd (cc here)
  among-fragments defs k i (g ∷ fs) zero f here at h =
      let same : g ≡ f = cc in
      let e : i ≡ j = omega (arith, at) in
      has-left k (selections_in defs (owner.Fragment i) (inside_condition defs g.condition) g.selection_set) (fragment_selections defs (i + 1) fs) (rw (e, same) h)
  among-fragments defs k i (g ∷ fs) (suc x) f here at h =
      has-right k (selections_in defs (owner.Fragment i) (inside_condition defs g.condition) g.selection_set) (fragment_selections defs (i + 1) fs) (among-fragments defs k (i + 1) fs x f here (omega (arith, at)) h)

row-there : (count : ℕ) (number : Owner → Option ℕ) (ss : List SpreadPart) (i many x : ℕ) → x < many → row_at (rows_from count number ss i many) x ≡ targets_of count number ss (i + x)
row-there count number ss i zero x lt = absurd (omega (arith, lt))
row-there count number ss i (suc many) zero lt = let e : i ≡ i + 0 = omega arith in ap (targets_of count number ss) e
row-there count number ss i (suc many) (suc x) lt = let e : (i + 1) + x ≡ i + suc x = omega arith in row-there count number ss (i + 1) many x (omega (arith, lt)) ∙ ap (targets_of count number ss) e

-- ---- how many fragments each reaches

abbrev pub reached : GraphOf → ℕ → ℕ
reached g j = tally (length g.fragments) (λ k. reaches g (owner.Fragment j) k)

before : (g : GraphOf) (o : Owner) (k m : ℕ) → spreads g o k ≡ true → Reaches g (owner.Fragment k) m → Reaches g o m
before g o k m h (start i) = along (start h) i
before g o k m h (along r i) = along (before g o k _ h r) i

-- a fragment reaches more than those that it spreads, where they don't reach themselves
pub reaches-less : (g : GraphOf) (j k : ℕ) → are_known g ≡ true → k < length g.fragments → is_cyclic g k ≡ false → spreads g (owner.Fragment j) k ≡ true → reached g k < reached g j
reaches-less g j k known lt cycle h =
    tally-less (length g.fragments) k (λ m. reaches g (owner.Fragment k) m) (λ m. reaches g (owner.Fragment j) m)
    (λ m r. reaches_complete g (owner.Fragment j) m known (before g (owner.Fragment j) k m h (through_sound (length g.fragments) g (owner.Fragment k) m r)))
    lt cycle (reaches_complete g (owner.Fragment j) k known (start h))

-- ---- where no fragment breaks the rule

-- no fragment is on a cycle
pub no-cycles : (g : GraphOf) (j : ℕ) (fs : List Fragment) → cycles_among g j fs ≡ [] → (x : ℕ) → x < length fs → is_cyclic g (j + x) ≡ false
no-cycles g j [] h x lt = absurd (omega (arith, lt))
no-cycles g j (f ∷ fs) h x lt = go (is_cyclic g j) refl h x lt (λ k y l. no-cycles g (j + 1) fs k y l)
  where
    go : (b : Bool) → is_cyclic g j ≡ b → (if b then record { name = f.name; place = f.place } ∷ cycles_among g (j + 1) fs else cycles_among g (j + 1) fs) ≡ [] → (y : ℕ) → y < length (f ∷ fs)
        → (cycles_among g (j + 1) fs ≡ [] → (z : ℕ) → z < length fs → is_cyclic g ((j + 1) + z) ≡ false) → is_cyclic g (j + y) ≡ false
    go true e k y l rest = absurd (cc k)
    go false e k zero l rest = let same : j + 0 ≡ j = omega arith in ap (is_cyclic g) same ∙ e
    go false e k (suc y) l rest = let same : j + suc y ≡ (j + 1) + y = omega arith in ap (is_cyclic g) same ∙ rest k y (omega (arith, l))

pub free-of : (defs : List Definition) (d : Document) → fragment_spreads_must_not_form_cycles (parts_of defs d) ≡ [] → (k : ℕ) → k < length d.fragments → is_cyclic (graph_of (parts_of defs d)) k ≡ false
free-of defs d none k lt = let e : k ≡ 0 + k = omega arith in ap (is_cyclic (graph_of (parts_of defs d))) e ∙ no-cycles (graph_of (parts_of defs d)) 0 d.fragments none k lt

-- ---- by names

mutual
  pub true-in : (test : List ℕ → Bool) (s : SelectionSet) → EachIn (λ name. test name ≡ true) s → spreads_in test s ≡ true
  true-in test (set_at p ss) h = true-among test ss h

  true-among : (test : List ℕ → Bool) (ss : Selections) → EachAmong (λ name. test name ≡ true) ss → spreads_among test ss ≡ true
  true-among test no_selection h = refl
  true-among test (and_selection s ss) h = and_from (spreads_from test s) (spreads_among test ss) (true-from test s h.0) (true-among test ss h.1)

  true-from : (test : List ℕ → Bool) (s : Selection) → EachFrom (λ name. test name ≡ true) s → spreads_from test s ≡ true
  true-from test (Field p alias name as' ds b) h = true-below test b h
  true-from test (Spread p name ds) h = h
  true-from test (Inline p c ds s) h = true-in test s h

  true-below : (test : List ℕ → Bool) (b : Below) → EachBelow (λ name. test name ≡ true) b → spreads_below test b ≡ true
  true-below test nothing_below h = refl
  true-below test (below s) h = true-in test s h

pub one-place : (n : ℕ) (name : List ℕ) (fs : List Fragment) → members.place_from n name fs ≡ place_from n (is_fragment name) fs
one-place n name [] = refl
one-place n name (f ∷ fs) = ap (λ (o : Option ℕ). if is_fragment name f then Some n else o) (one-place (n + 1) name fs)

pub there : {A : Type 0} (xs : List A) (i : ℕ) (x : A) → slice_get xs i ≡ Some x → i < length xs
there [] i x e = absurd (cc e)
there (y ∷ ys) zero x e = omega arith
there (y ∷ ys) (suc i) x e = let lt = there ys i x e in omega (arith, lt)

-- the values of `n` numbers from `m` on
listing : (ℕ → ℕ) → ℕ → ℕ → List ℕ
listing f m zero = []
listing f m (suc n) = f m ∷ listing f (m + 1) n

listed : (f : ℕ → ℕ) (m n i : ℕ) → i < n → slice_index_or (listing f m n) i 0 ≡ f (m + i)
unfolding listing
listed f m zero i lt = absurd (omega (arith, lt))
listed f m (suc n) zero lt = let e : m ≡ m + 0 = omega arith in ap f e
listed f m (suc n) (suc i) lt = let e : (m + 1) + i ≡ m + suc i = omega arith in listed f (m + 1) n i (omega (arith, lt)) ∙ ap f e

-- ---- levels are settled

module _ (defs : List Definition) (d : Document) (free : (k : ℕ) → k < length d.fragments → is_cyclic (graph_of (parts_of defs d)) k ≡ false) where
  abbrev graph : GraphOf
  graph = graph_of (parts_of defs d)

  pub graph-length : length (graph_of (parts_of defs d)).fragments ≡ length d.fragments
  graph-length = length-rows_from (length d.fragments) fragment_number (parts_of defs d).spreads 0 (length d.fragments)

  pub known : are_known (graph_of (parts_of defs d)) ≡ true
  known = graph-known (graph_of (parts_of defs d)).operations (graph_of (parts_of defs d)).fragments (length d.fragments) (length d.operations) (parts_of defs d).spreads refl refl

  pub spreads-there : (j k : ℕ) (f : Fragment) → j < length d.fragments → slice_get d.fragments j ≡ Some f
      → Has d.fragments j k (selections_in defs (owner.Fragment j) (inside_condition defs f.condition) f.selection_set) → spreads (graph_of (parts_of defs d)) (owner.Fragment j) k ≡ true
  spreads-there j k f lt here h =
      let all = has-right d.fragments j k (operation_selections defs 0 d.operations) (fragment_selections defs 0 d.fragments) (among-fragments d.fragments j defs k 0 d.fragments j f here (omega arith) h) in
      let e : 0 + j ≡ j = omega arith in
      ap (is_among k) (row-there (length d.fragments) fragment_number (parts_of defs d).spreads 0 (length d.fragments) j lt ∙ ap (targets_of (length d.fragments) fragment_number (parts_of defs d).spreads) e) ∙ all

  pub settled : (n j : ℕ) → j < length d.fragments → reached (graph_of (parts_of defs d)) j < n → levels_expanded n d.fragments j ≡ levels_expanded (suc n) d.fragments j
  settled zero j lt r = absurd (omega (arith, r))
  settled (suc n) j lt r = go (slice_get d.fragments j) refl (λ k l s. settled n k l (let less = reaches-less (graph_of (parts_of defs d)) j k known (rw graph-length l) (free k l) s in omega (arith, less, r)))
    where
      go : (o : Option Fragment) → slice_get d.fragments j ≡ o
          → ((k : ℕ) → k < length d.fragments → spreads (graph_of (parts_of defs d)) (owner.Fragment j) k ≡ true → levels_expanded n d.fragments k ≡ levels_expanded (suc n) d.fragments k)
          → option_map_or (λ (f : Fragment). levels_in (levels_named (levels_expanded n d.fragments) d.fragments) f.selection_set) o 0
          ≡ option_map_or (λ (f : Fragment). levels_in (levels_named (levels_expanded (suc n) d.fragments) d.fragments) f.selection_set) o 0
      go None e ih = refl
      go (Some f) e ih = same-in (levels_named (levels_expanded n d.fragments) d.fragments) (levels_named (levels_expanded (suc n) d.fragments) d.fragments) f.selection_set
          (map-in (Known d.fragments j (λ k. (l : k < length d.fragments) → levels_expanded n d.fragments k ≡ levels_expanded (suc n) d.fragments k)) (λ name. levels_named (levels_expanded n d.fragments) d.fragments name ≡ levels_named (levels_expanded (suc n) d.fragments) d.fragments name)
          by-name f.selection_set
          (each-in d.fragments j (λ k. (l : k < length d.fragments) → levels_expanded n d.fragments k ≡ levels_expanded (suc n) d.fragments k) defs (inside_condition defs f.condition) f.selection_set (λ k h l. ih k l (spreads-there j k f lt e h))))
        where
          by-name : (name : List ℕ) → Known d.fragments j (λ k. (l : k < length d.fragments) → levels_expanded n d.fragments k ≡ levels_expanded (suc n) d.fragments k) name → levels_named (levels_expanded n d.fragments) d.fragments name ≡ levels_named (levels_expanded (suc n) d.fragments) d.fragments name
          by-name name h = pick (fragment_place d.fragments name) refl
            where
              pick : (o : Option ℕ) → fragment_place d.fragments name ≡ o → option_map_or (levels_expanded n d.fragments) o 0 ≡ option_map_or (levels_expanded (suc n) d.fragments) o 0
              pick None i = refl
              pick (Some k) i = let l = place-below (is_fragment name) 0 d.fragments k i in h k i (omega (arith, l))

  -- ---- a greater bound

  few : (j : ℕ) → j < length d.fragments → reached (graph_of (parts_of defs d)) j < length d.fragments
  few j lt = let out = tally-out (length (graph_of (parts_of defs d)).fragments) j (λ k. reaches (graph_of (parts_of defs d)) (owner.Fragment j) k) (rw graph-length lt) (free j lt) in omega (arith, out, graph-length)

  beyond : (fs : List Fragment) (n j : ℕ) → length fs ≤ j → levels_expanded n fs j ≡ 0
  beyond fs zero j le = refl
  beyond fs (suc n) j le = go (slice_get fs j) refl
    where
      go : (o : Option Fragment) → slice_get fs j ≡ o → option_map_or (λ (f : Fragment). levels_in (levels_named (levels_expanded n fs) fs) f.selection_set) o 0 ≡ 0
      go None e = refl
      go (Some f) e = let lt = there fs j f e in absurd (omega (arith, lt, le))

  levels-more : (i j : ℕ) → j < length d.fragments → levels_expanded (length d.fragments + i) d.fragments j ≡ levels_expanded (length d.fragments) d.fragments j
  levels-more zero j lt = let e : length d.fragments + 0 ≡ length d.fragments = omega arith in ap (λ n. levels_expanded n d.fragments j) e
  levels-more (suc i) j lt =
      let e : length d.fragments + suc i ≡ suc (length d.fragments + i) = omega arith in
      let less = few j lt in
      ap (λ n. levels_expanded n d.fragments j) e ∙ (sym (settled (length d.fragments + i) j lt (omega (arith, less))) ∙ levels-more i j lt)

  pub levels-same : (k : ℕ) → length d.fragments ≤ k → (j : ℕ) → levels_expanded k d.fragments j ≡ levels_expanded (length d.fragments) d.fragments j
  levels-same k le j = go (nat_lt j (length d.fragments)) refl
    where
      go : (b : Bool) → nat_lt j (length d.fragments) ≡ b → levels_expanded k d.fragments j ≡ levels_expanded (length d.fragments) d.fragments j
      go true e =
          let lt : j < length d.fragments = grind arith in
          let same : k ≡ length d.fragments + (k - length d.fragments) = omega (arith, le) in
          ap (λ n. levels_expanded n d.fragments j) same ∙ levels-more (k - length d.fragments) j lt
      go false e = let out : length d.fragments ≤ j = grind arith in beyond d.fragments k j out ∙ sym (beyond d.fragments (length d.fragments) j out)

  -- ---- ranks

  -- says how many fragments each reaches
  pub ranks : List ℕ
  ranks = listing (reached (graph_of (parts_of defs d))) 0 (length d.fragments)

  rank-is : (i : ℕ) → i < length d.fragments → rank_of ranks i ≡ reached (graph_of (parts_of defs d)) i
  unfolding ranks
  rank-is i lt = let e : 0 + i ≡ i = omega arith in listed (reached (graph_of (parts_of defs d))) 0 (length d.fragments) i lt ∙ ap (reached (graph_of (parts_of defs d))) e

  lower : (i k : ℕ) → i < length d.fragments → k < length d.fragments → spreads (graph_of (parts_of defs d)) (owner.Fragment i) k ≡ true → nat_lt (rank_of ranks k) (rank_of ranks i) ≡ true
  lower i k lt l s =
      let less = reaches-less (graph_of (parts_of defs d)) i k known (rw graph-length l) (free k l) s in
      let one = rank-is k l in
      let two = rank-is i lt in
      lt-ltb (rank_of ranks k) (rank_of ranks i) (omega (arith, less, one, two))

  pub are-ranked : IsRanked ranks (members.place_in d.fragments) d.fragments
  are-ranked = record {
    below = λ i f here. let lt = there d.fragments i f here in let less = few i lt in let same = rank-is i lt in omega (arith, less, same);
    under = λ i f here.
        let lt = there d.fragments i f here in
        true-in (is_under ranks (members.place_in d.fragments) (rank_of ranks i)) f.selection_set
        (map-in (Known d.fragments i (λ k. spreads (graph_of (parts_of defs d)) (owner.Fragment i) k ≡ true)) (λ name. is_under ranks (members.place_in d.fragments) (rank_of ranks i) name ≡ true)
        (λ name h. by-name i lt name h) f.selection_set
        (each-in d.fragments i (λ k. spreads (graph_of (parts_of defs d)) (owner.Fragment i) k ≡ true) defs (inside_condition defs f.condition) f.selection_set (λ k h. spreads-there i k f lt here h)));
  }
    where
      by-name : (i : ℕ) → i < length d.fragments → (name : List ℕ) → Known d.fragments i (λ k. spreads (graph_of (parts_of defs d)) (owner.Fragment i) k ≡ true) name → is_under ranks (members.place_in d.fragments) (rank_of ranks i) name ≡ true
      by-name i lt name h = pick (members.place_in d.fragments name) refl
        where
          pick : (o : Option ℕ) → members.place_in d.fragments name ≡ o → option_map_or (λ k. nat_lt (rank_of ranks k) (rank_of ranks i)) o true ≡ true
          pick None e = refl
          pick (Some k) e =
              let at : fragment_place d.fragments name ≡ Some k = sym (one-place 0 name d.fragments) ∙ e in
              let l = place-below (is_fragment name) 0 d.fragments k at in
              lower i k lt (omega (arith, l)) (h k at)
