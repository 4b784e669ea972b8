-- Lemmas on which operations reach each fragment, found by following what fragments spread.
use Rattle.std.proofs.Common.{◌≡◌, ◌∙◌, sym, ap, refl, subst, ℕ, zero, suc, ◌+◌, ◌^◌, ◌<◌, ◌≤◌, Bool, true, false, ◌||◌, eqb, List, [], ◌∷◌, ◌++◌, length, get_or, set, replicate, arith, ⊎_elim}
use Rattle.std.specs.Prelude.{◌&&◌, nat_lt}
use Rattle.std.proofs.lemmas.Bool.{false≢true, eqb-true, eq-eqb, ne_eqb, cases_eq, or_left, or_right, or_cases, and_from, and_parts, cases_lt}
use Rattle.std.specs.Global.{Vec}
use Rattle.std.proofs.lemmas.List.{get_or-set_same, get_or-set_other, get_or_default, length-map, length-set}
use Rattle.std.proofs.lemmas.List.Folds.{list_any-append}
use Rattle.rules_parts.specs.declared.part.Owner.TheVariants as owner
use Rattle.rules_spreads.specs.declared.operation_set.OperationSet.{OperationSet}
use Rattle.rules_spreads.specs.declared.edges.Edge.{Edge}
use Rattle.rules_spreads.specs.Graphs.{GraphOf, row_at, row}
use Rattle.rules_spreads.specs.Reach.{is_among, spreads, reaches, are_known, Reaches, start, along}
use Rattle.rules_spreads.specs.Rows.{row_in, rows_in}
use Rattle.rules_spreads.specs.OperationSpans.{has, is_within, both, no_operations, set_at, is_edge, has_edge, AreEdges, AreBelow, AreSpreaders, AreReachers, room, Passes, AllPass, AreKept, AreFollowed}
use Rattle.rules_spreads.proofs.ReachLaws.{through_sound, reaches_complete, spreads-below}
use Rattle.rules_spreads.proofs.SpanLaws.{has-none, has-both, within-has, not-within-more}

-- two tests that are true together are one
pub same_tests : (a b : Bool) → (a ≡ true → b ≡ true) → (b ≡ true → a ≡ true) → a ≡ b
same_tests true b there back = sym (there refl)
same_tests false true there back = back refl
same_tests false false there back = refl

-- ---- sets that grow

-- a property of a set after one of the sets was put
pub set_at-put : (sets : List OperationSet) (x j : ℕ) (s : OperationSet) → x < length sets → (P : OperationSet → Type 0) → (x ≡ j → P s) → ((x ≡ j → ⊥) → P (set_at sets j)) → P (set_at (set sets x s) j)
set_at-put sets x j s within P same other = ⊎_elim
    (λ e. subst P (sym (ap (λ k. get_or (set sets x s) k no_operations) (sym e) ∙ get_or-set_same sets x s no_operations within)) (same e))
    (λ n. subst P (sym (get_or-set_other sets x j s no_operations (λ e. n (sym e)))) (other n))
    (cases_eq x j)

none_yet : (count j i : ℕ) → has (set_at (replicate count no_operations) j) i ≡ false
none_yet zero j i = has-none i
none_yet (suc count) zero i = has-none i
none_yet (suc count) (suc j) i = none_yet count j i

-- before the first operation of a span
pub spreaders_start : (g : GraphOf) (first count j i : ℕ) → has (set_at (replicate count no_operations) j) i ≡ (nat_lt i 0 && spreads g (owner.Operation (first + i)) j)
spreaders_start g first count j i = none_yet count j i ∙ sym (ap (λ b. b && spreads g (owner.Operation (first + i)) j) (never i)) where
  never : (n : ℕ) → nat_lt n 0 ≡ false
  never n = grind arith

pub spreaders_more : (g : GraphOf) (first n j i : ℕ) (old new : List OperationSet) (targets : List ℕ) → targets ≡ row g (owner.Operation (first + n))
    → has (set_at old j) i ≡ (nat_lt i n && spreads g (owner.Operation (first + i)) j)
    → has (set_at new j) i ≡ ((eqb i n && is_among j targets) || has (set_at old j) i)
    → has (set_at new j) i ≡ (nat_lt i (n + 1) && spreads g (owner.Operation (first + i)) j)
spreaders_more g first n j i old new targets is before more = more ∙ (ap (λ b. (eqb i n && is_among j targets) || b) before ∙ ⊎_elim here there (cases_eq i n)) where
  here : i ≡ n → ((eqb i n && is_among j targets) || (nat_lt i n && spreads g (owner.Operation (first + i)) j)) ≡ (nat_lt i (n + 1) && spreads g (owner.Operation (first + i)) j)
  here e =
      let self : nat_lt i (n + 1) ≡ true = grind arith in
      let not : nat_lt i n ≡ false = grind arith in
      let same : is_among j targets ≡ spreads g (owner.Operation (first + i)) j = ap (is_among j) is ∙ ap (λ k. spreads g (owner.Operation (first + k)) j) (sym e) in
      rw (self, not, eq-eqb i n e, same) (or-none (spreads g (owner.Operation (first + i)) j))
    where
      or-none : (b : Bool) → (b || false) ≡ b
      or-none true = refl
      or-none false = refl

  there : (i ≡ n → ⊥) → ((eqb i n && is_among j targets) || (nat_lt i n && spreads g (owner.Operation (first + i)) j)) ≡ (nat_lt i (n + 1) && spreads g (owner.Operation (first + i)) j)
  there not = let same : nat_lt i n ≡ nat_lt i (n + 1) = grind arith in rw (ne_eqb i n not) (ap (λ b. b && spreads g (owner.Operation (first + i)) j) same)

-- ---- following an edge

-- says what has been followed, and what came of it
pub record Follows (edges : List Edge) (n : ℕ) (old sets : List OperationSet) (has_grown : Bool) : Type 0 where
  pub len : length sets ≡ length old
  pub passes : (test : ℕ → ℕ → Bool) → Passes edges test → AllPass test old → AllPass test sets
  pub kept : AreKept old sets
  pub followed : has_grown ≡ false → AreFollowed edges n sets
  pub no_more : room sets ≤ room old
  pub less : has_grown ≡ true → room sets < room old

pub follows_none : (edges : List Edge) (sets : List OperationSet) → Follows edges 0 sets sets false
follows_none edges sets = record {
  len = refl;
  passes = λ test p all. all;
  kept = λ j i h. h;
  followed = λ e k d lt. absurd (omega arith);
  no_more = omega arith;
  less = λ e. absurd (false≢true e);
}

one_more : (edges : List Edge) (n : ℕ) (sets : List OperationSet) (e : Edge) → e ≡ get_or edges n e → n < length edges → AreFollowed edges n sets → is_within (set_at sets e.from) (set_at sets e.to) ≡ true → AreFollowed edges (n + 1) sets
one_more edges n sets e is within before here k d lt = ⊎_elim
    (λ same. let at : get_or edges k d ≡ e = ap (λ m. get_or edges m d) same ∙ (get_or_default edges n d e within ∙ sym is) in rw at here)
    (λ not. before k d (omega arith))
    (cases_eq k n)

-- an edge that leads to nothing more
pub follows_same : (edges : List Edge) (n : ℕ) (old sets : List OperationSet) (has_grown : Bool) (e : Edge) → e ≡ get_or edges n e → n < length edges
    → Follows edges n old sets has_grown → is_within (set_at sets e.from) (set_at sets e.to) ≡ true → Follows edges (n + 1) old sets has_grown
follows_same edges n old sets has_grown e is within before here = record {
  len = before.len;
  passes = before.passes;
  kept = before.kept;
  followed = λ still. one_more edges n sets e is within (before.followed still) here;
  no_more = before.no_more;
  less = before.less;
}

room_less : (sets : List OperationSet) (x : ℕ) (s : OperationSet) → x < length sets → (set_at sets x).bits < s.bits → (set_at sets x).bits < 2 ^ 64 → room (set sets x s) < room sets
room_less [] x s within less fits = absurd (omega arith)
room_less (t ∷ ts) zero s within less fits = omega (arith, less, fits)
room_less (t ∷ ts) (suc x) s within less fits = let rest = room_less ts x s (omega arith) less fits in omega (arith, rest)

-- an edge that leads to more
pub follows_more : (edges : List Edge) (n : ℕ) (old sets : List OperationSet) (has_grown : Bool) (e : Edge) (s : OperationSet) → e ≡ get_or edges n e → n < length edges → e.to < length sets
    → Follows edges n old sets has_grown → is_within (set_at sets e.from) (set_at sets e.to) ≡ false → (set_at sets e.to).bits < 2 ^ 64 → s ≡ both (set_at sets e.from) (set_at sets e.to)
    → (length (set sets e.to s) ≡ length sets) → Follows edges (n + 1) old (set sets e.to s) true
follows_more edges n old sets has_grown e s is within below before not fits made len = record {
  len = len ∙ before.len;
  passes = λ test p all j i. set_at-put sets e.to j s below (λ (t : OperationSet). has t i ≡ true → test j i ≡ true)
      (λ same h. ⊎_elim
      (λ from. let at : get_or edges n e ≡ e = sym is in
      subst (λ k. test k i ≡ true) same (let step = p n i e within in rw at at (step) (before.passes test p all e.from i from)))
      (λ to. subst (λ k. test k i ≡ true) same (before.passes test p all e.to i to))
      (or_cases (has (set_at sets e.from) i) (has (set_at sets e.to) i) (sym (ap (λ (t : OperationSet). has t i) made ∙ has-both (set_at sets e.from) (set_at sets e.to) i) ∙ h)))
      (λ other. before.passes test p all j i);
  kept = λ j i h. set_at-put sets e.to j s below (λ (t : OperationSet). has t i ≡ true)
      (λ same. ap (λ (t : OperationSet). has t i) made ∙ (has-both (set_at sets e.from) (set_at sets e.to) i ∙ or_right (has (set_at sets e.from) i) (has (set_at sets e.to) i) (ap (λ k. has (set_at sets k) i) same ∙ before.kept j i h)))
      (λ other. before.kept j i h);
  followed = λ still. absurd (false≢true (sym still));
  no_more = let less = smaller in let b = before.no_more in omega (arith, less, b);
  less = λ h. let less = smaller in let b = before.no_more in omega (arith, less, b);
} where
  smaller : room (set sets e.to s) < room sets
  smaller = room_less sets e.to s below (subst (λ (t : OperationSet). (set_at sets e.to).bits < t.bits) (sym made) (not-within-more (set_at sets e.from) (set_at sets e.to) not)) fits

-- ---- when nothing is left to follow

nothing-spread : (g : GraphOf) (f j : ℕ) → length g.fragments ≤ f → spreads g (owner.Fragment f) j ≡ false
nothing-spread g f j past = by g.fragments f past where
  by : (rows : List (List ℕ)) (f : ℕ) → length rows ≤ f → is_among j (row_at rows f) ≡ false
  by [] f past = refl
  by (r ∷ rows) zero past = absurd (omega arith)
  by (r ∷ rows) (suc f) past = by rows f (omega arith)

-- an edge of the list
record Found (edges : List Edge) (f j : ℕ) : Type 0 where
  pub k : ℕ
  pub e : Edge
  pub within : k < length edges
  pub from : (get_or edges k e).from ≡ f
  pub to : (get_or edges k e).to ≡ j

find_edge : (edges : List Edge) (f j : ℕ) → has_edge edges f j ≡ true → Found edges f j
find_edge [] f j h = absurd (false≢true h)
find_edge (e ∷ es) f j h = ⊎_elim
    (λ here. let p = and_parts (eqb e.from f) (eqb e.to j) here in record { k = 0; e = e; within = omega arith; from = eqb-true e.from f p.0; to = eqb-true e.to j p.1 })
    (λ there. let r = find_edge es f j there in record { k = suc r.k; e = r.e; within = let w = r.within in omega (arith, w); from = r.from; to = r.to })
    (or_cases (is_edge f j e) (has_edge es f j) h)

edge_there : (edges : List Edge) (k : ℕ) (e : Edge) → k < length edges → has_edge edges (get_or edges k e).from (get_or edges k e).to ≡ true
edge_there [] k e within = absurd (omega arith)
edge_there (x ∷ xs) zero e within = or_left (is_edge x.from x.to x) (has_edge xs x.from x.to) (and_from (eqb x.from x.from) (eqb x.to x.to) (eq-eqb x.from x.from refl) (eq-eqb x.to x.to refl))
edge_there (x ∷ xs) (suc k) e within = or_right (is_edge (get_or xs k e).from (get_or xs k e).to x) (has_edge xs (get_or xs k e).from (get_or xs k e).to) (edge_there xs k e (omega arith))

pub edges-below : (g : GraphOf) (edges : List Edge) → are_known g ≡ true → AreEdges g.fragments edges → AreBelow (length g.fragments) edges
edges-below g edges known are k e within =
    let here = sym (are (get_or edges k e).from (get_or edges k e).to) ∙ edge_there edges k e within in
    (from (get_or edges k e).from (get_or edges k e).to here, spreads-below g (owner.Fragment (get_or edges k e).from) (get_or edges k e).to known here) where
      from : (f j : ℕ) → spreads g (owner.Fragment f) j ≡ true → f < length g.fragments
      from f j h = ⊎_elim (λ lt. lt) (λ past. absurd (false≢true (sym (nothing-spread g f j past) ∙ h))) (cases_lt f (length g.fragments))

module _ (g : GraphOf) (edges : List Edge) (known : are_known g ≡ true) (are : AreEdges g.fragments edges) (first count : ℕ) where
  -- the operation of the number i in the span reaches the fragment j
  abbrev pub reached : ℕ → ℕ → Bool
  reached j i = nat_lt i count && reaches g (owner.Operation (first + i)) j

  pub reached-passes : Passes edges reached
  reached-passes k i e within h =
      let p = and_parts (nat_lt i count) (reaches g (owner.Operation (first + i)) (get_or edges k e).from) h in
      let spread = sym (are (get_or edges k e).from (get_or edges k e).to) ∙ edge_there edges k e within in
      and_from (nat_lt i count) (reaches g (owner.Operation (first + i)) (get_or edges k e).to) p.0
      (reaches_complete g (owner.Operation (first + i)) (get_or edges k e).to known (along (through_sound (length g.fragments) g (owner.Operation (first + i)) (get_or edges k e).from p.1) spread))

  pub spreaders-pass : (sets : List OperationSet) → AreSpreaders g first count sets → AllPass reached sets
  spreaders-pass sets spread j i h =
      let p = and_parts (nat_lt i count) (spreads g (owner.Operation (first + i)) j) (sym (spread j i) ∙ h) in
      and_from (nat_lt i count) (reaches g (owner.Operation (first + i)) j) p.0 (reaches_complete g (owner.Operation (first + i)) j known (start p.1))

  all_reached : (sets : List OperationSet) → ((j i : ℕ) → (nat_lt i count && spreads g (owner.Operation (first + i)) j) ≡ true → has (set_at sets j) i ≡ true) → AreFollowed edges (length edges) sets
      → (i j : ℕ) → nat_lt i count ≡ true → Reaches g (owner.Operation (first + i)) j → has (set_at sets j) i ≡ true
  all_reached sets begun followed i j below (start h) = begun j i (and_from (nat_lt i count) (spreads g (owner.Operation (first + i)) j) below h)
  all_reached sets begun followed i j below (along {k = m} r h) =
      let before = all_reached sets begun followed i m below r in
      let f = find_edge edges m j (are m j ∙ h) in
      let here = followed f.k f.e f.within in
      let led : is_within (set_at sets m) (set_at sets j) ≡ true = rw (f.from, f.to) at here in
      within-has (set_at sets m) (set_at sets j) i led before

  pub found : (sets : List OperationSet) → AllPass reached sets → ((j i : ℕ) → (nat_lt i count && spreads g (owner.Operation (first + i)) j) ≡ true → has (set_at sets j) i ≡ true) → AreFollowed edges (length edges) sets → AreReachers g first count sets
  found sets pass begun followed j i = same_tests (has (set_at sets j) i) (nat_lt i count && reaches g (owner.Operation (first + i)) j) (pass j i)
      (λ h. let p = and_parts (nat_lt i count) (reaches g (owner.Operation (first + i)) j) h in all_reached sets begun followed i j p.0 (through_sound (length g.fragments) g (owner.Operation (first + i)) j p.1))

-- ---- the list of edges

pub edge_step : (edges : List Edge) (from to f j : ℕ) (rest : List ℕ) → (has_edge (edges ++ record { from = from; to = to } ∷ []) f j || (eqb from f && is_among j rest)) ≡ (has_edge edges f j || (eqb from f && is_among j (to ∷ rest)))
edge_step edges from to f j rest = ap (λ b. b || (eqb from f && is_among j rest)) (list_any-append (is_edge f j) edges (record { from = from; to = to } ∷ [])) ∙ by (has_edge edges f j) (eqb from f) (eqb to j) (is_among j rest) where
  by : (c a b r : Bool) → ((c || ((a && b) || false)) || (a && r)) ≡ (c || (a && (b || r)))
  by true a b r = refl
  by false false b r = refl
  by false true true r = refl
  by false true false r = refl

-- says what the list has so far: edges alone, and all those of the fragments that were taken
pub record IsEdgesOf (rows : List (Vec ℕ)) (edges : List Edge) (taken : List Bool) : Type 0 where
  pub sound : (f j : ℕ) → has_edge edges f j ≡ true → is_among j (row_at (rows_in rows) f) ≡ true
  pub all : (f j : ℕ) → get_or taken f false ≡ true → is_among j (row_at (rows_in rows) f) ≡ true → has_edge edges f j ≡ true
  pub len : length taken ≡ length rows

module _ (rows : List (Vec ℕ)) (old new : List Edge) (from : ℕ) (more : (f j : ℕ) → has_edge new f j ≡ (has_edge old f j || (eqb from f && is_among j (row_at (rows_in rows) from)))) where
  pub edges_sound : ((f j : ℕ) → has_edge old f j ≡ true → is_among j (row_at (rows_in rows) f) ≡ true) → (f j : ℕ) → has_edge new f j ≡ true → is_among j (row_at (rows_in rows) f) ≡ true
  edges_sound before f j h = ⊎_elim (before f j)
      (λ here. let p = and_parts (eqb from f) (is_among j (row_at (rows_in rows) from)) here in ap (λ k. is_among j (row_at (rows_in rows) k)) (sym (eqb-true from f p.0)) ∙ p.1)
      (or_cases (has_edge old f j) (eqb from f && is_among j (row_at (rows_in rows) from)) (sym (more f j) ∙ h))

  pub edges_kept : (f j : ℕ) → has_edge old f j ≡ true → has_edge new f j ≡ true
  edges_kept f j h = more f j ∙ or_left (has_edge old f j) (eqb from f && is_among j (row_at (rows_in rows) from)) h

  pub edges_new : (f j : ℕ) → from ≡ f → is_among j (row_at (rows_in rows) f) ≡ true → has_edge new f j ≡ true
  edges_new f j e h = more f j ∙ or_right (has_edge old f j) (eqb from f && is_among j (row_at (rows_in rows) from)) (and_from (eqb from f) (is_among j (row_at (rows_in rows) from)) (eq-eqb from f e) (ap (λ k. is_among j (row_at (rows_in rows) k)) e ∙ h))

  pub taken_more : (taken : List Bool) → from < length taken → IsEdgesOf rows old taken → IsEdgesOf rows new (set taken from true)
  taken_more taken within before = record {
    sound = edges_sound before.sound;
    all = λ f j is h. ⊎_elim (λ e. edges_new f j e h) (λ n. edges_kept f j (before.all f j (sym (get_or-set_other taken from f true false (λ e. n (sym e))) ∙ is) h)) (cases_eq from f);
    len = length-same ∙ before.len;
  } where
    length-same : length (set taken from true) ≡ length taken
    length-same = length-set taken from true

-- each fragment was taken, or comes before one
pub edges_all : (rows : List (Vec ℕ)) (edges : List Edge) → ((f j : ℕ) → has_edge edges f j ≡ true → is_among j (row_at (rows_in rows) f) ≡ true) → ((f j : ℕ) → f < length rows → is_among j (row_at (rows_in rows) f) ≡ true → has_edge edges f j ≡ true) → AreEdges (rows_in rows) edges
edges_all rows edges sound all f j = same_tests (has_edge edges f j) (is_among j (row_at (rows_in rows) f)) (sound f j)
    (λ h. ⊎_elim (λ lt. all f j lt h) (λ past. absurd (false≢true (sym (nothing-spread (record { operations = []; fragments = rows_in rows }) f j (omega (arith, past, length-map rows row_in))) ∙ h))) (cases_lt f (length rows)))
