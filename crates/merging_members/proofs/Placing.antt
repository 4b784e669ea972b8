-- Fields are given places, each after the members of its own selection set.
use Rattle.std.proofs.Common.{◌≡◌, ◌∙◌, sym, ap, subst, refl, ℕ, zero, suc, ◌+◌, ◌≤◌, ◌<◌, ◌==◌, ◌⊎◌, inl, inr, Bool, true, false, List, [], ◌∷◌, ◌++◌, length, map, set, get_or, Option, Some, None, arith}
use Rattle.std.specs.Prelude.{slice_get, nat_lt}
use Rattle.std.specs.Option.{option_map, option_map_or}
use Rattle.std.proofs.lemmas.Bool.{or_cases, cases_lt, both_ways, eqb-true, and_parts, lt-ltb, ltb-true}
use Rattle.std.proofs.lemmas.List.{get_or-set_other, get_or-set_same, length-set, length-map}
use Rattle.std.proofs.lemmas.Option.{slice_get-map, slice_get_read}
use Rattle.gq_parser.specs.Tree.{Field, Spread, Inline, Below, nothing_below, below, SelectionSet, set_at, Selection, Selections, no_selection, and_selection, Operation, Fragment, Document, fragment_of}
use Rattle.gq_parser.specs.declared.tree.Fragment as rust-fragment
use Rattle.merging_pairs.specs.Numbered.{is_in}
use Rattle.merging_pairs.proofs.ReachLaws.{in-append}
use Rattle.merging_members.specs.Fragments.{place_in}
use Rattle.merging_members.specs.Members.{count_in, count_among, count_from, count_below, count_operations, count_fragments, starts_from, members_in, members_among, members_from, members_below, members_of_fragment}
use Rattle.merging_members.specs.Placed.{HasPlace, IsOwn, ArePlaced, AreReady, Each, AreDone, IsNumbering}
use Rattle.merging_members.specs.Ranked.{spreads_in, spreads_among, spreads_from, spreads_below, is_among}
use Rattle.merging_members.specs.SetMembers.{to, IsFixed}
use Rattle.merging_members.specs.Written.{written_in, written_among, written_from, written_below, written_operations, written_fragments, own_below}
use Rattle.merging_members.proofs.Adding.{in-count, from-count, operations-count}
use Rattle.merging_members.proofs.Learning.{named-at, fragment-there, entered-none}
use Rattle.merging_members.proofs.Places.{in-either}
use Rattle.merging_members.proofs.Tallies.{tally, tally-less, tally-most}
use Rattle.merging_members.proofs.Spreading.{all-in}

-- ---- what holds of each member

pub each-none : (P : ℕ → Type 0) → Each P []
each-none P c e = absurd (both_ways false refl e)

each-append : (P : ℕ → Type 0) (ms ns : List ℕ) → Each P ms → Each P ns → Each P (ms ++ ns)
each-append P ms ns f g c e = elim (or_cases (is_in ms c) (is_in ns c) (sym (in-append ms ns c) ∙ e)) [ inl h ↦ f c h | inr h ↦ g c h ]

each-one : (P : ℕ → Type 0) (n : ℕ) → P n → Each P (n ∷ [])
each-one P n p c e = elim (or_cases (c == n) false e) [ inl h ↦ subst P (sym (eqb-true c n h)) p | inr h ↦ absurd (both_ways false refl h) ]

module _ (P : ℕ → Type 0) (spread : List ℕ → List ℕ) (test : List ℕ → Bool) (spreads : (name : List ℕ) → test name ≡ true → Each P (spread name)) where
  mutual
    pub in-each : (n : ℕ) (s : SelectionSet) → spreads_in test s ≡ true → ((c : ℕ) → n ≤ c → c < n + count_in s → P c) → Each P (members_in spread n s)
    in-each n (set_at p ss) e h = among-each n ss e h

    among-each : (n : ℕ) (ss : Selections) → spreads_among test ss ≡ true → ((c : ℕ) → n ≤ c → c < n + count_among ss → P c) → Each P (members_among spread n ss)
    among-each n no_selection e h = each-none P
    among-each n (and_selection s ss) e h =
        let both = and_parts (spreads_from test s) (spreads_among test ss) e in
        each-append P (members_from spread n s) (members_among spread (n + count_from s) ss)
        (from-each n s both.0 (λ c le lt. h c le (omega (arith, lt))))
        (among-each (n + count_from s) ss both.1 (λ c le lt. h c (omega (arith, le)) (omega (arith, lt))))

    from-each : (n : ℕ) (s : Selection) → spreads_from test s ≡ true → ((c : ℕ) → n ≤ c → c < n + count_from s → P c) → Each P (members_from spread n s)
    from-each n (Field p alias name as' ds b) e h = each-one P n (h n (omega arith) (omega arith))
    from-each n (Spread p name ds) e h = spreads name e
    from-each n (Inline p c ds s) e h = in-each n s e h

  below-each : (n : ℕ) (b : Below) → spreads_below test b ≡ true → ((c : ℕ) → n ≤ c → c < n + count_below b → P c) → Each P (members_below spread n b)
  below-each n nothing_below e h = each-none P
  below-each n (below s) e h = in-each n s e h

  -- the members of the own set of a field in a set, where P holds of the fields after it in the set
  mutual
    pub in-own : (n k a : ℕ) (s : SelectionSet) (f : Selection) → slice_get (written_in s) a ≡ Some f → k ≡ n + a → spreads_in test s ≡ true → ((c : ℕ) → k < c → c < n + count_in s → P c) → Each P (members_below spread (k + 1) (own_below f))
    in-own n k a (set_at p ss) f here at e h = among-own n k a ss f here at e h

    among-own : (n k a : ℕ) (ss : Selections) (f : Selection) → slice_get (written_among ss) a ≡ Some f → k ≡ n + a → spreads_among test ss ≡ true → ((c : ℕ) → k < c → c < n + count_among ss → P c) → Each P (members_below spread (k + 1) (own_below f))
    among-own n k a no_selection f here at e h = cc
    among-own n k a (and_selection s ss) f here at e h =
        let both = and_parts (spreads_from test s) (spreads_among test ss) e in
        let many = from-count s in
        elim (in-either (written_from s) (written_among ss) a f here) [
          | inl i ↦ from-own n k a s f i at both.0 (λ c le lt. h c le (omega (arith, lt)))
          | inr r ↦ let far = r.1 in among-own (n + count_from s) k r.0 ss f r.2 (omega (arith, at, far, many)) both.1 (λ c le lt. h c le (omega (arith, lt)))
        ]

    from-own : (n k a : ℕ) (s : Selection) (f : Selection) → slice_get (written_from s) a ≡ Some f → k ≡ n + a → spreads_from test s ≡ true → ((c : ℕ) → k < c → c < n + count_from s → P c) → Each P (members_below spread (k + 1) (own_below f))
    from-own n k zero (Field p alias name as' ds b) f here at e h =
        let same : Field p alias name as' ds b ≡ f = cc in
        let rest : Each P (members_below spread (k + 1) b) = below-each (k + 1) b e (λ c le lt. h c (omega (arith, le)) (omega (arith, lt, at))) in
        subst (λ (g : Selection). Each P (members_below spread (k + 1) (own_below g))) same rest
    from-own n k (suc a) (Field p alias name as' ds b) f here at e h = below-own (n + 1) k a b f here (omega (arith, at)) e (λ c le lt. h c le (omega (arith, lt)))
    from-own n k a (Spread p name ds) f here at e h = cc
    from-own n k a (Inline p c ds s) f here at e h = in-own n k a s f here at e h

    below-own : (n k a : ℕ) (b : Below) (f : Selection) → slice_get (written_below b) a ≡ Some f → k ≡ n + a → spreads_below test b ≡ true → ((c : ℕ) → k < c → c < n + count_below b → P c) → Each P (members_below spread (k + 1) (own_below f))
    below-own n k a nothing_below f here at e h = cc
    below-own n k a (below s) f here at e h = in-own n k a s f here at e h

-- shows the same of all operations, where P holds of the members of all fragments
pub operations-own : (P : ℕ → Type 0) (spread : List ℕ → List ℕ) → ((name : List ℕ) → Each P (spread name)) → (n k a : ℕ) (os : List Operation) (f : Selection) → slice_get (written_operations os) a ≡ Some f → k ≡ n + a
    → ((c : ℕ) → k < c → c < n + count_operations os → P c) → Each P (members_below spread (k + 1) (own_below f))
operations-own P spread spreads n k a [] f here at h = cc
operations-own P spread spreads n k a (o ∷ os) f here at h =
    let many = in-count o.selection_set in
    elim (in-either (written_in o.selection_set) (written_operations os) a f here) [
      | inl i ↦ in-own P spread (λ _. true) (λ name e. spreads name) n k a o.selection_set f i at (all-in (λ _. true) (λ name. refl) o.selection_set) (λ c le lt. h c le (omega (arith, lt)))
      | inr r ↦ let far = r.1 in operations-own P spread spreads (n + count_in o.selection_set) k r.0 os f r.2 (omega (arith, at, far, many)) (λ c le lt. h c le (omega (arith, lt)))
    ]

-- ---- the fields of fragments

pub got-below : {A : Type 0} (ys : List A) (i : ℕ) (y : A) → slice_get ys i ≡ Some y → i < length ys
got-below [] i y e = cc
got-below (z ∷ ys) zero y e = omega arith
got-below (z ∷ ys) (suc i) y e = let rest = got-below ys i y e in omega (arith, rest)

start-from : (base : ℕ) (fs : List Fragment) (i s : ℕ) → slice_get (starts_from base fs) i ≡ Some s → base ≤ s
start-from base [] i s e = cc
start-from base (f ∷ fs) zero s e = let same : base ≡ s = cc in omega (arith, same)
start-from base (f ∷ fs) (suc i) s e = let le = start-from (base + count_in f.selection_set) fs i s e in omega (arith, le)

-- a field of this fragment
pub in-fragment : (base : ℕ) (fs : List Fragment) (i s : ℕ) (f : Fragment) → slice_get fs i ≡ Some f → slice_get (starts_from base fs) i ≡ Some s → (k a : ℕ) (g : Selection) → slice_get (written_fragments fs) a ≡ Some g → k ≡ base + a
    → s ≤ k → k < s + count_in f.selection_set → (r : ℕ) × (slice_get (written_in f.selection_set) r ≡ Some g) × (k ≡ s + r)
in-fragment base [] i s f here start k a g e at le lt = cc
in-fragment base (h ∷ fs) zero s f here start k a g e at le lt =
    let same : h ≡ f = cc in
    let from : base ≡ s = cc in
    let many = in-count h.selection_set in
    let count : count_in h.selection_set ≡ count_in f.selection_set = ap (λ (x : Fragment). count_in x.selection_set) same in
    elim (in-either (written_in h.selection_set) (written_fragments fs) a g e) [
      | inl i ↦ (a, subst (λ (x : Fragment). slice_get (written_in x.selection_set) a ≡ Some g) same i, omega (arith, at, from))
      | inr r ↦ let far = r.1 in absurd (omega (arith, at, far, from, lt, many, count))
    ]
in-fragment base (h ∷ fs) (suc i) s f here start k a g e at le lt =
    let many = in-count h.selection_set in
    let least = start-from (base + count_in h.selection_set) fs i s start in
    elim (in-either (written_in h.selection_set) (written_fragments fs) a g e) [
      | inl j ↦ let inside = got-below (written_in h.selection_set) a g j in absurd (omega (arith, at, le, least, inside, many))
      | inr r ↦ let far = r.1 in in-fragment (base + count_in h.selection_set) fs i s f here start k r.0 g r.2 (omega (arith, at, far, many)) le lt
    ]

-- the fragment that a field stands in
pub fragment-of : (base : ℕ) (fs : List Fragment) (k : ℕ) → base ≤ k → k < base + count_fragments fs
    → (i : ℕ) × (f : Fragment) × (s : ℕ) × (slice_get fs i ≡ Some f) × (slice_get (starts_from base fs) i ≡ Some s) × (s ≤ k) × (k < s + count_in f.selection_set)
fragment-of base [] k le lt = absurd (omega (arith, le, lt))
fragment-of base (f ∷ fs) k le lt = elim (cases_lt k (base + count_in f.selection_set)) [
  | inl h ↦ (0, f, base, refl, refl, le, h)
  | inr h ↦ let r = fragment-of (base + count_in f.selection_set) fs k h (omega (arith, lt)) in (suc r.0, r.1, r.2, r.3, r.4, r.5, r.6)
]

-- ---- one more field

pub last-of : (xs : List ℕ) (x : ℕ) → slice_get (xs ++ x ∷ []) (length xs) ≡ Some x
last-of [] x = refl
last-of (y ∷ xs) x = last-of xs x

get-left : {A : Type 0} (xs ys : List A) (i : ℕ) (x : A) → slice_get xs i ≡ Some x → slice_get (xs ++ ys) i ≡ Some x
get-left [] ys i x e = cc
get-left (z ∷ xs) ys zero x e = e
get-left (z ∷ xs) ys (suc i) x e = get-left xs ys i x e

alone : (i x y : ℕ) → slice_get (x ∷ []) i ≡ Some y → (i ≡ 0) × (x ≡ y)
alone zero x y e = (refl, cc)
alone (suc i) x y e = cc

module _ (order numbers : List ℕ) (x : ℕ) (lt : x < length numbers) (free : HasPlace order numbers x → ⊥) where
  abbrev pub grown : List ℕ
  grown = order ++ x ∷ []

  abbrev pub given : List ℕ
  given = set numbers x (length order)

  other : (a : ℕ) → HasPlace order numbers a → to given a ≡ to numbers a
  other a h = get_or-set_other numbers x a (length order) 0 (λ (same : a ≡ x). free (subst (λ (y : ℕ). HasPlace order numbers y) same h))

  pub kept : (a : ℕ) → HasPlace order numbers a → HasPlace grown given a
  kept a h = ap (slice_get grown) (other a h) ∙ get-left order (x ∷ []) (to numbers a) a h

  pub own : HasPlace grown given x
  own = ap (slice_get grown) (get_or-set_same numbers x (length order) 0 lt) ∙ last-of order x

  pub placed-more : (d : Document) → ArePlaced d order numbers → ((c : ℕ) → IsOwn d x c → HasPlace order numbers c) → ArePlaced d grown given
  placed-more d p ready = record {
    back = λ k a e. elim (in-either order (x ∷ []) k a e) [
      | inl h ↦ let r = p.back k a h in let there = r.0 in let many = length-set numbers x (length order) in (omega (arith, there, many), other a (ap (slice_get order) r.1 ∙ h) ∙ r.1)
      | inr r ↦
          let at = r.1 in
          let one = alone r.0 x a r.2 in
          let first = one.0 in
          let same = one.1 in
          let many = length-set numbers x (length order) in
          let place : to given a ≡ length order = ap (to given) (sym same) ∙ get_or-set_same numbers x (length order) 0 lt in
          (omega (arith, same, lt, many), omega (arith, place, at, first))
    ];
    after = λ k a c e inside. elim (in-either order (x ∷ []) k a e) [
      | inl h ↦ let q = p.after k a c h inside in let before = q.1 in let same = other c q.0 in (kept c q.0, omega (arith, before, same))
      | inr r ↦
          let at = r.1 in
          let one = alone r.0 x a r.2 in
          let has = ready c (subst (λ (y : ℕ). IsOwn d y c) (sym one.1) inside) in
          let before = got-below order (to numbers c) c has in
          let same = other c has in
          (kept c has, omega (arith, at, before, same))
    ];
  }

-- ---- as many places as fields

under : List ℕ → ℕ → ℕ → Bool
under ys bound a = option_map_or (λ k. nat_lt k bound) (slice_get ys a) false

under-more : (ys : List ℕ) (bound a : ℕ) → under ys bound a ≡ true → under ys (suc bound) a ≡ true
unfolding under
under-more ys bound a e = go (slice_get ys a) e
  where
    go : (o : Option ℕ) → option_map_or (λ k. nat_lt k bound) o false ≡ true → option_map_or (λ k. nat_lt k (suc bound)) o false ≡ true
    go None h = h
    go (Some k) h = let lt = ltb-true k bound h in lt-ltb k (suc bound) (omega (arith, lt))

pub there : {A : Type 0} (xs : List A) (a : ℕ) → a < length xs → (x : A) × (slice_get xs a ≡ Some x)
there [] a h = absurd (omega (arith, h))
there (x ∷ xs) zero h = (x, refl)
there (x ∷ xs) (suc a) h = there xs a (omega (arith, h))

-- a list that tells the places of another is as long as that
module _ (xs ys : List ℕ) (tells : (k a : ℕ) → slice_get xs k ≡ Some a → slice_get ys a ≡ Some k) where
  at_least : (bound : ℕ) → bound ≤ length xs → bound ≤ tally (length ys) (under ys bound)
  unfolding under
  at_least zero le = omega arith
  at_least (suc bound) le =
      let here = there xs bound (omega (arith, le)) in
      let place = tells bound here.0 here.1 in
      let inside = got-below ys here.0 bound place in
      let rest = at_least bound (omega (arith, le)) in
      let not : nat_lt bound bound ≡ false = grind arith in
      let out : under ys bound here.0 ≡ false = ap (λ (o : Option ℕ). option_map_or (λ k. nat_lt k bound) o false) place ∙ not in
      let into : under ys (suc bound) here.0 ≡ true = ap (λ (o : Option ℕ). option_map_or (λ k. nat_lt k (suc bound)) o false) place ∙ lt-ltb bound (suc bound) (omega arith) in
      let less = tally-less (length ys) here.0 (under ys bound) (under ys (suc bound)) (under-more ys bound) inside out into in
      omega (arith, rest, less)

  pub no-longer : length xs ≤ length ys
  no-longer = let few = at_least (length xs) (omega arith) in let most = tally-most (length ys) (under ys (length xs)) in omega (arith, few, most)

index-of : (ys : List ℕ) (i y : ℕ) → slice_get ys i ≡ Some y → to ys i ≡ y
index-of [] i y e = cc
index-of (z ∷ ys) zero y e = cc
index-of (z ∷ ys) (suc i) y e = index-of ys i y e

at-index : (ys : List ℕ) (i : ℕ) → i < length ys → slice_get ys i ≡ Some (to ys i)
at-index [] i lt = absurd (omega (arith, lt))
at-index (y ∷ ys) zero lt = refl
at-index (y ∷ ys) (suc i) lt = at-index ys i (omega (arith, lt))

-- ---- fragments one after another

pub none-done : (d : Document) (numbers : List ℕ) → AreDone d [] [] numbers
none-done d numbers = record {
  placed = record { back = λ k a e. cc; after = λ k a c e inside. cc };
  members = λ name j at e. absurd (both_ways false refl e);
  fields = λ j s f e here start a le lt. absurd (both_ways false refl e);
}

module _ (d : Document) where
  spread-each : (P : ℕ → Type 0) (done : List ℕ) → ((name : List ℕ) (j : ℕ) → place_in d.fragments name ≡ Some j → is_in done j ≡ true → Each P (members_of_fragment d name))
      → (name : List ℕ) → is_among done (place_in d.fragments) name ≡ true → Each P (members_of_fragment d name)
  spread-each P done members name e = go (place_in d.fragments name) refl
    where
      go : (o : Option ℕ) → place_in d.fragments name ≡ o → Each P (members_of_fragment d name)
      go None at = subst (λ (ms : List ℕ). Each P ms) (sym (entered-none [] [] d (length d.fragments) name at)) (each-none P)
      go (Some j) at = members name j at (ap (λ (o : Option ℕ). option_map_or (is_in done) o true) (sym at) ∙ e)

  -- says what holds of the fields after one of a fragment's, and of the members of what the fragment spreads, holds of those of the field's
  -- own set
  pub own-in-fragment : (P : ℕ → Type 0) (test : List ℕ → Bool) → ((name : List ℕ) → test name ≡ true → Each P (members_of_fragment d name)) → (j s : ℕ) (f : Fragment) → slice_get d.fragments j ≡ Some f
      → slice_get (starts_from (count_operations d.operations) d.fragments) j ≡ Some s → spreads_in test f.selection_set ≡ true → (a c : ℕ) → s ≤ a → a < s + count_in f.selection_set → IsOwn d a c
      → ((x : ℕ) → a < x → x < s + count_in f.selection_set → P x) → P c
  own-in-fragment P test spreads j s f here start e a c le lt inside after =
      let first = operations-count d.operations in
      let from = start-from (count_operations d.operations) d.fragments j s start in
      elim (in-either (written_operations d.operations) (written_fragments d.fragments) a inside.field inside.here) [
        | inl h ↦ let before = got-below (written_operations d.operations) a inside.field h in absurd (omega (arith, first, from, before, le))
        | inr r ↦
            let far = r.1 in
            let stands = in-fragment (count_operations d.operations) d.fragments j s f here start a r.0 inside.field r.2 (omega (arith, far, first)) le lt in
            in-own P (members_of_fragment d) test spreads s a stands.0 f.selection_set inside.field stands.1 stands.2 e after c inside.member
      ]

  -- a property of all fields behind a field of operations holds of those of its own set
  pub own-in-operations : (P : ℕ → Type 0) → ((name : List ℕ) → Each P (members_of_fragment d name)) → (a c : ℕ) → a < count_operations d.operations → IsOwn d a c
      → ((x : ℕ) → a < x → x < count_operations d.operations → P x) → P c
  own-in-operations P spreads a c lt inside after =
      let first = operations-count d.operations in
      elim (in-either (written_operations d.operations) (written_fragments d.fragments) a inside.field inside.here) [
        | inl h ↦ operations-own P (members_of_fragment d) spreads 0 a a d.operations inside.field h (omega arith) (λ x l u. after x l (omega (arith, u))) c inside.member
        | inr r ↦ let far = r.1 in absurd (omega (arith, far, first, lt))
      ]

  -- a fragment's fields may be given places after those of the fragments that it spreads
  pub fragment-ready : (done order numbers : List ℕ) (j s : ℕ) (f : Fragment) → AreDone d done order numbers → slice_get d.fragments j ≡ Some f → slice_get (starts_from (count_operations d.operations) d.fragments) j ≡ Some s
      → spreads_in (is_among done (place_in d.fragments)) f.selection_set ≡ true → AreReady d order numbers s (s + count_in f.selection_set)
  fragment-ready done order numbers j s f p here start e a c le lt inside =
      let P : ℕ → Type 0 = λ x. ((a < x) × (x < s + count_in f.selection_set)) ⊎ HasPlace order numbers x in
      let spreads : (name : List ℕ) → is_among done (place_in d.fragments) name ≡ true → Each P (members_of_fragment d name) =
      λ name among x m. inr (spread-each (HasPlace order numbers) done p.members name among x m) in
      own-in-fragment P (is_among done (place_in d.fragments)) spreads j s f here start e a c le lt inside (λ x l u. inl (l, u))

  -- a fragment more
  pub fragment-done : (done order numbers grown given : List ℕ) (j s : ℕ) (f : Fragment) → IsFixed (members_of_fragment d) d → AreDone d done order numbers → slice_get d.fragments j ≡ Some f
      → slice_get (starts_from (count_operations d.operations) d.fragments) j ≡ Some s → spreads_in (is_among done (place_in d.fragments)) f.selection_set ≡ true
      → ((a : ℕ) → HasPlace order numbers a → HasPlace grown given a) → ((a : ℕ) → s ≤ a → a < s + count_in f.selection_set → HasPlace grown given a) → ArePlaced d grown given
      → AreDone d (done ++ j ∷ []) grown given
  fragment-done done order numbers grown given j s f fixed p here start e kept own placed = record {
    placed = placed;
    members = λ name i at m. elim (either i m) [
      | inl h ↦ λ c k. kept c (p.members name i at h c k)
      | inr same ↦
          let spreads : (q : List ℕ) → is_among done (place_in d.fragments) q ≡ true → Each (HasPlace grown given) (members_of_fragment d q) =
          λ q among c k. kept c (spread-each (HasPlace order numbers) done p.members q among c k) in
          let all = in-each (HasPlace grown given) (members_of_fragment d) (is_among done (place_in d.fragments)) spreads s f.selection_set e own in
          let is = fixed name ∙ named-at (members_of_fragment d) name 0 (count_operations d.operations) d.fragments j j s f (at ∙ ap Some same) (omega arith) here start in
          subst (λ (ms : List ℕ). Each (HasPlace grown given) ms) (sym is) all
    ];
    fields = λ i t g m there begin a le lt. elim (either i m) [
      | inl h ↦ kept a (p.fields i t g h there begin a le lt)
      | inr same ↦
          let one : Some f ≡ Some g = sym here ∙ (ap (slice_get d.fragments) (sym same) ∙ there) in
          let two : Some s ≡ Some t = sym start ∙ (ap (slice_get (starts_from (count_operations d.operations) d.fragments)) (sym same) ∙ begin) in
          let fragment : f ≡ g = cc in
          let from : s ≡ t = cc in
          let count : count_in f.selection_set ≡ count_in g.selection_set = ap (λ (x : Fragment). count_in x.selection_set) fragment in
          own a (omega (arith, le, from)) (omega (arith, lt, from, count))
    ];
  }
    where
      either : (i : ℕ) → is_in (done ++ j ∷ []) i ≡ true → (is_in done i ≡ true) ⊎ (i ≡ j)
      either i m = elim (or_cases (is_in done i) (is_in (j ∷ []) i) (sym (in-append done (j ∷ []) i) ∙ m)) [
        | inl h ↦ inl h
        | inr h ↦ elim (or_cases (i == j) false h) [ inl same ↦ inr (eqb-true i j same) | inr out ↦ absurd (both_ways false refl out) ]
      ]

  -- fields of operations may be given places once all fragments are done
  pub operations-ready : (done order numbers : List ℕ) → AreDone d done order numbers → ((j : ℕ) → j < length d.fragments → is_in done j ≡ true) → AreReady d order numbers 0 (count_operations d.operations)
  operations-ready done order numbers p all a c le lt inside =
      let P : ℕ → Type 0 = λ x. ((a < x) × (x < count_operations d.operations)) ⊎ HasPlace order numbers x in
      let spreads : (name : List ℕ) → Each P (members_of_fragment d name) = λ name x m. inr (every name x m) in
      own-in-operations P spreads a c lt inside (λ x l u. inl (l, u))
    where
      every : (name : List ℕ) → Each (HasPlace order numbers) (members_of_fragment d name)
      every name = go (place_in d.fragments name) refl
        where
          go : (o : Option ℕ) → place_in d.fragments name ≡ o → Each (HasPlace order numbers) (members_of_fragment d name)
          go None at = subst (λ (ms : List ℕ). Each (HasPlace order numbers) ms) (sym (entered-none [] [] d (length d.fragments) name at)) (each-none (HasPlace order numbers))
          go (Some j) at = p.members name j at (all j (fragment-there name d.fragments j at).1)

  -- every field has a place
  pub all-placed : (done order numbers grown given : List ℕ) → AreDone d done order numbers → ((j : ℕ) → j < length d.fragments → is_in done j ≡ true)
      → length given ≡ count_operations d.operations + count_fragments d.fragments → ((a : ℕ) → HasPlace order numbers a → HasPlace grown given a) → ((a : ℕ) → 0 ≤ a → a < count_operations d.operations → HasPlace grown given a)
      → ArePlaced d grown given → IsNumbering d grown given
  all-placed done order numbers grown given p all many kept own placed = record {
    many = many;
    len = let one = short in let two = long in omega (arith, one, two);
    all = each;
    placed = placed;
  }
    where
      each : (a : ℕ) → a < length given → HasPlace grown given a
      each a lt = elim (cases_lt a (count_operations d.operations)) [
        | inl h ↦ own a (omega arith) h
        | inr h ↦
            let r = fragment-of (count_operations d.operations) d.fragments a h (omega (arith, lt, many)) in
            kept a (p.fields r.0 r.2 r.1 (all r.0 (got-below d.fragments r.0 r.1 r.3)) r.3 r.4 a r.5 r.6)
      ]

      short : length grown ≤ length given
      short = no-longer grown given (λ k a e. let b = placed.back k a e in at-index given a b.0 ∙ ap Some b.1)

      long : length given ≤ length grown
      long = no-longer given grown (λ a k e. ap (slice_get grown) (sym (index-of given a k e)) ∙ each a (got-below given a k e))

-- the fragment of a number, as it is read
pub fragment-at : (items : List rust-fragment.Fragment) (j : ℕ) (x : rust-fragment.Fragment) → j < length (map fragment_of items) → x ≡ get_or items j x → slice_get (map fragment_of items) j ≡ Some (fragment_of x)
fragment-at items j x lt is =
    let many = length-map items fragment_of in
    slice_get-map fragment_of items j ∙ ap (λ (o : Option rust-fragment.Fragment). option_map fragment_of o) (slice_get_read items (length items) j x refl (omega (arith, lt, many)) is)
