-- A bound on how deep own selection sets stand one inside another, where fragments have ranks.
use Rattle.std.proofs.Common.{◌≡◌, ◌∙◌, sym, ap, subst, refl, ℕ, zero, suc, ◌+◌, ◌≤◌, ◌<◌, ◌-◌, inl, inr, true, List, [], length, Option, Some, None, arith}
use Rattle.std.specs.Prelude.{slice_get, nat_lt}
use Rattle.std.specs.Option.{option_map_or}
use Rattle.std.proofs.lemmas.Bool.{cases_lt, ltb-true}
use Rattle.gq_parser.specs.Tree.{Fragment, Document}
use Rattle.merging_members.specs.Fragments.{place_in}
use Rattle.merging_members.specs.Members.{count_in, count_operations, count_fragments, starts_from, members_of_fragment}
use Rattle.merging_members.specs.Placed.{IsOwn, Each}
use Rattle.merging_members.specs.Ranked.{rank_of, is_under, IsRanked}
use Rattle.merging_members.specs.SetMembers.{IsFixed}
use Rattle.merging_members.specs.Written.{written_fields}
use Rattle.merging_members.proofs.Learning.{named-at, fragment-there, entered-none, start-inside, starts-length}
use Rattle.merging_members.proofs.Places.{fields-count}
use Rattle.merging_members.proofs.Placing.{in-each, each-none, own-in-fragment, own-in-operations, fragment-of, got-below, there}

-- a field whose own set has fields, whose own sets have fields, and so on, fewer than k times
abbrev pub Deep : Document → ℕ → ℕ → Type 0
Deep d zero a = ⊥
Deep d (suc k) a = (c : ℕ) → IsOwn d a c → Deep d k c

deeper : (d : Document) (k m a : ℕ) → k ≤ m → Deep d k a → Deep d m a
deeper d zero m a le h = absurd h
deeper d (suc k) zero a le h = absurd (omega (arith, le))
deeper d (suc k) (suc m) a le h = λ c own. deeper d k m c (omega (arith, le)) (h c own)

module _ (d : Document) (ranks : List ℕ) (ranked : IsRanked ranks (place_in d.fragments) d.fragments) (fixed : IsFixed (members_of_fragment d) d) where
  abbrev many : ℕ
  many = count_operations d.operations + count_fragments d.fragments

  -- as deep are the members of fragments of lesser ranks
  abbrev bound : ℕ → ℕ
  bound zero = 0
  bound (suc r) = bound r + many

  -- says what is known of the fragments of lesser ranks
  abbrev Known : ℕ → Type 0
  Known r = (name : List ℕ) (j : ℕ) → place_in d.fragments name ≡ Some j → rank_of ranks j < r → Each (Deep d (bound r)) (members_of_fragment d name)

  spread-deep : (r t rank : ℕ) → Known r → rank ≤ r → (name : List ℕ) → is_under ranks (place_in d.fragments) rank name ≡ true → Each (Deep d (bound r + t)) (members_of_fragment d name)
  spread-deep r t rank known le name e = go (place_in d.fragments name) refl e
    where
      go : (o : Option ℕ) → place_in d.fragments name ≡ o → option_map_or (λ x. nat_lt (rank_of ranks x) rank) (place_in d.fragments name) true ≡ true → Each (Deep d (bound r + t)) (members_of_fragment d name)
      go None at under = subst (λ (ms : List ℕ). Each (Deep d (bound r + t)) ms) (sym (entered-none [] [] d (length d.fragments) name at)) (each-none (Deep d (bound r + t)))
      go (Some x) at under =
          let less = ltb-true (rank_of ranks x) rank (ap (λ (o : Option ℕ). option_map_or (λ y. nat_lt (rank_of ranks y) rank) o true) (sym at) ∙ under) in
          λ c m. deeper d (bound r) (bound r + t) c (omega arith) (known name x at (omega (arith, less, le)) c m)

  -- the fields of a fragment, from the last to the first
  fragment-deep : (r : ℕ) → Known r → (j s : ℕ) (f : Fragment) → rank_of ranks j ≤ r → slice_get d.fragments j ≡ Some f → slice_get (starts_from (count_operations d.operations) d.fragments) j ≡ Some s
      → (t a : ℕ) → s ≤ a → a < s + count_in f.selection_set → s + count_in f.selection_set ≤ a + t → Deep d (bound r + t) a
  fragment-deep r known j s f le here start zero a from lt end = absurd (omega (arith, lt, end))
  fragment-deep r known j s f le here start (suc t) a from lt end =
      let more : bound r + suc t ≡ suc (bound r + t) = omega arith in
      let all : Deep d (suc (bound r + t)) a = λ c own.
      own-in-fragment d (Deep d (bound r + t)) (is_under ranks (place_in d.fragments) (rank_of ranks j)) (spread-deep r t (rank_of ranks j) known le) j s f here start (ranked.under j f here) a c from lt own
      (λ x l u. fragment-deep r known j s f le here start t x (omega (arith, from, l)) u (omega (arith, end, l))) in
      subst (λ (k : ℕ). Deep d k a) (sym more) all

  start-of : (j : ℕ) → j < length d.fragments → (s : ℕ) × (slice_get (starts_from (count_operations d.operations) d.fragments) j ≡ Some s)
  start-of j lt = let len = starts-length (count_operations d.operations) d.fragments in there (starts_from (count_operations d.operations) d.fragments) j (omega (arith, lt, len))

  known : (r : ℕ) → Known r
  known zero name j at lt = absurd (omega (arith, lt))
  known (suc r) name j at lt =
      let f = fragment-there name d.fragments j at in
      let s = start-of j f.1 in
      let inside = start-inside (count_operations d.operations) d.fragments j s.0 f.0 f.2 s.1 in
      let is = fixed name ∙ named-at (members_of_fragment d) name 0 (count_operations d.operations) d.fragments j j s.0 f.0 at (omega arith) f.2 s.1 in
      let all = in-each (Deep d (bound r + many)) (members_of_fragment d) (is_under ranks (place_in d.fragments) (rank_of ranks j)) (spread-deep r many (rank_of ranks j) (known r) (omega (arith, lt))) s.0 f.0.selection_set (ranked.under j f.0 f.2)
      (λ c from end. deeper d (bound r + ((s.0 + count_in f.0.selection_set) - c)) (bound r + many) c (omega (arith, from, inside))
      (fragment-deep r (known r) j s.0 f.0 (omega (arith, lt)) f.2 s.1 ((s.0 + count_in f.0.selection_set) - c) c from end (omega (arith, end)))) in
      subst (λ (ms : List ℕ). Each (Deep d (bound (suc r))) ms) (sym is) all

  every : (t : ℕ) (name : List ℕ) → Each (Deep d (bound (length d.fragments) + t)) (members_of_fragment d name)
  every t name = go (place_in d.fragments name) refl
    where
      go : (o : Option ℕ) → place_in d.fragments name ≡ o → Each (Deep d (bound (length d.fragments) + t)) (members_of_fragment d name)
      go None at = subst (λ (ms : List ℕ). Each (Deep d (bound (length d.fragments) + t)) ms) (sym (entered-none [] [] d (length d.fragments) name at)) (each-none (Deep d (bound (length d.fragments) + t)))
      go (Some j) at =
          let f = fragment-there name d.fragments j at in
          λ c m. deeper d (bound (length d.fragments)) (bound (length d.fragments) + t) c (omega arith) (known (length d.fragments) name j at (ranked.below j f.0 f.2) c m)

  operation-deep : (t a : ℕ) → a < count_operations d.operations → count_operations d.operations ≤ a + t → Deep d (bound (length d.fragments) + t) a
  operation-deep zero a lt end = absurd (omega (arith, lt, end))
  operation-deep (suc t) a lt end =
      let more : bound (length d.fragments) + suc t ≡ suc (bound (length d.fragments) + t) = omega arith in
      let all : Deep d (suc (bound (length d.fragments) + t)) a = λ c own.
      own-in-operations d (Deep d (bound (length d.fragments) + t)) (every t) a c lt own (λ x l u. operation-deep t x u (omega (arith, end, l))) in
      subst (λ (k : ℕ). Deep d k a) (sym more) all

  -- so deep is each field
  pub depth : ℕ
  depth = suc (bound (length d.fragments) + many)

  pub all-deep : (a : ℕ) → Deep d depth a
  unfolding depth
  all-deep a = elim (cases_lt a (count_operations d.operations)) [
    | inl h ↦ deeper d (bound (length d.fragments) + many) (suc (bound (length d.fragments) + many)) a (omega arith) (operation-deep many a h (omega arith))
    | inr h ↦ elim (cases_lt a many) [
      | inl lt ↦
          let r = fragment-of (count_operations d.operations) d.fragments a h lt in
          let below = ranked.below r.0 r.1 r.3 in
          let inside = start-inside (count_operations d.operations) d.fragments r.0 r.2 r.1 r.3 r.4 in
          deeper d (bound (length d.fragments) + many) (suc (bound (length d.fragments) + many)) a (omega arith)
          (fragment-deep (length d.fragments) (known (length d.fragments)) r.0 r.2 r.1 (omega (arith, below)) r.3 r.4 many a r.5 r.6 (omega (arith, inside)))
      | inr past ↦ λ c own. absurd (let lt = got-below (written_fields d) a own.field own.here in let count = fields-count d in omega (arith, lt, count, past))
    ]
  ]
