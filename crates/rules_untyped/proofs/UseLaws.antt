-- Uses in rows.
use Rattle.std.proofs.Common.{◌≡◌, ◌∙◌, ◌+◌, ◌<◌, ap, sym, refl, subst, ℕ, Bool, true, false, ◌||◌, cond, eqb, List, [], ◌∷◌, ◌++◌, Option, Some, None, MatchOption, slice_index, slice_index_or, length, get_or, map, arith, ◌⊎◌, inl, inr, ⊎_elim}
use Rattle.std.proofs.lemmas.Bool.{eqb-true, eq-eqb, false≢true, or_cases}
use Rattle.std.proofs.lemmas.List.{get_or_read, get_or_push, length-map}
use Rattle.std.proofs.Math.ListN.{get_or-append, get_or-map}
use borrow.Author.Count.{below_more}
use Rattle.rules_parts.specs.declared.part.Owner.{Owner}
use Rattle.rules_parts.specs.declared.part.Owner.TheVariants as owner
use Rattle.rules_parts.specs.declared.part.VariableUse as rust-use
use Rattle.rules_parts.specs.Parts.{VariableUse, use_of}
use Rattle.rules_spreads.specs.Graphs.{GraphOf, row}
use Rattle.rules_spreads.specs.OwnerLists.{is_same_owner}
use Rattle.rules_spreads.specs.Reach.{is_among}
use Rattle.rules_untyped.specs.declared.variable_use_index.Last as rust
use Rattle.rules_untyped.specs.UseRows.{no_use, use_at, IsIn, Stands, IsUpTo, IsNext}

pub same_owner : (p q : Owner) → is_same_owner p q ≡ true → p ≡ q
same_owner (owner.Operation i) (owner.Operation k) e = ap owner.Operation (eqb-true i k e)
same_owner (owner.Operation i) (owner.Fragment k) e = absurd (false≢true e)
same_owner (owner.Fragment i) (owner.Operation k) e = absurd (false≢true e)
same_owner (owner.Fragment i) (owner.Fragment k) e = ap owner.Fragment (eqb-true i k e)

pub is_same_owner-same : (p : Owner) → is_same_owner p p ≡ true
is_same_owner-same (owner.Operation i) = eq-eqb i i refl
is_same_owner-same (owner.Fragment i) = eq-eqb i i refl

pub is_among-push : (s k : ℕ) (xs : List ℕ) → is_among s (xs ++ k ∷ []) ≡ (is_among s xs || eqb k s)
is_among-push s k [] = or-none (eqb k s) where
  or-none : (b : Bool) → (b || false) ≡ (false || b)
  or-none true = refl
  or-none false = refl
is_among-push s k (x ∷ xs) = ap (λ b. eqb x s || b) (is_among-push s k xs) ∙ or-assoc (eqb x s) (is_among s xs) (eqb k s) where
  or-assoc : (a b c : Bool) → (a || (b || c)) ≡ ((a || b) || c)
  or-assoc true b c = refl
  or-assoc false b c = refl

-- the row of q, where k was put behind that of o
abbrev PutInto : GraphOf → GraphOf → Owner → ℕ → Type 0
PutInto old new o k = (q : Owner) → row new q ≡ cond (is_same_owner q o) (row old q ++ k ∷ []) (row old q)

-- a row's uses after one was put, by whether it is the row of that one's owner
in_put : (old new : GraphOf) (o q : Owner) (k s : ℕ) (b : Bool) → is_same_owner q o ≡ b → PutInto old new o k → is_among s (row new q) ≡ cond b (is_among s (row old q) || eqb k s) (is_among s (row old q))
in_put old new o q k s true e put = rw (put q, e) (is_among-push s k (row old q))
in_put old new o q k s false e put = rw (put q, e)

kept_by : (old new : GraphOf) (o q : Owner) (k s : ℕ) (b : Bool) → is_same_owner q o ≡ b → PutInto old new o k → IsIn old q s → IsIn new q s
kept_by old new o q k s true e put there = in_put old new o q k s true e put ∙ ap (λ b. b || eqb k s) there
kept_by old new o q k s false e put there = in_put old new o q k s false e put ∙ there

-- says whose row a use is in then
pub record Found (old : GraphOf) (o q : Owner) (k s : ℕ) : Type 0 where
  pub same : s ≡ k
  pub own : q ≡ o

found_by : (old new : GraphOf) (o q : Owner) (k s : ℕ) (b : Bool) → is_same_owner q o ≡ b → PutInto old new o k → IsIn new q s → IsIn old q s ⊎ Found old o q k s
found_by old new o q k s false e put there = inl (sym (in_put old new o q k s false e put) ∙ there)
found_by old new o q k s true e put there =
    ⊎_elim (λ h. inl h) (λ h. inr (record { same = sym (eqb-true k s h); own = same_owner q o e }))
    (or_cases (is_among s (row old q)) (eqb k s) (sym (in_put old new o q k s true e put) ∙ there))

pub next_hit : (uses : List VariableUse) (numbers : List ℕ) (rows : GraphOf) (lasts : List (Option rust.Last)) (o : Owner) (number k : ℕ) (l : rust.Last)
    → IsUpTo uses numbers rows lasts k → slice_index_or lasts number None ≡ Some l → is_same_owner l.owner o ≡ true
    → IsNext uses numbers rows rows lasts o number k l.place
next_hit uses numbers rows lasts o number k l before at e =
    let found = rw at at (before.lasts number) in
    record {
      further = record { sound = λ s q there. let b = before.sound s q there in (omega (arith, b.0), b.1); lasts = before.lasts };
      stands = subst (λ q. IsIn rows q l.place) (same_owner l.owner o e) found.0;
      numbered = found.1;
      kept = λ t q there. there;
    }

pub next_miss : (uses : List VariableUse) (numbers : List ℕ) (old new : GraphOf) (before after : List (Option rust.Last)) (o : Owner) (number k : ℕ)
    → Stands uses numbers o number k → IsUpTo uses numbers old before k → PutInto old new o k
    → ((n : ℕ) → slice_index_or after n None ≡ cond (eqb n number) (Some (record { owner = o; place = k })) (slice_index_or before n None))
    → IsNext uses numbers old new after o number k k
next_miss uses numbers old new before after o number k own so_far put noted = record {
  further = record {
    sound = λ s q there. ⊎_elim
        (λ h. let b = so_far.sound s q h in (omega (arith, b.0), b.1))
        (λ f. (omega (arith, f.same), ap (λ t. (use_at uses t).owner) f.same ∙ (own.stands ∙ sym f.own)))
        (found_by old new o q k s (is_same_owner q o) refl put there);
    lasts = λ n. rw (noted n) (last_by n (eqb n number) refl);
  };
  stands = there_now;
  numbered = own.numbered;
  kept = λ t q there. kept_by old new o q k t (is_same_owner q o) refl put there;
} where
  there_now : IsIn new o k
  there_now = in_put old new o o k k true (is_same_owner-same o) put ∙ or-last (is_among k (row old o)) (eqb k k) (eq-eqb k k refl) where
    or-last : (a b : Bool) → b ≡ true → (a || b) ≡ true
    or-last true b e = refl
    or-last false b e = e

  last_by : (n : ℕ) (b : Bool) → eqb n number ≡ b → MatchOption (cond b (Some (record { owner = o; place = k })) (slice_index_or before n None)) (Unit {0}) (λ (l : rust.Last). IsIn new l.owner l.place × (slice_index numbers l.place ≡ n))
  last_by n true e = (there_now, own.numbered ∙ sym (eqb-true n number e))
  last_by n false e = kept_last (slice_index_or before n None) (so_far.lasts n) where
    kept_last : (l : Option rust.Last) → MatchOption l (Unit {0}) (λ (l : rust.Last). IsIn old l.owner l.place × (slice_index numbers l.place ≡ n)) → MatchOption l (Unit {0}) (λ (l : rust.Last). IsIn new l.owner l.place × (slice_index numbers l.place ≡ n))
    kept_last None h = tt
    kept_last (Some l) h = (kept_by old new o l.owner k l.place (is_same_owner l.owner o) refl put h.0, h.1)

-- the use at a place of the document's list
pub use_at-map : (uses : List rust-use.VariableUse) (k : ℕ) (item : rust-use.VariableUse) → k < length uses → item ≡ get_or uses k item → use_at (map use_of uses) k ≡ use_of item
use_at-map uses k item within is =
    let seen : use_of item ≡ get_or (map use_of uses) k (use_of item) = ap use_of is ∙ sym (get_or-map use_of uses k item) in
    sym (get_or_read (map use_of uses) k (use_of item) (omega (arith, length-map uses use_of)) seen no_use)

module _ (uses : List VariableUse) (numbers stand_ins : List ℕ) (old new : GraphOf) (lasts : List (Option rust.Last)) (o : Owner) (number k s : ℕ) (placed : length stand_ins ≡ k) (own : Stands uses numbers o number k) (next : IsNext uses numbers old new lasts o number k s) where
  -- each use up to this one has one that stands for it
  pub stood_more : ((j : ℕ) → j < k → IsIn old (use_at uses j).owner (slice_index stand_ins j)) → (j : ℕ) → j < k + 1 → IsIn new (use_at uses j).owner (slice_index (stand_ins ++ s ∷ []) j)
  stood_more before = below_more (λ j. IsIn new (use_at uses j).owner (slice_index (stand_ins ++ s ∷ []) j)) k
      (λ j h. rw (get_or-append stand_ins (s ∷ []) 0 j (omega arith)) (next.kept (slice_index stand_ins j) (use_at uses j).owner (before j h)))
      (rw (get_or_push stand_ins s 0 k placed, own.stands) next.stands)

  -- and that has its name's number
  pub alike_more : ((j : ℕ) → j < k → slice_index numbers (slice_index stand_ins j) ≡ slice_index numbers j) → (j : ℕ) → j < k + 1 → slice_index numbers (slice_index (stand_ins ++ s ∷ []) j) ≡ slice_index numbers j
  alike_more before = below_more (λ j. slice_index numbers (slice_index (stand_ins ++ s ∷ []) j) ≡ slice_index numbers j) k
      (λ j h. rw (get_or-append stand_ins (s ∷ []) 0 j (omega arith)) (before j h))
      (rw (get_or_push stand_ins s 0 k placed) (next.numbered ∙ sym own.numbered))
