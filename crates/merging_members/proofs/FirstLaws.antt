-- The first member that passes a test.
use Rattle.std.proofs.Common.{◌≡◌, ◌∙◌, sym, ap, refl, ℕ, Bool, true, false, ◌==◌, cond, inl, inr, List, [], ◌∷◌, ◌++◌, Option, Some, None, IsSome}
use Rattle.std.specs.Prelude.{find}
use Rattle.std.proofs.lemmas.Bool.{cases_Bool, both_ways, or_left, or_right, eq-eqb}
use Rattle.merging_pairs.specs.declared.sets.ReachedFields.{ReachedFields}
use Rattle.merging_pairs.specs.Entered.{IsReached}
use Rattle.merging_pairs.specs.Numbered.{is_in}
use Rattle.merging_pairs.specs.Sets.{has, Common}
use Rattle.merging_pairs.proofs.RenumberLaws.{in-map, source-of}
use Rattle.merging_pairs.proofs.ClashLaws.{not-found}
use Rattle.merging_members.specs.declared.meeting.Met.{Met}
use Rattle.merging_members.specs.declared.meeting.Met.TheVariants.{Field, Fragment}
use Rattle.merging_members.specs.Meeting.{IsMet}
use Rattle.merging_members.specs.SetMembers.{to, renumbered, is_key}

-- the first that passes is that of the rest, where none of the front passes
pub find-past : (test : ℕ → Bool) (xs ys : List ℕ) → find test xs ≡ None → find test (xs ++ ys) ≡ find test ys
find-past test [] ys e = refl
find-past test (x ∷ xs) ys e = go (test x) e (find-past test xs ys)
  where
    go : (t : Bool) → cond t (Some x) (find test xs) ≡ None → (find test xs ≡ None → find test (xs ++ ys) ≡ find test ys) → cond t (Some x) (find test (xs ++ ys)) ≡ find test ys
    go true h rest = cc
    go false h rest = rest h

-- the first that passes is that of the front, where one of the front passes
pub find-here : (test : ℕ → Bool) (xs ys : List ℕ) (n : ℕ) → find test xs ≡ Some n → find test (xs ++ ys) ≡ Some n
find-here test [] ys n e = cc
find-here test (x ∷ xs) ys n e = go (test x) e (find-here test xs ys n)
  where
    go : (t : Bool) → cond t (Some x) (find test xs) ≡ Some n → (find test xs ≡ Some n → find test (xs ++ ys) ≡ Some n) → cond t (Some x) (find test (xs ++ ys)) ≡ Some n
    go true h rest = h
    go false h rest = rest h

some-of : (o : Option ℕ) → IsSome o → (n : ℕ) × (o ≡ Some n)
some-of (Some n) h = (n, refl)
some-of None h = absurd (both_ways false refl h)

pub met-here : (place : List ℕ → Option ℕ) (spread : List ℕ → List ℕ) (test : ℕ → Bool) (xs ys : List ℕ) (met : Met) → IsMet place spread test (find test xs) (Some met) → IsMet place spread test (find test (xs ++ ys)) (Some met)
met-here place spread test xs ys (Field n) is = find-here test xs ys n is
met-here place spread test xs ys (Fragment j) is =
    let s = some-of (find test xs) is.some in
    let same : find test (xs ++ ys) ≡ find test xs = find-here test xs ys s.0 s.1 ∙ sym s.1 in
    record { name = is.name; at = is.at; same = same ∙ is.same; some = rw same is.some }

-- a member that passes is found
pub found-some : (test : ℕ → Bool) (ms : List ℕ) (c : ℕ) → is_in ms c ≡ true → test c ≡ true → IsSome (find test ms)
found-some test ms c m p = go (find test ms) refl
  where
    go : (o : Option ℕ) → find test ms ≡ o → IsSome o
    go None e = absurd (not-found test ms c e m p)
    go (Some n) e = refl

pub none-passes : (test : ℕ → Bool) (ms : List ℕ) → ((c : ℕ) → is_in ms c ≡ true → test c ≡ false) → find test ms ≡ None
none-passes test [] h = refl
none-passes test (m ∷ ms) h = rw (h m (or_left (m == m) (is_in ms m) (eq-eqb m m refl))) (none-passes test ms (λ c e. h c (or_right (c == m) (is_in ms c) e)))

module _ (rows : List (List ℕ)) (numbers ms : List ℕ) (r : ReachedFields) (is : IsReached rows (renumbered numbers ms) r) (keys : List ℕ) where
  pub meets-some : Common r.members keys → IsSome (find (is_key keys numbers) ms)
  meets-some m =
      let s = source-of (to numbers) ms m.place (sym (is.members m.place) ∙ m.first) in
      found-some (is_key keys numbers) ms s.source s.member (ap (has keys) (sym s.is) ∙ m.second)

  pub meets-none : (Common r.members keys → ⊥) → find (is_key keys numbers) ms ≡ None
  meets-none apart = none-passes (is_key keys numbers) ms (λ c e. elim (cases_Bool (has keys (to numbers c))) [
    | inl h ↦ absurd (apart (record { place = to numbers c; first = is.members (to numbers c) ∙ in-map (to numbers) ms c e; second = h }))
    | inr h ↦ h
  ])
