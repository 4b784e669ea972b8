-- Storing many pairs: the room that they need, and what the parts say after each of them.
use Rattle.std.proofs.Common.{◌≡◌, ℕ, zero, suc, ◌<◌, ◌≤◌, ◌+◌, Bool, true, false, List, [], ◌∷◌, ◌++◌, map, take, length, get_or, Option, Some, None, refl, ap, ◌∙◌, sym, arith}
use Rattle.std.proofs.lemmas.Bool.{eqb-true, eqb-false, eq-eqb, ne_eqb}
use Rattle.std.proofs.lemmas.List.{map-append}
use Rattle.std.proofs.lemmas.List.Elements.{All-head, All-tail}
use Rattle.std.specs.Prelude.{◌==◌, ◌&&◌, if◌then◌else◌, slice_set, All}
use Rattle.std.specs.Option.{option_or}
use Rattle.std.specs.HashMap.{spare}
use Rattle.load_memory.specs.Keys.{KeyOf, cache_of, same_key}
use Rattle.load_memory.specs.Outcomes.{OutcomeOf, outcome_of, is_failed}
use Rattle.load_memory.specs.Pairs.{look, IsSameMap, unless_failed}
use Rattle.load_memory.specs.LoaderMemories.{PartOf, pairs_from, look_in, room_at, count_at, HaveRoom, staged_of, AreUnfailed}
use Rattle.load_memory.specs.declared.loader_memory.StagedPair.{StagedPair}
use Rattle.load_memory.proofs.Looks.{first_of_two, look-append}
use Rattle.load_memory.proofs.LoaderMemoryLaws.{pairs-counted}
use Rattle.load_memory.proofs.ChangeLaws.{look-changed, item-known}

-- the room of one part
pub room-at : (ps : List PartOf) (i : ℕ) (d : PartOf) → i < length ps → room_at ps i ≡ spare (get_or ps i d)
room-at [] i d lt = absurd (omega arith)
room-at (p ∷ ps) zero d lt = refl
room-at (p ∷ ps) (suc i) d lt = room-at ps i d (omega arith)

pub room-same : (ps : List PartOf) (i : ℕ) (x : PartOf) → i < length ps → room_at (slice_set ps i x) i ≡ spare x
room-same [] i x lt = absurd (omega arith)
room-same (p ∷ ps) zero x lt = refl
room-same (p ∷ ps) (suc i) x lt = room-same ps i x (omega arith)

pub room-other : (ps : List PartOf) (i j : ℕ) (x : PartOf) → (j ≡ i → ⊥) → room_at (slice_set ps i x) j ≡ room_at ps j
room-other [] i j x ne = refl
room-other (p ∷ ps) zero zero x ne = absurd (ne refl)
room-other (p ∷ ps) zero (suc j) x ne = refl
room-other (p ∷ ps) (suc i) zero x ne = refl
room-other (p ∷ ps) (suc i) (suc j) x ne = room-other ps i j x (λ e. ne (ap suc e))

-- one pair more
pub count-own : (s : StagedPair) (rest : List StagedPair) → count_at s.loader (s ∷ rest) ≡ suc (count_at s.loader rest)
count-own s rest = rw (eq-eqb s.loader s.loader refl) refl

pub count-other : (s : StagedPair) (rest : List StagedPair) (l : ℕ) → (s.loader ≡ l → ⊥) → count_at l (s ∷ rest) ≡ count_at l rest
count-other s rest l ne = rw (ne_eqb s.loader l ne) refl

pub count-more : (l : ℕ) (xs : List StagedPair) (i n : ℕ) (s : StagedPair) → i < length xs → s ≡ get_or xs i s → n ≡ suc i → count_at l (take n xs) ≡ (if s.loader == l then suc (count_at l (take i xs)) else count_at l (take i xs))
count-more l [] i n s lt at e = absurd (omega arith)
count-more l (x ∷ xs) zero n s lt at e = rw (e, at) refl
count-more l (x ∷ xs) (suc i) n s lt at e = rw e (go (x.loader == l) (s.loader == l) (count-more l xs i (suc i) s (omega arith) at refl)) where
  go : (a b : Bool) → count_at l (take (suc i) xs) ≡ (if b then suc (count_at l (take i xs)) else count_at l (take i xs))
      → (if a then suc (count_at l (take (suc i) xs)) else count_at l (take (suc i) xs)) ≡ (if b then suc (if a then suc (count_at l (take i xs)) else count_at l (take i xs)) else (if a then suc (count_at l (take i xs)) else count_at l (take i xs)))
  go true true e = ap suc e
  go true false e = ap suc e
  go false true e = e
  go false false e = e

pub count-most : (l : ℕ) (xs : List StagedPair) → count_at l xs ≤ length xs
count-most l [] = omega arith
count-most l (x ∷ xs) = go (x.loader == l) (count-most l xs) where
  go : (b : Bool) → count_at l xs ≤ length xs → (if b then suc (count_at l xs) else count_at l xs) ≤ suc (length xs)
  go true le = omega (arith, le)
  go false le = omega (arith, le)

-- of a loader past all of these there is none
pub count-past : (n l : ℕ) (xs : List StagedPair) → All (λ (s : StagedPair). s.loader < n) xs → n ≤ l → count_at l xs ≡ 0
count-past n l [] below past = refl
count-past n l (x ∷ xs) below past =
    let first : x.loader < n = All-head (λ (s : StagedPair). s.loader < n) x xs below in
    rw (ne_eqb x.loader l (λ e. omega (arith, first, e, past))) (count-past n l xs (All-tail (λ (s : StagedPair). s.loader < n) x xs below) past)

module _ (ps : List PartOf) (s : StagedPair) (rest : List StagedPair) (x d : PartOf) (lt : s.loader < length ps) (at : d ≡ get_or ps s.loader d) where
  pub room-first : HaveRoom ps (s ∷ rest) → 0 < spare d
  room-first room = omega (arith, room s.loader, count-own s rest, room-at ps s.loader d lt, ap spare at)

  pub room-rest : HaveRoom ps (s ∷ rest) → spare d ≤ spare x + 1 → HaveRoom (slice_set ps s.loader x) rest
  room-rest room less l = go (s.loader == l) refl where
    go : (b : Bool) → (s.loader == l) ≡ b → count_at l rest ≤ room_at (slice_set ps s.loader x) l
    go true e =
        let same : s.loader ≡ l = eqb-true s.loader l e in
        let here : suc (count_at s.loader rest) ≤ spare d = omega (arith, room s.loader, count-own s rest, room-at ps s.loader d lt, ap spare at) in
        rw (← same) (omega (arith, here, less, room-same ps s.loader x lt))
    go false e =
        let apart : s.loader ≡ l → ⊥ = eqb-false s.loader l e in
        omega (arith, room l, count-other s rest l apart, room-other ps s.loader l x (λ h. apart (sym h)))

  or-step : (a o y : Option OutcomeOf) → option_or (option_or a o) y ≡ option_or a (option_or o y)
  or-step None o y = refl
  or-step (Some v) o y = refl

  -- says what the parts and the other pairs say together
  pub stored-step : ((q : KeyOf) → look_in x.entries q ≡ option_or (look_in d.entries q) (if same_key q (cache_of s.key) then Some (outcome_of s.outcome) else None))
      → (l : ℕ) (q : KeyOf) → option_or (look (pairs_from 0 (slice_set ps s.loader x)) l q) (look (map staged_of rest) l q) ≡ option_or (look (pairs_from 0 ps) l q) (look (map staged_of (s ∷ rest)) l q)
  stored-step put l q =
      ap (λ v. option_or v (look (map staged_of rest) l q)) (look-changed ps s.loader x d (λ r v. option_or v (if same_key r (cache_of s.key) then Some (outcome_of s.outcome) else None)) lt at put l q)
      ∙ go (s.loader == l) refl (same_key q (cache_of s.key)) refl
    where
      go : (b : Bool) → (s.loader == l) ≡ b → (c : Bool) → same_key q (cache_of s.key) ≡ c
          → option_or (if b then option_or (look (pairs_from 0 ps) l q) (if c then Some (outcome_of s.outcome) else None) else look (pairs_from 0 ps) l q) (look (map staged_of rest) l q)
          ≡ option_or (look (pairs_from 0 ps) l q) (look (map staged_of (s ∷ rest)) l q)
      go true e true h = rw (eq-eqb l s.loader (sym (eqb-true s.loader l e)), h) (or-step (look (pairs_from 0 ps) l q) (Some (outcome_of s.outcome)) (look (map staged_of rest) l q))
      go true e false h = rw (eq-eqb l s.loader (sym (eqb-true s.loader l e)), h) (or-step (look (pairs_from 0 ps) l q) None (look (map staged_of rest) l q))
      go false e c h = rw (ne_eqb l s.loader (λ g. eqb-false s.loader l e (sym g))) refl

  pub counted-step : (n : ℕ) → length x.entries ≡ length d.entries + n → length (pairs_from 0 (slice_set ps s.loader x)) ≡ length (pairs_from 0 ps) + n
  counted-step n e = let same : length d.entries ≡ length (get_or ps s.loader d).entries = ap (λ (p : PartOf). length p.entries) at in omega (arith, e, same, pairs-counted 0 ps s.loader x d lt)

-- one part holds what it held
module _ (ps : List PartOf) (i : ℕ) (x d : PartOf) (lt : i < length ps) (at : d ≡ get_or ps i d) where
  pub look-held : ((q : KeyOf) → look_in x.entries q ≡ look_in d.entries q) → IsSameMap (pairs_from 0 (slice_set ps i x)) (pairs_from 0 ps)
  look-held same l q = look-changed ps i x d (λ r v. v) lt at same l q ∙ go (i == l) where
    go : (b : Bool) → (if b then look (pairs_from 0 ps) l q else look (pairs_from 0 ps) l q) ≡ look (pairs_from 0 ps) l q
    go true = refl
    go false = refl

  pub counted-held : length x.entries ≡ length d.entries → length (pairs_from 0 (slice_set ps i x)) ≡ length (pairs_from 0 ps)
  counted-held e = let same : length d.entries ≡ length (get_or ps i d).entries = ap (λ (p : PartOf). length p.entries) at in omega (arith, e, same, pairs-counted 0 ps i x d lt)

-- the pairs that are counted
pub unfailed-more : (xs : List StagedPair) (s : StagedPair) → AreUnfailed (map staged_of xs) → is_failed s.outcome ≡ false → AreUnfailed (map staged_of (xs ++ s ∷ []))
unfailed-more xs s none item l q = rw (map-append staged_of xs (s ∷ []), look-append (map staged_of xs) (map staged_of (s ∷ [])) l q) (go (look (map staged_of xs) l q) (none l q)) where
  last : (b : Bool) → unless_failed (if b then Some (outcome_of s.outcome) else None) ≡ (if b then Some (outcome_of s.outcome) else None)
  last true = item-known s.outcome item
  last false = refl

  go : (a : Option OutcomeOf) → unless_failed a ≡ a → unless_failed (first_of_two a (look (map staged_of (s ∷ [])) l q)) ≡ first_of_two a (look (map staged_of (s ∷ [])) l q)
  go None e = last ((l == s.loader) && same_key q (cache_of s.key))
  go (Some v) e = e
