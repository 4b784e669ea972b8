-- Fragments reached through fragments below a number are those reached step by step.
use Rattle.std.proofs.Common.{◌≡◌, ℕ, zero, suc, ◌<◌, ◌⊎◌, inl, inr, true, false, ◌&&◌, List, [], ◌∷◌, length, refl, arith, subst}
use Rattle.std.specs.Prelude.{nat_lt, ◌==◌}
use Rattle.std.specs.List.{list_all}
use Rattle.std.proofs.lemmas.Bool.{and_from, and_parts, or_left, or_right, or_cases, cases_eq, both_ways}
use Rattle.rules_parts.specs.declared.part.Owner.{Owner}
use Rattle.rules_parts.specs.declared.part.Owner.TheVariants as owner
use Rattle.rules_spreads.specs.Graphs.{GraphOf, row_at, row}
use Rattle.rules_spreads.specs.Reach.{is_among, are_below, spreads, reaches_through, reaches, are_known, Reaches, start, along}

-- ---- soundness

trans : (g : GraphOf) (o : Owner) (k j : ℕ) → Reaches g o k → Reaches g (owner.Fragment k) j → Reaches g o j
trans g o k j r (start h) = along r h
trans g o k j r (along s h) = along (trans g o k _ r s) h

joined : (k : ℕ) (g : GraphOf) (o : Owner) (j : ℕ) → (reaches_through k g o j ≡ true → Reaches g o j) → (reaches_through k g o k ≡ true → Reaches g o k) → (reaches_through k g (owner.Fragment k) j ≡ true → Reaches g (owner.Fragment k) j)
    → (reaches_through k g o j ≡ true) ⊎ ((reaches_through k g o k && reaches_through k g (owner.Fragment k) j) ≡ true) → Reaches g o j
joined k g o j whole before after (inl e) = whole e
joined k g o j whole before after (inr e) =
    let p = and_parts (reaches_through k g o k) (reaches_through k g (owner.Fragment k) j) e in
    trans g o k j (before p.0) (after p.1)

pub through_sound : (k : ℕ) (g : GraphOf) (o : Owner) (j : ℕ) → reaches_through k g o j ≡ true → Reaches g o j
through_sound zero g o j h = start h
through_sound (suc k) g o j h =
    joined k g o j (through_sound k g o j) (through_sound k g o k) (through_sound k g (owner.Fragment k) j)
    (or_cases (reaches_through k g o j) (reaches_through k g o k && reaches_through k g (owner.Fragment k) j) h)

-- ---- completeness

last : (k : ℕ) (g : GraphOf) (o : Owner) → reaches_through (suc k) g o k ≡ true → reaches_through k g o k ≡ true
last k g o h = go (or_cases (reaches_through k g o k) (reaches_through k g o k && reaches_through k g (owner.Fragment k) k) h)
  where
    go : (reaches_through k g o k ≡ true) ⊎ ((reaches_through k g o k && reaches_through k g (owner.Fragment k) k) ≡ true) → reaches_through k g o k ≡ true
    go (inl e) = e
    go (inr e) = (and_parts (reaches_through k g o k) (reaches_through k g (owner.Fragment k) k) e).0

first : (k : ℕ) (g : GraphOf) (j : ℕ) → reaches_through (suc k) g (owner.Fragment k) j ≡ true → reaches_through k g (owner.Fragment k) j ≡ true
first k g j h = go (or_cases (reaches_through k g (owner.Fragment k) j) (reaches_through k g (owner.Fragment k) k && reaches_through k g (owner.Fragment k) j) h)
  where
    go : (reaches_through k g (owner.Fragment k) j ≡ true) ⊎ ((reaches_through k g (owner.Fragment k) k && reaches_through k g (owner.Fragment k) j) ≡ true) → reaches_through k g (owner.Fragment k) j ≡ true
    go (inl e) = e
    go (inr e) = (and_parts (reaches_through k g (owner.Fragment k) k) (reaches_through k g (owner.Fragment k) j) e).1

direct : (k : ℕ) (g : GraphOf) (o : Owner) (j : ℕ) → reaches_through k g o j ≡ true → reaches_through (suc k) g o j ≡ true
direct k g o j h = or_left (reaches_through k g o j) _ h

around : (k : ℕ) (g : GraphOf) (o : Owner) (j : ℕ) → reaches_through k g o k ≡ true → reaches_through k g (owner.Fragment k) j ≡ true → reaches_through (suc k) g o j ≡ true
around k g o j before after = or_right (reaches_through k g o j) _ (and_from _ _ before after)

-- two paths, joined at a fragment below k
Joins : ℕ → GraphOf → Type 0
Joins k g = (o : Owner) (m j : ℕ) → m < k → reaches_through k g o m ≡ true → reaches_through k g (owner.Fragment m) j ≡ true → reaches_through k g o j ≡ true

-- a path through fragments up to k: one below k, or one to k and one from k
Parts : ℕ → GraphOf → Owner → ℕ → Type 0
Parts k g o j = (reaches_through k g o j ≡ true) ⊎ ((reaches_through k g o k ≡ true) × (reaches_through k g (owner.Fragment k) j ≡ true))

parts : (k : ℕ) (g : GraphOf) (o : Owner) (j : ℕ) → reaches_through (suc k) g o j ≡ true → Parts k g o j
unfolding Parts
parts k g o j h = go (or_cases (reaches_through k g o j) (reaches_through k g o k && reaches_through k g (owner.Fragment k) j) h)
  where
    go : (reaches_through k g o j ≡ true) ⊎ ((reaches_through k g o k && reaches_through k g (owner.Fragment k) j) ≡ true) → (reaches_through k g o j ≡ true) ⊎ ((reaches_through k g o k ≡ true) × (reaches_through k g (owner.Fragment k) j ≡ true))
    go (inl e) = inl e
    go (inr e) = inr (and_parts (reaches_through k g o k) (reaches_through k g (owner.Fragment k) j) e)

joins-below : (k : ℕ) (g : GraphOf) → Joins k g → (o : Owner) (m j : ℕ) → m < k → Parts k g o m → Parts k g (owner.Fragment m) j → reaches_through (suc k) g o j ≡ true
unfolding Joins Parts
joins-below k g join o m j lt (inl a) (inl b) = direct k g o j (join o m j lt a b)
joins-below k g join o m j lt (inl a) (inr b) = around k g o j (join o m k lt a b.0) b.1
joins-below k g join o m j lt (inr a) (inl b) = around k g o j a.0 (join (owner.Fragment k) m j lt a.1 b)
joins-below k g join o m j lt (inr a) (inr b) = around k g o j a.0 b.1

joins-next : (k : ℕ) (g : GraphOf) → Joins k g → Joins (suc k) g
unfolding Joins
joins-next k g join o m j lt before after = go (cases_eq m k)
  where
    go : (m ≡ k) ⊎ (m ≡ k → ⊥) → reaches_through (suc k) g o j ≡ true
    go (inl e) =
        around k g o j
        (last k g o (let P : ℕ → Type 0 = λ n. reaches_through (suc k) g o n ≡ true in subst P e before))
        (first k g j (let P : ℕ → Type 0 = λ n. reaches_through (suc k) g (owner.Fragment n) j ≡ true in subst P e after))
    go (inr n) = joins-below k g join o m j (omega arith) (parts k g o m before) (parts k g (owner.Fragment m) j after)

joins : (k : ℕ) (g : GraphOf) → Joins k g
unfolding Joins
joins zero g = λ o m j lt before after. absurd (omega arith)
joins (suc k) g = joins-next k g (joins k g)

single : (k : ℕ) (g : GraphOf) (o : Owner) (j : ℕ) → spreads g o j ≡ true → reaches_through k g o j ≡ true
single zero g o j h = h
single (suc k) g o j h = direct k g o j (single k g o j h)

-- ---- what rows name

pub among-below : (n j : ℕ) (js : List ℕ) → are_below n js ≡ true → is_among j js ≡ true → j < n
among-below n j [] b h = absurd (both_ways false refl h)
among-below n j (k ∷ js) b h =
    let p = and_parts (nat_lt k n) (are_below n js) b in
    go (or_cases (k == j) (is_among j js) h) p.0 (among-below n j js p.1)
  where
    go : ((k == j) ≡ true) ⊎ (is_among j js ≡ true) → nat_lt k n ≡ true → (is_among j js ≡ true → j < n) → j < n
    go (inl e) here rest = grind arith
    go (inr e) here rest = rest e

pub row_at-below : (n : ℕ) (rows : List (List ℕ)) (i : ℕ) → list_all (are_below n) rows ≡ true → are_below n (row_at rows i) ≡ true
row_at-below n [] i h = refl
row_at-below n (r ∷ rows) zero h = (and_parts (are_below n r) (list_all (are_below n) rows) h).0
row_at-below n (r ∷ rows) (suc i) h = row_at-below n rows i (and_parts (are_below n r) (list_all (are_below n) rows) h).1

pub row-below : (g : GraphOf) (o : Owner) → are_known g ≡ true → are_below (length g.fragments) (row g o) ≡ true
row-below g (owner.Operation i) h = row_at-below (length g.fragments) g.operations i (and_parts (list_all (are_below (length g.fragments)) g.operations) (list_all (are_below (length g.fragments)) g.fragments) h).0
row-below g (owner.Fragment i) h = row_at-below (length g.fragments) g.fragments i (and_parts (list_all (are_below (length g.fragments)) g.operations) (list_all (are_below (length g.fragments)) g.fragments) h).1

pub spreads-below : (g : GraphOf) (o : Owner) (j : ℕ) → are_known g ≡ true → spreads g o j ≡ true → j < length g.fragments
spreads-below g o j known h = among-below (length g.fragments) j (row g o) (row-below g o known) h

pub reached-below : (g : GraphOf) (o : Owner) (j : ℕ) → are_known g ≡ true → Reaches g o j → j < length g.fragments
reached-below g o j known (start h) = spreads-below g o j known h
reached-below g o j known (along {k = m} r h) = spreads-below g (owner.Fragment m) j known h

pub reaches_complete : (g : GraphOf) (o : Owner) (j : ℕ) → are_known g ≡ true → Reaches g o j → reaches g o j ≡ true
unfolding Joins
reaches_complete g o j known (start h) = single (length g.fragments) g o j h
reaches_complete g o j known (along {k = m} r h) =
    joins (length g.fragments) g o m j (reached-below g o m known r) (reaches_complete g o m known r) (single (length g.fragments) g (owner.Fragment m) j h)
