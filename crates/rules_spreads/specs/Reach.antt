-- Definitions of which fragments an operation or a fragment reaches by spreads.
use Rattle.std.specs.Prelude.{◌≡◌, ◌==◌, ℕ, zero, suc, Bool, true, ◌&&◌, ◌||◌, nat_lt, List, length}
use Rattle.std.specs.List.{list_any, list_all}
use Rattle.rules_parts.specs.declared.part.Owner.{Owner}
use Rattle.rules_parts.specs.declared.part.Owner.TheVariants as owner
use Rattle.rules_spreads.specs.Graphs.{GraphOf, row}

abbrev pub is_among : ℕ → List ℕ → Bool
is_among j js = list_any (λ k. k == j) js

-- it spreads the fragment j
abbrev pub spreads : GraphOf → Owner → ℕ → Bool
spreads g o j = is_among j (row g o)

-- It reaches the fragment j by spreads, and between them stand only fragments below k: it spreads j, or reaches j through those
-- below k - 1 alone, or so reaches k - 1, which so reaches j.
abbrev pub reaches_through : ℕ → GraphOf → Owner → ℕ → Bool
reaches_through zero g o j = spreads g o j
reaches_through (suc k) g o j =
    reaches_through k g o j || (reaches_through k g o k && reaches_through k g (owner.Fragment k) j)

-- it reaches the fragment j by spreads
abbrev pub reaches : GraphOf → Owner → ℕ → Bool
reaches g o j = reaches_through (length g.fragments) g o j

-- the fragment reaches itself (section 5.5.2.2)
abbrev pub is_cyclic : GraphOf → ℕ → Bool
is_cyclic g j = reaches g (owner.Fragment j) j

abbrev pub are_below : ℕ → List ℕ → Bool
are_below n js = list_all (λ j. nat_lt j n) js

-- each row names fragments that there are
abbrev pub are_known : GraphOf → Bool
are_known g = list_all (are_below (length g.fragments)) g.operations
    && list_all (are_below (length g.fragments)) g.fragments

-- says the same, step by step
pub data Reaches (g : GraphOf) (o : Owner) : ℕ → Type 0 where
  start : {j : ℕ} → spreads g o j ≡ true → Reaches g o j
  along : {j k : ℕ} → Reaches g o k → spreads g (owner.Fragment k) j ≡ true → Reaches g o j
