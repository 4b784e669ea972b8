-- Definitions of how many steps a collection takes at most, where it takes one for each selection and one for the end of each
-- list of them. The number is huge and never computed: it shows that collecting ends.
use Rattle.std.specs.Prelude.{ℕ, zero, suc, ◌+◌, ◌<◌, max, List, [], ◌∷◌, Option, Some, None}
use Rattle.gq_parser.specs.Tree.{Selection, Field, Spread, Inline, SelectionSet, set_at, Selections, no_selection, and_selection, Fragment, map_selections}
use Rattle.plan_program.specs.declared.collection.Rest.{Rest}

-- gives the steps of selections, where a fragment that they spread takes `inside`
abbrev mutual
  pub steps_one : ℕ → Selection → ℕ
  steps_one inside (Field p alias name given ds b) = 1
  steps_one inside (Spread p name ds) = suc inside
  steps_one inside (Inline p c ds set) = suc (steps_set inside set)

  pub steps_set : ℕ → SelectionSet → ℕ
  steps_set inside (set_at p ss) = steps_all inside ss

  pub steps_all : ℕ → Selections → ℕ
  steps_all inside no_selection = 1
  steps_all inside (and_selection s ss) = steps_one inside s + steps_all inside ss

abbrev pub most_steps : ℕ → List Fragment → ℕ
most_steps inside [] = 0
most_steps inside (f ∷ fs) = max (steps_set inside f.selection_set) (most_steps inside fs)

-- gives the steps of the fragment that takes most, where this number of fragments may still be
-- entered one inside another
abbrev pub steps_inside : List Fragment → ℕ → ℕ
steps_inside fs zero = 0
steps_inside fs (suc enterable) = most_steps (steps_inside fs enterable) fs

-- gives what is left
abbrev pub steps_rest : List Fragment → Rest → ℕ
steps_rest fs r = steps_all (steps_inside fs r.enterable) (map_selections r.selections.now)

abbrev pub steps_if : List Fragment → Option Rest → ℕ
steps_if fs None = 0
steps_if fs (Some r) = steps_rest fs r

abbrev pub all_steps : List Fragment → List Rest → ℕ
all_steps fs [] = 0
all_steps fs (r ∷ rs) = steps_rest fs r + all_steps fs rs

-- gives what is left of these, and of what comes next
abbrev pub steps_left : List Fragment → List Rest → Option Rest → ℕ
steps_left fs left next = all_steps fs left + steps_if fs next

-- a step was taken from these and the rest that came first, to what is left now and what comes next
abbrev pub TakesStep : List Fragment → List Rest → Rest → List Rest → Option Rest → Type 0
TakesStep fs old rest new next = steps_left fs new next < steps_left fs old (Some rest)
