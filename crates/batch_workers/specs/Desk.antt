-- The rule of a round's queue.
use Rattle.std.specs.Prelude.{◌≡◌, ◌≢◌, ℕ, ◌+◌, ◌-◌, ◌/◌, ◌≤◌, List, [], ◌∷◌, ◌++◌, length, IsPermutation, Contains}
use mathlib.Core.Option.{some}
use lib.ListN.{get_elem?}
use Rattle.load_queue.specs.Orders.{CutOf}
use Rattle.batch_workers.specs.declared.desk.Knowledge.{Knowledge}

abbrev pub knowledge : ℕ → List CutOf → List CutOf → Knowledge
knowledge parts all taken = record { parts = parts; all = all; taken = taken }

abbrev pub left_half : Knowledge → Knowledge
left_half v = knowledge (v.parts - v.parts / 2) v.all v.taken

abbrev pub right_half : Knowledge → Knowledge
right_half v = knowledge (v.parts / 2) v.all []

abbrev pub both_halves : Knowledge → Knowledge → Knowledge
both_halves v w = knowledge (v.parts + w.parts) v.all (v.taken ++ w.taken)

-- gives what the passes have taken
abbrev pub taken_of : List Knowledge → List CutOf
taken_of [] = []
taken_of (v ∷ vs) = v.taken ++ taken_of vs

abbrev pub parts_of : List Knowledge → ℕ
parts_of [] = 0
parts_of (v ∷ vs) = v.parts + parts_of vs

-- a pass with a part knows the round's orders, and one with none has taken nothing
abbrev pub Fits : List CutOf → Knowledge → Type 0
Fits orders v = (v.parts ≢ 0 → v.all ≡ orders) × (v.parts ≡ 0 → v.taken ≡ [])

-- the orders put are those that are gone and then those that wait; those that are gone are what all passes have taken, each once
pub record Handed (items : List CutOf) (views : List Knowledge) : Type 0 where
  pub orders : List CutOf
  pub gone : List CutOf
  pub waiting : orders ≡ gone ++ items
  pub each_once : IsPermutation gone (taken_of views)
  pub parts : parts_of views ≡ 16
  pub fits : (port : ℕ) (v : Knowledge) → get_elem? views port ≡ some v → Fits orders v

abbrev pub Puts : Knowledge → CutOf → Knowledge → Type 0
Puts v x w = w ≡ knowledge v.parts (v.all ++ x ∷ []) v.taken

-- a pass takes an order of the round
abbrev pub Takes : Knowledge → CutOf → Knowledge → Type 0
Takes v x w = (w ≡ knowledge v.parts v.all (v.taken ++ x ∷ [])) × Contains v.all x

-- no more orders wait than were put, and the pass with all parts knows that it has taken what doesn't wait, each order once
abbrev pub Knows : Knowledge → List CutOf → Type 0
Knows v items = (length items ≤ length v.all)
    × (v.parts ≡ 16 → IsPermutation v.all (v.taken ++ items))
