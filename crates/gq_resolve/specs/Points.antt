-- Definitions of the point that a walk has come to.
use Rattle.std.specs.Prelude.{◌≢◌, ℕ, ◌+◌, ◌-◌, Bool, true, false, List, [], ◌∷◌, ◌++◌, take, length}
use Rattle.plan_walk.specs.Puts.{Put, Begins, Ends, Enters, Has, Reads, Waits}

-- A point: of each object and list that a walk is in, outermost first, how many positions it has come to; and whether it has entered the
-- last of them and put nothing of it yet.
pub record PointOf : Type 0 where
  pub path : List ℕ
  pub entered : Bool

-- counts so many positions more in the innermost
abbrev pub with_more : ℕ → List ℕ → List ℕ
with_more n [] = []
with_more n (x ∷ []) = (x + n) ∷ []
with_more n (x ∷ y ∷ ys) = x ∷ with_more n (y ∷ ys)

abbrev pub without_last : List ℕ → List ℕ
without_last path = take (length path - 1) path

abbrev pub point_after : Put → PointOf → PointOf
point_after (Begins kind) p = record { path = p.path ++ 0 ∷ []; entered = false }
point_after (Ends kind non_null) p = record { path = without_last p.path; entered = false }
point_after (Enters kind position) p = record { path = with_more 1 p.path; entered = true }
point_after (Has non_null leaf_value) p = record p { entered = false }
point_after Reads p = p
point_after (Waits program) p = record p { entered = false }

abbrev pub points_after : List Put → PointOf → PointOf
points_after [] p = p
points_after (x ∷ xs) p = points_after xs (point_after x p)

-- the start of a walk
abbrev pub origin : PointOf
origin = record { path = []; entered = true }

-- the point isn't the goal, and these puts come to no point that is
abbrev pub Avoids : List Put → PointOf → PointOf → Type 0
Avoids [] p goal = p ≢ goal
Avoids (x ∷ xs) p goal = (p ≢ goal) × Avoids xs (point_after x p) goal
