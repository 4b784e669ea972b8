-- Definitions of how the group of a response key is found. No public clause names these.
use Rattle.std.specs.Prelude.{◌≡◌, ◌<◌, ℕ, List, [], map, length, bytes_eq}
use Rattle.std.specs.Borrow.{Bor}
use Rattle.indexmap.specs.IndexSet.{insert_all}
use Rattle.plan_program.specs.declared.group.Group.{Group}

abbrev pub texts_of : List (Bor (List ℕ)) → List (List ℕ)
texts_of ts = map (λ (t : Bor (List ℕ)). t.now) ts

-- the keys of groups, in order
abbrev pub keys_in : List Group → List (List ℕ)
keys_in gs = map (λ (g : Group). g.key.now) gs

-- a table that isn't empty has the keys of the groups
abbrev pub AreTabled : List (List ℕ) → List (List ℕ) → Type 0
AreTabled tabled keys = 0 < length tabled → tabled ≡ keys

-- no key of the groups is there twice, and the table has them or none
pub record AreFound (tabled keys : List (List ℕ)) : Type 0 where
  pub apart : insert_all bytes_eq [] keys ≡ keys
  pub same : AreTabled tabled keys
