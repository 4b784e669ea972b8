-- The program of a total: its positions are of nullable types, and it asks two loaders.
use Rattle.std.proofs.Common.{◌<◌, ℕ, suc, List, [], ◌∷◌, Option, Some, None, inl, inr, refl, arith, codes}
use Rattle.load_memory.specs.Outcomes.{OutcomeOf, known, batch_fault, rows, key_fault}
use Rattle.load_memory.specs.Rows.{RowOf, cell_of}
use Rattle.execution.specs.Loads.{Load, Reader, IsOneOf}
use Rattle.execution.specs.Program.{Program, given, Open, needs, all_needs, tree, trees}
use Rattle.execution.specs.Rounds.{HasLoaders}
use Rattle.execution.proofs.Same.{one-either}
use Rattle.example_totals.specs.Totals.{load_of, orders_total, friend_total, friend_totals, friends_total, total_of_friends}
use Rattle.example_totals.proofs.Finding.{IsNullable, AreNullable}

module _ (R : Reader) where
  read-nullable : (o : Option OutcomeOf) (next : OutcomeOf → Program) → ((outcome : OutcomeOf) → IsNullable (tree (next outcome) R)) → IsNullable (given o Open (λ outcome. tree (next outcome) R))
  read-nullable None next h = tt
  read-nullable (Some outcome) next h = h outcome

  orders-nullable : (outcome : OutcomeOf) → IsNullable (tree (orders_total outcome) R)
  orders-nullable (known (rows orders)) = tt
  orders-nullable (known (key_fault text)) = tt
  orders-nullable (batch_fault text) = tt

  friend-nullable : (id : Option (List ℕ)) → IsNullable (tree (friend_total id) R)
  friend-nullable None = tt
  friend-nullable (Some []) = tt
  friend-nullable (Some (b ∷ bs)) = read-nullable (R (load_of 1 (b ∷ bs))) orders_total orders-nullable

  all-nullable : (n : ℕ) (friends : List RowOf) → AreNullable (trees (friend_totals n friends) R)
  all-nullable n [] = tt
  all-nullable n (friend ∷ friends) = (refl, friend-nullable (cell_of friend (codes "friend")), all-nullable (suc n) friends)

  friends-nullable : (outcome : OutcomeOf) → IsNullable (tree (friends_total outcome) R)
  friends-nullable (known (rows friends)) = all-nullable 0 friends
  friends-nullable (known (key_fault text)) = tt
  friends-nullable (batch_fault text) = tt

  pub total-nullable : (customer : List ℕ) → IsNullable (tree (total_of_friends customer) R)
  total-nullable customer = read-nullable (R (load_of 0 customer)) friends_total friends-nullable

  -- ---- loaders

  abbrev Within : List Load → Type 0
  Within loads = (load : Load) → IsOneOf load loads → load.loader < 2

  read-within : (loader : ℕ) (id : List ℕ) (o : Option OutcomeOf) (next : OutcomeOf → Program) → loader < 2 → ((outcome : OutcomeOf) → Within (needs (next outcome) R)) → Within (load_of loader id ∷ given o [] (λ outcome. needs (next outcome) R))
  read-within loader id o next below h load (inl e) = rw e below
  read-within loader id None next below h load (inr i) = absurd i
  read-within loader id (Some outcome) next below h load (inr i) = h outcome load i

  orders-within : (outcome : OutcomeOf) → Within (needs (orders_total outcome) R)
  orders-within (known (rows orders)) load i = absurd i
  orders-within (known (key_fault text)) load i = absurd i
  orders-within (batch_fault text) load i = absurd i

  friend-within : (id : Option (List ℕ)) → Within (needs (friend_total id) R)
  friend-within None load i = absurd i
  friend-within (Some []) load i = absurd i
  friend-within (Some (b ∷ bs)) load i = read-within 1 (b ∷ bs) (R (load_of 1 (b ∷ bs))) orders_total (omega arith) orders-within load i

  all-within : (n : ℕ) (friends : List RowOf) → Within (all_needs (friend_totals n friends) R)
  all-within n [] load i = absurd i
  all-within n (friend ∷ friends) load i =
      let id = cell_of friend (codes "friend") in
      elim (one-either load (needs (friend_total id) R) (all_needs (friend_totals (suc n) friends) R) i) [ inl one ↦ friend-within id load one | inr more ↦ all-within (suc n) friends load more ]

  friends-within : (outcome : OutcomeOf) → Within (needs (friends_total outcome) R)
  friends-within (known (rows friends)) load i = all-within 0 friends load i
  friends-within (known (key_fault text)) load i = absurd i
  friends-within (batch_fault text) load i = absurd i

pub total-within : (customer : List ℕ) → HasLoaders 2 (total_of_friends customer)
total-within customer R load i = read-within R 0 customer (R (load_of 0 customer)) friends_total (omega arith) (friends-within R) load i
