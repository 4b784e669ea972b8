-- Definitions of what a plan asks, one load at a time, and what comes of it: *Execution tree* (sections 6.2, 6.3 and 6.4
-- of the GraphQL specification of October 2021). A position is a response key of an object or a place of a list, with its
-- type. No plan, binding or fragment appears here: a program is what is left of them.
use Rattle.std.specs.Prelude.{ℕ, suc, max, ℤ, Bool, List, [], ◌∷◌, ◌++◌, Option, Some, None}
use Rattle.load_memory.specs.Outcomes.{OutcomeOf}
use Rattle.text_place.specs.declared.place.Place.{Place}
use Rattle.execution.specs.Loads.{Load, Reader}

-- the value of a scalar or an enum; an ID and the name of an enum value are texts
pub data Leaf : Type 0 where
  Text : List ℕ → Leaf
  Int : ℤ → Leaf
  Boolean : Bool → Leaf

-- the own value of a position with nothing below it; a fault has its text
pub data LeafValue : Type 0 where
  Value : Leaf → LeafValue
  Null : LeafValue
  Fault : List ℕ → LeafValue

-- says what a position with others below it is
pub data Kind : Type 0 where
  ListOf : Kind
  ObjectOf : Kind

-- one step of a path: a response key, or a place in a list, from 0
pub data Part : Type 0 where
  Key : List ℕ → Part
  Item : ℕ → Part

-- a position: the last step of its path, its type, and where its errors are: at the first field of its group
pub record FieldPosition : Type 0 where
  pub part : Part
  pub non_null : Bool
  pub place : Place

-- A position has an own value, reads a load and goes on by its outcome, or has positions below it.
mutual
  pub data Program : Type 0 where
    Is : LeafValue → Program
    Read : Load → (OutcomeOf → Program) → Program
    Under : Kind → Programs → Program

  pub data Programs : Type 0 where
    End : Programs
    With : FieldPosition → Program → Programs → Programs

-- The execution tree. A position whose load isn't answered is open, and has nothing below it; its siblings go on.
mutual
  pub data Tree : Type 0 where
    Open : Tree
    At : LeafValue → Tree
    Over : Kind → Trees → Tree

  pub data Trees : Type 0 where
    NoMore : Trees
    And : FieldPosition → Tree → Trees → Trees

-- the first where a load isn't answered, else the second at its outcome
abbrev pub given : {A : Type 0} → Option OutcomeOf → A → (OutcomeOf → A) → A
given None absent present = absent
given (Some outcome) absent present = present outcome

-- tree(plan, M)
abbrev mutual
  pub tree : Program → Reader → Tree
  tree (Is own) R = At own
  tree (Read load next) R = given (R load) Open (λ outcome. tree (next outcome) R)
  tree (Under kind below) R = Over kind (trees below R)

  pub trees : Programs → Reader → Trees
  trees End R = NoMore
  trees (With position program rest) R = And position (tree program R) (trees rest R)

-- needs(plan, M): the loads that are read, depth first, a position's own before those below it
abbrev mutual
  pub needs : Program → Reader → List Load
  needs (Is own) R = []
  needs (Read load next) R = load ∷ given (R load) [] (λ outcome. needs (next outcome) R)
  needs (Under kind below) R = all_needs below R

  pub all_needs : Programs → Reader → List Load
  all_needs End R = []
  all_needs (With position program rest) R = needs program R ++ all_needs rest R

-- chain(plan, M), *Load chain*: the greatest number of loads that are read along one path
abbrev mutual
  pub chain : Program → Reader → ℕ
  chain (Is own) R = 0
  chain (Read load next) R = suc (given (R load) 0 (λ outcome. chain (next outcome) R))
  chain (Under kind below) R = all_chain below R

  pub all_chain : Programs → Reader → ℕ
  all_chain End R = 0
  all_chain (With position program rest) R = max (chain program R) (all_chain rest R)
