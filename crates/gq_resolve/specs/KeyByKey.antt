-- *Execution key by key*: it asks for one key at a time and remembers nothing. Its calls, one after another, and how many they are.
use Rattle.std.specs.Prelude.{◌≡◌, ℕ, List, [], ◌∷◌, ◌++◌, length, map, Some}
use Rattle.load_memory.specs.Outcomes.{OutcomeOf}
use Rattle.execution.specs.Loads.{Load, Reader}
use Rattle.execution.specs.Program.{Program, Is, Read, Under, Programs, End, With, Tree, At, Over, Trees, NoMore, And, tree}

-- a call for one key, and what it gave
pub record KeyCall : Type 0 where
  pub load : Load
  pub outcome : OutcomeOf

abbrev pub called_loads : List KeyCall → List Load
called_loads calls = map (λ (c : KeyCall). c.load) calls

-- These are the calls of a program's execution, and this is the tree that it comes to (sections 6.2, 6.3 and 6.4 of the GraphQL
-- specification of October 2021). Each load is a call when it is reached, depth first, also where its key was asked before; and
-- execution goes on by what that call gave, whatever it is.
abbrev mutual
  pub IsKeyByKey : Program → List KeyCall → Tree → Type 0
  IsKeyByKey (Is own) calls t = (calls ≡ []) × (t ≡ At own)
  IsKeyByKey (Read load next) calls t =
      (outcome : OutcomeOf)
      × (later : List KeyCall) × (calls ≡ record { load = load; outcome = outcome } ∷ later)
      × IsKeyByKey (next outcome) later t
  IsKeyByKey (Under kind below) calls t = (ts : Trees)
      × (t ≡ Over kind ts) × AreKeyByKey below calls ts

  pub AreKeyByKey : Programs → List KeyCall → Trees → Type 0
  AreKeyByKey End calls ts = (calls ≡ []) × (ts ≡ NoMore)
  AreKeyByKey (With position p rest) calls ts =
      (first : List KeyCall) × (later : List KeyCall) × (t : Tree) × (others : Trees)
      × (calls ≡ first ++ later) × (ts ≡ And position t others)
      × IsKeyByKey p first t × AreKeyByKey rest later others

-- each call gave what a reader says of its load
abbrev pub AreGivenBy : Reader → List KeyCall → Type 0
AreGivenBy R [] = Unit {0}
AreGivenBy R (c ∷ cs) = (R c.load ≡ Some c.outcome) × AreGivenBy R cs

-- execution key by key, by what a reader says, makes `count` calls
pub record MakesCalls (p : Program) (R : Reader) (count : ℕ) : Type 0 where
  pub calls : List KeyCall
  pub executed : IsKeyByKey p calls (tree p R)
  pub given : AreGivenBy R calls
  pub many : length calls ≡ count
