-- Lemmas on what a tree comes to, and what its completion says.
use Rattle.std.proofs.Common.{◌≡◌, ◌+◌, ◌++◌, ◌||◌, ℕ, Bool, true, false, List, [], ◌∷◌, refl, sym, ap, ◌∙◌, arith, String, string_bytes}
use Rattle.std.specs.Fmt.{decimal}
use Rattle.std.specs.declared.alloc.Global.{Global}
use Rattle.text_place.specs.declared.place.Place.{Place}
use Rattle.load_memory.specs.Pairs.{MemoryOf}
use Rattle.load_queue.specs.Wanted.{WantedOf}
use Rattle.execution.specs.Program.{Value, Null, Fault, Part, Program, Tree, Open, At, Over, Trees, NoMore, And, tree}
use Rattle.execution.specs.Completion.{ErrorOf, is_open, any_open}
use Rattle.execution.specs.Executed.{pulls_down, response, responses, errors, all_errors, completed}
use Rattle.execution.specs.Executes.{IsExecuted}
use Rattle.execution.specs.Front.{modes_wanted}
use Rattle.futures.specs.declared.task.Poll.TheVariants.{Ready, Pending}
use Rattle.load_rounds.specs.Calls.{reader_of}
use Rattle.example_totals.specs.Totals.{sum_in, sum_below, first_message, total_text}
use Rattle.example_totals.specs.Found.{FoundOf, lacking, number, fault, found_of, both, found_in, found_below, IsFound}
use Rattle.example_totals.specs.declared.totals.Finding.{Finding}
use Rattle.execution.proofs.Executing.{ready, waits}

-- ---- trees whose positions are of nullable types

abbrev mutual
  pub IsNullable : Tree → Type 0
  IsNullable Open = Unit {0}
  IsNullable (At own) = Unit {0}
  IsNullable (Over kind below) = AreNullable below

  pub AreNullable : Trees → Type 0
  AreNullable NoMore = Unit {0}
  AreNullable (And position t rest) = (position.non_null ≡ false) × IsNullable t × AreNullable rest

none-pulled : (ts : Trees) → AreNullable ts → pulls_down ts ≡ false
none-pulled NoMore h = refl
none-pulled (And position t rest) h = rw h.0 (none-pulled rest h.2)

-- one error and perhaps more, of which the first has this message
abbrev BeginsWith : List ℕ → List ErrorOf → Type 0
BeginsWith text [] = ⊥
BeginsWith text (e ∷ es) = e.message ≡ text

-- a finding says whether something is open, which errors there are, and the sum of the response
abbrev Says : FoundOf → Bool → List ErrorOf → ℕ → Type 0
Says lacking waits es sum = waits ≡ true
Says (number n) waits es sum = (waits ≡ false) × (es ≡ []) × (sum ≡ n)
Says (fault text) waits es sum = (waits ≡ false) × BeginsWith text es

or-true : (a : Bool) → (a || true) ≡ true
or-true true = refl
or-true false = refl

begins-left : (text : List ℕ) (es fs : List ErrorOf) → BeginsWith text es → BeginsWith text (es ++ fs)
begins-left text [] fs h = absurd h
begins-left text (e ∷ es) fs h = h

says-both : (f g : FoundOf) (o p : Bool) (es fs : List ErrorOf) (a b : ℕ) → Says f o es a → Says g p fs b → Says (both f g) (o || p) (es ++ fs) (a + b)
says-both lacking g o p es fs a b h k = rw h refl
says-both (number m) lacking o p es fs a b h k = rw k (or-true o)
says-both (number m) (number n) o p es fs a b h k = (rw (h.0, k.0) refl, rw (h.1, k.1) refl, rw (h.2, k.2) refl)
says-both (number m) (fault text) o p es fs a b h k = (rw (h.0, k.0) refl, rw h.1 k.1)
says-both (fault text) lacking o p es fs a b h k = rw k (or-true o)
says-both (fault text) (number n) o p es fs a b h k = (rw (h.0, k.0) refl, begins-left text es fs h.1)
says-both (fault text) (fault other) o p es fs a b h k = (rw (h.0, k.0) refl, begins-left text es fs h.1)

mutual
  tree-says : (t : Tree) → IsNullable t → (place : Place) (path : List Part) → Says (found_in t) (is_open t) (errors false place path t) (sum_in (response t))
  tree-says Open h place path = refl
  tree-says (At (Value leaf)) h place path = (refl, refl, refl)
  tree-says (At Null) h place path = (refl, refl, refl)
  tree-says (At (Fault text)) h place path = (refl, refl)
  tree-says (Over kind below) h place path = rw (none-pulled below h) (trees-say below h path)

  trees-say : (ts : Trees) → AreNullable ts → (path : List Part) → Says (found_below ts) (any_open ts) (all_errors path ts) (sum_below (responses ts))
  trees-say NoMore h path = (refl, refl, refl)
  trees-say (And position t rest) h path =
      says-both (found_in t) (found_below rest) (is_open t) (any_open rest) (errors position.non_null position.place (path ++ position.part ∷ []) t) (all_errors path rest) (sum_in (response t)) (sum_below (responses rest))
      (rw h.0 (tree-says t h.1 position.place (path ++ position.part ∷ []))) (trees-say rest h.2 path)

pub both-assoc : (f g h : FoundOf) → both (both f g) h ≡ both f (both g h)
both-assoc lacking g h = refl
both-assoc (number l) lacking h = refl
both-assoc (number l) (number m) lacking = refl
both-assoc (number l) (number m) (number n) = ap number (omega arith)
both-assoc (number l) (number m) (fault text) = refl
both-assoc (number l) (fault text) lacking = refl
both-assoc (number l) (fault text) (number n) = refl
both-assoc (number l) (fault text) (fault other) = refl
both-assoc (fault text) lacking h = refl
both-assoc (fault text) (number m) lacking = refl
both-assoc (fault text) (number m) (number n) = refl
both-assoc (fault text) (number m) (fault other) = refl
both-assoc (fault text) (fault other) lacking = refl
both-assoc (fault text) (fault other) (number n) = refl
both-assoc (fault text) (fault other) (fault last) = refl

pub both-none : (f : FoundOf) → both f (number 0) ≡ f
both-none lacking = refl
both-none (number n) = ap number (omega arith)
both-none (fault text) = refl

-- ---- what an execution answers by what was found

first-is : (text : List ℕ) (es : List ErrorOf) (otherwise : List ℕ) → BeginsWith text es → first_message es otherwise ≡ text
first-is text [] otherwise h = absurd h
first-is text (e ∷ es) otherwise h = h

module _ (p : Program) (m : MemoryOf) (old new : List WantedOf) (part : Finding) (nullable : IsNullable (tree p (reader_of m))) (is : IsFound p m old new part) where
  told : (f : FoundOf) → found_of part.found ≡ f → Says f (is_open (tree p (reader_of m))) (completed (tree p (reader_of m))).errors (sum_in (completed (tree p (reader_of m))).response)
  told f e = rw (sym e ∙ is.found) (tree-says (tree p (reader_of m)) nullable (record { line = 1; column = 1 }) [])

  pub answers-lacking : found_of part.found ≡ lacking → modes_wanted old ≡ m.modes → IsExecuted total_text old new p m Pending
  answers-lacking e lined_up = waits total_text p m old new is.wants (told lacking e) lined_up

  pub answers-number : (n : ℕ) (text : String Global) → found_of part.found ≡ number n → string_bytes text ≡ decimal n → IsExecuted total_text old new p m (Ready (record { text = text; loads = part.loads }))
  answers-number n text e writes =
      let says = told (number n) e in
      ready total_text p m old new is.wants (record { text = text; loads = part.loads }) says.0
      (writes ∙ ap decimal (sym says.2) ∙ ap (λ es. first_message es (decimal (sum_in (completed (tree p (reader_of m))).response))) (sym says.1)) is.loads

  pub answers-fault : (message : List ℕ) (text : String Global) → found_of part.found ≡ fault message → string_bytes text ≡ message → IsExecuted total_text old new p m (Ready (record { text = text; loads = part.loads }))
  answers-fault message text e writes =
      let says = told (fault message) e in
      ready total_text p m old new is.wants (record { text = text; loads = part.loads }) says.0 (writes ∙ sym (first-is message (completed (tree p (reader_of m))).errors (decimal (sum_in (completed (tree p (reader_of m))).response)) says.1)) is.loads
