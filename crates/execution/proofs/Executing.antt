-- Lemmas on what an execution answers that added to the wants exactly what it needs and the memory
-- lacks.
use Rattle.std.proofs.Common.{◌≡◌, ℕ, true, false, List, [], ◌∷◌, string_bytes, refl, sym, ap, ◌∙◌}
use Rattle.load_memory.specs.Pairs.{MemoryOf, look}
use Rattle.load_memory.specs.declared.key.KeyMode.{KeyMode}
use Rattle.load_queue.specs.Wanted.{WantedOf}
use Rattle.execution.specs.Loads.{Load, Reader, read}
use Rattle.execution.specs.Program.{Program, tree, needs}
use Rattle.execution.specs.Completion.{AnsweredOf, is_open}
use Rattle.execution.specs.Executed.{completed}
use Rattle.execution.specs.Executes.{IsExecuted}
use Rattle.execution.specs.Reads.{count_read, counted}
use Rattle.execution.specs.declared.execution_result.ExecutionResult.{ExecutionResult}
use Rattle.execution.specs.Front.{front, firsts, missing, wanting, modes_wanted}
use Rattle.execution.proofs.Monotone.{front-open, exec-whole}
use Rattle.execution.proofs.Wanting.{wanting-firsts}
use Rattle.futures.specs.declared.task.Poll.TheVariants.{Ready, Pending}

none-first : (modes : List KeyMode) (ls : List Load) → firsts modes ls ≡ [] → ls ≡ []
none-first modes [] e = refl
none-first modes (l ∷ ls) e = absurd (cc e)

-- gives what the memory says of loads
abbrev pub reads : MemoryOf → Reader
reads m = read m.modes (look m.pairs)

-- the wants with all that the program needs and the memory lacks
abbrev pub Adds : Program → MemoryOf → List WantedOf → List WantedOf → Type 0
Adds p m old new = new ≡ wanting old (missing (reads m) (needs p (reads m)))

module _ (text_of : AnsweredOf → List ℕ) (p : Program) (m : MemoryOf) (old new : List WantedOf) (adds : Adds p m old new) where
  -- nothing is open, so that nothing was missing, the text is that of the tree, and the loads are those that it reads
  pub ready : (result : ExecutionResult) → is_open (tree p (reads m)) ≡ false → string_bytes result.text ≡ text_of (completed (tree p (reads m))) → result.loads ≡ counted (count_read p (reads m))
      → IsExecuted text_of old new p m (Ready result)
  ready result shut is loads =
      let none : front m.modes p (look m.pairs) ≡ [] = (front-open m.modes p (look m.pairs)).1 shut in
      let nothing = none-first m.modes (missing (reads m) (needs p (reads m))) none in
      (none, record { answered = completed (tree p (reads m)); executed = exec-whole p (reads m) shut; report = is }, loads, adds ∙ ap (wanting old) nothing)

  -- something is open, so that something was missing: the front was added
  pub waits : is_open (tree p (reads m)) ≡ true → modes_wanted old ≡ m.modes → IsExecuted text_of old new p m Pending
  waits some lined_up = (
    λ none. absurd (cc (sym some ∙ (front-open m.modes p (look m.pairs)).0 none)),
    adds ∙ sym (wanting-firsts m.modes old (missing (reads m) (needs p (reads m))) lined_up),
  )
