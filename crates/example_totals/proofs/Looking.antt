-- Lemmas on what a look-up finds, and what it adds to the wants.
use Rattle.std.proofs.Common.{◌≡◌, true, false, List, [], ◌∷◌, Option, is_some, is_none, Bor, refl, ap, ◌∙◌}
use Rattle.std.specs.Prelude.{option_map, option_copied, not}
use Rattle.load_memory.specs.Outcomes.{outcome_of}
use Rattle.load_memory.specs.declared.outcome.Outcome.{Outcome}
use Rattle.load_queue.specs.Wanted.{WantedOf, with_wanted}
use Rattle.execution.specs.Loads.{Load, Reader}
use Rattle.execution.specs.Front.{missing, wanting}
use Rattle.load_rounds.proofs.Lacking.{unknown}

module _ (R : Reader) (load : Load) (found : Option (Bor Outcome)) (is : option_map outcome_of (option_copied found) ≡ R load) (old : List WantedOf) where
  -- nothing was found, and the load was added
  pub adds-missing : is_some found ≡ false → (new : List WantedOf) → new ≡ with_wanted old load.loader load.key → new ≡ wanting old (missing R (load ∷ []))
  adds-missing none new put = let e : is_none (R load) ≡ true = unknown found (R load) is ∙ ap not none in rw e put

  -- something was found
  pub adds-nothing : is_some found ≡ true → old ≡ wanting old (missing R (load ∷ []))
  adds-nothing some = let e : is_none (R load) ≡ false = unknown found (R load) is ∙ ap not some in rw e refl
