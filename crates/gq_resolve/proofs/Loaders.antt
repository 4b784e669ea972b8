-- Readers that say the same of the loads that a program reads are the same to it. A plan's program reads loads of the bindings'
-- loaders alone, so what else a memory says makes no difference to it.
use Rattle.std.proofs.Common.{◌≡◌, ◌≤◌, List, ◌∷◌, length, Option, Some, None, inl, inr, refl, ap, ◌∙◌}
use Rattle.load_memory.specs.Outcomes.{OutcomeOf}
use Rattle.load_memory.specs.Pairs.{MemoryOf}
use Rattle.execution.specs.Loads.{Load, Reader, IsOneOf}
use Rattle.execution.specs.Program.{Program, Is, Read, Under, Programs, End, With, needs, all_needs}
use Rattle.execution.specs.Residual.{rest, all_rest}
use Rattle.execution.proofs.Same.{one-left, one-right}
use Rattle.gq_check.specs.Plans.{PlanOf}
use Rattle.plan_program.specs.PlanPrograms.{plan_program}
use Rattle.plan_walk.specs.Reading.{reader, lookup}
use Rattle.plan_walk.proofs.Lookups.{lookup-same}
use Rattle.gq_resolve.proofs.PlanLoads.{plan-loads}

module _ (T R : Reader) where
  abbrev Agree : List Load → Type 0
  Agree loads = (load : Load) → IsOneOf load loads → T load ≡ R load

  -- it reads the same, and the same is left of it
  abbrev pub IsSame : Program → Type 0
  IsSame p = (needs p T ≡ needs p R) × (rest p T ≡ rest p R)

  same-read : (load : Load) (next : OutcomeOf → Program) (r : Option OutcomeOf) → R load ≡ r → Agree (needs (Read load next) R) → ((o : OutcomeOf) → Agree (needs (next o) R) → IsSame (next o)) → IsSame (Read load next)
  same-read load next None e agree ih = let f : T load ≡ None = agree load (inl refl) ∙ e in rw (e, f) (refl, refl)
  same-read load next (Some o) e agree ih =
      let f : T load ≡ Some o = agree load (inl refl) ∙ e in
      let below : IsSame (next o) = ih o (λ l i. agree l (inr (rw e i))) in
      rw (e, f) (ap (λ ls. load ∷ ls) below.0, below.1)

  mutual
    same : (p : Program) → Agree (needs p R) → IsSame p
    same (Is leaf_value) agree = (refl, refl)
    same (Read load next) agree = same-read load next (R load) refl agree (λ o. same (next o))
    same (Under kind below) agree = let all = same-all below agree in (all.0, ap (Under kind) all.1)

    same-all : (ps : Programs) → Agree (all_needs ps R) → (all_needs ps T ≡ all_needs ps R) × (all_rest ps T ≡ all_rest ps R)
    same-all End agree = (refl, refl)
    same-all (With position p ps) agree =
        let first = same p (λ l i. agree l (one-left l (needs p R) (all_needs ps R) i)) in
        let others = same-all ps (λ l i. agree l (one-right l (needs p R) (all_needs ps R) i)) in
        rw (first.0, first.1, others.0, others.1) (refl, refl)

-- a plan reads no more of a memory than is looked up
pub plan-same : (plan : PlanOf) (m : MemoryOf) → length plan.bindings.loaders ≤ length m.modes → IsSame (lookup m) (reader m) (plan_program plan)
plan-same plan m le = same (lookup m) (reader m) (plan_program plan) (λ load i. lookup-same m (length plan.bindings.loaders) le load (plan-loads plan (reader m) load i))
