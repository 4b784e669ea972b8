-- Lemmas on how many steps are left to do ahead.
use Rattle.std.proofs.Common.{◌≡◌, ◌≢◌, ◌≤◌, ◌<◌, ◌+◌, ℕ, arith, List, inl, inr, length, length-append, ap, Option, None, Some}
use Rattle.std.specs.Prelude.{Result, Ok, Err, IfOk, OnOk, IfSome, option_map}
use Rattle.std.specs.declared.alloc.AllocError.{AllocError}
use Rattle.load_memory.specs.Pairs.{MemoryOf}
use Rattle.execution.specs.Executes.{ComesNearer}
use Rattle.gq_check.specs.Plans.{PlanOf}
use Rattle.plan_walk.specs.Puts.{Put}
use Rattle.execution.specs.Work.{IsLeft}
use Rattle.execution.specs.declared.count_work.Counted.{Counted}
use Rattle.gq_resolve.specs.StepsLeft.{walk_left, steps_left, WorksAhead, CountsAhead}
use Rattle.gq_resolve.specs.Suspended.{FitsMemory, IsPaused, IsStoppedAt}
use Rattle.gq_resolve.specs.WorkLeft.{plan_work}
use Rattle.gq_resolve.specs.declared.paused_walk.PausedWalk.{PausedWalk}
use Rattle.gq_resolve.specs.declared.root_state.RootState.{RootState}
use Rattle.gq_resolve.specs.declared.pausing.Course.TheVariants.{Onward, Stopped}

-- what a call says of a walk: that it isn't at its end, or how many steps it didn't need
abbrev pub SaysOf : {S : Type 0} → ℕ → PausedWalk S → Option ℕ → Type 0
SaysOf steps w None = w.out.course ≢ Onward
SaysOf steps w (Some rest) = rest ≤ steps

-- a walk that went on has less left, unless it is at its end
pub nearer-walk : {S : Type 0} (plan : PlanOf) (m : MemoryOf) (steps given : ℕ) (old new : PausedWalk S) (taken rest : List Put) (did : Option ℕ) → 0 < given → IsPaused plan m taken rest new → old.taken ≤ new.taken
    → (new.out.course ≡ Stopped → old.taken + given ≤ new.taken) → SaysOf steps new did → ComesNearer steps (walk_left plan m (Some old.taken)) (walk_left plan m (Some new.taken)) did
nearer-walk plan m steps given old new taken rest None least h longer stopped before = go h.stopped
  where
    go : IsStoppedAt taken rest new.out → ComesNearer steps (walk_left plan m (Some old.taken)) (walk_left plan m (Some new.taken)) None
    go (inl (onward, none)) = absurd (before onward)
    go (inr (is, between)) = omega (arith, least, stopped is, h.few, ap (λ (ps : List Put). length ps) h.all, length-append taken rest)
nearer-walk plan m steps given old new taken rest (Some over) least h longer stopped few = (omega (arith, longer), few)

-- and so has all that it is a part of
pub nearer-more : (steps a b old new : ℕ) (did : Option ℕ) → ComesNearer steps a b did → a + new ≤ b + old → ComesNearer steps old new did
nearer-more steps a b old new None h le = omega (arith, h, le)
nearer-more steps a b old new (Some over) h le = (omega (arith, h.0, le), h.1)

-- what a call wrote ahead, by its parts
pub wrote-parts : (plan : PlanOf) (m : MemoryOf) (most : Option ℕ) (steps : ℕ) (old new : RootState) (r : Result (Option ℕ) AllocError) → FitsMemory plan old m → IfOk r (WorksAhead plan m most steps old new)
    → OnOk r (FitsMemory plan new m) × IfOk r (ComesNearer steps (steps_left plan most old m) (steps_left plan most new m))
wrote-parts plan m most steps old new (Ok did) fits h = ((h fits).fits, (h fits).nearer)
wrote-parts plan m most steps old new (Err e) fits h = (tt, tt)

-- what a call counted ahead, by its parts
pub counted-parts : (plan : PlanOf) (m : MemoryOf) (limit : Option ℕ) (most steps : ℕ) (old new : RootState) (r : Result (Option Counted) AllocError) → FitsMemory plan old m → IfOk r (CountsAhead plan m most steps old new)
    → OnOk r (FitsMemory plan new m) × IfOk r (λ did. IfSome did (λ count. IsLeft most (plan_work plan m) count.left))
    × IfOk r (λ did. ComesNearer steps (steps_left plan limit old m) (steps_left plan limit new m) (option_map (λ count. count.steps) did))
counted-parts plan m limit most steps old new (Ok did) fits h = ((h fits).fits, (h fits).counted, (h fits).nearer limit)
counted-parts plan m limit most steps old new (Err e) fits h = (tt, tt, tt)
