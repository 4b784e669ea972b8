-- Definitions of what the work of a plan leaves of a limit. Two are proofs, which the laws of their sink need here.
use Rattle.std.proofs.Common.{◌≡◌, ◌+◌, ◌-◌, ◌^◌, ℕ, List, [], ◌++◌, refl, Option, Some, None, arith}
use Rattle.std.specs.List.{sum_by}
use Rattle.std.proofs.lemmas.List.Sums.{sum_by-append}
use Rattle.load_memory.specs.Pairs.{MemoryOf}
use Rattle.execution.specs.Work.{work, IsLeft}
use Rattle.gq_check.specs.Plans.{PlanOf}
use Rattle.plan_program.specs.PlanPrograms.{plan_program}
use Rattle.plan_walk.specs.Puts.{Put, Begins, Ends, Enters, Has, Reads, Waits}
use Rattle.plan_walk.specs.Reading.{reader}

-- of a plan over a memory
abbrev pub plan_work : PlanOf → MemoryOf → ℕ
plan_work plan m = work (plan_program plan) (reader m)

-- the largest limit
abbrev pub largest : ℕ
largest = 2 ^ 64 - 1

-- gives how many positions are put
abbrev pub put_work : Put → ℕ
put_work (Begins kind) = 1
put_work (Ends kind non_null) = 0
put_work (Enters kind position) = 0
put_work (Has non_null leaf_value) = 1
put_work Reads = 0
put_work (Waits program) = 1

-- says the same of what was left; where nothing was, nothing is
abbrev pub IsLeftOf : Option ℕ → ℕ → Option ℕ → Type 0
IsLeftOf None work left = left ≡ None
IsLeftOf (Some most) work left = IsLeft most work left

abbrev pub TakesWork : List Put → Option ℕ → Option ℕ → Type 0
TakesWork ps old new = IsLeftOf old (sum_by put_work ps) new

pub takes-none : (left : Option ℕ) → TakesWork [] left left
takes-none None = refl
takes-none (Some left) = omega arith

left-more : (n m : ℕ) (a b c : Option ℕ) → IsLeftOf a n b → IsLeftOf b m c → IsLeftOf a (n + m) c
left-more n m None b c p q = rw p at q
left-more n m (Some a) None c p q = rw q (omega (arith, p))
left-more n m (Some a) (Some b) None p q = omega (arith, p, q)
left-more n m (Some a) (Some b) (Some c) p q = omega (arith, p, q)

pub takes-more : (ps qs : List Put) (a b c : Option ℕ)
    → TakesWork ps a b → TakesWork qs b c → TakesWork (ps ++ qs) a c
takes-more ps qs a b c p q = rw (sum_by-append put_work ps qs)
    (left-more (sum_by put_work ps) (sum_by put_work qs) a b c p q)
