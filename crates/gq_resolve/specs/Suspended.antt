-- *Suspended resolvers*: an execution that has stopped, and when it may go on.
use Rattle.std.specs.Prelude.{◌≡◌, ◌⊎◌, ◌≤◌, ◌+◌, ℕ, true, false, List, [], ◌∷◌, ◌++◌, map, length, Option, Some, None, IfSome, Box}
use Rattle.std.specs.declared.alloc.Global.{Global}
use Rattle.futures.specs.declared.task.Poll.TheVariants.{Ready}
use Rattle.execution.specs.Completion.{AnsweredOf}
use Rattle.execution.specs.Executes.{CanExecute, IsExecuted}
use Rattle.execution.specs.declared.execution_result.ExecutionResult.{ExecutionResult}
use Rattle.load_queue.specs.Wanted.{WantedOf}
use Rattle.std.specs.Arc.{arc_value}
use Rattle.load_memory.specs.Keys.{key_of}
use Rattle.load_memory.specs.Pairs.{MemoryOf}
use Rattle.execution.specs.Loads.{Load, Reader, AnswersMore}
use Rattle.execution.specs.Reads.{count_read, counted}
use Rattle.gq_check.specs.Plans.{PlanOf, plan_of}
use Rattle.plan_program.specs.PlanPrograms.{root_prepared, plan_program}
use Rattle.gq_resolve.specs.AnswerTexts.{IsTextOf}
use Rattle.gq_resolve.specs.Stepped.{Writes, nothing_put, output_of}
use Rattle.gq_resolve.specs.Within.{IsLimit}
use Rattle.gq_resolve.specs.Evaluated.{missing_over}
use Rattle.plan_walk.specs.Reading.{lookup}
use Rattle.gq_variables.specs.Variables.{VariableOf}
use Rattle.plan_program.specs.OtherVariables.{AgreesOnDirectives, with_variables}
use Rattle.plan_walk.specs.Groups.{view_of, Makes, AreRight, AreServed, IsOtherwise}
use Rattle.plan_walk.specs.Puts.{Put, View, puts}
use Rattle.gq_resolve.specs.Written.{asks, thinned, all_asks, AreWithin}
use Rattle.gq_resolve.specs.Points.{points_after, origin}
use Rattle.gq_resolve.specs.WorkLeft.{TakesWork, largest}
use Rattle.gq_resolve.specs.Pauses.{point_of}
use Rattle.gq_resolve.specs.declared.pausing.Course.TheVariants.{Onward, Stopped}
use Rattle.gq_resolve.specs.declared.pausing.Pausing.{Pausing}
use Rattle.gq_resolve.specs.declared.paused_walk.PausedWalk.{PausedWalk}
use Rattle.gq_resolve.specs.declared.work.WorkCount.{WorkCount}
use Rattle.gq_resolve.specs.declared.answer_ahead.AnswerAhead.{AnswerAhead}
use Rattle.plan_walk.specs.declared.waiting.BlockedPosition.{BlockedPosition}
use Rattle.gq_resolve.specs.declared.output.Output.{Output}
use Rattle.gq_resolve.specs.declared.stepped_output.SteppedOutput.{SteppedOutput}
use Rattle.gq_resolve.specs.declared.advance.RootObject.{RootObject}
use Rattle.gq_resolve.specs.declared.advance.Suspension.{Suspension}
use Rattle.gq_resolve.specs.declared.advance.FinishedWalk.{FinishedWalk}
use Rattle.gq_resolve.specs.declared.root_state.RootState.{RootState}
use Rattle.plan_walk.specs.declared.walk.Walk.{Walk}

-- the members of the root, a row without columns, and groups that are right
pub record IsRooted (plan : PlanOf) (r : RootObject) : Type 0 where
  pub root : Makes plan r.groups.items (arc_value r.members).items (root_prepared plan)
  pub row : r.row ≡ []
  pub right : AreRight plan r.groups.items

-- the plan is that one with other variables, and leaves out the same
pub record IsAlike (first plan : PlanOf) : Type 0 where
  pub otherwise : IsOtherwise first plan
  pub agrees : AgreesOnDirectives first plan.variables

-- What was prepared of a plan serves each plan that is this one with other variables and leaves out the same: what stands below the groups
-- is right for it, and the groups of the root's members serve what these load.
pub record IsReusable (plan : PlanOf) (r : RootObject) : Type 0 where
  pub rooted : IsRooted plan r
  pub right : (vs : List VariableOf) → AgreesOnDirectives plan vs
      → AreRight (with_variables plan vs) r.groups.items
  pub served : (vs : List VariableOf) → AgreesOnDirectives plan vs
      → AreServed (with_variables plan vs) r.groups.items (root_prepared plan) (arc_value r.members).items

-- Over each larger memory these positions ask what the plan asks, each load once.
pub record MayGoOn (plan : PlanOf) (m : MemoryOf) (r : RootObject)
    (bs : List BlockedPosition) : Type 0 where
  pub rooted : IsRooted plan r
  pub within : AreWithin (length r.groups.items) bs
  pub ask : (R : Reader) → AnswersMore (lookup m) R
      → thinned [] (all_asks (view_of plan r.groups.items) bs R)
      ≡ thinned [] (asks (plan_program plan) R)

-- an execution that begins at its root again fits every memory
abbrev pub FitsWaiting : PlanOf → MemoryOf → RootObject → List BlockedPosition → Type 0
FitsWaiting plan m r [] = IsRooted plan r
FitsWaiting plan m r (b ∷ bs) = MayGoOn plan m r (b ∷ bs)

abbrev pub FitsStopped : PlanOf → MemoryOf → Option Suspension → Type 0
FitsStopped plan m None = Unit {0}
FitsStopped plan m (Some s) = FitsWaiting plan m s.rooted s.waiting

-- ---- answers that are written ahead

-- nothing that the plan needs is missing
abbrev pub IsSettled : PlanOf → MemoryOf → Type 0
IsSettled plan m = asks (plan_program plan) (lookup m) ≡ []

-- what a plan puts over a memory
abbrev pub plan_puts : PlanOf → MemoryOf → List Put
plan_puts plan m = puts false (plan_program plan) (lookup m)

-- a walk came to its end, is stopped between two positions, or isn't begun
abbrev pub IsStoppedAt : {S : Type 0} → List Put → List Put → Pausing S → Type 0
IsStoppedAt taken rest out = ((out.course ≡ Onward) × (rest ≡ []))
    ⊎ ((out.course ≡ Stopped) × ((out.is_entered ≡ false) ⊎ (out.is_entered ≡ true) × (taken ≡ [])))

-- a walk has put the first of what the plan puts, with a step at most for each
pub record IsPaused {S : Type 0} (plan : PlanOf) (m : MemoryOf) (taken rest : List Put)
    (w : PausedWalk S) : Type 0 where
  pub rooted : IsRooted plan w.rooted
  pub all : plan_puts plan m ≡ taken ++ rest
  pub point : point_of w.out ≡ points_after taken origin
  pub few : w.taken ≤ length taken
  pub stopped : IsStoppedAt taken rest w.out

-- a walk that had put these went on: it is at its end, or took so many steps more
pub record GoneOn {S : Type 0} (goes : View → List Put → S → S → Type 0) (plan : PlanOf)
    (m : MemoryOf) (steps : ℕ) (taken : List Put) (old new : PausedWalk S) : Type 0 where
  pub view : View
  pub more : List Put
  pub later : List Put
  pub put : goes view more old.out.out new.out.out
  pub paused : IsPaused plan m (taken ++ more) later new
  pub longer : old.taken ≤ new.taken
  pub stopped : new.out.course ≡ Stopped → old.taken + steps ≤ new.taken

-- A first part of what the plan puts was written and counted.
pub record IsAhead (plan : PlanOf) (m : MemoryOf) (a : AnswerAhead) : Type 0 where
  pub settled : IsSettled plan m
  pub taken : List Put
  pub rest : List Put
  pub paused : IsPaused plan m taken rest a.walked
  pub limit : ℕ
  pub given : IsLimit a.most limit
  pub wrote : Writes taken (nothing_put limit) (output_of a.walked.out.out)

-- it went on: it is whole, or took so many steps more
pub record IsFurther (plan : PlanOf) (m : MemoryOf) (steps : ℕ)
    (old new : AnswerAhead) : Type 0 where
  pub ahead : IsAhead plan m new
  pub limit : new.most ≡ old.most
  pub longer : old.walked.taken ≤ new.walked.taken
  pub stopped : new.walked.out.course ≡ Stopped → old.walked.taken + steps ≤ new.walked.taken

abbrev pub FitsAhead : PlanOf → MemoryOf → Option (Box AnswerAhead Global) → Type 0
FitsAhead plan m None = Unit {0}
FitsAhead plan m (Some a) = IsAhead plan m a.value

-- a first part of the positions of what the plan puts was counted
pub record IsCounting (plan : PlanOf) (m : MemoryOf) (c : WorkCount) : Type 0 where
  pub taken : List Put
  pub rest : List Put
  pub paused : IsPaused plan m taken rest c.walked
  pub work : TakesWork taken (Some largest) c.walked.out.out.left

abbrev pub FitsCount : PlanOf → MemoryOf → Option (Box WorkCount Global) → Type 0
FitsCount plan m None = Unit {0}
FitsCount plan m (Some c) = IsCounting plan m c.value

pub record FitsMemory (plan : PlanOf) (s : RootState) (m : MemoryOf) : Type 0 where
  pub stopped : FitsStopped plan m s.stopped
  pub ahead : FitsAhead plan m s.ahead
  pub count : FitsCount plan m s.count

-- ---- how far a poll comes

-- the plan that a walk goes over
abbrev pub plan_on : Walk → PlanOf
plan_on walk = plan_of walk.plan.now

abbrev pub FitsTour : Walk → Option Suspension → Type 0
FitsTour walk stopped = FitsStopped (plan_on walk) walk.memory.now stopped

abbrev pub load_of : BlockedPosition → Load
load_of b = record { loader = b.loader; key = key_of b.key }

abbrev pub loads_of : List BlockedPosition → List Load
loads_of bs = map load_of bs

-- says what waits in a sink goes on at one of the groups of a root
abbrev pub WaitsBelow : {S : Type 0} → (ℕ → S → Type 0) → RootObject → S → Type 0
WaitsBelow below r s = below (length r.groups.items) s

-- the whole plan was put, by what the groups do
pub record GoesOver {S : Type 0} (goes : View → List Put → S → S → Type 0) (plan : PlanOf)
    (m : MemoryOf) (old : S) (w : FinishedWalk S) : Type 0 where
  pub rooted : IsRooted plan w.rooted
  pub put : goes (view_of plan w.rooted.groups.items)
      (puts false (plan_program plan) (lookup m)) old w.out

-- says the same of a tour's plan and memory
abbrev pub GoesOverTour : {S : Type 0} → (View → List Put → S → S → Type 0)
    → Walk → S → FinishedWalk S → Type 0
GoesOverTour goes walk old w = GoesOver goes (plan_on walk) walk.memory.now old w

-- The positions that wait are what the plan still asks: now the loads that it lacks, and later what it then lacks.
pub record Searched (plan : PlanOf) (m : MemoryOf) (w : FinishedWalk Output) : Type 0 where
  pub goes_on : MayGoOn plan m w.rooted w.out.blocked
  pub lacks : thinned [] (loads_of w.out.blocked) ≡ thinned [] (asks (plan_program plan) (lookup m))

-- Where nothing waits, the loads that are read were counted, and the answer was written within the limit.
pub record Advanced (plan : PlanOf) (m : MemoryOf) (most : ℕ)
    (w : FinishedWalk Output) : Type 0 where
  pub searched : Searched plan m w
  pub loads : w.out.blocked ≡ []
      → counted w.out.loads ≡ counted (count_read (plan_program plan) (lookup m))
  pub written : w.out.blocked ≡ []
      → IsTextOf most (puts false (plan_program plan) (lookup m)) w.out.text

-- the whole answer was written, up to the limit if there is one
pub record IsWhole (plan : PlanOf) (m : MemoryOf) (most : Option ℕ)
    (out : SteppedOutput) : Type 0 where
  pub settled : IsSettled plan m
  pub limit : ℕ
  pub given : IsLimit most limit
  pub wrote : Writes (plan_puts plan m) (nothing_put limit) (output_of out)

-- where a walk was stopped, it went on
abbrev pub GoesOnBy : {S : Type 0} (goes : View → List Put → S → S → Type 0)
    (below : ℕ → S → Type 0) → Walk → ℕ → PausedWalk S → PausedWalk S → Type 0
GoesOnBy goes below walk steps old new = (taken rest : List Put)
    → IsPaused (plan_on walk) walk.memory.now taken rest old
    → WaitsBelow below old.rooted old.out.out
    → GoneOn goes (plan_on walk) walk.memory.now steps taken old new

abbrev pub GivesWhole : Walk → Option ℕ → Option SteppedOutput → Type 0
GivesWhole walk most whole = IfSome whole (IsWhole (plan_on walk) walk.memory.now most)

-- an execution is ready with this, where it can be made
abbrev pub IsFinished : (AnsweredOf → List ℕ) → Walk → ExecutionResult → Type 0
IsFinished text_of walk result = (wants : List WantedOf)
    → CanExecute (length (plan_on walk).bindings.loaders) walk.memory.now wants
    → IsExecuted text_of wants wants (plan_program (plan_on walk)) walk.memory.now (Ready result)

-- the loads that the plan needs and the memory lacks
abbrev pub lacking : PlanOf → MemoryOf → List Load
lacking plan m = missing_over m (plan_program plan)
