-- Lemmas on what a poll answers, and that it may go on over each larger memory.
use Rattle.std.proofs.Common.{◌≡◌, ◌≢◌, ◌⊎◌, ◌<◌, ◌≤◌, ◌^◌, ℕ, arith, false, List, [], ◌∷◌, length, inl, inr, refl, sym, ap, ◌∙◌, subst, Option, None, Some}
use Rattle.std.specs.Prelude.{unwrap_or}
use Rattle.load_memory.specs.Pairs.{MemoryOf}
use Rattle.load_queue.specs.Wanted.{WantedOf}
use Rattle.execution.specs.Loads.{Load}
use Rattle.execution.specs.Program.{Program, tree, needs}
use Rattle.execution.specs.Completion.{is_open}
use Rattle.execution.specs.Executed.{completed}
use Rattle.execution.specs.Executes.{CanExecute, GrowsTo, IsExecuted}
use Rattle.execution.specs.declared.execution_result.ExecutionResult.{ExecutionResult}
use Rattle.futures.specs.declared.task.Poll.TheVariants.{Ready}
use Rattle.execution.specs.Front.{wanting}
use Rattle.execution.specs.Reads.{count_read, counted}
use Rattle.execution.specs.Residual.{unanswered}
use Rattle.execution.proofs.Fitting.{held-rest}
use Rattle.execution.proofs.Monotone.{exec-whole}
use Rattle.gq_check.specs.Plans.{PlanOf}
use Rattle.plan_program.specs.PlanPrograms.{plan_program}
use Rattle.gq_resolve.specs.Evaluated.{front_over, AddsPart}
use Rattle.plan_walk.specs.Reading.{reader, lookup}
use Rattle.gq_resolve.specs.Suspended.{IsRooted, MayGoOn, FitsStopped, FitsWaiting, loads_of, IsSettled, Searched, Advanced, lacking}
use Rattle.gq_resolve.specs.Within.{IsLimit, IsAnswerText, text_within}
use Rattle.gq_resolve.specs.Written.{asks, thinned}
use Rattle.gq_resolve.specs.declared.advance.RootObject.{RootObject}
use Rattle.gq_resolve.specs.declared.advance.Suspension.{Suspension}
use Rattle.gq_resolve.specs.declared.advance.FinishedWalk.{FinishedWalk}
use Rattle.plan_walk.specs.declared.waiting.BlockedPosition.{BlockedPosition}
use Rattle.gq_resolve.specs.declared.output.Output.{Output}
use Rattle.gq_resolve.proofs.Evaluating.{needs-rest, front-none, front-there, closed-tree, wants-front}
use Rattle.gq_resolve.proofs.Loaders.{plan-same}
use Rattle.gq_resolve.proofs.Thinning.{thinned-none, wanting-thinned, part-thinned, thinned-part}
use Rattle.plan_walk.proofs.Lookups.{lookup-more}

-- ---- larger memories

-- positions that are kept fit each larger memory, and so does a root
pub still-fits : {most : ℕ} (plan : PlanOf) (m n : MemoryOf) (w : FinishedWalk Output) (waiting : List BlockedPosition) → Advanced plan m most w → (waiting ≡ []) ⊎ (waiting ≡ w.out.blocked) → GrowsTo m n
    → FitsWaiting plan n w.rooted waiting
still-fits plan m n w [] a h grown = a.searched.goes_on.rooted
still-fits plan m n w (b ∷ bs) a (inl none) grown = absurd (cc none)
still-fits plan m n w (b ∷ bs) a (inr all) grown = rw all (record {
  rooted = a.searched.goes_on.rooted;
  within = a.searched.goes_on.within;
  ask = λ R more. a.searched.goes_on.ask R (λ load outcome e. more load outcome (lookup-more m n grown load outcome e));
})

-- what stopped fits each larger memory
pub stopped-more : (plan : PlanOf) (m n : MemoryOf) (s : Option Suspension) → GrowsTo m n → FitsStopped plan m s → FitsStopped plan n s
stopped-more plan m n None grown fits = tt
stopped-more plan m n (Some s) grown fits = waiting-more s.waiting fits
  where
    waiting-more : (bs : List BlockedPosition) → FitsWaiting plan m s.rooted bs → FitsWaiting plan n s.rooted bs
    waiting-more [] rooted = rooted
    waiting-more (b ∷ bs) may = record {
      rooted = may.rooted;
      within = may.within;
      ask = λ R more. may.ask R (λ load outcome e. more load outcome (lookup-more m n grown load outcome e));
    }

-- an execution may go on where a search stopped
pub searched-fits : (plan : PlanOf) (m : MemoryOf) (w : FinishedWalk Output) → Searched plan m w → FitsWaiting plan m w.rooted w.out.blocked
searched-fits plan m w s = go w.out.blocked s.goes_on
  where
    go : (bs : List BlockedPosition) → MayGoOn plan m w.rooted bs → FitsWaiting plan m w.rooted bs
    go [] may = may.rooted
    go (b ∷ bs) may = may

-- where none is kept, an execution begins at its root
pub begins-again : (plan : PlanOf) (m : MemoryOf) (r : RootObject) (waiting : List BlockedPosition) → waiting ≡ [] → IsRooted plan r → FitsWaiting plan m r waiting
begins-again plan m r waiting none rooted = subst (FitsWaiting plan m r) (sym none) rooted

-- it fits at its root, wherever it stopped
pub at-root : (plan : PlanOf) (m : MemoryOf) (r : RootObject) (waiting : List BlockedPosition) → FitsWaiting plan m r waiting → IsRooted plan r
at-root plan m r [] fits = fits
at-root plan m r (b ∷ bs) fits = fits.rooted

-- where some are kept, it goes on at them
pub goes-on : (plan : PlanOf) (m : MemoryOf) (r : RootObject) (waiting : List BlockedPosition) → waiting ≢ [] → FitsWaiting plan m r waiting → MayGoOn plan m r waiting
goes-on plan m r [] some fits = absurd (some refl)
goes-on plan m r (b ∷ bs) some fits = fits

-- ---- what is looked up, and what the memory has

lookup-asks : (plan : PlanOf) (m : MemoryOf) → length plan.bindings.loaders ≤ length m.modes → asks (plan_program plan) (lookup m) ≡ lacking plan m
lookup-asks plan m le = sym (needs-rest (plan_program plan) (lookup m)) ∙ ap (λ q. needs q unanswered) (plan-same plan m le).1 ∙ needs-rest (plan_program plan) (reader m)

pub lookup-tree : (plan : PlanOf) (m : MemoryOf) → length plan.bindings.loaders ≤ length m.modes → tree (plan_program plan) (lookup m) ≡ tree (plan_program plan) (reader m)
lookup-tree plan m le = sym (held-rest (plan_program plan) (lookup m)) ∙ ap (λ q. tree q unanswered) (plan-same plan m le).1 ∙ held-rest (plan_program plan) (reader m)

-- the loads that are read are counted as over the memory
pub loads-counted : (plan : PlanOf) (m : MemoryOf) (loads : ℕ) → length plan.bindings.loaders ≤ length m.modes → loads < 2 ^ 64 → counted loads ≡ counted (count_read (plan_program plan) (lookup m)) → loads ≡ counted (count_read (plan_program plan) (reader m))
loads-counted plan m loads enough small is = let same : count_read (plan_program plan) (lookup m) ≡ count_read (plan_program plan) (reader m) = ap (λ (ls : List Load). length ls) (plan-same plan m enough).0 in omega (arith, small, is, same)

module _ {most : ℕ} (plan : PlanOf) (m : MemoryOf) (old : List WantedOf) (w : FinishedWalk Output) (can : CanExecute (length plan.bindings.loaders) m old) (a : Advanced plan m most w) where
  -- the loads of what waits are those that are missing, each once
  same-loads : thinned [] (loads_of w.out.blocked) ≡ thinned [] (lacking plan m)
  same-loads = a.searched.lacks ∙ ap (thinned []) (lookup-asks plan m can.enough)

  -- something waits, and the front was added
  pub front-added : (new : List WantedOf) → (w.out.blocked ≡ [] → ⊥) → new ≡ wanting old (loads_of w.out.blocked) → (front_over m (plan_program plan) ≢ []) × (new ≡ wanting old (front_over m (plan_program plan)))
  front-added new some is = (
    front-there m (plan_program plan) (λ none. some (no-loads w.out.blocked (thinned-none (loads_of w.out.blocked) (same-loads ∙ ap (thinned []) none)))),
    is ∙ sym (wanting-thinned old (loads_of w.out.blocked)) ∙ ap (wanting old) same-loads ∙ wanting-thinned old (lacking plan m) ∙ wants-front m (plan_program plan) old can.lined_up,
  )
    where
      no-loads : (bs : List BlockedPosition) → loads_of bs ≡ [] → bs ≡ []
      no-loads [] e = refl
      no-loads (b ∷ bs) e = absurd (cc e)

  -- the first of the loads of what waits are the first of what is missing
  pub part-wanted : (new : List WantedOf) → AddsPart old new (loads_of w.out.blocked) → AddsPart old new (lacking plan m)
  part-wanted new h = part-thinned old new (lacking plan m) (subst (λ (ls : List Load). AddsPart old new ls) same-loads (thinned-part old new (loads_of w.out.blocked) h))

-- an answer of which nothing is missing is ready
pub answer-ready : (plan : PlanOf) (m : MemoryOf) (old : List WantedOf) (most : Option ℕ) (result : ExecutionResult) → CanExecute (length plan.bindings.loaders) m old → IsSettled plan m → IsAnswerText most plan m result.text
    → result.loads < 2 ^ 64 → counted result.loads ≡ counted (count_read (plan_program plan) (lookup m)) → IsExecuted (text_within most) old old (plan_program plan) m (Ready result)
answer-ready plan m old most result can settled text small loads =
    let p : Program = plan_program plan in
    let front : front_over m p ≡ [] = front-none m p (sym (lookup-asks plan m can.enough) ∙ settled) in
    let shut : is_open (tree p (reader m)) ≡ false = closed-tree m p front in
    let same : tree p (lookup m) ≡ tree p (reader m) = lookup-tree plan m can.enough in
    let executed = exec-whole p (reader m) shut ∙ ap (λ t. Some (completed t)) (sym same) in
    (front, record { answered = completed (tree p (lookup m)); executed = executed; report = text (ap is_open same ∙ shut) }, loads-counted plan m result.loads can.enough small loads, refl)

-- a limit is the one that is given, if there is one
pub limit-given : (most : Option ℕ) (limit none : ℕ) → limit ≡ unwrap_or most none → IsLimit most limit
limit-given None limit none is = tt
limit-given (Some most) limit none is = is
