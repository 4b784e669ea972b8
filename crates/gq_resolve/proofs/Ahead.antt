-- Lemmas on answers that are written ahead.
use Rattle.std.proofs.Common.{◌≡◌, ℕ, Bool, false, List, [], ◌∷◌, ◌++◌, inl, inr, refl, sym, ap, ◌∙◌, subst, Option, None, Some, append-nil}
use Rattle.std.specs.Prelude.{unwrap_or, Box}
use Rattle.std.specs.declared.alloc.Global.{Global}
use Rattle.load_memory.specs.Outcomes.{OutcomeOf}
use Rattle.load_memory.specs.Pairs.{MemoryOf}
use Rattle.execution.specs.Executes.{GrowsTo}
use Rattle.execution.specs.Loads.{Load, Reader, AnswersMore}
use Rattle.execution.specs.Front.{missing}
use Rattle.execution.specs.Program.{Kind, Program, Is, Read, Under, Programs, End, With, needs, all_needs}
use Rattle.execution.proofs.Fitting.{missing-append}
use Rattle.gq_check.specs.Plans.{PlanOf}
use Rattle.plan_program.specs.PlanPrograms.{plan_program}
use Rattle.plan_walk.specs.Puts.{Put, Reads, puts, all_puts}
use Rattle.plan_walk.specs.Reading.{lookup}
use Rattle.plan_walk.proofs.Lookups.{lookup-more}
use Rattle.gq_resolve.specs.Stepped.{Writes, writes-none, writes-more, nothing_put, output_of}
use Rattle.gq_resolve.specs.Suspended.{IsSettled, IsPaused, IsStoppedAt, GoneOn, IsAhead, IsFurther, FitsAhead, IsWhole, Searched, loads_of, plan_puts}
use Rattle.gq_resolve.specs.Written.{asks, thinned}
use Rattle.gq_resolve.specs.Within.{IsLimit}
use Rattle.gq_resolve.specs.declared.answer_ahead.AnswerAhead.{AnswerAhead}
use Rattle.gq_resolve.specs.declared.advance.FinishedWalk.{FinishedWalk}
use Rattle.gq_resolve.specs.declared.output.Output.{Output}
use Rattle.gq_resolve.specs.declared.paused_walk.PausedWalk.{PausedWalk}
use Rattle.gq_resolve.specs.declared.pausing.Course.TheVariants.{Onward}
use Rattle.gq_resolve.specs.declared.stepped_output.SteppedOutput.{SteppedOutput}
use Rattle.gq_resolve.proofs.Polling.{limit-given}
use Rattle.gq_resolve.proofs.Thinning.{thinned-none}

-- ---- what is settled stays

nil-left : {A : Type 0} (xs ys : List A) → xs ++ ys ≡ [] → xs ≡ []
nil-left [] ys e = refl
nil-left (x ∷ xs) ys e = absurd (cc e)

nil-right : {A : Type 0} (xs ys : List A) → xs ++ ys ≡ [] → ys ≡ []
nil-right [] ys e = e
nil-right (x ∷ xs) ys e = absurd (cc e)

known-first : (R : Reader) (load : Load) (ls : List Load) → missing R (load ∷ ls) ≡ [] → (outcome : OutcomeOf) × (R load ≡ Some outcome) × (missing R ls ≡ [])
known-first R load ls none = go (R load) refl
  where
    go : (found : Option OutcomeOf) → R load ≡ found → (outcome : OutcomeOf) × (R load ≡ Some outcome) × (missing R ls ≡ [])
    go None is = absurd (cc (rw is at none))
    go (Some outcome) is = (outcome, is, rw is at none)

-- where nothing that a program needs is missing, a reader that answers more comes to the same
mutual
  pub settled-puts : (non_null : Bool) (p : Program) (R Q : Reader) → AnswersMore R Q → asks p R ≡ [] → puts non_null p Q ≡ puts non_null p R
  settled-puts non_null (Is leaf_value) R Q more none = refl
  settled-puts non_null (Read load next) R Q more none =
      let (outcome, is, rest) = known-first R load _ none in
      let later : asks (next outcome) R ≡ [] = rw is at rest in
      rw (is, more load outcome is) (ap (λ ts. Reads ∷ ts) (settled-puts non_null (next outcome) R Q more later))
  settled-puts non_null (Under kind below) R Q more none = rw (all-settled-puts kind below R Q more none) refl

  all-settled-puts : (kind : Kind) (ps : Programs) (R Q : Reader) → AnswersMore R Q → missing R (all_needs ps R) ≡ [] → all_puts kind ps Q ≡ all_puts kind ps R
  all-settled-puts kind End R Q more none = refl
  all-settled-puts kind (With position p rest) R Q more none =
      let both : missing R (needs p R) ++ missing R (all_needs rest R) ≡ [] = sym (missing-append R (needs p R) (all_needs rest R)) ∙ none in
      rw (settled-puts position.non_null p R Q more (nil-left (missing R (needs p R)) (missing R (all_needs rest R)) both), all-settled-puts kind rest R Q more (nil-right (missing R (needs p R)) (missing R (all_needs rest R)) both)) refl

mutual
  pub settled-more : (p : Program) (R Q : Reader) → AnswersMore R Q → asks p R ≡ [] → asks p Q ≡ []
  settled-more (Is leaf_value) R Q more none = refl
  settled-more (Read load next) R Q more none =
      let (outcome, is, rest) = known-first R load _ none in
      let later : asks (next outcome) R ≡ [] = rw is at rest in
      rw (more load outcome is) (settled-more (next outcome) R Q more later)
  settled-more (Under kind below) R Q more none = all-settled-more below R Q more none

  all-settled-more : (ps : Programs) (R Q : Reader) → AnswersMore R Q → missing R (all_needs ps R) ≡ [] → missing Q (all_needs ps Q) ≡ []
  all-settled-more End R Q more none = refl
  all-settled-more (With position p rest) R Q more none =
      let both : missing R (needs p R) ++ missing R (all_needs rest R) ≡ [] = sym (missing-append R (needs p R) (all_needs rest R)) ∙ none in
      missing-append Q (needs p Q) (all_needs rest Q) ∙ rw (settled-more p R Q more (nil-left (missing R (needs p R)) (missing R (all_needs rest R)) both)) (all-settled-more rest R Q more (nil-right (missing R (needs p R)) (missing R (all_needs rest R)) both))

-- ---- what a walk wrote

-- an answer that isn't begun
pub ahead-begun : (plan : PlanOf) (m : MemoryOf) (most : Option ℕ) (limit none : ℕ) (out : SteppedOutput) (a : AnswerAhead) → limit ≡ unwrap_or most none → output_of out ≡ nothing_put limit → a.most ≡ most → a.walked.out.out ≡ out
    → IsSettled plan m → IsPaused plan m [] (plan_puts plan m) a.walked → IsAhead plan m a
ahead-begun plan m most limit none out a is begun same own settled paused = record {
  settled = settled;
  taken = [];
  rest = plan_puts plan m;
  paused = paused;
  limit = limit;
  given = subst (λ (x : Option ℕ). IsLimit x limit) (sym same) (limit-given most limit none is);
  wrote = subst (Writes [] (nothing_put limit)) (sym (ap output_of own ∙ begun)) (writes-none (nothing_put limit));
}

-- one that goes on
pub ahead-further : (plan : PlanOf) (m : MemoryOf) (steps : ℕ) (old : AnswerAhead) (new : PausedWalk SteppedOutput) (h : IsAhead plan m old) → GoneOn (λ v ps a b. Writes ps (output_of a) (output_of b)) plan m steps h.taken old.walked new
    → IsFurther plan m steps old (record { walked = new; most = old.most })
ahead-further plan m steps old new h gone = record {
  ahead = record {
    settled = h.settled;
    taken = h.taken ++ gone.more;
    rest = gone.later;
    paused = gone.paused;
    limit = h.limit;
    given = h.given;
    wrote = writes-more h.taken gone.more (nothing_put h.limit) (output_of old.walked.out.out) (output_of new.out.out) h.wrote gone.put;
  };
  limit = refl;
  longer = gone.longer;
  stopped = gone.stopped;
}

-- it fits each larger memory
pub ahead-fits : (plan : PlanOf) (m n : MemoryOf) (a : AnswerAhead) → GrowsTo m n → IsAhead plan m a → IsAhead plan n a
ahead-fits plan m n a grown h =
    let more : AnswersMore (lookup m) (lookup n) = λ load outcome e. lookup-more m n grown load outcome e in
    let paused = h.paused in
    record {
      settled = settled-more (plan_program plan) (lookup m) (lookup n) more h.settled;
      taken = h.taken;
      rest = h.rest;
      paused = record {
        rooted = paused.rooted;
        all = settled-puts false (plan_program plan) (lookup m) (lookup n) more h.settled ∙ paused.all;
        point = paused.point;
        few = paused.few;
        stopped = paused.stopped;
      };
      limit = h.limit;
      given = h.given;
      wrote = h.wrote;
    }

pub still-ahead : (plan : PlanOf) (m n : MemoryOf) (o : Option (Box AnswerAhead Global)) → GrowsTo m n → FitsAhead plan m o → FitsAhead plan n o
still-ahead plan m n None grown fits = tt
still-ahead plan m n (Some a) grown fits = ahead-fits plan m n a.value grown fits

-- an answer that was written to its end
pub ahead-whole : (plan : PlanOf) (m : MemoryOf) (most : Option ℕ) (a : AnswerAhead) → a.walked.out.course ≡ Onward → a.most ≡ most → IsAhead plan m a → IsWhole plan m most a.walked.out.out
ahead-whole plan m most a onward same h = record {
  settled = h.settled;
  limit = h.limit;
  given = subst (λ (x : Option ℕ). IsLimit x h.limit) same h.given;
  wrote = subst (λ (ps : List Put). Writes ps (nothing_put h.limit) (output_of a.walked.out.out)) (sym (h.paused.all ∙ ap (λ rs. h.taken ++ rs) (whole h.paused.stopped) ∙ append-nil h.taken)) h.wrote;
}
  where
    whole : IsStoppedAt h.taken h.rest a.walked.out → h.rest ≡ []
    whole (inl (_, none)) = none
    whole (inr stopped) = absurd (cc (sym onward ∙ stopped.0))

-- where a search found nothing that waits, nothing is missing
pub found-settled : (plan : PlanOf) (m : MemoryOf) (w : FinishedWalk Output) → Searched plan m w → w.out.blocked ≡ [] → IsSettled plan m
found-settled plan m w s none = thinned-none (asks (plan_program plan) (lookup m)) (sym s.lacks ∙ ap (λ bs. thinned [] (loads_of bs)) none)
