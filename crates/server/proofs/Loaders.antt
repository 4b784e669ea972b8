-- A session keeps its loaders.
use Rattle.std.proofs.Common.{◌≡◌, ◌∙◌, ◌⊎◌, List, [], ◌∷◌, map, length, inl, inr, sym, ap, Result, Ok, Err}
use Rattle.std.specs.Global.{Vec}
use Rattle.std.specs.Prelude.{IfOk, OnErr}
use Rattle.std.proofs.lemmas.List.{length-map}
use Rattle.load_memory.specs.Keys.{KeyOf}
use Rattle.load_memory.specs.Replies.{ReplyOf}
use Rattle.load_queue.specs.Answers.{AnswerOf}
use Rattle.load_queue.specs.Loaders.{LoaderOf, as_made}
use Rattle.execution.specs.Front.{front}
use Rattle.execution.specs.Loads.{Load}
use Rattle.execution.specs.Program.{Program}
use Rattle.execution.specs.Rounds.{without_failed}
use Rattle.execution.specs.Sessions.{Forgot, Lost}
use Rattle.load_rounds.specs.Calls.{RoundLost}
use Rattle.load_rounds.specs.Headline.{MakesRounds, StopsAnswering, asked_steps}
use Rattle.load_rounds.specs.Sessions.{SessionOf, StateOf, state_of, rules_of, session_modes, of_first}
use Rattle.load_rounds.specs.Limits.{AreAnswersWithin}
use Rattle.load_rounds.specs.SharedRounds.{together}
use Rattle.load_rounds.specs.declared.answer.Answer.{Answer}
use Rattle.load_rounds.specs.declared.limits.Limits.{Limits}
use Rattle.load_rounds.specs.declared.limits.Overrun.{Overrun}
use Rattle.std.specs.declared.alloc.AllocError.{AllocError}
use Rattle.gq_resolve.specs.PreparedPlans.{LimitedPlanOf as LimitedPlan}
use Rattle.server.specs.Plans.{limited_requests}
use Rattle.load_rounds.proofs.Stepping.{steps-made}

module _ {S : Type 0} where
  made-many : (as' bs : List (LoaderOf S)) → map as_made as' ≡ map as_made bs → length as' ≡ length bs
  made-many as' bs e = sym (length-map as' as_made) ∙ ap length e ∙ length-map bs as_made

  lost-made : (old new : StateOf S) (loads : List Load) → RoundLost old new loads → map as_made new.loaders ≡ map as_made old.loaders
  lost-made old new loads h = ap (λ (s : StateOf S). map as_made s.loaders) h.after ∙ steps-made old (Lost (of_first h.loaders loads) ∷ [])

  module _ (may : S → List KeyOf → AnswerOf → Type 0) (old new : StateOf S) (p : Program) where
    pub rounds-made : (log : List (List ReplyOf)) → MakesRounds may old new p log → map as_made new.loaders ≡ map as_made old.loaders
    rounds-made log made =
        ap (λ (s : StateOf S). map as_made s.loaders) made.after ∙ steps-made old (Forgot ∷ asked_steps (rules_of old) p (without_failed old.memory) log)

    pub rounds-many : (log : List (List ReplyOf)) → MakesRounds may old new p log → length new.loaders ≡ length old.loaders
    rounds-many log made = made-many new.loaders old.loaders (rounds-made log made)

  module _ (may : S → List KeyOf → AnswerOf → Type 0) (old new : StateOf S) (p : Program) where
    end-made : (mid : StateOf S) (loads : List Load) → (new ≡ mid) ⊎ RoundLost mid new loads → map as_made new.loaders ≡ map as_made mid.loaders
    end-made mid loads (inl same) = ap (λ (s : StateOf S). map as_made s.loaders) same
    end-made mid loads (inr lost) = lost-made mid new loads lost

    pub stops-made : StopsAnswering may old new p → map as_made new.loaders ≡ map as_made old.loaders
    stops-made h = end-made h.mid (front (session_modes old) p h.mid.memory) h.end ∙ rounds-made may old h.mid p h.log h.made

    pub stops-many : StopsAnswering may old new p → length new.loaders ≡ length old.loaders
    stops-many h = made-many new.loaders old.loaders (stops-made h)

-- whoever ran the batches of plans
pub answers-many : {S : Type 0} (may : S → List KeyOf → AnswerOf → Type 0) (old new : SessionOf S) (limits : Limits) (plans : List LimitedPlan) (r : Result (Result (Vec Answer) Overrun) AllocError)
    → IfOk r (AreAnswersWithin may (state_of old) (state_of new) limits (limited_requests plans))
    → OnErr r (StopsAnswering may (state_of old) (state_of new) (together (limited_requests plans))) → length new.loaders ≡ length old.loaders
answers-many may old new limits plans (Ok (Ok answers)) done stopped = rounds-many may (state_of old) (state_of new) (together (limited_requests plans)) done.0.log done.0.made
answers-many may old new limits plans (Ok (Err overrun)) done stopped = rounds-many may (state_of old) (state_of new) (together (limited_requests plans)) done.log done.made
answers-many may old new limits plans (Err e) done stopped = stops-many may (state_of old) (state_of new) (together (limited_requests plans)) stopped
