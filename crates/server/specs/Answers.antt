-- Definitions of what answers a request of a client, in the session that was given.
use Rattle.std.specs.Prelude.{◌≡◌, ℕ, List, [], ◌∷◌}
use Rattle.load_memory.specs.Keys.{KeyOf}
use Rattle.load_queue.specs.Answers.{AnswerOf}
use Rattle.gq_check.specs.Plans.{PlanOf}
use Rattle.gq_check.specs.Planned.{IsPlan}
use Rattle.plan_program.specs.PlanPrograms.{plan_program}
use Rattle.gq_resolve.specs.Within.{text_within}
use Rattle.load_rounds.specs.Headline.{CountsLoads, Headline, StopsAnswering}
use Rattle.load_rounds.specs.Limits.{AreRefused, AreWithin}
use Rattle.load_rounds.specs.Sessions.{SessionOf, state_of}
use Rattle.load_rounds.specs.SharedRounds.{ReportOf}
use Rattle.load_rounds.specs.declared.limits.Overrun.{Overrun}
use Rattle.request_line.specs.Requests.{RequestOf}
use Rattle.plan_requests.specs.Planning.{IsPlanned, IsRefusal}
use Rattle.server.specs.Clients.{ClientOf}
use Rattle.server.specs.Overruns.{overrun_report}
use Rattle.server.specs.Plans.{requests_within}

-- a text for which nothing was asked and nothing read
abbrev pub unasked : List ℕ → ReportOf
unasked text = record { text = text; rounds = 0; loads = 0 }

module _ {S : Type 0} (may : S → List KeyOf → AnswerOf → Type 0) where
  -- The plan, which is of a valid document, was answered with the headline, from the client's session to this one: the loaders were asked
  -- exactly the batches of a lawful log, and the text is that of direct execution over what is known then, within the client's limit. The
  -- loads that it reads there are counted. Its work and its rounds are within the client's limits.
  pub record AnswersPlan (c : ClientOf S) (plan : PlanOf) (report : ReportOf)
      (new : SessionOf S) : Type 0 where
    pub valid : IsPlan plan
    pub headline : Headline may (state_of c.session) (state_of new) (plan_program plan)
        (text_within c.most) report.text report.rounds
    pub loads : CountsLoads (state_of c.session) (state_of new) (plan_program plan) report.loads
    pub within : AreWithin c.limits (requests_within c.most (plan ∷ []))
        (state_of new) report.rounds

  -- A request is refused for its first fault, and the session is as it was; or its plan is answered; or that is over a limit, and refused.
  pub data AnswersRequest (c : ClientOf S) (request : RequestOf) (report : ReportOf)
      (new : SessionOf S) : Type 0 where
    refused : {text : List ℕ} → IsRefusal c.server request text
        → report ≡ unasked text → new ≡ c.session → AnswersRequest c request report new
    planned : {plan : PlanOf} → IsPlanned c.server request plan
        → AnswersPlan c plan report new → AnswersRequest c request report new
    overrun : {plan : PlanOf} {o : Overrun} → IsPlanned c.server request plan → IsPlan plan
        → AreRefused may (state_of c.session) (state_of new) c.limits
        (requests_within c.most (plan ∷ [])) o
        → report ≡ overrun_report o → AnswersRequest c request report new

  -- Memory ran out: the session is as it was, or the finished rounds of the request's plan stay, and perhaps one more was lost.
  pub data StopsRequest (c : ClientOf S) (request : RequestOf) (new : SessionOf S) : Type 0 where
    unplanned : new ≡ c.session → StopsRequest c request new
    stopped : {plan : PlanOf} → IsPlanned c.server request plan
        → StopsAnswering may (state_of c.session) (state_of new) (plan_program plan)
        → StopsRequest c request new
