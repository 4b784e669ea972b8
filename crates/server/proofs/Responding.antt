-- What a client is asked, planned, and what answers to the plans make of it.
use Rattle.std.proofs.Common.{◌≡◌, ◌∙◌, ℕ, List, [], map, Result, true, false, subst, sym, inr}
use Rattle.std.specs.Global.{Vec}
use Rattle.std.specs.Prelude.{IfOk}
use Rattle.std.specs.declared.alloc.AllocError.{AllocError}
use Rattle.std.proofs.lemmas.Result.{IfOk-weaker}
use Rattle.load_memory.specs.Keys.{KeyOf}
use Rattle.load_queue.specs.Answers.{AnswerOf}
use Rattle.load_rounds.specs.Headline.{StopsAnswering}
use Rattle.load_rounds.specs.Sessions.{SessionOf, state_of}
use Rattle.load_rounds.specs.Limits.{AreAnswersWithin}
use Rattle.load_rounds.specs.SharedRounds.{ReportOf, joint, report_of, requests, together}
use Rattle.load_rounds.specs.declared.answer.Answer.{Answer}
use Rattle.load_rounds.specs.declared.limits.Limits.{Limits}
use Rattle.load_rounds.specs.declared.limits.Overrun.{Overrun}
use Rattle.gq_resolve.specs.PreparedPlans.{LimitedPlanOf}
use Rattle.server.specs.Clients.{ClientOf}
use Rattle.server.specs.Hands.{MakesResponse, planned_of, refusals_in}
use Rattle.server.specs.Overruns.{reports_given}
use Rattle.server.specs.Planned.{AnswersAsked, AskedOf, IsResponse, PlannedOf, PlansAsked, StopsAsked, is_refused}
use Rattle.server.specs.Plans.{limited_program, limited_requests, limited_text}
use Rattle.server.specs.declared.planned.ResponseForm.{ResponseForm}
use Rattle.server.proofs.Asking.{asked-answered, asked-refused, asked-stops}
use Rattle.server.proofs.LimitedPlans.{given-stops}
use Rattle.server.proofs.Refusing.{asked-given}

module _ {S : Type 0} (may : S → List KeyOf → AnswerOf → Type 0) (c : ClientOf S) (asked : AskedOf) (form : ResponseForm) (loaders : ℕ) (bs : List LimitedPlanOf) (what : PlannedOf) (seen : planned_of form loaders bs ≡ what) (p : PlansAsked c asked what) where
  -- the response that is made of answers is one to what was planned
  responds : (reports : List ReportOf) (report : ReportOf) → IsResponse (planned_of form loaders bs) reports report → IsResponse what reports report
  responds reports report h = subst (λ (x : PlannedOf). IsResponse x reports report) seen h

  -- one request, which is refused
  pub refusal-answers : (none : Vec Answer) (r : Result Answer AllocError) → none.items ≡ [] → is_refused what ≡ true → IfOk r (MakesResponse form.is_array (refusals_in form) none) → IfOk r (λ answer. AnswersAsked may c asked (report_of answer) c.session)
  refusal-answers none r e refused made =
      IfOk-weaker r (MakesResponse form.is_array (refusals_in form) none) (λ answer. AnswersAsked may c asked (report_of answer) c.session)
      (λ answer is. asked-refused may c asked what (report_of answer) p refused (responds [] (report_of answer) (subst (λ (answers : List Answer). IsResponse (planned_of form loaders bs) (map report_of answers) (report_of answer)) e is))) made

  module _ (old new : SessionOf S) (same : old ≡ c.session) (open' : is_refused what ≡ false) where
    -- memory ran out while its plans were answered
    pub plans-stop : StopsAnswering may (state_of old) (state_of new) (together (limited_requests bs)) → StopsAsked may c asked new
    plans-stop h =
        asked-stops may c new asked what p (λ refused. absurd (cc (sym open' ∙ refused)))
        (inr (subst (λ (x : PlannedOf). StopsAnswering may (state_of c.session) (state_of new) (joint limited_program limited_text x.plans)) seen
        (subst (λ (s : SessionOf S). StopsAnswering may (state_of s) (state_of new) (together (limited_requests bs))) same h)))

    module _ (limits : Limits) (given : Result (Vec Answer) Overrun) (h : AreAnswersWithin may (state_of old) (state_of new) limits (limited_requests bs) given) where
      -- or for the response
      pub answers-stop : StopsAsked may c asked new
      answers-stop = plans-stop (given-stops may (state_of old) (state_of new) limits (limited_requests bs) given h)

      -- its plans were answered, or refused
      pub answers-respond : limits ≡ c.limits → (r : Result Answer AllocError) → IfOk r (λ answer. IsResponse (planned_of form loaders bs) (reports_given (refusals_in form) given) (report_of answer)) → IfOk r (λ answer. AnswersAsked may c asked (report_of answer) new)
      answers-respond bound r made =
          let begun = subst (λ (l : Limits). AreAnswersWithin may (state_of c.session) (state_of new) l (limited_requests bs) given) bound
          (subst (λ (s : SessionOf S). AreAnswersWithin may (state_of s) (state_of new) limits (limited_requests bs) given) same h) in
          let are = subst (λ (x : PlannedOf). AreAnswersWithin may (state_of c.session) (state_of new) c.limits (requests limited_program limited_text x.plans) given) seen begun in
          IfOk-weaker r (λ answer. IsResponse (planned_of form loaders bs) (reports_given (refusals_in form) given) (report_of answer)) (λ answer. AnswersAsked may c asked (report_of answer) new)
          (λ answer is.
          asked-answered may c new asked what (reports_given what.refusals given) (report_of answer) p open' (asked-given may c new asked what p given are)
          (subst (λ (x : PlannedOf). IsResponse x (reports_given x.refusals given) (report_of answer)) seen is)) made
