-- What is given to the requests of plans that are asked together.
use Rattle.std.proofs.Common.{◌≡◌, ◌<◌, ◌∙◌, ℕ, zero, suc, Bool, true, false, List, [], ◌∷◌, ◌++◌, map, length, get_or, drop, Option, Some, None, Result, Ok, Err, refl, sym, ap, append_assoc, arith}
use Rattle.std.specs.Global.{Vec}
use Rattle.std.specs.Option.{is_some, option_map}
use Rattle.load_memory.specs.Keys.{KeyOf}
use Rattle.load_queue.specs.Answers.{AnswerOf}
use Rattle.gq_check.specs.Plans.{PlanOf}
use Rattle.gq_resolve.specs.Within.{text_within}
use Rattle.plan_program.specs.PlanPrograms.{plan_program}
use Rattle.load_rounds.specs.Limits.{AreAnswersWithin}
use Rattle.load_rounds.specs.Sessions.{SessionOf, state_of}
use Rattle.load_rounds.specs.SharedRounds.{ReportOf, RequestOf as ExecutedOf, request_of, requests}
use Rattle.load_rounds.specs.declared.answer.Answer.{Answer}
use Rattle.load_rounds.specs.declared.limits.Overrun.{Overrun}
use Rattle.request_line.specs.Requests.{RequestOf}
use Rattle.plan_requests.specs.Planning.{PlanValues}
use Rattle.plan_requests.specs.Servers.{ServerOf}
use Rattle.server.specs.Clients.{ClientOf}
use Rattle.server.specs.Overruns.{AreGiven, answered, overrun, overrun_report, overruns, reports_given}
use Rattle.server.specs.Planned.{AskedOf, one, several, text, IsPlannedAs, IsTextPlanned, no_request, request, several_requests, PlannedOf, PlansAsked}
use Rattle.server.specs.Plans.{limited_program, limited_text, requests_within}
use Rattle.server.proofs.LimitedPlans.{limited-asks, map-twice}

module _ (s : ServerOf) (o : Overrun) where
  -- a refusal for each plan
  each-plan : (values : List (Option RequestOf)) (refusals : List (Option (List ℕ))) (plans : List PlanOf) → PlanValues s values refusals plans → overruns o refusals ≡ map (λ (plan : PlanOf). overrun_report o) plans
  each-plan [] [] [] h = refl
  each-plan [] [] (p ∷ ps) h = absurd h
  each-plan [] (r ∷ rs) ps h = absurd h
  each-plan (v ∷ vs) [] ps h = absurd h
  each-plan (v ∷ vs) (Some t ∷ rs) ps h = each-plan vs rs ps h.1
  each-plan (v ∷ vs) (None ∷ rs) [] h = absurd h
  each-plan (v ∷ vs) (None ∷ rs) (p ∷ ps) h = ap (λ ts. overrun_report o ∷ ts) (each-plan vs rs ps h.1)

  module _ (most : Option ℕ) where
    each-request : (values : List (Option RequestOf)) (refusals : List (Option (List ℕ))) (plans : List PlanOf) → PlanValues s values refusals plans
        → overruns o refusals ≡ map (λ (r : ExecutedOf). overrun_report o) (requests_within most plans)
    each-request values refusals plans h =
        each-plan values refusals plans h ∙ sym (map-twice (λ (r : ExecutedOf). overrun_report o) (λ (plan : PlanOf). request_of (plan_program plan) (text_within most)) plans)

    each-text : (t : List ℕ) (many : Bool) (refusals : List (Option (List ℕ))) (plans : List PlanOf) → IsTextPlanned s t many refusals plans → overruns o refusals ≡ map (λ (r : ExecutedOf). overrun_report o) (requests_within most plans)
    each-text t many refusals plans (no_request is m h) = each-request (None ∷ []) refusals plans h
    each-text t many refusals plans (request {r = r} is m h) = each-request (Some r ∷ []) refusals plans h
    each-text t many refusals plans (several_requests {values = values} is m h) = each-request values refusals plans h

    each-asked : (asked : AskedOf) (many : Bool) (refusals : List (Option (List ℕ))) (plans : List PlanOf) → IsPlannedAs s asked many refusals plans → overruns o refusals ≡ map (λ (r : ExecutedOf). overrun_report o) (requests_within most plans)
    each-asked (one r) many refusals plans h = each-request (Some r ∷ []) refusals plans h.1
    each-asked (several values) many refusals plans h = each-request values refusals plans h.1
    each-asked (text t) many refusals plans h = each-text t many refusals plans h

-- what is given to plans is given to those who asked for them
module _ {S : Type 0} (may : S → List KeyOf → AnswerOf → Type 0) (c : ClientOf S) (new : SessionOf S) (asked : AskedOf) (what : PlannedOf) (p : PlansAsked c asked what) where
  pub asked-given : (given : Result (Vec Answer) Overrun) → AreAnswersWithin may (state_of c.session) (state_of new) c.limits (requests limited_program limited_text what.plans) given
      → AreGiven may c.limits (state_of c.session) (state_of new) (requests limited_program limited_text what.plans) (reports_given what.refusals given)
  asked-given (Ok answers) h = answered h.0 h.1
  asked-given (Err o) h =
      overrun h (each-asked c.server o c.most asked what.many what.refusals p.plans p.planned_as ∙ ap (map (λ (r : ExecutedOf). overrun_report o)) (sym (limited-asks c.most p.plans what.plans p.limited)))

-- ---- one refusal more

module _ {T : Type 0} (seen : T → List ℕ) (o : Overrun) where
  pub next-overrun : (done : List ReportOf) (refusals : List (Option T)) (i : ℕ) (d : Option T) → i < length refusals → is_some (get_or refusals i d) ≡ false
      → (done ++ overrun_report o ∷ []) ++ overruns o (drop (suc i) (map (option_map seen) refusals)) ≡ done ++ overruns o (drop i (map (option_map seen) refusals))
  next-overrun done [] i d lt none = absurd (omega (arith, lt))
  next-overrun done (None ∷ rs) zero d lt none = append_assoc done (overrun_report o ∷ []) _
  next-overrun done (Some t ∷ rs) zero d lt none = absurd (cc none)
  next-overrun done (r ∷ rs) (suc i) d lt none = next-overrun done rs i d (omega (arith, lt)) none

  pub next-refused : (refusals : List (Option T)) (i : ℕ) (d : Option T) → i < length refusals → is_some (get_or refusals i d) ≡ true → overruns o (drop (suc i) (map (option_map seen) refusals)) ≡ overruns o (drop i (map (option_map seen) refusals))
  next-refused [] i d lt some = absurd (omega (arith, lt))
  next-refused (None ∷ rs) zero d lt some = absurd (cc some)
  next-refused (Some t ∷ rs) zero d lt some = refl
  next-refused (r ∷ rs) (suc i) d lt some = next-refused rs i d (omega (arith, lt)) some
