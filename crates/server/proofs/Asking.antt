-- Plans of what is asked, and what answers them or stops them.
use Rattle.std.proofs.Common.{◌≡◌, ◌∙◌, ◌⊎◌, ℕ, Bool, true, false, List, [], ◌∷◌, length, Option, Some, None, refl, sym, ap, subst, inl, inr, arith}
use Rattle.load_memory.specs.Keys.{KeyOf}
use Rattle.load_queue.specs.Answers.{AnswerOf}
use Rattle.gq_check.specs.Plans.{PlanOf}
use Rattle.gq_resolve.specs.Within.{text_within}
use Rattle.plan_program.specs.PlanPrograms.{plan_program}
use Rattle.load_rounds.specs.Headline.{StopsAnswering}
use Rattle.load_rounds.specs.Limits.{AreWithin}
use Rattle.load_rounds.specs.Sessions.{SessionOf, state_of}
use Rattle.load_rounds.specs.SharedRounds.{ReportOf, request_of, requests, together, joint, SharedHeadline}
use Rattle.load_rounds.proofs.Requests.{headline-one, stops-one}
use Rattle.request_line.specs.Requests.{RequestOf, IsRequest, AreRequests, IsNoRequest}
use Rattle.plan_requests.specs.Planning.{IsPlanned, PlanValues}
use Rattle.plan_requests.specs.Servers.{ServerOf}
use Rattle.plan_requests.proofs.Requests.{planned-valid}
use Rattle.server.specs.Answers.{unasked, AnswersRequest, refused, planned, overrun, StopsRequest, unplanned, stopped}
use Rattle.server.specs.Arrays as arrays
use Rattle.server.specs.Clients.{ClientOf}
use Rattle.server.specs.Lines as lines
use Rattle.server.specs.Overruns as overruns
use Rattle.server.specs.Plans.{requests_within, AreLimited, limited_program, limited_text}
use Rattle.server.specs.Planned.{AskedOf, one, several, text, PlannedOf, refuses_one, is_refused, IsTextPlanned, no_request, request, several_requests, IsPlannedAs, PlansAll, PlansAsked, PlansFor, IsResponseOf, IsResponse, AnswersAsked, StopsAsked}
use Rattle.gq_resolve.specs.PreparedPlans.{LimitedPlanOf}
use Rattle.server.proofs.LimitedPlans.{limited-asks}
use Rattle.server.proofs.Values.{array-answered}

-- of no plans there are none within a limit, and the other way round
none-limited : (most : Option ℕ) (bs : List LimitedPlanOf) → AreLimited most [] bs → bs ≡ []
none-limited most [] are = refl
none-limited most (b ∷ bs) are = absurd (cc are)

limited-none : (most : Option ℕ) (plans : List PlanOf) → AreLimited most plans [] → plans ≡ []
limited-none most [] are = refl
limited-none most (p ∷ ps) are = absurd (cc are)

refused-none : (many : Bool) (bs : List LimitedPlanOf) → refuses_one many bs ≡ true → bs ≡ []
refused-none true bs e = absurd (cc e)
refused-none false [] e = refl
refused-none false (b ∷ bs) e = absurd (cc e)

refused-plans : (most : Option ℕ) (many : Bool) (plans : List PlanOf) (bs : List LimitedPlanOf) → AreLimited most plans bs → refuses_one many bs ≡ true → plans ≡ []
refused-plans most many plans bs are e = limited-none most plans (subst (AreLimited most plans) (refused-none many bs e) are)

-- one request, whose refusal is all that there is
module _ (s : ServerOf) (value : Option RequestOf) where
  -- it is refused
  pub one-refusal : (refusals : List (Option (List ℕ))) (plans : List PlanOf) → PlanValues s (value ∷ []) refusals plans → plans ≡ [] → (t : List ℕ) × (refusals ≡ Some t ∷ []) × PlanValues s (value ∷ []) (Some t ∷ []) []
  one-refusal [] plans h e = absurd h
  one-refusal (Some t ∷ []) [] h e = (t, refl, h)
  one-refusal (Some t ∷ []) (p ∷ ps) h e = absurd (cc e)
  one-refusal (Some t ∷ r ∷ rs) plans h e = absurd h.1
  one-refusal (None ∷ rs) [] h e = absurd h
  one-refusal (None ∷ rs) (p ∷ ps) h e = absurd (cc e)

module _ {S : Type 0} (may : S → List KeyOf → AnswerOf → Type 0) (c : ClientOf S) (new : SessionOf S) where
  -- ---- answers

  -- what is given to plans
  abbrev Given : List PlanOf → List ReportOf → Type 0
  Given plans reports = overruns.AreGiven may c.limits (state_of c.session) (state_of new) (requests_within c.most plans) reports

  alone : (r : RequestOf) (p : PlanOf) (reports : List ReportOf) (report : ReportOf) → IsPlanned c.server r p → (h : SharedHeadline may (state_of c.session) (state_of new) (requests_within c.most (p ∷ [])) reports)
      → AreWithin c.limits (requests_within c.most (p ∷ [])) (state_of new) (length h.log) → IsResponseOf false (None ∷ []) reports report → AnswersRequest may c r report new
  alone r p [] report is h within e = absurd h.answers
  alone r p (t ∷ []) report is h within e =
      let longest = h.longest in
      let counted : length h.log ≡ t.rounds = omega (arith, longest) in
      subst (λ (x : ReportOf). AnswersRequest may c r x new) (sym e)
      (planned is (record {
        valid = planned-valid c.server r p is;
        headline = headline-one may (state_of c.session) (state_of new) (request_of (plan_program p) (text_within c.most)) t h;
        loads = h.answers.0.loads;
        within = subst (λ n. AreWithin c.limits (requests_within c.most (p ∷ [])) (state_of new) n) counted within;
      }))
  alone r p (t ∷ u ∷ us) report is h within e = absurd h.answers.1

  given-one : (r : RequestOf) (p : PlanOf) (reports : List ReportOf) (report : ReportOf) → IsPlanned c.server r p → Given (p ∷ []) reports → IsResponseOf false (None ∷ []) reports report → AnswersRequest may c r report new
  given-one r p reports report is (overruns.answered headline within) e = alone r p reports report is headline within e
  given-one r p reports report is (overruns.overrun gone same) e = overrun is (planned-valid c.server r p is) gone (subst (λ ts. IsResponseOf false (None ∷ []) ts report) same e)

  one-answered : (r : RequestOf) (refusals : List (Option (List ℕ))) (plans : List PlanOf) (bs : List LimitedPlanOf) (reports : List ReportOf) (report : ReportOf) → PlanValues c.server (Some r ∷ []) refusals plans
      → AreLimited c.most plans bs → refuses_one false bs ≡ false → Given plans reports → IsResponseOf false refusals reports report → AnswersRequest may c r report new
  one-answered r [] plans bs reports report h are e given is = absurd h
  one-answered r (Some t ∷ []) [] bs reports report h are e given is = absurd (cc (ap (refuses_one false) (sym (none-limited c.most bs are)) ∙ e))
  one-answered r (Some t ∷ []) (p ∷ ps) bs reports report h are e given is = absurd h.1
  one-answered r (Some t ∷ x ∷ rs) plans bs reports report h are e given is = absurd h.1
  one-answered r (None ∷ rs) [] bs reports report h are e given is = absurd h
  one-answered r (None ∷ []) (p ∷ []) bs reports report h are e given is = given-one r p reports report h.0 given is
  one-answered r (None ∷ []) (p ∷ q ∷ ps) bs reports report h are e given is = absurd h.1
  one-answered r (None ∷ x ∷ rs) (p ∷ ps) bs reports report h are e given is = absurd h.1

  several-answered : (values : List (Option RequestOf)) (refusals : List (Option (List ℕ))) (plans : List PlanOf) (reports : List ReportOf) (report : ReportOf) → PlanValues c.server values refusals plans → Given plans reports
      → IsResponseOf true refusals reports report → arrays.AnswersArray may c values report new
  several-answered values refusals plans reports report h given is = array-answered may c new values refusals plans reports report h given is

  text-answered : (t : List ℕ) (many : Bool) (refusals : List (Option (List ℕ))) (plans : List PlanOf) (bs : List LimitedPlanOf) (reports : List ReportOf) (report : ReportOf) → IsTextPlanned c.server t many refusals plans
      → AreLimited c.most plans bs → refuses_one many bs ≡ false → Given plans reports → IsResponseOf many refusals reports report → lines.AnswersText may c t report new
  text-answered t many refusals plans bs reports report (no_request is m h) are e given response =
      absurd (no-plan refusals plans h (subst (λ b. refuses_one b bs ≡ false) m e))
    where
      none-here : (rs : List (Option (List ℕ))) (ps : List PlanOf) → PlanValues c.server (None ∷ []) rs ps → ps ≡ []
      none-here [] ps k = absurd k
      none-here (Some u ∷ []) [] k = refl
      none-here (Some u ∷ []) (p ∷ ps) k = absurd k.1
      none-here (Some u ∷ x ∷ rs) ps k = absurd k.1
      none-here (None ∷ rs) [] k = absurd k
      none-here (None ∷ rs) (p ∷ ps) k = absurd k.0

      no-plan : (rs : List (Option (List ℕ))) (ps : List PlanOf) → PlanValues c.server (None ∷ []) rs ps → refuses_one false bs ≡ false → ⊥
      no-plan [] ps k f = k
      no-plan (Some u ∷ []) [] k f = cc (ap (refuses_one false) (sym (none-limited c.most bs (subst (λ qs. AreLimited c.most qs bs) (none-here refusals plans h) are))) ∙ f)
      no-plan (Some u ∷ []) (p ∷ ps) k f = k.1
      no-plan (Some u ∷ x ∷ rs) ps k f = k.1
      no-plan (None ∷ rs) [] k f = k
      no-plan (None ∷ rs) (p ∷ ps) k f = k.0
  text-answered t many refusals plans bs reports report (request is m h) are e given response =
      lines.request is (one-answered _ refusals plans bs reports report h are (subst (λ b. refuses_one b bs ≡ false) m e) given (subst (λ b. IsResponseOf b refusals reports report) m response))
  text-answered t many refusals plans bs reports report (several_requests is m h) are e given response =
      lines.several is (several-answered _ refusals plans reports report h given (subst (λ b. IsResponseOf b refusals reports report) m response))

  pub asked-answered : (asked : AskedOf) (what : PlannedOf) (reports : List ReportOf) (report : ReportOf) → PlansAsked c asked what → is_refused what ≡ false
      → overruns.AreGiven may c.limits (state_of c.session) (state_of new) (requests limited_program limited_text what.plans) reports → IsResponse what reports report → AnswersAsked may c asked report new
  asked-answered asked what reports report h e given response =
      go asked h.planned_as (subst (λ rs. overruns.AreGiven may c.limits (state_of c.session) (state_of new) rs reports) (limited-asks c.most h.plans what.plans h.limited) given)
    where
      go : (a : AskedOf) → IsPlannedAs c.server a what.many what.refusals h.plans → Given h.plans reports → AnswersAsked may c a report new
      go (one r) as' own =
          one-answered r what.refusals h.plans what.plans reports report as'.1 h.limited (subst (λ b. refuses_one b what.plans ≡ false) as'.0 e) own (subst (λ b. IsResponseOf b what.refusals reports report) as'.0 response)
      go (several values) as' own = several-answered values what.refusals h.plans reports report as'.1 own (subst (λ b. IsResponseOf b what.refusals reports report) as'.0 response)
      go (text t) as' own = text-answered t what.many what.refusals h.plans what.plans reports report as' h.limited e own response

  -- ---- stops

  one-stops : (r : RequestOf) (refusals : List (Option (List ℕ))) (plans : List PlanOf) (bs : List LimitedPlanOf) → PlanValues c.server (Some r ∷ []) refusals plans → AreLimited c.most plans bs → (refuses_one false bs ≡ true → new ≡ c.session)
      → (new ≡ c.session) ⊎ StopsAnswering may (state_of c.session) (state_of new) (together (requests_within c.most plans)) → StopsRequest may c r new
  one-stops r refusals plans bs h are same (inl e) = unplanned e
  one-stops r [] plans bs h are same (inr st) = absurd h
  one-stops r (Some t ∷ []) [] bs h are same (inr st) = unplanned (same (ap (refuses_one false) (none-limited c.most bs are)))
  one-stops r (Some t ∷ []) (p ∷ ps) bs h are same (inr st) = absurd h.1
  one-stops r (Some t ∷ x ∷ rs) plans bs h are same (inr st) = absurd h.1
  one-stops r (None ∷ rs) [] bs h are same (inr st) = absurd h
  one-stops r (None ∷ []) (p ∷ []) bs h are same (inr st) = stopped h.0 (stops-one may (state_of c.session) (state_of new) (request_of (plan_program p) (text_within c.most)) st)
  one-stops r (None ∷ []) (p ∷ q ∷ ps) bs h are same (inr st) = absurd h.1
  one-stops r (None ∷ x ∷ rs) (p ∷ ps) bs h are same (inr st) = absurd h.1

  none-stops : (refusals : List (Option (List ℕ))) (plans : List PlanOf) (bs : List LimitedPlanOf) → PlanValues c.server (None ∷ []) refusals plans → AreLimited c.most plans bs → (refuses_one false bs ≡ true → new ≡ c.session) → new ≡ c.session
  none-stops [] plans bs h are same = absurd h
  none-stops (Some t ∷ []) [] bs h are same = same (ap (refuses_one false) (none-limited c.most bs are))
  none-stops (Some t ∷ []) (p ∷ ps) bs h are same = absurd h.1
  none-stops (Some t ∷ x ∷ rs) plans bs h are same = absurd h.1
  none-stops (None ∷ rs) [] bs h are same = absurd h
  none-stops (None ∷ rs) (p ∷ ps) bs h are same = absurd h.0

  several-stops : (values : List (Option RequestOf)) (refusals : List (Option (List ℕ))) (plans : List PlanOf) → PlanValues c.server values refusals plans
      → (new ≡ c.session) ⊎ StopsAnswering may (state_of c.session) (state_of new) (together (requests_within c.most plans)) → arrays.StopsArray may c values new
  several-stops values refusals plans h (inl e) = arrays.unplanned e
  several-stops values refusals plans h (inr st) = arrays.stopped refusals plans h st

  text-stops : (t : List ℕ) (many : Bool) (refusals : List (Option (List ℕ))) (plans : List PlanOf) (bs : List LimitedPlanOf) → IsTextPlanned c.server t many refusals plans → AreLimited c.most plans bs → (refuses_one many bs ≡ true → new ≡ c.session)
      → (new ≡ c.session) ⊎ StopsAnswering may (state_of c.session) (state_of new) (together (requests_within c.most plans)) → lines.StopsText may c t new
  text-stops t many refusals plans bs (no_request is m h) are same st = lines.unread (none-stops refusals plans bs h are (subst (λ b. refuses_one b bs ≡ true → new ≡ c.session) m same))
  text-stops t many refusals plans bs (request is m h) are same st = lines.request is (one-stops _ refusals plans bs h are (subst (λ b. refuses_one b bs ≡ true → new ≡ c.session) m same) st)
  text-stops t many refusals plans bs (several_requests is m h) are same st = lines.several is (several-stops _ refusals plans h st)

  pub asked-stops : (asked : AskedOf) (what : PlannedOf) → PlansAsked c asked what → (is_refused what ≡ true → new ≡ c.session) → (new ≡ c.session) ⊎ StopsAnswering may (state_of c.session) (state_of new) (joint limited_program limited_text what.plans)
      → StopsAsked may c asked new
  asked-stops asked what h same st = go asked h.planned_as (subst (λ rs. (new ≡ c.session) ⊎ StopsAnswering may (state_of c.session) (state_of new) (together rs)) (limited-asks c.most h.plans what.plans h.limited) st)
    where
      go : (a : AskedOf) → IsPlannedAs c.server a what.many what.refusals h.plans → (new ≡ c.session) ⊎ StopsAnswering may (state_of c.session) (state_of new) (together (requests_within c.most h.plans)) → StopsAsked may c a new
      go (one r) as' end = one-stops r what.refusals h.plans what.plans as'.1 h.limited (subst (λ b. refuses_one b what.plans ≡ true → new ≡ c.session) as'.0 same) end
      go (several values) as' end = several-stops values what.refusals h.plans as'.1 end
      go (text t) as' end = text-stops t what.many what.refusals h.plans what.plans as' h.limited same end

-- ---- a request that is refused

module _ {S : Type 0} (may : S → List KeyOf → AnswerOf → Type 0) (c : ClientOf S) where
  refused-one : (r : RequestOf) (refusals : List (Option (List ℕ))) (plans : List PlanOf) (report : ReportOf) → PlanValues c.server (Some r ∷ []) refusals plans → plans ≡ [] → IsResponseOf false refusals [] report → AnswersRequest may c r report c.session
  refused-one r refusals plans report h e response =
      let t = one-refusal c.server (Some r) refusals plans h e in
      refused t.2.0 (subst (λ rs. IsResponseOf false rs [] report) t.1 response) refl

  refused-text : (t : List ℕ) (many : Bool) (refusals : List (Option (List ℕ))) (plans : List PlanOf) (bs : List LimitedPlanOf) (report : ReportOf) → IsTextPlanned c.server t many refusals plans → plans ≡ [] → refuses_one many bs ≡ true
      → IsResponseOf many refusals [] report → lines.AnswersText may c t report c.session
  refused-text t many refusals plans bs report (no_request is m h) none e response =
      let u = one-refusal c.server None refusals plans h none in
      let own = subst (λ b. IsResponseOf b refusals [] report) m response in
      let said : report ≡ unasked u.0 = subst (λ rs. IsResponseOf false rs [] report) u.1 own in
      lines.no_request is (said ∙ ap unasked u.2.0) refl
  refused-text t many refusals plans bs report (request is m h) none e response =
      lines.request is (refused-one _ refusals plans report h none (subst (λ b. IsResponseOf b refusals [] report) m response))
  refused-text t many refusals plans bs report (several_requests is m h) none e response = absurd (cc (ap (λ b. refuses_one b bs) (sym m) ∙ e))

  pub asked-refused : (asked : AskedOf) (what : PlannedOf) (report : ReportOf) → PlansAsked c asked what → is_refused what ≡ true → IsResponse what [] report → AnswersAsked may c asked report c.session
  asked-refused (one r) what report h e response =
      refused-one r what.refusals h.plans report h.planned_as.1 (refused-plans c.most what.many h.plans what.plans h.limited e) (subst (λ b. IsResponseOf b what.refusals [] report) h.planned_as.0 response)
  asked-refused (several values) what report h e response = absurd (cc (ap (λ b. refuses_one b what.plans) (sym h.planned_as.0) ∙ e))
  asked-refused (text t) what report h e response =
      refused-text t what.many what.refusals h.plans what.plans report h.planned_as (refused-plans c.most what.many h.plans what.plans h.limited e) e response

-- ---- planning

module _ (s : ServerOf) (most : Option ℕ) (what : PlannedOf) where
  pub asks-one : (r : RequestOf) → PlansAll s most (Some r ∷ []) false what → PlansFor s most (one r) what
  asks-one r h = record { plans = h.each.plans; limited = h.each.limited; planned_as = (h.many_is, h.each.each) }

  pub asks-several : (values : List (Option RequestOf)) → PlansAll s most values true what → PlansFor s most (several values) what
  asks-several values h = record { plans = h.each.plans; limited = h.each.limited; planned_as = (h.many_is, h.each.each) }

  pub asks-none : (t : List ℕ) → IsNoRequest t → PlansAll s most (None ∷ []) false what → PlansFor s most (text t) what
  asks-none t is h = record { plans = h.each.plans; limited = h.each.limited; planned_as = no_request is h.many_is h.each.each }

  pub asks-text : (t : List ℕ) (r : RequestOf) → IsRequest t r → PlansAll s most (Some r ∷ []) false what → PlansFor s most (text t) what
  asks-text t r is h = record { plans = h.each.plans; limited = h.each.limited; planned_as = request is h.many_is h.each.each }

  pub asks-texts : (t : List ℕ) (values : List (Option RequestOf)) → AreRequests t values → PlansAll s most values true what → PlansFor s most (text t) what
  asks-texts t values is h = record { plans = h.each.plans; limited = h.each.limited; planned_as = several_requests is h.many_is h.each.each }
