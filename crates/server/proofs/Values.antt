-- The values of an array in their places: their refusals, and the answers of their plans.
use Rattle.std.proofs.Common.{◌≡◌, ◌<◌, ℕ, zero, suc, true, List, [], ◌∷◌, ◌++◌, map, length, get_or, drop, Option, Some, None, All, refl, sym, ap, subst, ◌∙◌, arith, append_assoc, string_bytes}
use Rattle.std.specs.List.{AllZip, flat_map, join_by}
use Rattle.std.specs.Option.{option_map}
use Rattle.std.proofs.lemmas.List.{length-map}
use Rattle.execution.specs.Loads.{read}
use Rattle.execution.specs.Reads.{all_read, count_read, counted}
use Rattle.gq_check.specs.Planned.{IsPlan}
use Rattle.gq_check.specs.Plans.{PlanOf}
use Rattle.gq_resolve.specs.Within.{text_within}
use Rattle.plan_program.specs.PlanPrograms.{plan_program}
use Rattle.load_memory.specs.Keys.{KeyOf}
use Rattle.load_memory.specs.Replies.{ReplyOf}
use Rattle.load_queue.specs.Answers.{AnswerOf}
use Rattle.load_rounds.specs.Sessions.{SessionOf, StateOf, session_modes, state_of}
use Rattle.load_rounds.specs.SharedRounds.{RequestOf as ExecutedOf, ReportOf, AreShared, greatest, report_of, request_of}
use Rattle.load_rounds.specs.declared.answer.Answer.{Answer}
use Rattle.load_rounds.specs.declared.limits.Limits.{Limits}
use Rattle.load_rounds.specs.declared.limits.Overrun.{Overrun}
use Rattle.request_line.specs.Requests.{RequestOf}
use Rattle.plan_requests.specs.Servers.{ServerOf}
use Rattle.plan_requests.specs.Planning.{PlanValues}
use Rattle.plan_requests.proofs.Values.{plans-valid}
use Rattle.server.specs.Clients.{ClientOf}
use Rattle.server.specs.Overruns.{AreGiven, answered as given_answers, loads_given, overrun, overrun_report}
use Rattle.server.specs.Planned.{IsResponseOf, all_loads}
use Rattle.server.specs.Plans.{requests_within}
use Rattle.server.specs.Arrays.{PlaceOf, refused, answered, IsInPlace, text_in, plans_in, reports_in, in_places, array_text, AnswersArray}

-- ---- the answer

-- there is a report for each plan
module _ {S : Type 0} (old new : StateOf S) (log : List (List ReplyOf)) (most : Option ℕ) where
  shared-many : (plans : List PlanOf) (reports : List ReportOf) → AreShared old new log (requests_within most plans) reports → length plans ≡ length reports
  shared-many [] [] h = refl
  shared-many [] (t ∷ ts) h = absurd h
  shared-many (p ∷ ps) [] h = absurd h
  shared-many (p ∷ ps) (t ∷ ts) h = ap suc (shared-many ps ts h.1)

module _ {S : Type 0} (may : S → List KeyOf → AnswerOf → Type 0) (limits : Limits) (old new : StateOf S) (most : Option ℕ) (plans : List PlanOf) (reports : List ReportOf) where
  pub given-many : AreGiven may limits old new (requests_within most plans) reports → length plans ≡ length reports
  given-many (given_answers headline within) = shared-many old new headline.log most plans reports headline.answers
  given-many (overrun {o = o} gone same) =
      let asked : PlanOf → ExecutedOf = λ plan. request_of (plan_program plan) (text_within most) in
      let refusal : ExecutedOf → ReportOf = λ r. overrun_report o in
      sym (length-map plans asked) ∙ sym (length-map (map asked plans) refusal) ∙ sym (ap length same)

-- ---- the loads of all answers

shared-loads : {S : Type 0} (old new : StateOf S) (log : List (List ReplyOf)) (rs : List ExecutedOf) (ts : List ReportOf) → AreShared old new log rs ts
    → counted (all_loads ts) ≡ counted (all_read (map (λ (r : ExecutedOf). r.program) rs) (read (session_modes old) new.memory))
shared-loads old new log [] [] h = refl
shared-loads old new log [] (t ∷ ts) h = absurd h
shared-loads old new log (r ∷ rs) [] h = absurd h
shared-loads old new log (r ∷ rs) (t ∷ ts) h =
    let first : t.loads ≡ counted (count_read r.program (read (session_modes old) new.memory)) = h.0.loads in
    let others = shared-loads old new log rs ts h.1 in
    omega (arith, first, others)

no-loads : (o : Overrun) (rs : List ExecutedOf) → all_loads (map (λ (r : ExecutedOf). overrun_report o) rs) ≡ 0
no-loads o [] = refl
no-loads o (r ∷ rs) = let rest = no-loads o rs in omega (arith, rest)

pub given-loads : {S : Type 0} (may : S → List KeyOf → AnswerOf → Type 0) (limits : Limits) (old new : StateOf S) (rs : List ExecutedOf) (ts : List ReportOf) (given : AreGiven may limits old new rs ts)
    → counted (all_loads ts) ≡ loads_given may limits old new given
given-loads may limits old new rs ts (given_answers headline within) = shared-loads old new headline.log rs ts headline.answers
given-loads may limits old new rs ts (overrun {o = o} gone same) = ap (λ us. counted (all_loads us)) same ∙ ap counted (no-loads o rs)

module _ (s : ServerOf) where
  -- each value in its place
  pub record Filled (values : List (Option RequestOf)) (refusals : List (Option (List ℕ))) (plans : List PlanOf) (reports : List ReportOf) : Type 0 where
    pub places : List PlaceOf
    pub each : AllZip (IsInPlace s) values places
    pub plans_are : plans_in places ≡ plans
    pub reports_are : reports_in places ≡ reports
    pub texts_are : map text_in places ≡ in_places refusals (map (λ (t : ReportOf). t.text) reports)

  pub filled : (values : List (Option RequestOf)) (refusals : List (Option (List ℕ))) (plans : List PlanOf) (reports : List ReportOf) → PlanValues s values refusals plans
      → length plans ≡ length reports → Filled values refusals plans reports
  filled [] [] [] [] h e = record { places = []; each = tt; plans_are = refl; reports_are = refl; texts_are = refl }
  filled [] [] [] (t ∷ ts) h e = absurd (cc e)
  filled [] [] (p ∷ ps) ts h e = absurd h
  filled [] (r ∷ rs) ps ts h e = absurd h
  filled (v ∷ vs) [] ps ts h e = absurd h
  filled (v ∷ vs) (Some text ∷ rs) ps ts h e =
      let f = filled vs rs ps ts h.1 e in
      record { places = refused text ∷ f.places; each = (h.0, f.each); plans_are = f.plans_are; reports_are = f.reports_are; texts_are = ap (λ l. text ∷ l) f.texts_are }
  filled (v ∷ vs) (None ∷ rs) [] ts h e = absurd h
  filled (v ∷ vs) (None ∷ rs) (p ∷ ps) [] h e = absurd (cc e)
  filled (v ∷ vs) (None ∷ rs) (p ∷ ps) (t ∷ ts) h e =
      let f = filled vs rs ps ts h.1 (cc e) in
      record {
        places = answered p t ∷ f.places;
        each = (h.0, f.each);
        plans_are = ap (λ l. p ∷ l) f.plans_are;
        reports_are = ap (λ l. t ∷ l) f.reports_are;
        texts_are = ap (λ l. t.text ∷ l) f.texts_are;
      }

-- shows the same of what the program holds
pub texts-report : (answers : List Answer) → map (λ (t : ReportOf). t.text) (map report_of answers) ≡ map (λ (a : Answer). string_bytes a.text) answers
texts-report [] = refl
texts-report (a ∷ as') = ap (λ ts. string_bytes a.text ∷ ts) (texts-report as')

-- what is given to the plans in the session stands in their places
module _ {S : Type 0} (may : S → List KeyOf → AnswerOf → Type 0) (c : ClientOf S) (new : SessionOf S) where
  pub array-answered : (values : List (Option RequestOf)) (refusals : List (Option (List ℕ))) (plans : List PlanOf) (reports : List ReportOf) (report : ReportOf) → PlanValues c.server values refusals plans
      → AreGiven may c.limits (state_of c.session) (state_of new) (requests_within c.most plans) reports
      → IsResponseOf true refusals reports report → AnswersArray may c values report new
  array-answered values refusals plans reports report h given is =
      let f = filled c.server values refusals plans reports h (given-many may c.limits (state_of c.session) (state_of new) c.most plans reports given) in
      let gives : List PlanOf → List ReportOf → Type 0 = λ ps ts. AreGiven may c.limits (state_of c.session) (state_of new) (requests_within c.most ps) ts in
      let own = subst (λ ps. gives ps (reports_in f.places)) (sym f.plans_are) (subst (gives plans) (sym f.reports_are) given) in
      record {
        places = f.places;
        each = f.each;
        text = is.0 ∙ ap array_text (sym f.texts_are);
        rounds = is.1 ∙ ap greatest (sym f.reports_are);
        valid = subst (All IsPlan) (sym f.plans_are) (plans-valid c.server values refusals plans h);
        given = own;
        loads = is.2 ∙ ap (λ ts. counted (all_loads ts)) (sym f.reports_are) ∙ given-loads may c.limits (state_of c.session) (state_of new) (requests_within c.most (plans_in f.places)) (reports_in f.places) own;
      }

-- ---- the texts in their places, one more

pub none-left : {X : Type 0} (xs : List X) → length xs ≡ 0 → xs ≡ []
none-left [] e = refl
none-left (x ∷ xs) e = absurd (omega (arith, e))

more-joined : {X : Type 0} (f : X → List ℕ) (between : List ℕ) (xs : List X) → flat_map (λ x. between ++ f x) xs ≡ flat_map (λ t. between ++ t) (map f xs)
more-joined f between [] = refl
more-joined f between (x ∷ xs) = ap (λ t. (between ++ f x) ++ t) (more-joined f between xs)

pub joined : {X : Type 0} (f : X → List ℕ) (between : List ℕ) (xs : List X) → join_by f between xs ≡ join_by (λ t. t) between (map f xs)
joined f between [] = refl
joined f between (x ∷ xs) = ap (λ t. f x ++ t) (more-joined f between xs)

module _ {T : Type 0} (seen : T → List ℕ) where
  pub next-refusal : (done : List (List ℕ)) (refusals : List (Option T)) (i : ℕ) (d : Option T) (refusal : T) (texts : List (List ℕ)) → i < length refusals → get_or refusals i d ≡ Some refusal
      → (done ++ seen refusal ∷ []) ++ in_places (drop (suc i) (map (option_map seen) refusals)) texts ≡ done ++ in_places (drop i (map (option_map seen) refusals)) texts
  next-refusal done [] i d refusal texts lt at = absurd (omega arith)
  next-refusal done (r ∷ rs) zero d refusal texts lt at = append_assoc done (seen refusal ∷ []) _ ∙ ap (λ (o : Option T). done ++ in_places (option_map seen o ∷ map (option_map seen) rs) texts) (sym at)
  next-refusal done (r ∷ rs) (suc i) d refusal texts lt at = next-refusal done rs i d refusal texts (omega (arith, lt)) at

  pub next-answer : (done : List (List ℕ)) (refusals : List (Option T)) (i : ℕ) (d : Option T) (text : List ℕ) (texts : List (List ℕ)) → i < length refusals → get_or refusals i d ≡ None
      → (done ++ text ∷ []) ++ in_places (drop (suc i) (map (option_map seen) refusals)) texts ≡ done ++ in_places (drop i (map (option_map seen) refusals)) (text ∷ texts)
  next-answer done [] i d text texts lt at = absurd (omega arith)
  next-answer done (r ∷ rs) zero d text texts lt at = append_assoc done (text ∷ []) _ ∙ ap (λ (o : Option T). done ++ in_places (option_map seen o ∷ map (option_map seen) rs) (text ∷ texts)) (sym at)
  next-answer done (r ∷ rs) (suc i) d text texts lt at = next-answer done rs i d text texts (omega (arith, lt)) at

  pub no-answer : (refusals : List (Option T)) (i : ℕ) (d : Option T) → i < length refusals → get_or refusals i d ≡ None
      → in_places (drop (suc i) (map (option_map seen) refusals)) [] ≡ in_places (drop i (map (option_map seen) refusals)) []
  no-answer [] i d lt at = absurd (omega arith)
  no-answer (r ∷ rs) zero d lt at = ap (λ (o : Option T). in_places (option_map seen o ∷ map (option_map seen) rs) []) (sym at)
  no-answer (r ∷ rs) (suc i) d lt at = no-answer rs i d (omega (arith, lt)) at
