-- Each line has an answer.
use Rattle.std.proofs.Common.{◌&&◌, ◌≡◌, ◌≢◌, ◌<◌, ◌^◌, length, arith, refl, sym, subst, ◌∙◌, ℕ, false, List, [], ◌∷◌, map, Option, Some, None, Result, Ok, Err, inl, inr, IsUtf8}
use Rattle.std.specs.Option.{option_map, option_and_then}
use Rattle.std.specs.Prelude.{find, nat_lt, nat_le}
use Rattle.std.specs.Str.{is_utf8}
use Rattle.std.proofs.lemmas.Bool.{cases_Bool, true≢false}
use Rattle.std.proofs.lemmas.Str.{IsUtf8-from_is_utf8, is_utf8-from_IsUtf8}
use Rattle.std.proofs.lemmas.Option.{none-some, same_Some}
use Rattle.serde_json.specs.Data.{Data}
use Rattle.serde_json.specs.Find.{as_array}
use Rattle.serde_json.specs.Read.{read}
use Rattle.gq_parser.specs.declared.fault.ParseFault.{ParseFault}
use Rattle.gq_parser.specs.declared.fault.ParseFault.TheVariants as parse
use Rattle.gq_parser.specs.Fault.{IsDocumentOf}
use Rattle.gq_parser.specs.Tree.{Document, Operation}
use Rattle.schema_syntax.specs.Tree.{Definition}
use Rattle.gq_schema.specs.Types.{tree_of}
use Rattle.gq_variables.specs.Variables.{VariableOf}
use Rattle.gq_variables.specs.Values as values
use Rattle.rules_parts.specs.Listing.{parts_of}
use Rattle.gq_check.specs.declared.fault.CheckFault.TheVariants as check
use Rattle.gq_check.specs.declared.fault.PrepareFault.TheVariants as prepare
use Rattle.gq_check.specs.Plans.{PlanOf}
use Rattle.gq_check.specs.Prepared.{PreparedOf, FaultOf as Unprepared, no_such_operation, operation_needed, variables_not_object, bad_variable, is_operation, found_operation, with_variables, prepared_operation, prepared}
use Rattle.gq_check.specs.Verdict.{FaultOf, Breaks, TooComplex, TooDeep, NotServed, IsVerdict, IsValid}
use Rattle.load_rounds.specs.SharedRounds.{ReportOf}
use Rattle.request_line.specs.Requests.{RequestOf, asked, asked_each, most_requests, IsRequest, AreRequests, IsNoRequest}
use Rattle.plan_requests.specs.declared.fault.RequestFault.{RequestFault}
use Rattle.plan_requests.specs.declared.fault.RequestFault.TheVariants as fault
use Rattle.plan_requests.specs.Requests.{IsRequestFault, is_want_of_memory, request_message, request_place}
use Rattle.world.specs.Worlds.{HasSources}
use Rattle.plan_requests.specs.Servers.{ServerOf}
use Rattle.plan_requests.specs.Planning.{values_of, refusal_text, not_a_request, PlanValues}
use Rattle.world_answers.specs.Answers.{IsAnsweredAnew, AnswersRequest, faulty, planned}
use Rattle.server.specs.Arrays.{array_text, in_places}
use Rattle.world_answers.specs.Arrays.{AnswersArray}
use Rattle.world_answers.specs.Lines.{IsAnswer, no_request, request, several}
use Rattle.world_answers.specs.Services.{ServiceOf, server_in}
use Rattle.plan_requests.proofs.Values.{plans-bound}
use Rattle.world_answers.proofs.Values.{array-answered}
use Rattle.world_answers.specs.Requests.{IsPlanFor, IsRefusedOrAnswered, invalid, unprepared, answered}
use Rattle.world_answers.proofs.Telling.{outcome-there}
use Rattle.world_answers.proofs.Documents.{IsRead, text-read}
use Rattle.plan_laws.proofs.Each.{Each, Maybe, maybe-weaker}
use Rattle.world_answers.proofs.Shared.{plans-answered}
use Rattle.world_answers.proofs.Names.{DocumentNames}
use Rattle.world_answers.proofs.Written.{document-written}
use Rattle.world_answers.proofs.Strings.{IsSaid, Fits, said-fitting}
use Rattle.world_answers.proofs.Json.{RequestFits, request-fits, requests-fit}
use Rattle.world_answers.proofs.Parts.{schema-said, parts-named}
use Rattle.world_answers.proofs.Rules.{FaultSaid, verdict-said}

-- ---- what can't be prepared has a name that a string says

abbrev PrepareSaid : Unprepared → Type 0
PrepareSaid (no_such_operation n) = IsSaid n
PrepareSaid f = Unit {0}

abbrev ResultSaid : Result PreparedOf Unprepared → Type 0
ResultSaid (Ok p) = Unit {0}
ResultSaid (Err f) = PrepareSaid f

with-said : (o : Operation) (r : Result (List VariableOf) values.FaultOf) → ResultSaid (with_variables o r)
with-said o (Ok vs) = tt
with-said o (Err values.not_object) = tt
with-said o (Err (values.bad_variable n)) = tt

module _ (defs : List Definition) (given : Data) where
  found-said : (n : List ℕ) (o : Option Operation) → IsSaid n → ResultSaid (prepared_operation defs given (found_operation n o))
  found-said n None said = said
  found-said n (Some o) said = with-said o (values.coerced_variables defs o.variables given)

  prepared-said : (os : List Operation) (name : Option (List ℕ)) → Maybe IsSaid name → ResultSaid (prepared defs os name given)
  prepared-said os (Some n) said = found-said n (find (is_operation n) os) said
  prepared-said [] None said = tt
  prepared-said (o ∷ []) None said = with-said o (values.coerced_variables defs o.variables given)
  prepared-said (o ∷ p ∷ os) None said = tt

-- ---- a request

some-fault : (f : ParseFault) → f ≢ parse.NoMemory → is_want_of_memory (fault.Parse f) ≡ false
some-fault parse.NoMemory some = absurd (some refl)
some-fault f some = refl

module _ (s : ServiceOf) (has : HasSources s.world) (r : RequestOf) (called : Maybe IsSaid r.operation_name) where
  abbrev HasAnswer : Type 0
  HasAnswer = (text : List ℕ) × AnswersRequest s r text

  abbrev defs' : List Definition
  defs' = tree_of s.world.definitions

  at-fault : (f : RequestFault) → is_want_of_memory f ≡ false → IsRequestFault defs' r.query r.operation_name (values_of r.variables) f → HasAnswer
  at-fault f some is = (refusal_text (request_message f) (request_place f), faulty {fault = f} (record { reported = some; faulty = is }) refl)

  module _ (d : Document) (says : IsDocumentOf r.query d) where
    of-invalid : (f : FaultOf) → FaultSaid f → IsVerdict defs' d (Some f) → HasAnswer
    of-invalid (Breaks rule n p) said is =
        at-fault (fault.Check (check.Rule rule said.0 p)) refl (record { document = d; says = says; fault = subst (λ m. IsVerdict defs' d (Some (Breaks rule m p))) (sym said.1) is })
    of-invalid TooComplex said is = at-fault (fault.Check check.TooComplex) refl (record { document = d; says = says; fault = is })
    of-invalid (TooDeep p) said is = at-fault (fault.Check (check.TooDeep p)) refl (record { document = d; says = says; fault = is })
    of-invalid (NotServed n p) said is =
        at-fault (fault.Check (check.NotServed said.0 p)) refl (record { document = d; says = says; fault = subst (λ m. IsVerdict defs' d (Some (NotServed m p))) (sym said.1) is })

    abbrev want : Result PreparedOf Unprepared
    want = prepared defs' d.operations r.operation_name (values_of r.variables)

    of-unprepared : (f : Unprepared) → PrepareSaid f → IsValid defs' d → want ≡ Err f → HasAnswer
    of-unprepared (no_such_operation n) said valid e =
        at-fault (fault.Prepare (prepare.NoSuchOperation said.0)) refl (record { document = d; says = says; valid = valid; fault = subst (λ m. want ≡ Err (no_such_operation m)) (sym said.1) e })
    of-unprepared operation_needed said valid e = at-fault (fault.Prepare prepare.OperationNeeded) refl (record { document = d; says = says; valid = valid; fault = e })
    of-unprepared variables_not_object said valid e = at-fault (fault.Prepare prepare.VariablesNotObject) refl (record { document = d; says = says; valid = valid; fault = e })
    of-unprepared (bad_variable n) said valid e =
        at-fault (fault.Prepare (prepare.BadVariable n)) refl (record { document = d; says = says; valid = valid; fault = e })

    of-plan : (plan : PlanOf) (text : List ℕ) → IsValid defs' d → IsPlanFor s.world d r.operation_name (values_of r.variables) plan → IsAnsweredAnew s plan text → HasAnswer
    of-plan plan text valid is anew =
        (text, planned {plan = plan} (record { definitions = is.definitions; bindings = is.bindings; planned = record { document = d; says = says; valid = valid; fragments = is.fragments; prepared = is.prepares } }) anew)

    of-outcome : DocumentNames d → IsRefusedOrAnswered s d r.operation_name (values_of r.variables) → HasAnswer
    of-outcome names (invalid f is) = of-invalid f (verdict-said (parts_of defs' d) (parts-named defs' d (schema-said s.world.definitions) names) (Some f) is) is
    of-outcome names (unprepared f valid e) = of-unprepared f (subst ResultSaid e (prepared-said defs' (values_of r.variables) d.operations r.operation_name called)) valid e
    of-outcome names (answered {plan = plan} {text = text} valid is anew) = of-plan plan text valid is anew

  of-query : IsRead r.query → HasAnswer
  of-query (inl (d, says)) = of-outcome d says (document-written r.query d says) (outcome-there s has d r.operation_name (values_of r.variables))
  of-query (inr (f, some, is)) = at-fault (fault.Parse f) (some-fault f some) is

  pub request-answered : (text : List ℕ) × AnswersRequest s r text
  request-answered = of-query (text-read r.query)

-- ---- a line

-- the values of an array, each refused or planned
record Values (s : ServerOf) (values : List (Option RequestOf)) : Type 0 where
  refusals : List (Option (List ℕ))
  plans : List PlanOf
  are : PlanValues s values refusals plans

module _ (s : ServiceOf) (has : HasSources s.world) where
  abbrev ValueSaid : RequestOf → Type 0
  ValueSaid r = Maybe IsSaid r.operation_name

  next-value : (r : RequestOf) (text : List ℕ) (values : List (Option RequestOf)) → AnswersRequest s r text → Values (server_in s) values → Values (server_in s) (Some r ∷ values)
  next-value r text values (faulty {fault = f} h e) rest = record { refusals = Some text ∷ rest.refusals; plans = rest.plans; are = (record { fault = f; faulty = h; report = e }, rest.are) }
  next-value r text values (planned {plan = p} h anew) rest = record { refusals = None ∷ rest.refusals; plans = p ∷ rest.plans; are = (h, rest.are) }

  values-there : (values : List (Option RequestOf)) → Each (Maybe ValueSaid) values → Values (server_in s) values
  values-there [] said = record { refusals = []; plans = []; are = tt }
  values-there (None ∷ values) said = let rest = values-there values said.1 in record { refusals = Some not_a_request ∷ rest.refusals; plans = rest.plans; are = (refl, rest.are) }
  values-there (Some r ∷ values) said = let a = request-answered s has r said.0 in next-value r a.0 values a.1 (values-there values said.1)

  array-there : (values : List (Option RequestOf)) → Each (Maybe ValueSaid) values → (text : List ℕ) × AnswersArray s values text
  array-there values said =
      let v = values-there values said in
      let a = plans-answered s has v.plans (plans-bound (server_in s) values v.refusals v.plans v.are) in
      let text = array_text (in_places v.refusals (map (λ (t : ReportOf). t.text) a.1)) in
      (text, array-answered s values v.refusals v.plans a.1 a.0 text v.are a.2 refl)

module _ (s : ServiceOf) (has : HasSources s.world) (line : List ℕ) where
  abbrev Answered : Type 0
  Answered = (text : List ℕ) × IsAnswer s line text

  refused : IsNoRequest line → Answered
  refused none = (not_a_request, no_request none refl)

  abbrev array_in : Option (List (Option RequestOf))
  array_in = option_map asked_each (option_and_then as_array (read line))

  module _ (one : (r : RequestOf) → IsRequest line r → Maybe IsSaid r.operation_name) (each : (values : List (Option RequestOf)) → AreRequests line values → Each (Maybe (ValueSaid s has)) values) where
    of-values : IsUtf8 line → ((r : RequestOf) → IsRequest line r → ⊥) → (values : List (Option RequestOf)) → array_in ≡ Some values → Answered
    of-values utf8 none values e = elim (cases_Bool (nat_lt 0 (length values) && nat_le (length values) most_requests)) [
      | inl within ↦
          let are : AreRequests line values = record { text = utf8; values = e; some = grind arith; few = grind arith } in
          let a = array-there s has values (each values are) in
          (a.0, several {values = values} are a.1)
      | inr outside ↦ refused (record {
        not_one = none;
        not_several = λ others are. let same : others ≡ values = same_Some others values (sym are.values ∙ e) in let some = rw same at are.some in let few = rw same at are.few in grind arith;
      })
    ]

    of-array : IsUtf8 line → ((r : RequestOf) → IsRequest line r → ⊥) → (o : Option (List (Option RequestOf))) → array_in ≡ o → Answered
    of-array utf8 none None e = refused (record { not_one = none; not_several = λ values are. none-some values (sym e ∙ are.values) })
    of-array utf8 none (Some values) e = of-values utf8 none values e

    of-reading : IsUtf8 line → (o : Option RequestOf) → option_and_then asked (read line) ≡ o → Answered
    of-reading utf8 None e = of-array utf8 (λ r is. none-some r (sym e ∙ is.members)) array_in refl
    of-reading utf8 (Some r) e =
        let is : IsRequest line r = record { text = utf8; members = e } in
        let a = request-answered s has r (one r is) in
        (a.0, request {r = r} is a.1)

    line-answered : Answered
    line-answered = elim (cases_Bool (is_utf8 line)) [
      | inl text ↦ of-reading (IsUtf8-from_is_utf8 line text) (option_and_then asked (read line)) refl
      | inr other ↦ refused (record {
        not_one = λ r is. true≢false (sym (is_utf8-from_IsUtf8 line is.text) ∙ other);
        not_several = λ values are. true≢false (sym (is_utf8-from_IsUtf8 line are.text) ∙ other);
      })
    ]

  -- the name that it asks for, as a string
  name-said : length line < 2 ^ 63 → (name : Option (List ℕ)) → Maybe (Fits (length line)) name → Maybe IsSaid name
  name-said short name h = maybe-weaker (Fits (length line)) IsSaid name (λ n fits. said-fitting short fits) h

  names-said : length line < 2 ^ 63 → (values : List (Option RequestOf)) → Each (Maybe (RequestFits (length line))) values → Each (Maybe (ValueSaid s has)) values
  names-said short [] h = tt
  names-said short (None ∷ values) h = (tt, names-said short values h.1)
  names-said short (Some r ∷ values) h = (name-said short r.operation_name h.0, names-said short values h.1)

  pub line-there : length line < 2 ^ 63 → (text : List ℕ) × IsAnswer s line text
  line-there short = line-answered (λ r is. name-said short r.operation_name (request-fits (length line) line r (omega arith) is))
      (λ values are. names-said short values (requests-fit (length line) line values (omega arith) are))
