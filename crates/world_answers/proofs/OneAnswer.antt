-- A line has at most one answer.
use Rattle.std.proofs.Common.{◌≡◌, ◌≢◌, ℕ, false, List, [], ◌∷◌, ◌++◌, map, Option, Some, None, codes, refl, sym, ap, ap₂, subst, ◌∙◌, arith, string_bytes}
use Rattle.std.specs.List.{AllZip}
use Rattle.std.specs.Option.{option_map, option_and_then}
use Rattle.std.specs.Prelude.{Result, Ok, Err}
use Rattle.std.proofs.lemmas.Option.{none-some, same_Some}
use Rattle.serde_json.specs.Data.{Data, array}
use Rattle.serde_json.specs.Find.{as_array}
use Rattle.serde_json.specs.Read.{read}
use Rattle.text_place.specs.declared.place.Place.{Place}
use Rattle.gq_parser.specs.declared.fault.ParseFault.{ParseFault}
use Rattle.gq_parser.specs.declared.fault.ParseFault.TheVariants as parse
use Rattle.gq_parser.specs.Fault.{IsDocumentOf, IsParseFault}
use Rattle.gq_parser.specs.Tree.{Fragment, Document}
use Rattle.schema_syntax.specs.Tree.{Definition}
use Rattle.gq_bindings.specs.Tree.{BindingsOf}
use Rattle.gq_schema.specs.Types.{tree_of}
use Rattle.gq_check.specs.declared.fault.CheckFault.TheVariants as check
use Rattle.gq_check.specs.declared.fault.PrepareFault.TheVariants as prepare
use Rattle.gq_check.specs.Plans.{PlanOf}
use Rattle.gq_check.specs.Prepared as prepared
use Rattle.gq_check.specs.Texts.{section_of, title_of}
use Rattle.gq_check.specs.Verdict.{FaultOf, Breaks, TooComplex, TooDeep, NotServed, IsVerdict}
use Rattle.request_line.specs.Requests.{RequestOf, IsRequest, AreRequests, asked, asked_each}
use Rattle.gq_resolve.specs.Within.{text_within}
use Rattle.load_rounds.specs.Limits.{IsWithin, IsOver as IsMore}
use Rattle.plan_requests.specs.declared.fault.RequestFault.{RequestFault}
use Rattle.plan_requests.specs.declared.fault.RequestFault.TheVariants as fault
use Rattle.plan_requests.specs.Requests.{request_message, request_place, is_want_of_memory}
use Rattle.plan_requests.specs.Servers.{ServerOf}
use Rattle.plan_requests.specs.Planning.{values_of, IsPlanned, IsFaulty, IsRefusal, refusal_text, IsRefused, HasPlan}
use Rattle.world_answers.specs.Answers.{direct_work, IsDirectText, executed, too_much, AnswersRequest, faulty, planned}
use Rattle.server.specs.Arrays.{PlaceOf, refused, answered, text_in, plans_in, array_text}
use Rattle.world_answers.specs.Arrays.{IsInPlace, AnswersArray}
use Rattle.world_answers.specs.Lines.{IsAnswer, no_request, request, several}
use Rattle.world_answers.specs.Services.{ServiceOf, server_in}
use Rattle.world_answers.proofs.OneFault.{one_fault, document_or_fault, one_document}

abbrev Wanted : Type 0
Wanted = Result prepared.PreparedOf prepared.FaultOf

-- ---- what a document comes to, by its verdict and by what is prepared of it

abbrev message_of : Option FaultOf → Wanted → List ℕ
message_of (Some (Breaks r name p)) x = section_of r ++ codes " " ++ title_of r ++ codes ": " ++ name
message_of (Some TooComplex) x = codes "too complex"
message_of (Some (TooDeep p)) x = codes "too many levels"
message_of (Some (NotServed name p)) x = codes "not served: " ++ name
message_of None (Err (prepared.no_such_operation name)) = codes "no operation named " ++ name
message_of None (Err prepared.operation_needed) = codes "operation name needed"
message_of None (Err prepared.variables_not_object) = codes "variables must be an object"
message_of None (Err (prepared.bad_variable name)) = codes "bad value for variable $" ++ name
message_of None (Ok x) = []

abbrev place_in : Option FaultOf → Option Place
place_in (Some (Breaks r name p)) = Some p
place_in (Some (TooDeep p)) = Some p
place_in (Some (NotServed name p)) = Some p
place_in v = None

-- says that it has no plan
abbrev IsRefusing : Option FaultOf → Wanted → Type 0
IsRefusing None (Ok x) = ⊥
IsRefusing v x = Unit {0}

-- a document has one verdict
abbrev pub OneVerdict : Type 0
OneVerdict = (ds : List Definition) (d : Document) (v u : Option FaultOf) → IsVerdict ds d v → IsVerdict ds d u → v ≡ u

-- ---- one fault

-- two faults are reported alike
pub record Alike (f g : RequestFault) : Type 0 where
  pub message : request_message f ≡ request_message g
  pub place : request_place f ≡ request_place g

module _ (verdict : OneVerdict) (w : ServerOf) (r : RequestOf) where
  abbrev defs : List Definition
  defs = tree_of w.definitions

  abbrev wanted : Document → Wanted
  wanted d = prepared.prepared defs d.operations r.operation_name (values_of r.variables)

  -- the query is a document that comes to this
  abbrev Reaches : Option FaultOf → Wanted → Type 0
  Reaches v x = (d : Document) × IsDocumentOf r.query d × IsVerdict defs d v × (wanted d ≡ x)

  reaches-one : (v u : Option FaultOf) (x y : Wanted) → Reaches v x → Reaches u y → (v ≡ u) × (x ≡ y)
  reaches-one v u x y h k =
      let same : k.0 ≡ h.0 = one_document r.query k.0 h.0 k.1 h.1 in
      (verdict defs h.0 v u h.2 (subst (λ d. IsVerdict defs d u) same k.2), sym h.3 ∙ ap wanted (sym same) ∙ k.3)

  data FaultyCase (f : RequestFault) : Type 0 where
    unread : (e : ParseFault) → e ≢ parse.NoMemory → IsParseFault r.query e → f ≡ fault.Parse e → FaultyCase f
    reached : (v : Option FaultOf) (x : Wanted) → Reaches v x → IsRefusing v x → request_message f ≡ message_of v x → request_place f ≡ place_in v → FaultyCase f

  parse-some : (e : ParseFault) → is_want_of_memory (fault.Parse e) ≡ false → e ≢ parse.NoMemory
  parse-some parse.NoMemory some = absurd (cc some)
  parse-some e some = λ none. cc none

  faulty-case : (f : RequestFault) → IsFaulty w r f → FaultyCase f
  faulty-case (fault.Parse e) h = unread e (parse-some e h.reported) h.faulty refl
  faulty-case (fault.Check (check.Rule k name p)) h = reached (Some (Breaks k (string_bytes name) p)) _ (h.faulty.document, h.faulty.says, h.faulty.fault, refl) tt refl refl
  faulty-case (fault.Check check.TooComplex) h = reached (Some TooComplex) _ (h.faulty.document, h.faulty.says, h.faulty.fault, refl) tt refl refl
  faulty-case (fault.Check (check.TooDeep p)) h = reached (Some (TooDeep p)) _ (h.faulty.document, h.faulty.says, h.faulty.fault, refl) tt refl refl
  faulty-case (fault.Check (check.NotServed name p)) h = reached (Some (NotServed (string_bytes name) p)) _ (h.faulty.document, h.faulty.says, h.faulty.fault, refl) tt refl refl
  faulty-case (fault.Prepare (prepare.NoSuchOperation name)) h = reached None _ (h.faulty.document, h.faulty.says, h.faulty.valid, h.faulty.fault) tt refl refl
  faulty-case (fault.Prepare prepare.OperationNeeded) h = reached None _ (h.faulty.document, h.faulty.says, h.faulty.valid, h.faulty.fault) tt refl refl
  faulty-case (fault.Prepare prepare.VariablesNotObject) h = reached None _ (h.faulty.document, h.faulty.says, h.faulty.valid, h.faulty.fault) tt refl refl
  faulty-case (fault.Prepare (prepare.BadVariable name)) h = reached None _ (h.faulty.document, h.faulty.says, h.faulty.valid, h.faulty.fault) tt refl refl
  faulty-case f h = absurd (cc h.reported)

  cases-alike : (f g : RequestFault) → FaultyCase f → FaultyCase g → Alike f g
  cases-alike f g (unread e some h i) (unread d some' k j) =
      let same : f ≡ g = i ∙ ap fault.Parse (one_fault r.query e d some some' h k) ∙ sym j in
      record { message = ap request_message same; place = ap request_place same }
  cases-alike f g (unread e some h i) (reached u y k _ n q) = absurd (document_or_fault r.query k.0 e some k.1 h)
  cases-alike f g (reached v x h _ m p) (unread d some k j) = absurd (document_or_fault r.query h.0 d some h.1 k)
  cases-alike f g (reached v x h _ m p) (reached u y k _ n q) =
      let same = reaches-one v u x y h k in
      record { message = m ∙ ap₂ message_of same.0 same.1 ∙ sym n; place = p ∙ ap place_in same.0 ∙ sym q }

  -- ---- one plan

  abbrev prepared_in : PlanOf → prepared.PreparedOf
  prepared_in p = record { operation = p.operation; variables = p.variables }

  abbrev plan_of : prepared.PreparedOf → List Definition → BindingsOf → List Fragment → PlanOf
  plan_of o ds bs fs = record { definitions = ds; bindings = bs; operation = o.operation; fragments = fs; variables = o.variables }

  plan-reaches : (p : PlanOf) → IsPlanned w r p → Reaches None (Ok (prepared_in p))
  plan-reaches p h = (h.planned.document, h.planned.says, h.planned.valid, h.planned.prepared)

  case-or-planned : (f : RequestFault) (plan : PlanOf) → FaultyCase f → IsPlanned w r plan → ⊥
  case-or-planned f plan (unread e some h i) k = document_or_fault r.query k.planned.document e some k.planned.says h
  case-or-planned f plan (reached v x h refusing m p) k = let same = reaches-one v None x (Ok (prepared_in plan)) h (plan-reaches plan k) in rw (same.0, same.1) at refusing

  faulty-or-planned : (f : RequestFault) (plan : PlanOf) → IsFaulty w r f → IsPlanned w r plan → ⊥
  faulty-or-planned f plan h k = case-or-planned f plan (faulty-case f h) k

  one-plan : (p q : PlanOf) → IsPlanned w r p → IsPlanned w r q → p ≡ q
  one-plan p q h k =
      let same : h.planned.document ≡ k.planned.document = one_document r.query h.planned.document k.planned.document h.planned.says k.planned.says in
      let chosen = (reaches-one None None (Ok (prepared_in p)) (Ok (prepared_in q)) (plan-reaches p h) (plan-reaches q k)).1 in
      let equal : plan_of (prepared_in p) p.definitions p.bindings p.fragments ≡ plan_of (prepared_in q) q.definitions q.bindings q.fragments = cc in
      equal

  -- ---- one text

  refusals-one : (text other : List ℕ) → IsRefusal w r text → IsRefusal w r other → text ≡ other
  refusals-one text other h k =
      let same = cases-alike h.fault k.fault (faulty-case h.fault h.faulty) (faulty-case k.fault k.faulty) in
      h.report ∙ ap (λ m. refusal_text m (request_place h.fault)) same.message ∙ ap (refusal_text (request_message k.fault)) same.place ∙ sym k.report

-- an amount that is within a limit isn't more than it
within-or-more : (limit : Option ℕ) (amount : ℕ) → IsWithin limit amount → IsMore limit amount → ⊥
within-or-more None amount within more = more
within-or-more (Some most) amount within more = omega (arith, within, more)

-- a plan has one text among those that it is asked with
direct-one : (s : ServiceOf) (all : List PlanOf) (p : PlanOf) (text other : List ℕ) → IsDirectText s all p text → IsDirectText s all p other → text ≡ other
direct-one s all p text other (executed within h) (executed more k) = h.report ∙ ap (text_within s.most) (same_Some h.answered k.answered (sym h.executed ∙ k.executed)) ∙ sym k.report
direct-one s all p text other (executed within h) (too_much more e) = absurd (within-or-more s.work (direct_work s all) within more)
direct-one s all p text other (too_much more e) (executed within k) = absurd (within-or-more s.work (direct_work s all) within more)
direct-one s all p text other (too_much more e) (too_much also d) = e ∙ sym d

module _ (verdict : OneVerdict) (s : ServiceOf) (r : RequestOf) where
  answers-one : (text other : List ℕ) → AnswersRequest s r text → AnswersRequest s r other → text ≡ other
  answers-one text other (faulty {fault = f} h e) (faulty {fault = g} k d) = refusals-one verdict (server_in s) r text other (record { fault = f; faulty = h; report = e }) (record { fault = g; faulty = k; report = d })
  answers-one text other (faulty {fault = f} h e) (planned {plan = q} k d) = absurd (faulty-or-planned verdict (server_in s) r f q h k)
  answers-one text other (planned {plan = p} h e) (faulty {fault = g} k d) = absurd (faulty-or-planned verdict (server_in s) r g p k h)
  answers-one text other (planned {plan = p} h e) (planned {plan = q} k d) =
      direct-one s (p ∷ []) p text other e.direct (subst (λ z. IsDirectText s (z ∷ []) z other) (one-plan verdict (server_in s) r q p k h) d.direct)

-- ---- the values of an array

module _ (verdict : OneVerdict) (s : ServiceOf) where
  abbrev w : ServerOf
  w = server_in s

  refused-one : (value : Option RequestOf) (text other : List ℕ) → IsRefused w value text → IsRefused w value other → text ≡ other
  refused-one None text other h k = h ∙ sym k
  refused-one (Some r) text other h k = refusals-one verdict w r text other h k

  refused-or-planned : (value : Option RequestOf) (text : List ℕ) (p : PlanOf) → IsRefused w value text → HasPlan w value p → ⊥
  refused-or-planned None text p h k = absurd k
  refused-or-planned (Some r) text p h k = faulty-or-planned verdict w r h.fault p h.faulty k

  plans-one : (value : Option RequestOf) (p q : PlanOf) → HasPlan w value p → HasPlan w value q → p ≡ q
  plans-one None p q h k = absurd h
  plans-one (Some r) p q h k = one-plan verdict w r p q h k

  -- the plans are the same
  all-plans-one : (ps qs : List PlanOf) (values : List (Option RequestOf)) (as' bs : List PlaceOf) → AllZip (IsInPlace s ps) values as' → AllZip (IsInPlace s qs) values bs → plans_in as' ≡ plans_in bs
  all-plans-one ps qs [] [] [] h k = refl
  all-plans-one ps qs (v ∷ vs) (refused text ∷ as') (refused other ∷ bs) h k = all-plans-one ps qs vs as' bs h.1 k.1
  all-plans-one ps qs (v ∷ vs) (refused text ∷ as') (answered q u ∷ bs) h k = absurd (refused-or-planned v text q h.0 k.0.0)
  all-plans-one ps qs (v ∷ vs) (answered p t ∷ as') (refused other ∷ bs) h k = absurd (refused-or-planned v other p k.0 h.0.0)
  all-plans-one ps qs (v ∷ vs) (answered p t ∷ as') (answered q u ∷ bs) h k = ap₂ (λ (x : PlanOf) (xs : List PlanOf). x ∷ xs) (plans-one v p q h.0.0 k.0.0) (all-plans-one ps qs vs as' bs h.1 k.1)
  all-plans-one ps qs values as' bs h k = absurd (search (h, k))

  module _ (all : List PlanOf) where
    place-one : (value : Option RequestOf) (a b : PlaceOf) → IsInPlace s all value a → IsInPlace s all value b → text_in a ≡ text_in b
    place-one value (refused text) (refused other) h k = refused-one value text other h k
    place-one value (refused text) (answered q u) h k = absurd (refused-or-planned value text q h k.0)
    place-one value (answered p t) (refused other) h k = absurd (refused-or-planned value other p k h.0)
    place-one value (answered p t) (answered q u) h k = direct-one s all p t.text u.text h.1 (subst (λ z. IsDirectText s all z u.text) (plans-one value q p k.0 h.0) k.1)

    places-one : (values : List (Option RequestOf)) (as' bs : List PlaceOf) → AllZip (IsInPlace s all) values as' → AllZip (IsInPlace s all) values bs → map text_in as' ≡ map text_in bs
    places-one [] [] [] h k = refl
    places-one (v ∷ vs) (a ∷ as') (b ∷ bs) h k = ap (λ text. text ∷ map text_in as') (place-one v a b h.0 k.0) ∙ ap (λ texts. text_in b ∷ texts) (places-one vs as' bs h.1 k.1)
    places-one values as' bs h k = absurd (search (h, k))

  arrays-one : (values : List (Option RequestOf)) (text other : List ℕ) → AnswersArray s values text → AnswersArray s values other → text ≡ other
  arrays-one values text other h k =
      let same : plans_in k.places ≡ plans_in h.places = all-plans-one (plans_in k.places) (plans_in h.places) values k.places h.places k.each h.each in
      let each : AllZip (IsInPlace s (plans_in h.places)) values k.places = subst (λ (ps : List PlanOf). AllZip (IsInPlace s ps) values k.places) same k.each in
      h.report ∙ ap array_text (places-one (plans_in h.places) values h.places k.places h.each each) ∙ sym k.report

-- ---- a line

one-request : (line : List ℕ) (p q : RequestOf) → IsRequest line p → IsRequest line q → p ≡ q
one-request line p q h k = same_Some p q (sym h.members ∙ k.members)

one-array : (line : List ℕ) (vs us : List (Option RequestOf)) → AreRequests line vs → AreRequests line us → vs ≡ us
one-array line vs us h k = same_Some vs us (sym h.values ∙ k.values)

-- an array is no request
request-or-array : (o : Option Data) (r : RequestOf) (vs : List (Option RequestOf)) → option_and_then asked o ≡ Some r → option_map asked_each (option_and_then as_array o) ≡ Some vs → ⊥
request-or-array None r vs e d = none-some r e
request-or-array (Some (array ds)) r vs e d = none-some r e
request-or-array o r vs e d = none-some vs d

not-both : (line : List ℕ) (r : RequestOf) (vs : List (Option RequestOf)) → IsRequest line r → AreRequests line vs → ⊥
not-both line r vs h k = request-or-array (read line) r vs h.members k.values

pub one_answer : OneVerdict → (s : ServiceOf) (line text other : List ℕ) → IsAnswer s line text → IsAnswer s line other → text ≡ other
one_answer verdict s line text other (no_request h e) (no_request k d) = e ∙ sym d
one_answer verdict s line text other (no_request h e) (request {r = q} k d) = absurd (h.not_one q k)
one_answer verdict s line text other (no_request h e) (several {values = us} k d) = absurd (h.not_several us k)
one_answer verdict s line text other (request {r = p} h e) (no_request k d) = absurd (k.not_one p h)
one_answer verdict s line text other (request {r = p} h e) (request {r = q} k d) = answers-one verdict s p text other e (subst (λ z. AnswersRequest s z other) (one-request line q p k h) d)
one_answer verdict s line text other (request {r = p} h e) (several {values = us} k d) = absurd (not-both line p us h k)
one_answer verdict s line text other (several {values = vs} h e) (no_request k d) = absurd (k.not_several vs h)
one_answer verdict s line text other (several {values = vs} h e) (request {r = q} k d) = absurd (not-both line q vs k h)
one_answer verdict s line text other (several {values = vs} h e) (several {values = us} k d) = arrays-one verdict s vs text other e (subst (λ z. AnswersArray s z other) (one-array line us vs k h) d)
