-- Lemmas on what a hand did, and what is made of it for the client that it is of.
use Rattle.std.proofs.Common.{◌≡◌, ◌≤◌, ◌∙◌, ◌⊎◌, ℕ, Bool, true, false, List, [], length, All, Option, Some, None, Result, Ok, Err, refl, sym, ap, subst, inl, inr, arith}
use Rattle.std.proofs.lemmas.List.Elements.{All-weaker}
use Rattle.std.specs.Prelude.{IfSome, OnOk}
use Rattle.std.specs.List.{list_all}
use Rattle.std.specs.Global.{Vec}
use Rattle.load_memory.specs.Keys.{KeyOf}
use Rattle.std.specs.declared.alloc.AllocError.{AllocError}
use Rattle.load_memory.specs.declared.outcome.Item.{Item}
use Rattle.load_queue.specs.Answers.{AnswerOf}
use Rattle.load_queue.specs.declared.source.FetchFault.{FetchFault}
use Rattle.gq_resolve.specs.declared.root_state.RootState.{RootState}
use Rattle.load_rounds.proofs.Stepping.{record-many}
use Rattle.load_rounds.specs.Headline.{StopsAnswering}
use Rattle.load_rounds.specs.Sessions.{SessionOf, state_of}
use Rattle.load_rounds.specs.Limits.{AreAnswersWithin, AreRefused}
use Rattle.load_rounds.specs.SharedRounds.{requests, joint, report_of}
use Rattle.load_rounds.specs.declared.answer.Answer.{Answer}
use Rattle.load_rounds.specs.declared.limits.Limits.{Limits}
use Rattle.load_rounds.specs.declared.limits.Overrun.{Overrun}
use Rattle.rounds_by_hand.specs.Hands as hands
use Rattle.rounds_by_hand.specs.Hands.{FarOf, HandOf, handed, hand_of, HasGone, pending_in}
use Rattle.rounds_by_hand.specs.Progress.{Becomes, done_in}
use Rattle.rounds_by_hand.specs.declared.pending.Pending.{Pending}
use Rattle.rounds_by_hand.specs.declared.progress.Progress.{Progress}
use Rattle.rounds_by_hand.specs.declared.progress.Progress.TheVariants.{Done, Working}
use Rattle.rounds_by_hand.specs.Pending.{is_in}
use Rattle.rounds_by_hand.proofs.Becoming.{each-becomes}
use Rattle.rounds_by_hand.proofs.Storing.{stores-given}
use Rattle.plan_requests.specs.Servers.{ServerOf}
use Rattle.server.specs.Plans.{limited_program, limited_text, limited_loaders, limited_fits, limited_left}
use Rattle.server.specs.Clients.{ClientOf, HasLoaders, IsSameClient, client_of}
use Rattle.server.specs.Hands.{ByHandOf, by_hand_of, hand_in, planned_of, MakesResponse, AsksAndStores, GivesFrom, IsUnderway, Nears, Responds, GivesUp, GoesOn, GoesOnIfMay, HoldsByHand, StoresReplies}
use Rattle.server.specs.Overruns.{overruns, reports_given}
use Rattle.server.specs.Planned.{AskedOf, PlannedOf, PlansAsked, AnswersAsked, IsResponse, is_refused}
use Rattle.gq_resolve.specs.PreparedPlans.{LimitedPlanOf}
use Rattle.server.specs.declared.planned.ResponseForm.{ResponseForm}
use Rattle.server.proofs.Asking.{asked-answered, asked-refused, asked-stops}
use Rattle.server.proofs.Refusing.{asked-given}

module _ {S : Type 0} (server : ServerOf) (most : Option ℕ) (limits : Limits) (planned : PlannedOf) where
  -- the hand with the client that it is of
  abbrev pub held : HandOf S LimitedPlanOf RootState → ByHandOf S
  held hand = by_hand_of (client_of server most limits hand.session) planned hand.far

  -- a hand of what is planned, within the client's limits
  abbrev IsHeld : HandOf S LimitedPlanOf RootState → Type 0
  IsHeld hand = hand_in (held hand) ≡ hand

  pub is-held : (hand : HandOf S LimitedPlanOf RootState) → hand.plans ≡ planned.plans → hand.limits ≡ limits → IsHeld hand
  is-held hand is bound = ap (λ ps. hand_of hand.session ps limits hand.far) (sym is) ∙ ap (λ l. hand_of hand.session hand.plans l hand.far) (sym bound)

  -- a call left steps, and fewer than before
  pub nears : (old new : HandOf S LimitedPlanOf RootState) → IsHeld old → IsHeld new → (did : Progress (Vec Answer)) (own : Progress Answer) → Becomes (MakesResponse planned.many planned.refusals) did own → hands.Nears limited_left old new did → Nears (held old) (held new) own
  nears old new was is =
      each-becomes (MakesResponse planned.many planned.refusals) (λ did own. hands.Nears limited_left old new did → Nears (held old) (held new) own) (λ _ _ _ _. tt) (λ _. tt) (λ near. nearer Working (hand_in (held old)) (hand_in (held new)) was is near) (λ _. tt) (λ _. tt)
    where
      nearer : (did : Progress Answer) (first later : HandOf S LimitedPlanOf RootState) → first ≡ old → later ≡ new → hands.Nears limited_left old new did → hands.Nears limited_left first later did
      nearer did first later e f near =
          subst (λ (hand : HandOf S LimitedPlanOf RootState). hands.Nears limited_left hand later did) (sym e) (subst (λ (hand : HandOf S LimitedPlanOf RootState). hands.Nears limited_left old hand did) (sym f) near)

  module _ (may : S → List KeyOf → AnswerOf → Type 0) where
    -- what a hand went is what its client went
    has-gone : (hand : HandOf S LimitedPlanOf RootState) → IsHeld hand → (c : ClientOf S) → IsUnderway may c (held hand) → hands.IsUnderway limited_program limited_text may c.session hand
    has-gone hand is c h = subst (hands.IsUnderway limited_program limited_text may c.session) is h.gone

    pub goes : (old new : HandOf S LimitedPlanOf RootState) → IsHeld old → IsHeld new → hands.GoesOn limited_program limited_text may old new → GoesOn may (held old) (held new)
    goes old new was is go = λ begun h. record {
      limits = h.limits;
      gone = subst (hands.IsUnderway limited_program limited_text may begun.session) (sym is) (go begun.session (has-gone old was begun h));
    }

    -- what is given to its plans answers what was asked
    given-answers : (new : HandOf S LimitedPlanOf RootState) → IsHeld new → is_refused planned ≡ false → (c : ClientOf S) (asked : AskedOf) → limits ≡ c.limits → PlansAsked c asked planned → (given : Result (Vec Answer) Overrun)
        → AreAnswersWithin may (state_of c.session) (state_of new.session) new.limits (requests limited_program limited_text new.plans) given → (answer : Answer) → IsResponse planned (reports_given planned.refusals given) (report_of answer)
        → AnswersAsked may c asked (report_of answer) new.session
    given-answers new is open' c asked bound p given are answer response =
        let own = subst (λ (l : Limits). AreAnswersWithin may (state_of c.session) (state_of new.session) l (requests limited_program limited_text planned.plans) given) bound
        (subst (λ (hand : HandOf S LimitedPlanOf RootState). AreAnswersWithin may (state_of c.session) (state_of hand.session) hand.limits (requests limited_program limited_text hand.plans) given) (sym is) are) in
        asked-answered may c new.session asked planned (reports_given planned.refusals given) (report_of answer) p open' (asked-given may c new.session asked planned p given own) response

    pub responds : (old new : HandOf S LimitedPlanOf RootState) → IsHeld old → IsHeld new → is_refused planned ≡ false → (did : Progress (Vec Answer)) (own : Progress Answer)
        → Becomes (MakesResponse planned.many planned.refusals) did own → hands.AnswersFrom limited_program limited_text may old new did → Responds may (held old) (held new) own
    responds old new was is open' =
        each-becomes (MakesResponse planned.many planned.refusals) (λ did own. hands.AnswersFrom limited_program limited_text may old new did → Responds may (held old) (held new) own) answered (λ _. tt) (λ _. tt) (λ _. tt) (λ _. tt)
      where
        answered : (answers : Vec Answer) (answer : Answer) → MakesResponse planned.many planned.refusals answers answer → hands.AnswersFrom limited_program limited_text may old new (Done answers) → Responds may (held old) (held new) (Done answer)
        answered answers answer response tells c asked h p =
            given-answers new is open' c asked h.limits p (Ok answers) (tells c.session (has-gone old was c h)) answer response

    -- what is over a limit is refused
    pub overrun-responds : (old new : HandOf S LimitedPlanOf RootState) (o : Overrun) → IsHeld old → IsHeld new → is_refused planned ≡ false
        → ((begun : SessionOf S) → hands.IsUnderway limited_program limited_text may begun old → AreRefused may (state_of begun) (state_of new.session) new.limits (requests limited_program limited_text new.plans) o)
        → (answer : Answer) → IsResponse planned (overruns o planned.refusals) (report_of answer) → Responds may (held old) (held new) (Done answer)
    overrun-responds old new o was is open' went answer response c asked h p =
        given-answers new is open' c asked h.limits p (Err o) (went c.session (has-gone old was c h)) answer response

    -- the session of a request that is refused is as it was
    untouched : (begun : SessionOf S) (hand : HandOf S LimitedPlanOf RootState) → hand.far ≡ handed → HasGone limited_program limited_text may begun hand.session planned.plans limits hand.far → hand.session ≡ begun
    untouched begun hand e h = subst (λ (far : FarOf LimitedPlanOf RootState). HasGone limited_program limited_text may begun hand.session planned.plans limits far) e h

    pub refusal-responds : (hand : HandOf S LimitedPlanOf RootState) → is_refused planned ≡ true → hand.far ≡ handed → (answer : Answer) → IsResponse planned [] (report_of answer) → Responds may (held hand) (held hand) (Done answer)
    refusal-responds hand refused far answer response c asked h p =
        subst (λ (s : SessionOf S). AnswersAsked may c asked (report_of answer) s) (sym (untouched c.session hand far h.gone)) (asked-refused may c asked planned (report_of answer) p refused response)

    pub gives-up : (hand : HandOf S LimitedPlanOf RootState) (session : SessionOf S) → IsHeld hand → (is_refused planned ≡ true → hand.far ≡ handed) → session ≡ hand.session
        → hands.GivesUp limited_program limited_text may hand session → GivesUp may (held hand) (client_of server most limits session)
    gives-up hand session is far same up c asked h p =
        let end = up c.session (has-gone hand is c h) in
        let ended = subst (λ (own : HandOf S LimitedPlanOf RootState). (session ≡ c.session) ⊎ StopsAnswering may (state_of c.session) (state_of session) (joint limited_program limited_text own.plans)) (sym is) end in
        asked-stops may c session asked planned p (λ refused. same ∙ untouched c.session hand (far refused) h.gone) ended

    -- an order gets a reply
    pub goes-if-may : {X E : Type 0} (r : Result X E) (at' : Option Pending) (given : Result (Vec Item) FetchFault) (old new : HandOf S LimitedPlanOf RootState) → IsHeld old → IsHeld new
        → OnOk r (IfSome at' (hands.GoesOnIfMay limited_program limited_text may given old new)) → OnOk r (IfSome at' (GoesOnIfMay may given (held old) (held new)))
    goes-if-may (Ok x) (Some one) given old new was is h = λ can. goes old new was is (h can)
    goes-if-may (Ok x) None given old new was is h = tt
    goes-if-may (Err e) at' given old new was is h = tt

-- properties of a client that is handed in
pub handed-in : {S : Type 0} (client : ClientOf S) (planned : PlannedOf) (hand : HandOf S LimitedPlanOf RootState) → HasLoaders client.server client.session
    → hand ≡ record { session = client.session; plans = planned.plans; limits = client.limits; far = handed }
    → All (λ (b : LimitedPlanOf). limited_loaders b ≤ planned.loaders) planned.plans → planned.loaders ≤ length client.session.loaders → HoldsByHand (client_of client.server client.most client.limits hand.session) planned (is_refused planned) hand
handed-in {S} client planned hand has e each fits =
    let enough = All-weaker (λ (b : LimitedPlanOf). limited_loaders b ≤ planned.loaders) (λ (b : LimitedPlanOf). limited_loaders b ≤ length client.session.loaders) (λ b below. omega (arith, below, fits)) planned.plans each in
    subst (λ (h : HandOf S LimitedPlanOf RootState). HoldsByHand (client_of client.server client.most client.limits h.session) planned (is_refused planned) h) (sym e)
    (record { loaders = has; limits = refl; refuses_is = refl; holds = record { enough = enough; round = tt; within = tt }; refused = λ _. refl })

-- what holds between calls holds after one that keeps the hand
pub holds-on : {S : Type 0} (server : ServerOf) (most : Option ℕ) (limits : Limits) (form : ResponseForm) (loaders : ℕ) (refuses : Bool) (old new : HandOf S LimitedPlanOf RootState)
    → HoldsByHand (client_of server most limits old.session) (planned_of form loaders old.plans) refuses old → refuses ≡ false → hands.KeepsHand limited_program limited_text limited_loaders limited_fits old new
    → HoldsByHand (client_of server most limits new.session) (planned_of form loaders new.plans) refuses new
holds-on server most limits form loaders refuses old new was open' kept =
    let refuses_is : refuses ≡ is_refused (planned_of form loaders new.plans) = was.refuses_is ∙ ap (λ ps. is_refused (planned_of form loaders ps)) (sym kept.plans) in
    record {
      loaders = subst (λ n. length server.bindings.loaders ≤ n) (sym (record-many old.session.loaders new.session.loaders kept.session.recorded)) was.loaders;
      limits = kept.limits ∙ was.limits;
      refuses_is = refuses_is;
      holds = kept.holds;
      refused = λ e. absurd (cc (sym open' ∙ refuses_is ∙ e));
    }

-- of a hand that keeps its plans and its limits: what is so of the plans as they were is so of them as they are
module _ {S : Type 0} (server : ServerOf) (most : Option ℕ) (limits : Limits) (form : ResponseForm) (loaders : ℕ) (old new : HandOf S LimitedPlanOf RootState) (same : new.plans ≡ old.plans) where
  pub told : (T : ByHandOf S → Type 0) → T (held server most limits (planned_of form loaders old.plans) new) → T (held server most limits (planned_of form loaders new.plans) new)
  told T x = subst (λ ps. T (held server most limits (planned_of form loaders ps) new)) (sym same) x

  module _ (bound : old.limits ≡ limits) (kept : new.limits ≡ old.limits) where
    pub was-held : hand_in (held server most limits (planned_of form loaders old.plans) old) ≡ old
    was-held = is-held server most limits (planned_of form loaders old.plans) old refl bound

    pub stays-held : hand_in (held server most limits (planned_of form loaders old.plans) new) ≡ new
    stays-held = is-held server most limits (planned_of form loaders old.plans) new same (kept ∙ bound)

    pub goes-on : (may : S → List KeyOf → AnswerOf → Type 0) → hands.GoesOn limited_program limited_text may old new → GoesOn may (held server most limits (planned_of form loaders old.plans) old) (held server most limits (planned_of form loaders new.plans) new)
    goes-on may go =
        let planned = planned_of form loaders old.plans in
        told (GoesOn may (held server most limits planned old)) (goes server most limits planned may old new was-held stays-held go)

-- where each order had a reply, what was given is stored
pub stores-replies : {S : Type 0} (may : S → List KeyOf → AnswerOf → Type 0) (old : ByHandOf S) (client : ClientOf S) → list_all is_in (pending_in old.far) ≡ true → AsksAndStores may old client → StoresReplies old client
stores-replies may old client each (inl stays) = inl stays
stores-replies may old client each (inr stores) = inr (stores-given may old.far old.client.session client.session each stores)

-- ---- as a future

module _ {S : Type 0} (may : S → List KeyOf → AnswerOf → Type 0) (b new : ByHandOf S) (goes-on : GoesOn may b new) (planned : new.planned ≡ b.planned) (same : IsSameClient b.client new.client) where
  same-planned : (c : ClientOf S) (asked : AskedOf) → PlansAsked c asked b.planned → PlansAsked c asked new.planned
  same-planned c asked p = subst (λ (what : PlannedOf). PlansAsked c asked what) (sym planned) p

  -- says what comes of it after a round came of it before
  pub polled-again : (given : ClientOf S × Result Answer AllocError) → GivesFrom may new given → GivesFrom may b given
  polled-again given g = record {
    answered = λ c asked h p. g.answered c asked (goes-on c h) (same-planned c asked p);
    stopped = λ c asked h p. g.stopped c asked (goes-on c h) (same-planned c asked p);
    same = record { server = g.same.server ∙ same.server; most = g.same.most ∙ same.most; limits = g.same.limits ∙ same.limits };
  }

  -- memory ran out
  pub polled-failed : (client : ClientOf S) (e : AllocError) → client ≡ new.client → GivesUp may new client → GivesFrom may b (client, Err e)
  polled-failed client e is up = record {
    answered = λ c asked h p. tt;
    stopped = λ c asked h p. up c asked (goes-on c h) (same-planned c asked p);
    same = subst (λ (later : ClientOf S). IsSameClient b.client later) (sym is) same;
  }

  -- it answered
  pub polled-answered : (client : ClientOf S) (did : Progress Answer) (answer : Answer) → client ≡ new.client → done_in did ≡ Some answer → Responds may b new did → GivesFrom may b (client, Ok answer)
  polled-answered client did answer is at responds =
      let told = rw at at responds in
      record {
        answered = λ c asked h p. subst (λ (later : ClientOf S). AnswersAsked may c asked (report_of answer) later.session) (sym is) (told c asked h p);
        stopped = λ c asked h p. tt;
        same = subst (λ (later : ClientOf S). IsSameClient b.client later) (sym is) same;
      }
