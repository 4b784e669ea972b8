-- Lemmas on keys that a client loads by hand: what the calls of a hand make of them.
use Rattle.std.proofs.Common.{◌≡◌, ◌≢◌, ◌<◌, ◌≤◌, ◌∙◌, ◌⊎◌, ℕ, List, [], ◌∷◌, map, length, refl, ap, sym, subst, arith, inl, inr, zero, suc, Ok, Err}
use Rattle.std.proofs.lemmas.List.{length-map}
use Rattle.std.proofs.lemmas.List.Elements.{All-cons, All-head, All-nil, All-tail}
use Rattle.std.specs.Global.{Vec}
use Rattle.std.specs.List.{slice_set}
use Rattle.std.specs.Prelude.{All, Option, Some, None, Result, IfOk, IfSome, IsSome, OnErr, OnOk, slice_get}
use Rattle.load_memory.specs.Keys.{KeyOf}
use Rattle.load_memory.specs.declared.outcome.Item.{Item}
use Rattle.load_memory.specs.declared.outcome.Outcome.{Outcome}
use Rattle.load_memory.specs.Pairs.{look}
use Rattle.load_memory.specs.Replies.{ReplyOf, reply_of}
use Rattle.load_queue.specs.Answers.{AnswerOf}
use Rattle.load_queue.specs.declared.source.FetchFault.{FetchFault}
use Rattle.execution.specs.Loads.{Load}
use Rattle.execution.specs.Program.{Program}
use Rattle.execution.specs.Front.{front, front_of_keys}
use Rattle.execution.specs.Rounds.{RuleOf, rule_of, modes_of, any_answer, may_at, round_orders, AreReplies, AreLimited, without_failed}
use Rattle.execution.specs.Sessions.{Forgot}
use Rattle.load_rounds.specs.Sessions.{SessionOf, StateOf, state_of, rules_of, session_modes, of_first}
use Rattle.load_rounds.specs.Calls.{RoundLost, front_at}
use Rattle.load_rounds.specs.ByHand.{IsAsked, front_in}
use Rattle.load_rounds.specs.Headline.{StopsAnswering, asked_steps}
use Rattle.load_rounds.specs.Histories.{IsCallOf, StoppedLoading}
use Rattle.load_rounds.specs.Reading.{KeysOf, CanLoad, HasRead, keys_fits, keys_left, keys_loaders, keys_program, keys_text}
use Rattle.load_rounds.specs.Limits.{no_limits}
use Rattle.load_rounds.specs.SharedRounds.{ReportOf, SharedHeadline, joint, report_of, request_of}
use Rattle.load_rounds.specs.declared.answer.Answer.{Answer}
use Rattle.load_rounds.specs.declared.limits.Limits.{Limits}
use Rattle.load_rounds.specs.Executions.{plans_in}
use Rattle.load_rounds.specs.Runs.{RunOf}
use Rattle.load_rounds.proofs.Reading.{read-complete, read-fills, read-once, reading-front, reading-stops}
use Rattle.load_rounds.proofs.Requests.{front-one, headline-one, stops-one}
use Rattle.load_rounds.proofs.Runs.{lost-rules}
use Rattle.load_rounds.proofs.Stepping.{record-many, steps-rules}
use Rattle.rounds_by_hand.specs.Progress.{Becomes, done_in}
use Rattle.rounds_by_hand.specs.declared.progress.Progress.{Progress}
use Rattle.rounds_by_hand.specs.declared.progress.Progress.TheVariants.{Done, Round, Working, Waiting, Over}
use Rattle.rounds_by_hand.specs.declared.fault.TakeFault.{TakeFault}
use Rattle.rounds_by_hand.specs.declared.fault.TakeFault.TheVariants.{NoSuchOrder, Replied, NoMemory}
use Rattle.rounds_by_hand.specs.declared.pending.Pending.{Pending}
use Rattle.rounds_by_hand.specs.declared.pending.Pending.TheVariants.{Out, In}
use Rattle.rounds_by_hand.specs.Pending.{order_in, AreRepliesFor, HasAnswer, IsReplied, RefusesReply, TakesReply}
use Rattle.rounds_by_hand.specs.Stored.{StoresRound}
use Rattle.rounds_by_hand.specs.Hands.{FarOf, HandOf, handed, ready, out, over, hand_of, pending_in, AnswersFrom, AsksAndAdvances, GivesUp, GoesOn, GoesOnIfMay, HasGone, HoldsFar, IsNewRound, IsOutWith, IsOver, IsReady, IsUnderway, KeepsHand, KeepsLoaders, KeepsSession, Nears, StoresAskedFrom}
use Rattle.rounds_by_hand.proofs.Becoming.{each-becomes}
use Rattle.plan_requests.specs.Servers.{ServerOf}
use Rattle.server.specs.Clients.{HasLoaders, client_of}
use Rattle.server.specs.LoadsByHand.{AsksAndAdvancesLoad, ClientLoads, ClientStopsLoad, HoldsLoad, IsLoadUnderway, LoadByHandOf, LoadGoesOn, LoadGoesOnIfMay, TellsOutcomes, load_by_hand_of}

-- ---- the replies to a round that is stored

module _ (may : ℕ → List KeyOf → AnswerOf → Type 0) where
  replies-any : (ps : List Pending) (rs : List ReplyOf) → All (IsReplied any_answer) ps → AreRepliesFor may ps rs → AreReplies any_answer (map order_in ps) rs
  replies-any [] [] each fit = tt
  replies-any [] (r ∷ rs) each fit = absurd fit
  replies-any (p ∷ ps) [] each fit = absurd fit
  replies-any (Out order ∷ ps) (r ∷ rs) each fit =
      let is = fit.0 in
      (record { loader = is.loader; keys = is.keys; answer = is.answer; may_be = tt; outcomes = is.outcomes }, replies-any ps rs (All-tail (IsReplied any_answer) (Out order) ps each) fit.1)
  replies-any (In reply ∷ ps) (r ∷ rs) each fit =
      let own : HasAnswer any_answer (reply_of reply) = All-head (IsReplied any_answer) (In reply) ps each in
      (rw fit.0 (record { loader = refl; keys = refl; answer = own.answer; may_be = own.may_be; outcomes = own.outcomes }), replies-any ps rs (All-tail (IsReplied any_answer) (In reply) ps each) fit.1)

-- ---- no steps are left

module _ {P E : Type 0} where
  over-whole : (far : FarOf P E) → IsOver far → ¬ (IsReady far)
  over-whole far is is-ready = subst IsReady is is-ready

  round-whole : (far : FarOf P E) → IsNewRound far → ¬ (IsReady far)
  round-whole handed is is-ready = is
  round-whole (ready run) is is-ready = is
  round-whole (out run ps) is is-ready = is-ready
  round-whole over is is-ready = is

  none-in : (far : FarOf P E) → IsReady far → pending_in far ≡ []
  none-in handed is = absurd is
  none-in (ready run) is = refl
  none-in (out run ps) is = absurd is
  none-in over is = absurd is

set-some : {X : Type 0} (xs : List X) (n : ℕ) (was now : X) → slice_get xs n ≡ Some was → slice_set xs n now ≢ []
set-some [] n was now at none = cc at
set-some (x ∷ xs) zero was now at none = cc none
set-some (x ∷ xs) (suc n) was now at none = cc none

-- nor are they once an order gets a reply
pub whole-replied : {S P E T : Type 0} (old new : HandOf S P E) (n : ℕ) (given : Result (Vec Item) FetchFault) (result : Result T TakeFault) → ¬ (IsReady old.far) → RefusesReply (pending_in old.far) n old new (IsOver new.far) result
    → OnOk result (TakesReply (pending_in old.far) n given (pending_in new.far)) → ¬ (IsReady new.far)
whole-replied old new n given (Ok x) whole refuses taken is = set-some (pending_in old.far) n (Out taken.order) (In taken.reply) taken.was (sym taken.put ∙ none-in new.far is)
whole-replied old new n given (Err NoSuchOrder) whole refuses taken is = whole (subst (λ (h : HandOf _ _ _). IsReady h.far) (refuses.none refl) is)
whole-replied old new n given (Err Replied) whole refuses taken is = whole (subst (λ (h : HandOf _ _ _). IsReady h.far) (refuses.kept refl) is)
whole-replied old new n given (Err NoMemory) whole refuses taken is = over-whole new.far (refuses.over refl) is

-- ---- what is missing of the keys

module _ {S : Type 0} (keys : KeysOf) where
  abbrev lacking : StateOf S → List Load
  lacking s = front_at s keys.loader keys.keys

  keys-front : (s : StateOf S) (plans : List KeysOf) → plans ≡ keys ∷ [] → front_in s (joint keys_program keys_text plans) ≡ lacking s
  keys-front s plans e = rw e (front-one (session_modes s) (request_of (keys_program keys) (keys_text keys)) s.memory ∙ reading-front (session_modes s) keys.loader keys.keys s.memory)

  -- a round that is out asks something
  asked-lacks : (s : StateOf S) (p : Program) → IsAsked p s → front_in s p ≢ []
  asked-lacks s p is none =
      let same : front_in s p ≡ front_in is.before p = ap (λ (t : StateOf S). front_in t p) is.entered ∙ ap (λ rs. front (modes_of rs) p is.before.memory) (lost-rules is.before (front_in is.before p)) in
      is.lacks (sym same ∙ none)

  out-lacks : (s : StateOf S) (run : RunOf KeysOf (Unit {0})) (ps : List Pending) (plans : List KeysOf) → plans ≡ keys ∷ [] → plans_in run.parts ≡ plans → IsOutWith keys_program keys_text s run ps → lacking s ≢ []
  out-lacks s run ps plans is same h none = asked-lacks s (joint keys_program keys_text (plans_in run.parts)) h.latest (keys-front s (plans_in run.parts) (same ∙ is) ∙ none)

  -- once it is stored nothing is missing
  stored-none : (may : S → List KeyOf → AnswerOf → Type 0) (old new : SessionOf S) (run : RunOf KeysOf (Unit {0})) (ps : List Pending) (plans : List KeysOf) → plans ≡ keys ∷ [] → plans_in run.parts ≡ plans → IsOutWith keys_program keys_text (state_of old) run ps
      → StoresRound may old new ps → KeepsLoaders (state_of old) (state_of new) → AreLimited (rules_of (state_of old)) → keys.loader < length old.loaders → lacking (state_of new) ≡ []
  stored-none may old new run ps plans is same h stores kept limited lt =
      let rules : List RuleOf = rules_of (state_of old) in
      let orders : map order_in ps ≡ round_orders rules (lacking (state_of old)) = h.orders ∙ ap (round_orders rules) (keys-front (state_of old) (plans_in run.parts) (same ∙ is)) in
      let told : AreReplies any_answer (round_orders rules (lacking (state_of old))) stores.replies = subst (λ os. AreReplies any_answer os stores.replies) orders (replies-any (may_at may old.loaders) ps stores.replies h.replies stores.replied) in
      let filled = read-fills any_answer rules keys.loader keys.keys (look old.pairs) stores.replies limited (omega (arith, lt, length-map old.loaders rule_of)) (out-lacks (state_of old) run ps plans is same h) told in
      ap (λ rs. front_of_keys (modes_of rs) keys.loader keys.keys (look new.pairs)) kept.rules ∙ ap (front_of_keys (modes_of rules) keys.loader keys.keys) stores.stored ∙ filled

  -- it is begun
  pub holds-new : (server : ServerOf) (session : SessionOf S) (plans : List KeysOf) → HasLoaders server session → plans ≡ keys ∷ [] → AreLimited (rules_of (state_of session)) → keys.loader < length session.loaders → HoldsLoad server keys (record { session = session; plans = plans; limits = no_limits; far = handed })
  holds-new server session plans has is limited lt = record {
    has = has;
    plans = is;
    unlimited = refl;
    whole = λ is-ready. is-ready;
    holds = record {
      enough = subst (All (λ plan. keys_loaders plan ≤ length session.loaders)) (sym is) (All-cons (λ plan. keys_loaders plan ≤ length session.loaders) keys [] (omega (arith, lt)) (All-nil (λ plan. keys_loaders plan ≤ length session.loaders)));
      round = tt;
      within = tt;
    };
    limited = limited;
  }

  module _ (server : ServerOf) (most : Option ℕ) (limits : Limits) (may : S → List KeyOf → AnswerOf → Type 0) where
    -- the hand with the client that it is of
    abbrev pub held : HandOf S KeysOf (Unit {0}) → LoadByHandOf S
    held hand = load_by_hand_of (client_of server most limits hand.session) keys hand.far

    -- a hand of the keys alone, without limits
    is-held : (hand : HandOf S KeysOf (Unit {0})) → hand.plans ≡ keys ∷ [] → hand.limits ≡ no_limits → hand_of hand.session (keys ∷ []) no_limits hand.far ≡ hand
    is-held hand is unlimited = ap (λ ps. hand_of hand.session ps no_limits hand.far) (sym is) ∙ ap (λ l. hand_of hand.session hand.plans l hand.far) (sym unlimited)

    -- what the hand went is what the load went
    has-gone : (hand : HandOf S KeysOf (Unit {0})) → hand.plans ≡ keys ∷ [] → hand.limits ≡ no_limits → (begun : SessionOf S) → IsLoadUnderway may begun (held hand) → IsUnderway keys_program keys_text may begun hand
    has-gone hand is unlimited begun gone = subst (IsUnderway keys_program keys_text may begun) (is-held hand is unlimited) gone

    -- ---- answers

    headline-read : (begun now : StateOf S) (reports : List ReportOf) → SharedHeadline may begun now (request_of (keys_program keys) (keys_text keys) ∷ []) reports → HasRead may begun now keys.loader keys.keys
    headline-read begun now [] h = absurd h.answers
    headline-read begun now (t ∷ []) h = record { text = t.text; rounds = t.rounds; headline = headline-one may begun now (request_of (keys_program keys) (keys_text keys)) t h }
    headline-read begun now (t ∷ u ∷ ts) h = absurd h.answers.1

    within-of : (old : HandOf S KeysOf (Unit {0})) → HoldsLoad server keys old → keys.loader < length old.session.loaders
    within-of old h =
        let enough : All (λ plan. keys_loaders plan ≤ length old.session.loaders) (keys ∷ []) = subst (All (λ plan. keys_loaders plan ≤ length old.session.loaders)) h.plans h.holds.enough in
        let own = All-head (λ plan. keys_loaders plan ≤ length old.session.loaders) keys [] enough in
        omega (arith, own)

    module _ (old new : HandOf S KeysOf (Unit {0})) (h : HoldsLoad server keys old) (kept : KeepsHand keys_program keys_text keys_loaders keys_fits old new) where
      within : keys.loader < length old.session.loaders
      within = within-of old h

      pub within-after : keys.loader < length new.session.loaders
      within-after = omega (arith, within, record-many old.session.loaders new.session.loaders kept.session.recorded)

      -- what holds between calls
      pub holds-after : ¬ (IsReady new.far) → HoldsLoad server keys new
      holds-after whole = record {
        has = subst (λ n. length server.bindings.loaders ≤ n) (sym (record-many old.session.loaders new.session.loaders kept.session.recorded)) h.has;
        plans = kept.plans ∙ h.plans;
        unlimited = kept.limits ∙ h.unlimited;
        whole = whole;
        holds = kept.holds;
        limited = subst AreLimited (sym kept.session.rules) h.limited;
      }

      -- from whichever session it was begun: the program was run
      has-read : (all : Vec Answer) → AnswersFrom keys_program keys_text may old new (Done all) → (begun : SessionOf S) → IsUnderway keys_program keys_text may begun old → HasRead may (state_of begun) (state_of new.session) keys.loader keys.keys
      has-read all tells begun is =
          headline-read (state_of begun) (state_of new.session) (map report_of all.items)
          (subst (λ ps. SharedHeadline may (state_of begun) (state_of new.session) (map (λ plan. request_of (keys_program plan) (keys_text plan)) ps) (map report_of all.items)) (kept.plans ∙ h.plans) (tells begun is).0)

      -- then nothing is missing
      none-missing : (all : Vec Answer) → AnswersFrom keys_program keys_text may old new (Done all) → ¬ (IsOver old.far) → StoresAskedFrom may old.far old.session new.session → lacking (state_of new.session) ≡ []
      none-missing all tells on stores = go old.far refl
        where
          go : (far : FarOf KeysOf (Unit {0})) → old.far ≡ far → lacking (state_of new.session) ≡ []
          go handed e = read-complete may (state_of old.session) keys.loader keys.keys (state_of new.session) (has-read all tells old.session (subst (λ f. HasGone keys_program keys_text may old.session old.session old.plans old.limits f) (sym e) refl))
          go (ready run) e = absurd (h.whole (subst IsReady (sym e) tt))
          go (out run ps) e =
              let round = subst (HoldsFar keys_program keys_text keys_loaders keys_fits old.session old.plans) e h.holds.round in
              let stored : StoresRound may old.session new.session ps = subst (λ f. StoresAskedFrom may f old.session new.session) e stores in
              stored-none may old.session new.session run ps old.plans h.plans round.0 round.1 stored kept.session h.limited within
          go over e = absurd (on e)

      pub done-lacks-none : (did : Progress (Vec Answer)) → AnswersFrom keys_program keys_text may old new did → AsksAndAdvances old new did → StoresAskedFrom may old.far old.session new.session → IfSome (done_in did) (λ _. front_at (state_of new.session) keys.loader keys.keys ≡ [])
      done-lacks-none (Done all) tells advances stores = none-missing all tells advances.0 stores
      done-lacks-none Round tells advances stores = tt
      done-lacks-none Working tells advances stores = tt
      done-lacks-none Waiting tells advances stores = tt
      done-lacks-none Over tells advances stores = tt

      -- the outcomes are those of a call that loads the keys
      pub loads-keys : (did : Progress (Vec Answer)) (told : Progress (Vec Outcome)) → Becomes (TellsOutcomes new.session keys) did told → AnswersFrom keys_program keys_text may old new did → ClientLoads may (held old) (held new) told
      loads-keys =
          each-becomes (TellsOutcomes new.session keys) (λ did told. AnswersFrom keys_program keys_text may old new did → ClientLoads may (held old) (held new) told) loaded (λ _. tt) (λ _. tt) (λ _. tt) (λ _. tt)
        where
          loaded : (all : Vec Answer) (outcomes : Vec Outcome) → TellsOutcomes new.session keys all outcomes → AnswersFrom keys_program keys_text may old new (Done all) → ClientLoads may (held old) (held new) (Done outcomes)
          loaded all outcomes known tells = λ begun gone.
              let run = has-read all tells begun.session (has-gone old h.plans h.unlimited begun.session gone) in
              record { round = read-once may (state_of begun.session) keys.loader keys.keys (state_of new.session) run; known = known }

      -- a new round is the first
      pub first-round : ¬ (IsOver old.far) → StoresAskedFrom may old.far old.session new.session → IsNewRound new.far → old.far ≡ handed
      first-round on stores is = go old.far refl new.far refl
        where
          go : (far : FarOf KeysOf (Unit {0})) → old.far ≡ far → (now : FarOf KeysOf (Unit {0})) → new.far ≡ now → old.far ≡ handed
          go handed e now f = e
          go (ready run) e now f = absurd (h.whole (subst IsReady (sym e) tt))
          go over e now f = absurd (on e)
          go (out run ps) e handed f = absurd (subst IsNewRound f is)
          go (out run ps) e (ready later) f = absurd (subst IsNewRound f is)
          go (out run ps) e over f = absurd (subst IsNewRound f is)
          go (out run ps) e (out later qs) f =
              let round = subst (HoldsFar keys_program keys_text keys_loaders keys_fits old.session old.plans) e h.holds.round in
              let next = subst (HoldsFar keys_program keys_text keys_loaders keys_fits new.session new.plans) f kept.holds.round in
              let stored : StoresRound may old.session new.session ps = subst (λ k. StoresAskedFrom may k old.session new.session) e stores in
              absurd (out-lacks (state_of new.session) later qs new.plans (kept.plans ∙ h.plans) next.0 next.1 (stored-none may old.session new.session run ps old.plans h.plans round.0 round.1 stored kept.session h.limited within))

      -- no call leaves steps, since there is no limit on them
      never-works : ¬ (IsSome new.limits.steps)
      never-works some = let none : IsSome {T = ℕ} None = subst (λ (l : Limits). IsSome l.steps) (kept.limits ∙ h.unlimited) some in absurd (cc none)

      pub whole-after : {X : Type 0} (result : Result (Progress (Vec Answer)) X) → IfOk result (AsksAndAdvances old new) → IfOk result (Nears keys_left old new) → OnErr result (IsOver new.far) → ¬ (IsReady new.far)
      whole-after (Ok (Done all)) advances near is = over-whole new.far advances.1
      whole-after (Ok Round) advances near is = round-whole new.far advances.1
      whole-after (Ok Working) advances near is = absurd (never-works near.0)
      whole-after (Ok Waiting) advances near is = absurd advances
      whole-after (Ok Over) advances near is = subst (λ (b : HandOf S KeysOf (Unit {0})). ¬ (IsReady b.far)) (sym advances.1) h.whole
      whole-after (Err e) advances near is = over-whole new.far is

      -- ---- what a call did

      pub asks-advances : (did : Progress (Vec Answer)) (told : Progress (Vec Outcome)) → Becomes (TellsOutcomes new.session keys) did told → StoresAskedFrom may old.far old.session new.session → Nears keys_left old new did → AsksAndAdvances old new did → AsksAndAdvancesLoad (held old) (held new) told
      asks-advances did told is stores =
          each-becomes (TellsOutcomes new.session keys) (λ did told. Nears keys_left old new did → AsksAndAdvances old new did → AsksAndAdvancesLoad (held old) (held new) told)
          (λ all outcomes known near advances. (advances, (λ e. absurd (cc e)), λ e. absurd (cc e))) (λ near advances. (advances, (λ _. first-round advances.0 stores advances.1), λ e. absurd (cc e)))
          (λ near advances. absurd (never-works near.0)) (λ near advances. absurd advances) (λ near advances. ((advances.0, ap held advances.1), (λ e. absurd (cc e)), λ e. absurd (cc e))) did told is

    -- ---- what was so before a call is so after it

    pub goes-on : (old new : HandOf S KeysOf (Unit {0})) → old.plans ≡ keys ∷ [] → new.plans ≡ old.plans → old.limits ≡ no_limits → new.limits ≡ old.limits → GoesOn keys_program keys_text may old new → LoadGoesOn may (held old) (held new)
    goes-on old new is same unlimited kept goes = λ begun gone.
        subst (IsUnderway keys_program keys_text may begun) (sym (is-held new (same ∙ is) (kept ∙ unlimited))) (goes begun (has-gone old is unlimited begun gone))

    pub goes-on-if : (old new : HandOf S KeysOf (Unit {0})) (answer : Result (Vec Item) FetchFault) (one : Option Pending) → old.plans ≡ keys ∷ [] → new.plans ≡ old.plans → old.limits ≡ no_limits → new.limits ≡ old.limits → IfSome one (GoesOnIfMay keys_program keys_text may answer old new)
        → IfSome one (LoadGoesOnIfMay may answer (held old) (held new))
    goes-on-if old new answer None is same unlimited kept goes = tt
    goes-on-if old new answer (Some one) is same unlimited kept goes = λ can. goes-on old new is same unlimited kept (goes can)

    -- ---- an order gets a reply

    pub holds-replied : (old new : HandOf S KeysOf (Unit {0})) → HoldsLoad server keys old → KeepsSession keys_program keys_text keys_loaders keys_fits old new → ¬ (IsReady new.far) → HoldsLoad server keys new
    holds-replied old new h kept whole = record {
      has = subst (HasLoaders server) (sym kept.session) h.has;
      plans = kept.plans ∙ h.plans;
      unlimited = kept.limits ∙ h.unlimited;
      whole = whole;
      holds = kept.holds;
      limited = subst (λ (s : SessionOf S). AreLimited (rules_of (state_of s))) (sym kept.session) h.limited;
    }

    -- ---- it is given up

    stops-rules : (begun now : StateOf S) (p : Program) → StopsAnswering may begun now p → rules_of now ≡ rules_of begun
    stops-rules begun now p h = go h.end ∙ ap rules_of h.made.after ∙ steps-rules begun (Forgot ∷ asked_steps (rules_of begun) p (without_failed begun.memory) h.log)
      where
        go : (now ≡ h.mid) ⊎ RoundLost h.mid now (front (session_modes begun) p h.mid.memory) → rules_of now ≡ rules_of h.mid
        go (inl e) = ap rules_of e
        go (inr lost) = ap rules_of lost.after ∙ lost-rules h.mid (of_first lost.loaders (front (session_modes begun) p h.mid.memory))

    pub load-given-up : (old : HandOf S KeysOf (Unit {0})) (now : SessionOf S) → HoldsLoad server keys old → now ≡ old.session → GivesUp keys_program keys_text may old now
        → ClientStopsLoad may (held old) (client_of server most limits now)
    load-given-up old now h same gives = λ c gone. go c.session (gives c.session (has-gone old h.plans h.unlimited c.session gone))
      where
        go : (begun : SessionOf S) → (now ≡ begun) ⊎ StopsAnswering may (state_of begun) (state_of now) (joint keys_program keys_text old.plans) → (now ≡ begun) ⊎ IsCallOf may (StoppedLoading keys.loader keys.keys) begun now
        go begun (inl e) = inl e
        go begun (inr stops) = inr (reading-stops may (state_of begun) keys.loader keys.keys can (state_of now) one)
          where
            one : StopsAnswering may (state_of begun) (state_of now) (keys_program keys)
            one = stops-one may (state_of begun) (state_of now) (request_of (keys_program keys) (keys_text keys)) (subst (λ ps. StopsAnswering may (state_of begun) (state_of now) (joint keys_program keys_text ps)) h.plans stops)

            can : CanLoad (state_of begun) keys.loader
            can = record {
              within = omega (arith, within-of old h, ap (λ (s : SessionOf S). length s.loaders) same, record-many begun.loaders now.loaders one.recorded);
              limited = subst AreLimited (sym (ap (λ (s : SessionOf S). rules_of (state_of s)) same) ∙ stops-rules (state_of begun) (state_of now) (keys_program keys) one) h.limited;
            }
