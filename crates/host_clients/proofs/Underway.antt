-- Lemmas on what is on its way, after a call of what is done by hand.
use Rattle.std.proofs.Common.{◌≡◌, ◌≤◌, ◌∙◌, length, ℕ, zero, suc, List, [], ◌∷◌, map, refl, sym, ap, subst, string_bytes, Ok, Err, Some}
use Rattle.std.specs.Prelude.{◌⊎◌, ◌↔◌, true, Result, IfSome, OnOk, OnErr, slice_get}
use Rattle.std.proofs.Math.Nat.{lt_of_not-le}
use Rattle.std.proofs.lemmas.Bool.{false_from_ne_true}
use Rattle.std.specs.List.{slice_set}
use Rattle.std.specs.Global.{Vec}
use Rattle.std.specs.declared.alloc.AllocError.{AllocError}
use Rattle.load_memory.specs.Keys.{KeyOf}
use Rattle.load_memory.specs.Outcomes.{OutcomeOf, outcome_of}
use Rattle.load_memory.specs.declared.outcome.Item.{Item}
use Rattle.load_memory.specs.declared.outcome.Outcome.{Outcome}
use Rattle.load_queue.specs.Fetched.{Fetched}
use Rattle.load_queue.specs.Loaders.{LoaderOf}
use Rattle.load_queue.specs.Orders.{OrderOf}
use Rattle.load_queue.specs.declared.source.FetchFault.{FetchFault}
use Rattle.load_queue.specs.declared.source.FetchFault.TheVariants.{Failed, NoMemory}
use Rattle.load_rounds.specs.Histories.{StoppedLoading, any_tell}
use Rattle.load_rounds.specs.Reading.{KeysOf}
use Rattle.load_rounds.specs.SharedRounds.{report_of}
use Rattle.load_rounds.specs.declared.answer.Answer.{Answer}
use Rattle.plan_requests.specs.Servers.{ServerOf}
use Rattle.rounds_by_hand.specs.Hands.{FarOf, IsReady, can_advance, handed, ready, out, over, pending_in}
use Rattle.rounds_by_hand.specs.Pending.{MayReply, TakesReply, RefusesReply, is_in_at, order_in}
use Rattle.rounds_by_hand.specs.declared.fault.TakeFault.{TakeFault}
use Rattle.rounds_by_hand.specs.declared.fault.TakeFault.TheVariants as take
use Rattle.rounds_by_hand.specs.declared.handed_in.HandedIn.{HandedIn}
use Rattle.rounds_by_hand.specs.declared.pending.Pending.{Pending}
use Rattle.rounds_by_hand.specs.declared.pending.Pending.TheVariants.{In, Out}
use Rattle.rounds_by_hand.specs.declared.progress.Progress.{Progress}
use Rattle.rounds_by_hand.specs.declared.progress.Progress.TheVariants.{Done, Round, Working, Waiting, Over}
use Rattle.server.specs.Clients.{ClientOf, IsClientCall, IsSameClient, client_of}
use Rattle.server.specs.Hands.{ByHandOf, GivesUp, GoesOn, IsUnderway, Responds, StoresReplies, by_hand_of}
use Rattle.server.specs.LoadsByHand.{LoadByHandOf, ClientLoads, ClientStopsLoad, ClientStores, LoadGoesOn, load_by_hand_of}
use Rattle.server.specs.Planned.{PlannedOf, PlansAsked}
use Rattle.host_clients.specs.Asked.{HostAsked, PlansHost, AnswersHost}
use Rattle.host_clients.specs.Clients.{CanEnd, Ends, GoesOnWith, IsBegunWith, IsGivenUp, IsSameRequest, IsSameWork, IsStopped, Settles, StepsOn, Takes, WaitsAt, client_in, orders_after, pending_of}
use Rattle.host_clients.specs.Loads.{AreOutcomesOf, HoldsLoading, load_orders}
use Rattle.host_clients.specs.UnderWay.{HoldsUnderWay, HoldsWork, IsAnswerOf, UnderWayOf, orders_out}
use Rattle.host_clients.specs.declared.client.HostClient.{HostClient}
use Rattle.host_clients.specs.declared.client.HostClient.TheVariants.{Idle, Asked, Answered, Loading, Loaded}
use Rattle.host_clients.specs.declared.fault.Fault.{Fault}

-- what holds of what is on its way holds after a call that goes on with it, of the orders that are out then
module _ {P E : Type 0} {gone goes planned plans : ClientOf HandedIn → Type 0} where
  pub holds-after : (server later : ServerOf) (old new : FarOf P E) (before orders : List OrderOf) → later ≡ server → ((c : ClientOf HandedIn) → gone c → goes c)
      → ((c : ClientOf HandedIn) → planned c → plans c) → orders ≡ map order_in (pending_in new) → HoldsWork server old gone planned before → HoldsWork later new goes plans orders
  holds-after server later old new before orders same underway is are h = record {
    begun = h.begun;
    of_server = h.of_server ∙ sym same;
    underway = underway h.begun h.underway;
    planned = is h.begun h.planned;
    orders_are = are;
  }

pub holds-under-way : (server : ServerOf) (old new : ByHandOf HandedIn) (asked : HostAsked) (before orders : List OrderOf) → GoesOn any_tell old new → new.planned ≡ old.planned → orders ≡ orders_out new
    → HoldsUnderWay server old asked before → HoldsUnderWay server new asked orders
holds-under-way server old new asked before orders goes same are h =
    holds-after server server old.far new.far before orders refl goes (λ c plans. subst (PlansHost c.server c.most asked) (sym same) plans) are h

-- says the same where it is given up after a step
pub holds-given-up : (server : ServerOf) (old mid new : ByHandOf HandedIn) (asked : HostAsked) (before orders : List OrderOf) → GoesOn any_tell old mid → mid.planned ≡ old.planned → GoesOn any_tell mid new
    → new.planned ≡ mid.planned → orders ≡ orders_out new → HoldsUnderWay server old asked before → HoldsUnderWay server new asked orders
holds-given-up server old mid new asked before orders goes same ends kept are =
    holds-under-way server old new asked before orders (λ c underway. ends c (goes c underway)) (kept ∙ same) are

pub holds-loading : (old new : LoadByHandOf HandedIn) (before orders : List OrderOf) → LoadGoesOn any_tell old new → IsSameClient old.client new.client → orders ≡ load_orders new
    → HoldsLoading old before → HoldsLoading new orders
holds-loading old new before orders goes same are h =
    holds-after old.client.server new.client.server old.far new.far before orders same.server (λ c. goes c.session) (λ c is. is) are h

-- where steps are left no order is out
pub none-out : {P E : Type 0} (far : FarOf P E) → IsReady far → [] ≡ map order_in (pending_in far)
none-out handed is = absurd is
none-out (ready run) is = refl
none-out (out run pending) is = absurd is
none-out over is = absurd is

-- what holds of what is begun
pub holds-begun : (hand : ByHandOf HandedIn) (c : ClientOf HandedIn) (server : ServerOf) (planned : PlannedOf) (asked : HostAsked) (orders : List OrderOf) → hand ≡ by_hand_of c planned handed
    → orders ≡ [] → PlansHost server c.most asked planned → HoldsUnderWay server hand asked orders
holds-begun hand c server planned asked orders is none plans =
    rw (is, none) (record {
      begun = client_of server c.most c.limits c.session;
      of_server = refl;
      underway = record { limits = refl; gone = refl };
      planned = plans;
      orders_are = refl;
    })

pub holds-load-begun : (hand : LoadByHandOf HandedIn) (c : ClientOf HandedIn) (keys : KeysOf) (orders : List OrderOf) → hand ≡ load_by_hand_of c keys handed → orders ≡ [] → HoldsLoading hand orders
holds-load-begun hand c keys orders is none = rw (is, none) (record { begun = c; of_server = refl; underway = refl; planned = tt; orders_are = refl })

pub begun-with : (hand : ByHandOf HandedIn) (c : ClientOf HandedIn) (server : ServerOf) (planned : PlannedOf) (asked : HostAsked) → hand ≡ by_hand_of c planned handed
    → PlansHost server c.most asked planned → IsBegunWith server asked (record { hand = hand; server = server; asked = asked })
begun-with hand c server planned asked is plans = rw is (record { server_is = refl; asked_is = refl; planned = plans; far = refl })

-- an answer of what is under way answers what was asked
pub answers-host : (old new : ByHandOf HandedIn) (answer : Answer) → Responds any_tell old new (Done answer) → (c : ClientOf HandedIn) (asked : HostAsked)
    → IsUnderway any_tell c old → PlansHost c.server c.most asked old.planned → AnswersHost any_tell c asked (report_of answer) new.client.session
answers-host old new answer responds c asked underway plans = record { asked = plans.asked; asks = plans.asks; answers = responds c plans.asked underway plans.plans }

-- its limits stay
limits-kept : (begun c : ClientOf HandedIn) (old new : ByHandOf HandedIn) → IsUnderway any_tell begun old → IsSameClient old.client new.client → c ≡ new.client → begun.limits ≡ c.limits
limits-kept begun c old new underway same is = sym (ap (λ (x : ClientOf HandedIn). x.limits) is ∙ same.limits ∙ underway.limits)

pub answer-of : (server : ServerOf) (old new : ByHandOf HandedIn) (asked : HostAsked) (orders : List OrderOf) (answer : Answer) → HoldsUnderWay server old asked orders
    → Responds any_tell old new (Done answer) → IsSameClient old.client new.client → (c : ClientOf HandedIn) → c ≡ new.client
    → IsAnswerOf server c.limits asked (string_bytes answer.text) answer.rounds
answer-of server old new asked orders answer h responds same c is = record {
  begun = h.begun;
  later = new.client.session;
  of_server = h.of_server;
  limits_are = limits-kept h.begun c old new h.underway same is;
  loads = answer.loads;
  answers = answers-host old new answer responds h.begun asked h.underway h.planned;
}

-- outcomes of what is loaded are those of its keys
pub outcomes-of : (old new : LoadByHandOf HandedIn) (orders : List OrderOf) (outcomes : Vec Outcome) → HoldsLoading old orders → ClientLoads any_tell old new (Done outcomes) → (server : ServerOf) → server ≡ old.client.server
    → (asked : KeysOf) → asked ≡ old.keys → (flat : List OutcomeOf) → flat ≡ map outcome_of outcomes.items → AreOutcomesOf server asked flat
outcomes-of old new orders outcomes h loads server is asked asks flat are =
    rw (is, asks, are) (record { begun = h.begun; later = new.client; of_server = h.of_server; loads = loads h.begun h.underway })

-- ---- what a call makes of it, which leaves this client

pub given-up : (u : UnderWayOf) (c : ClientOf HandedIn) → c ≡ u.hand.client → GivesUp any_tell u.hand c → IsGivenUp (Asked u) (Idle c)
given-up u c is gives = (rw is (record { server = refl; most = refl; limits = refl }), gives)

pub given-up-load : (l : LoadByHandOf HandedIn) (c : ClientOf HandedIn) → c ≡ l.client → ClientStopsLoad any_tell l c → IsGivenUp (Loading l) (Idle c)
given-up-load l c is stops = (rw is (record { server = refl; most = refl; limits = refl }), stops)

module _ (u : UnderWayOf) (new : ByHandOf HandedIn) (same : IsSameClient u.hand.client new.client) (c : ClientOf HandedIn) (is : c ≡ new.client) where
  pub answers-it : (answer : Answer) → StoresReplies u.hand new.client → Responds any_tell u.hand new (Done answer)
      → GoesOnWith (Asked u) (Answered (record { client = c; server = u.server; asked = u.asked; text = string_bytes answer.text; rounds = answer.rounds })) (Ok (Done tt))
  answers-it answer stored responds =
      rw is (record { same = same; stored = stored }, record { server_is = refl; asked_is = refl; answers = λ d underway plans. (answer.loads, answers-host u.hand new answer responds d u.asked underway plans) })

  pub gives-up : GoesOn any_tell u.hand new → new.planned ≡ u.hand.planned → GivesUp any_tell new c → IsGivenUp (Asked u) (Idle c)
  gives-up goes planned gives = (
    subst (IsSameClient u.hand.client) (sym is) same,
    λ begun asked underway plans. gives begun asked (goes begun underway) (subst (PlansAsked begun asked) (sym planned) plans),
  )

module _ (l new : LoadByHandOf HandedIn) (keys : new.keys ≡ l.keys) (same : IsSameClient l.client new.client) (c : ClientOf HandedIn) (is : c ≡ new.client) where
  pub loads-it : (outcomes : Vec Outcome) (asked : KeysOf) → asked ≡ l.keys → (flat : List OutcomeOf) → flat ≡ map outcome_of outcomes.items → can_advance l.far ≡ true → ClientStores l new.client
      → ClientLoads any_tell l new (Done outcomes) → GoesOnWith (Loading l) (Loaded (record { client = c; asked = asked; outcomes = flat })) (Ok (Done tt))
  loads-it outcomes asked asks flat are can stored loads = rw (is, asks, are) (record { same = same; stored = stored }, record { ready = can; asked_is = refl; loads = loads })

  pub gives-up-load : LoadGoesOn any_tell l new → ClientStopsLoad any_tell new c → IsGivenUp (Loading l) (Idle c)
  gives-up-load goes stops = (
    subst (IsSameClient l.client) (sym is) same,
    λ begun underway.
        subst (λ (k : KeysOf). (c.session ≡ begun.session) ⊎ IsClientCall any_tell (StoppedLoading k.loader k.keys) begun c) keys (stops begun (goes begun.session underway)),
  )

-- what is given up after a step is the same request
pub given-up-after : (u v : UnderWayOf) (mid : ByHandOf HandedIn) → v.server ≡ u.server → v.asked ≡ u.asked → GoesOn any_tell u.hand mid → mid.planned ≡ u.hand.planned → IsSameClient u.hand.client mid.client
    → GoesOn any_tell mid v.hand → v.hand.planned ≡ mid.planned → v.hand.client ≡ mid.client → IsSameRequest u v × IsSameClient u.hand.client v.hand.client
given-up-after u v mid server asked goes planned same ends kept is = (
  record { server_is = server; asked_is = asked; planned_is = kept ∙ planned; goes_on = λ c underway. ends c (goes c underway) },
  subst (IsSameClient u.hand.client) (sym is) same,
)

-- a step of a request, and what is left of its client, make a call to go on
stops : (u v : UnderWayOf) (new : HostClient) → IsSameRequest u v → IsSameClient u.hand.client v.hand.client → Settles (Asked v) new → IsGivenUp (Asked u) new
stops u v new same kept left =
    let gone : IsGivenUp (Asked v) (Idle v.hand.client) = subst (IsGivenUp (Asked v)) left.0 (left.1 refl) in
    subst (IsGivenUp (Asked u)) (sym left.0) (gives-up u v.hand kept v.hand.client refl same.goes_on same.planned_is gone.1)

pub can-end : (u v : UnderWayOf) (did : Result (Progress Answer) AllocError) → StepsOn u v did → CanEnd did (Asked v)
can-end u v (Ok (Done answer)) steps = steps.0
can-end u v (Ok Round) steps = tt
can-end u v (Ok Working) steps = tt
can-end u v (Ok Waiting) steps = tt
can-end u v (Ok Over) steps = tt
can-end u v (Err e) steps = tt

pub steps-on : (u v : UnderWayOf) (did : Result (Progress Answer) AllocError) (new : HostClient) (result : Result (Progress (Unit {0})) Fault) → StepsOn u v did → Ends did (Asked v) new result
    → GoesOnWith (Asked u) new result
steps-on u v (Ok (Done answer)) new result steps ends = rw (ends.0, ends.1) steps.1
steps-on u v (Ok Round) new result steps ends = rw (ends.0, ends.1) steps
steps-on u v (Ok Working) new result steps ends = rw (ends.0, ends.1) steps
steps-on u v (Ok Waiting) new result steps ends = rw (ends.0, ends.1) steps
steps-on u v (Ok Over) new result steps ends = let gone = stops u v new steps.0 steps.1 ends.0 in rw ends.1 (gone, steps.2)
steps-on u v (Err e) new result steps ends = let gone = stops u v new steps.0 steps.1 ends.0 in rw ends.1 (gone, refl)

-- ---- an order gets a reply

-- the sources may give any
fetched-any : (source : HandedIn) (keys : List KeyOf) (reply : Result (Vec Item) FetchFault) → Fetched (any_tell source keys) reply
fetched-any source keys (Ok items) = tt
fetched-any source keys (Err (Failed text)) = tt
fetched-any source keys (Err NoMemory) = tt

may-reply : (loaders : List (LoaderOf HandedIn)) (order : OrderOf) (reply : Result (Vec Item) FetchFault) → MayReply any_tell loaders order reply
may-reply loaders order reply = λ asked is. fetched-any asked.source order.keys reply

set-same : {X Y : Type 0} (f : X → Y) (xs : List X) (n : ℕ) (x y : X) → slice_get xs n ≡ Some x → f y ≡ f x → map f (slice_set xs n y) ≡ map f xs
set-same f [] n x y is e = refl
set-same f (z ∷ zs) zero x y is e = let same : z ≡ x = cc in ap (λ w. w ∷ map f zs) (e ∙ sym (ap f same))
set-same f (z ∷ zs) (suc n) x y is e = ap (λ ws. f z ∷ ws) (set-same f zs n x y is e)

-- the orders stay the same
orders-kept : (old new : List Pending) (number : ℕ) (reply : Result (Vec Item) FetchFault) → TakesReply old number reply new → map order_in new ≡ map order_in old
orders-kept old new number reply t =
    let same : order_in (In t.reply) ≡ order_in (Out t.order) = rw (t.loader, t.keys) refl in
    ap (map order_in) t.put ∙ set-same order_in old number (Out t.order) (In t.reply) t.was same

module _ (old new : List Pending) (number : ℕ) (reply : Result (Vec Item) FetchFault) where
  -- it goes on, whatever the reply
  pub goes-on : {Goes : Type 0} (loaders : List (LoaderOf HandedIn)) (r : Result (Unit {0}) TakeFault) → OnOk r (TakesReply old number reply new)
      → OnOk r (IfSome (slice_get old number) (λ one. MayReply any_tell loaders (order_in one) reply → Goes)) → OnErr r Goes → Goes
  goes-on loaders (Ok done) takes goes stops = (rw takes.was at goes) (may-reply loaders (order_in (Out takes.order)) reply)
  goes-on loaders (Err e) takes goes stops = stops

  -- the orders are those of before, or none where memory ran out
  pub orders-are : {H : Type 0} (was now : H) (IsOver : Type 0) (r : Result (Unit {0}) TakeFault) (orders : List OrderOf) → orders ≡ map order_in old → OnOk r (TakesReply old number reply new)
      → RefusesReply old number was now IsOver r → (now ≡ was → new ≡ old) → (IsOver → new ≡ []) → orders_after r orders ≡ map order_in new
  orders-are was now IsOver (Ok done) orders are takes refuses same ends = are ∙ sym (orders-kept old new number reply takes)
  orders-are was now IsOver (Err take.NoSuchOrder) orders are takes refuses same ends = are ∙ ap (map order_in) (sym (same (refuses.none refl)))
  orders-are was now IsOver (Err take.Replied) orders are takes refuses same ends = are ∙ ap (map order_in) (sym (same (refuses.kept refl)))
  orders-are was now IsOver (Err take.NoMemory) orders are takes refuses same ends = ap (map order_in) (sym (ends (refuses.over refl)))

-- an order waits at whose reply memory runs out
pub waits-at : (pending : List Pending) (number : ℕ) (r : Result (Unit {0}) TakeFault) → r ≡ Err take.NoMemory → (r ≡ Err take.NoSuchOrder) ↔ (length pending ≤ number)
    → (r ≡ Err take.Replied) ↔ (is_in_at (slice_get pending number) ≡ true) → WaitsAt number pending
waits-at pending number r is none replied =
    (lt_of_not-le (λ past. let e : r ≡ Err take.NoSuchOrder = none.1 past in cc), false_from_ne_true _ (λ there. let e : r ≡ Err take.Replied = replied.1 there in cc))

-- what comes of a reply, of a request or of a load, by what is done by hand in it
pub takes-it : {H O : Type 0} (client : H → HostClient) (was now : H) (number : ℕ) (reply : Result (Vec Item) FetchFault) (r : Result (Unit {0}) TakeFault)
    → RefusesReply (pending_of (client was)) number was now O r → OnOk r (TakesReply (pending_of (client was)) number reply (pending_of (client now))) → IsSameWork (client was) (client now)
    → client_in (client now) ≡ client_in (client was) → (O → IsStopped (client now)) → Takes number reply (client was) (client now) r
takes-it client was now number reply (Ok done) refuses takes same is ends = record { goes_on = same; client_is = is; takes = takes }
takes-it client was now number reply (Err take.NoSuchOrder) refuses takes same is ends = (ap client (refuses.none refl), refuses.no_order.0 refl)
takes-it client was now number reply (Err take.Replied) refuses takes same is ends = (ap client (refuses.kept refl), refuses.replied.0 refl)
takes-it client was now number reply (Err take.NoMemory) refuses takes same is ends = record {
  goes_on = same;
  client_is = is;
  waited = waits-at (pending_of (client was)) number (Err take.NoMemory) refl refuses.no_order refuses.replied;
  is_over = ends (refuses.over refl);
}
