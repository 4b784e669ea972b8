-- An order that gets a reply.
use Rattle.std.proofs.Common.{◌≡◌, ◌<◌, ◌∙◌, ℕ, zero, suc, List, [], ◌∷◌, map, length, refl, ap, sym, subst, arith, Some, Result, Ok, Err}
use Rattle.std.proofs.lemmas.List.Elements.{All-set}
use Rattle.std.specs.Prelude.{All, slice_get}
use Rattle.std.specs.List.{slice_set}
use Rattle.std.specs.Global.{Vec}
use Rattle.load_memory.specs.Keys.{KeyOf}
use Rattle.load_memory.specs.Replies.{reply_of}
use Rattle.load_memory.specs.Outcomes.{item_of}
use Rattle.load_memory.specs.declared.outcome.Item.{Item}
use Rattle.load_memory.specs.declared.reply.Reply.{Reply}
use Rattle.load_queue.specs.Answers.{AnswerOf, given, failed, outcomes_of}
use Rattle.load_queue.specs.Fetched.{Fetched, Follow}
use Rattle.load_queue.specs.Loaders.{LoaderOf}
use Rattle.load_queue.specs.Orders.{OrderOf, asks}
use Rattle.load_queue.specs.declared.source.FetchFault.{FetchFault}
use Rattle.load_queue.specs.declared.source.FetchFault.TheVariants.{Failed, NoMemory}
use Rattle.std.specs.Prelude.{string_bytes}
use Rattle.execution.specs.Program.{Program}
use Rattle.execution.specs.Completion.{AnsweredOf}
use Rattle.execution.specs.Rounds.{any_answer, may_at}
use Rattle.load_rounds.specs.Sessions.{StateOf}
use Rattle.load_rounds.specs.Runs.{RunOf, program_of}
use Rattle.rounds_by_hand.specs.declared.pending.Pending.{Pending}
use Rattle.rounds_by_hand.specs.declared.pending.Pending.TheVariants.{Out, In}
use Rattle.rounds_by_hand.specs.Pending.{order_in, CanAsk, HasAnswer, IsReplied, TakesReply, MayReply}
use Rattle.rounds_by_hand.specs.Hands.{IsOutWith}
use Rattle.rounds_by_hand.proofs.Orders.{at-some}
use Rattle.rounds_by_hand.proofs.Far.{orders-have}

-- the answer from which the outcomes follow
answer-has : (may : ℕ → List KeyOf → AnswerOf → Type 0) (order : OrderOf) (reply : Reply) (answer : AnswerOf) → reply.loader ≡ order.loader → (reply_of reply).keys ≡ order.keys
    → (reply_of reply).outcomes ≡ outcomes_of (length order.keys) answer → may order.loader order.keys answer → HasAnswer may (reply_of reply)
answer-has may order reply answer loader keys outcomes can = record {
  answer = answer;
  may_be = rw (loader, keys) can;
  outcomes = outcomes ∙ ap (λ ks. outcomes_of (length ks) answer) (sym keys);
}

pub follow-has : (may : ℕ → List KeyOf → AnswerOf → Type 0) (order : OrderOf) (reply : Reply) (answer : Result (Vec Item) FetchFault) → reply.loader ≡ order.loader → (reply_of reply).keys ≡ order.keys
    → Follow (reply_of reply).outcomes answer (length order.keys) → Fetched (may order.loader order.keys) answer → HasAnswer may (reply_of reply)
follow-has may order reply (Ok items) loader keys follow can = answer-has may order reply (given (map item_of items.items)) loader keys follow can
follow-has may order reply (Err (Failed text)) loader keys follow can = answer-has may order reply (failed (string_bytes text)) loader keys follow can
follow-has may order reply (Err NoMemory) loader keys follow can = absurd follow

pub follow-any : (order : OrderOf) (reply : Reply) (answer : Result (Vec Item) FetchFault) → reply.loader ≡ order.loader → (reply_of reply).keys ≡ order.keys
    → Follow (reply_of reply).outcomes answer (length order.keys) → HasAnswer any_answer (reply_of reply)
follow-any order reply (Ok items) loader keys follow = answer-has any_answer order reply (given (map item_of items.items)) loader keys follow tt
follow-any order reply (Err (Failed text)) loader keys follow = answer-has any_answer order reply (failed (string_bytes text)) loader keys follow tt
follow-any order reply (Err NoMemory) loader keys follow = absurd follow

set-order : (ps : List Pending) (n : ℕ) (was now : Pending) → slice_get ps n ≡ Some was → order_in now ≡ order_in was → map order_in (slice_set ps n now) ≡ map order_in ps
set-order [] n was now at same = absurd (cc at)
set-order (p ∷ ps) zero was now at same = let first : p ≡ was = cc at in ap (λ o. o ∷ map order_in ps) (same ∙ ap order_in (sym first))
set-order (p ∷ ps) (suc n) was now at same = ap (λ os. order_in p ∷ os) (set-order ps n was now at same)

-- a property of each element is one of the element at a place
all-at : {X : Type 0} (P : X → Type 0) (xs : List X) (n : ℕ) (x : X) → slice_get xs n ≡ Some x → All P xs → P x
all-at P [] n x at all = absurd (cc at)
all-at P (y ∷ ys) zero x at all = let first : y ≡ x = cc at in subst P first (all 0 y (omega arith))
all-at P (y ∷ ys) (suc n) x at all = all-at P ys n x at (λ k d lt. all (suc k) d (omega (arith, lt)))

taken-order : (ps : List Pending) (n : ℕ) (answer : Result (Vec Item) FetchFault) (now : List Pending) (t : TakesReply ps n answer now) → order_in (In t.reply) ≡ asks t.order
taken-order ps n answer now t = rw (t.loader, t.keys) refl

-- the orders are those that they were, and each reply still has an answer
pub taken-orders : (ps : List Pending) (n : ℕ) (answer : Result (Vec Item) FetchFault) (now : List Pending) → TakesReply ps n answer now → map order_in now ≡ map order_in ps
taken-orders ps n answer now t = ap (map order_in) t.put ∙ set-order ps n (Out t.order) (In t.reply) t.was (taken-order ps n answer now t)

-- those that are still out are the loaders' own
pub taken-own : {S : Type 0} (loaders : List (LoaderOf S)) (ps : List Pending) (n : ℕ) (answer : Result (Vec Item) FetchFault) (now : List Pending) → TakesReply ps n answer now → All (CanAsk loaders) ps → All (CanAsk loaders) now
taken-own loaders ps n answer now t all = rw t.put (All-set (CanAsk loaders) ps n (In t.reply) tt all)

pub taken-any : (ps : List Pending) (n : ℕ) (answer : Result (Vec Item) FetchFault) (now : List Pending) → TakesReply ps n answer now → All (IsReplied any_answer) ps → All (IsReplied any_answer) now
taken-any ps n answer now t all = rw t.put (All-set (IsReplied any_answer) ps n (In t.reply) (follow-any (asks t.order) t.reply answer t.loader t.keys t.outcomes) all)

-- and it is one that the source may give, if the new one is
pub taken-may : {S : Type 0} (may : S → List KeyOf → AnswerOf → Type 0) (loaders : List (LoaderOf S)) (ps : List Pending) (n : ℕ) (answer : Result (Vec Item) FetchFault) (now : List Pending) (t : TakesReply ps n answer now)
    → All (λ one. (order_in one).loader < length loaders) ps → MayReply may loaders (asks t.order) answer → All (IsReplied (may_at may loaders)) ps → All (IsReplied (may_at may loaders)) now
taken-may {S} may loaders ps n answer now t within can told =
    let below = all-at (λ one. (order_in one).loader < length loaders) ps n (Out t.order) t.was within in
    let asked = at-some loaders t.order.loader below in
    let fetched : Fetched (may_at may loaders t.order.loader t.order.keys) answer = at-fetched answer asked.0 asked.1 (can asked.0 asked.1) in
    rw t.put (All-set (IsReplied (may_at may loaders)) ps n (In t.reply) (follow-has (may_at may loaders) (asks t.order) t.reply answer t.loader t.keys t.outcomes fetched) told)
  where
    at-fetched : (a : Result (Vec Item) FetchFault) (l : LoaderOf S) → slice_get loaders t.order.loader ≡ Some l → Fetched (may l.source t.order.keys) a → Fetched (may_at may loaders t.order.loader t.order.keys) a
    at-fetched (Ok items) l at f = (l, at, f)
    at-fetched (Err (Failed text)) l at f = (l, at, f)
    at-fetched (Err NoMemory) l at f = tt

module _ {S P E : Type 0} (program : P → Program) (text_of : P → AnsweredOf → List ℕ) where
  pub taken-with : (s : StateOf S) (run : RunOf P E) (ps : List Pending) (n : ℕ) (answer : Result (Vec Item) FetchFault) (now : List Pending) → TakesReply ps n answer now → IsOutWith program text_of s run ps → IsOutWith program text_of s run now
  taken-with s run ps n answer now t h = record { stage = h.stage; latest = h.latest; orders = taken-orders ps n answer now t ∙ h.orders; own = taken-own s.loaders ps n answer now t h.own; replies = taken-any ps n answer now t h.replies }

  pub taken-told : (may : S → List KeyOf → AnswerOf → Type 0) (s : StateOf S) (run : RunOf P E) (ps : List Pending) (n : ℕ) (answer : Result (Vec Item) FetchFault) (now : List Pending) (t : TakesReply ps n answer now) → IsOutWith program text_of s run ps
      → MayReply may s.loaders (asks t.order) answer → All (IsReplied (may_at may s.loaders)) ps → All (IsReplied (may_at may s.loaders)) now
  taken-told may s run ps n answer now t h can told = taken-may may s.loaders ps n answer now t (orders-have s (program_of program text_of run) ps h.orders) can told
