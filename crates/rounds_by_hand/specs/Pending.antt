-- Orders of a round that is out, some of which have their replies.
use Rattle.std.specs.Prelude.{◌≡◌, ◌≤◌, ◌↔◌, ℕ, All, Bool, true, false, List, [], ◌∷◌, map, length, slice_get, Option, Some, None, Result, IsErrOf}
use Rattle.std.specs.List.{slice_set}
use Rattle.std.specs.Global.{Vec}
use Rattle.load_memory.specs.Keys.{KeyOf}
use Rattle.load_memory.specs.Replies.{ReplyOf, reply_of}
use Rattle.load_memory.specs.declared.outcome.Item.{Item}
use Rattle.load_memory.specs.declared.reply.Reply.{Reply}
use Rattle.load_queue.specs.Answers.{AnswerOf, outcomes_of}
use Rattle.load_queue.specs.Fetched.{Fetched, Follow}
use Rattle.load_queue.specs.Loaders.{LoaderOf}
use Rattle.load_queue.specs.Orders.{OrderOf, CutOf, order_of, asks, IsCutBy}
use Rattle.load_queue.specs.declared.source.FetchFault.{FetchFault}
use Rattle.execution.specs.Rounds.{AreReplies, IsReply}
use Rattle.rounds_by_hand.specs.declared.fault.TakeFault.{TakeFault}
use Rattle.rounds_by_hand.specs.declared.fault.TakeFault.TheVariants.{NoSuchOrder, Replied, NoMemory}
use Rattle.rounds_by_hand.specs.declared.pending.Pending.{Pending}
use Rattle.rounds_by_hand.specs.declared.pending.Pending.TheVariants.{Out, In}

-- what the order asks, also where it has a reply
abbrev pub order_in : Pending → OrderOf
order_in (Out order) = asks order
order_in (In reply) = order_of reply.loader (reply_of reply).keys

-- an order without a reply
abbrev pub still_out : CutOf → Pending
still_out order = Out order

-- an order without a reply was cut by the loader of its number, whose source can so be asked
abbrev pub CanAsk : {S : Type 0} → List (LoaderOf S) → Pending → Type 0
CanAsk loaders (Out order) = IsCutBy loaders order
CanAsk loaders (In reply) = Unit {0}

abbrev pub is_in : Pending → Bool
is_in (Out order) = false
is_in (In reply) = true

-- there is an order of this number, and it has a reply
abbrev pub is_in_at : Option Pending → Bool
is_in_at None = false
is_in_at (Some pending) = is_in pending

-- the replies that the orders of a round have so far, in order
abbrev pub replies_in : List Pending → List ReplyOf
replies_in [] = []
replies_in (Out order ∷ rest) = replies_in rest
replies_in (In reply ∷ rest) = reply_of reply ∷ replies_in rest

-- an order with a reply has that one, as it was given; one without has one with an answer that may be given
abbrev pub IsReplyFor : (ℕ → List KeyOf → AnswerOf → Type 0) → Pending → ReplyOf → Type 0
IsReplyFor may (Out order) reply = IsReply may (asks order) reply
IsReplyFor may (In given) reply = reply ≡ reply_of given

-- one such reply for each order, in order
abbrev pub AreRepliesFor : (ℕ → List KeyOf → AnswerOf → Type 0)
    → List Pending → List ReplyOf → Type 0
AreRepliesFor may [] [] = Unit {0}
AreRepliesFor may [] (reply ∷ replies) = ⊥
AreRepliesFor may (one ∷ rest) [] = ⊥
AreRepliesFor may (one ∷ rest) (reply ∷ replies) = IsReplyFor may one reply
    × AreRepliesFor may rest replies

-- the outcomes are those of an answer that may be given
pub record HasAnswer (may : ℕ → List KeyOf → AnswerOf → Type 0) (reply : ReplyOf) : Type 0 where
  pub answer : AnswerOf
  pub may_be : may reply.loader reply.keys answer
  pub outcomes : reply.outcomes ≡ outcomes_of (length reply.keys) answer

-- the reply to an order, where it has one, has an answer that may be given
abbrev pub IsReplied : (ℕ → List KeyOf → AnswerOf → Type 0) → Pending → Type 0
IsReplied may (Out order) = Unit {0}
IsReplied may (In reply) = HasAnswer may (reply_of reply)

-- replies to these orders, in order, each with an answer that may be given
abbrev pub AreRepliesTo : (ℕ → List KeyOf → AnswerOf → Type 0) → List Pending → List Reply → Type 0
AreRepliesTo may pending replies = AreReplies may (map order_in pending) (map reply_of replies)

-- says the same where each answer of a reply that is there already may be given
abbrev pub AreRepliesIfReplied : (ℕ → List KeyOf → AnswerOf → Type 0)
    → List Pending → List Reply → Type 0
AreRepliesIfReplied may pending replies = All (IsReplied may) pending
    → AreRepliesTo may pending replies

-- the order of this number, which was out, has got the reply that follows from what was given; the others are as they were
pub record TakesReply (old : List Pending) (number : ℕ) (given : Result (Vec Item) FetchFault)
    (new : List Pending) : Type 0 where
  pub order : CutOf
  pub reply : Reply
  pub was : slice_get old number ≡ Some (Out order)
  pub loader : reply.loader ≡ order.loader
  pub keys : (reply_of reply).keys ≡ order.keys
  pub outcomes : Follow (reply_of reply).outcomes given (length order.keys)
  pub put : new ≡ slice_set old number (In reply)

-- Why a reply to the order of this number isn't taken: there is no such order, or it has one already, and nothing changes then;
-- or memory ran out, and it is over.
pub record RefusesReply {H T : Type 0} (pending : List Pending) (number : ℕ) (old new : H)
    (IsOver : Type 0) (result : Result T TakeFault) : Type 0 where
  pub no_order : IsErrOf result NoSuchOrder ↔ (length pending ≤ number)
  pub replied : IsErrOf result Replied ↔ (is_in_at (slice_get pending number) ≡ true)
  pub none : IsErrOf result NoSuchOrder → new ≡ old
  pub kept : IsErrOf result Replied → new ≡ old
  pub over : IsErrOf result NoMemory → IsOver

-- the reply is one that the source of the order's loader may give
abbrev pub MayReply : {S : Type 0} → (S → List KeyOf → AnswerOf → Type 0)
    → List (LoaderOf S) → OrderOf → Result (Vec Item) FetchFault → Type 0
MayReply {S} may loaders order given = (asked : LoaderOf S)
    → slice_get loaders order.loader ≡ Some asked → Fetched (may asked.source order.keys) given
