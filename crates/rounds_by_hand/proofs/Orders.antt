-- Pending orders, one more at a time, and the replies to them.
use Rattle.std.proofs.Common.{◌≡◌, ◌<◌, ℕ, zero, suc, List, [], ◌∷◌, ◌++◌, map, length, get_or, refl, ap, sym, ◌∙◌, append_assoc, arith, Some, false}
use Rattle.std.proofs.lemmas.List.{append-nil, map-append}
use Rattle.std.proofs.lemmas.List.Elements.{All-head, All-tail, All-map}
use Rattle.std.specs.Prelude.{All, slice_get}
use Rattle.std.specs.List.{slice_set}
use Rattle.load_memory.specs.Keys.{KeyOf}
use Rattle.load_memory.specs.Replies.{ReplyOf, reply_of}
use Rattle.load_memory.specs.declared.reply.Reply.{Reply}
use Rattle.load_queue.specs.Answers.{AnswerOf}
use Rattle.load_queue.specs.Loaders.{LoaderOf}
use Rattle.load_queue.specs.Orders.{OrderOf, CutOf, asks, AreCutBy}
use Rattle.load_queue.specs.Runs.{IsReplyTo}
use Rattle.execution.specs.Rounds.{any_answer, may_at, AreReplies, IsReply}
use Rattle.load_rounds.specs.Histories.{any_tell}
use Rattle.rounds_by_hand.specs.declared.pending.Pending.{Pending}
use Rattle.rounds_by_hand.specs.declared.pending.Pending.TheVariants.{Out, In}
use Rattle.rounds_by_hand.specs.Pending.{order_in, still_out, CanAsk, is_in, HasAnswer}

pub none-left : {X : Type 0} (xs : List X) → length xs ≡ 0 → xs ≡ []
none-left [] e = refl
none-left (x ∷ xs) e = absurd (omega (arith, e))

-- one order more
pub out-more : (was now : List Pending) (items rest : List CutOf) (all : List Pending) (o : CutOf) → items ≡ o ∷ rest → now ≡ was ++ Out o ∷ [] → was ++ map still_out items ≡ all → now ++ map still_out rest ≡ all
out-more was now items rest all o is put e = ap (λ ps. ps ++ map still_out rest) put ∙ append_assoc was (Out o ∷ []) (map still_out rest) ∙ ap (λ os. was ++ map still_out os) (sym is) ∙ e

-- orders of which none has a reply yet
pub out-orders : (orders : List CutOf) → map order_in (map still_out orders) ≡ map asks orders
out-orders [] = refl
out-orders (o ∷ os) = ap (λ xs. asks o ∷ xs) (out-orders os)

pub out-away : (orders : List CutOf) → All (λ one. is_in one ≡ false) (map still_out orders)
out-away orders = All-map (λ (one : Pending). is_in one ≡ false) still_out orders (λ k d lt. refl)

pub out-own : {S : Type 0} (loaders : List (LoaderOf S)) (orders : List CutOf) → AreCutBy loaders orders → All (CanAsk loaders) (map still_out orders)
out-own loaders orders cut = All-map (CanAsk loaders) still_out orders cut

-- these are replies to the first of the orders: with replies to the others they are to all
abbrev pub RepliesSoFar : (Pending → Type 0) → (ℕ → List KeyOf → AnswerOf → Type 0) → List Pending → List Pending → List Reply → Type 0
RepliesSoFar Q may all rest replies = All Q all → All Q rest × ((more : List ReplyOf) → AreReplies may (map order_in rest) more → AreReplies may (map order_in all) (map reply_of replies ++ more))

module _ (Q : Pending → Type 0) (may : ℕ → List KeyOf → AnswerOf → Type 0) where
  pub replies-one : (all items rest : List Pending) (one : Pending) (was now : List Reply) (reply : Reply) → items ≡ one ∷ rest → now ≡ was ++ reply ∷ [] → (Q one → IsReply may (order_in one) (reply_of reply))
      → RepliesSoFar Q may all items was → RepliesSoFar Q may all rest now
  replies-one all items rest one was now reply is put fits so each =
      let both = rw is at (so each) in (
        All-tail Q one rest both.0,
        λ more fit. rw (put, map-append reply_of was (reply ∷ []), append_assoc (map reply_of was) (reply_of reply ∷ []) more) (both.1 (reply_of reply ∷ more) (fits (All-head Q one rest both.0), fit)),
      )

  pub replies-all : (all rest : List Pending) (replies : List Reply) → rest ≡ [] → RepliesSoFar Q may all rest replies → All Q all → AreReplies may (map order_in all) (map reply_of replies)
  replies-all all rest replies none so each = rw (← append-nil (map reply_of replies)) ((so each).1 [] (rw none tt))

-- ---- one reply

-- there is an element
pub at-some : {X : Type 0} (xs : List X) (n : ℕ) → n < length xs → (x : X) × (slice_get xs n ≡ Some x)
at-some [] n lt = absurd (omega (arith, lt))
at-some (x ∷ xs) zero lt = (x, refl)
at-some (x ∷ xs) (suc n) lt = at-some xs n (omega (arith, lt))

module _ {S : Type 0} (loaders : List (LoaderOf S)) where
  -- a reply of a source, and one that was given
  pub ran-is : (may : S → List KeyOf → AnswerOf → Type 0) (o : OrderOf) (r : ReplyOf) → IsReplyTo may loaders o r → IsReply (may_at may loaders) o r
  ran-is may o r h = record { loader = h.loader; keys = h.keys; answer = h.answer; may_be = (h.asked, h.asked_is, h.may_be); outcomes = h.outcomes }

  pub ran-any : (may : S → List KeyOf → AnswerOf → Type 0) (o : OrderOf) (r : ReplyOf) → IsReplyTo may loaders o r → IsReply (may_at any_tell loaders) o r
  ran-any may o r h = record { loader = h.loader; keys = h.keys; answer = h.answer; may_be = (h.asked, h.asked_is, tt); outcomes = h.outcomes }

  pub given-is : (may : ℕ → List KeyOf → AnswerOf → Type 0) (r : Reply) → HasAnswer may (reply_of r) → IsReply may (order_in (In r)) (reply_of r)
  given-is may r h = record { loader = refl; keys = refl; answer = h.answer; may_be = h.may_be; outcomes = h.outcomes }

  pub given-any : (r : Reply) → r.loader < length loaders → HasAnswer any_answer (reply_of r) → IsReply (may_at any_tell loaders) (order_in (In r)) (reply_of r)
  given-any r lt h = let at = at-some loaders r.loader lt in record { loader = refl; keys = refl; answer = h.answer; may_be = (at.0, at.1, tt); outcomes = h.outcomes }

-- ---- one of them gets a reply

pub set-set : {X : Type 0} (xs : List X) (i : ℕ) (a b : X) → slice_set (slice_set xs i a) i b ≡ slice_set xs i b
set-set [] i a b = refl
set-set (x ∷ xs) zero a b = refl
set-set (x ∷ xs) (suc i) a b = ap (λ ys. x ∷ ys) (set-set xs i a b)

pub set-back : {X : Type 0} (xs : List X) (i : ℕ) (a d : X) → i < length xs → d ≡ get_or xs i d → slice_set (slice_set xs i a) i d ≡ xs
set-back [] i a d lt at = refl
set-back (x ∷ xs) zero a d lt at = ap (λ y. y ∷ xs) at
set-back (x ∷ xs) (suc i) a d lt at = ap (λ ys. x ∷ ys) (set-back xs i a d (omega (arith, lt)) at)

pub get-at : {X : Type 0} (xs : List X) (i : ℕ) (d : X) → i < length xs → d ≡ get_or xs i d → slice_get xs i ≡ Some d
get-at [] i d lt at = absurd (omega (arith, lt))
get-at (x ∷ xs) zero d lt at = ap Some (sym at)
get-at (x ∷ xs) (suc i) d lt at = get-at xs i d (omega (arith, lt)) at
