-- The map of a list of pairs, and the replies of orders that ran.
use Rattle.std.proofs.Common.{◌≡◌, ℕ, Bool, true, false, List, [], ◌∷◌, ◌++◌, is_some, sym, ◌∙◌, ap, refl, Option, Some, None, if◌then◌else◌}
use Rattle.std.specs.Option.{option_or}
use Rattle.load_memory.specs.Keys.{KeyOf}
use Rattle.load_memory.specs.Outcomes.{OutcomeOf}
use Rattle.load_memory.specs.Pairs.{PairOf, is_at, look, primed}
use Rattle.load_memory.specs.Replies.{ReplyOf}
use Rattle.load_queue.specs.Answers.{AnswerOf}
use Rattle.load_queue.specs.Loaders.{LoaderOf}
use Rattle.load_queue.specs.Orders.{OrderOf}
use Rattle.load_queue.specs.Runs.{IsReplyTo}
use Rattle.execution.specs.Rounds.{stored, all_primed, may_at, IsReply}
use Rattle.execution.proofs.OneLog.{at-pair}

or-none : (x : Option OutcomeOf) → option_or x None ≡ x
or-none None = refl
or-none (Some o) = refl

or-assoc : (x y z : Option OutcomeOf) → option_or (option_or x y) z ≡ option_or x (option_or y z)
or-assoc None y z = refl
or-assoc (Some o) y z = refl

or-some : (x y : Option OutcomeOf) → is_some x ≡ true → option_or x y ≡ x
or-some None y h = absurd (cc h)
or-some (Some o) y h = refl

look-more : (ps : List PairOf) (p : PairOf) (loader : ℕ) (key : KeyOf) → look (ps ++ p ∷ []) loader key ≡ option_or (look ps loader key) (look (p ∷ []) loader key)
look-more [] p loader key = refl
look-more (q ∷ ps) p loader key = go (is_at loader key q) (look-more ps p loader key)
  where
    go : (b : Bool) → look (ps ++ p ∷ []) loader key ≡ option_or (look ps loader key) (look (p ∷ []) loader key)
        → (if b then Some q.outcome else look (ps ++ p ∷ []) loader key) ≡ option_or (if b then Some q.outcome else look ps loader key) (look (p ∷ []) loader key)
    go true e = refl
    go false e = e

look-primed : (ps : List PairOf) (p : PairOf) (loader : ℕ) (key : KeyOf) → look (primed ps p) loader key ≡ option_or (look ps loader key) (look (p ∷ []) loader key)
look-primed ps p loader key = go (is_some (look ps p.loader p.key)) refl
  where
    there : is_some (look ps p.loader p.key) ≡ true → (b : Bool) → is_at loader key p ≡ b → look ps loader key ≡ option_or (look ps loader key) (if b then Some p.outcome else None)
    there e true f =
        let at = at-pair loader key p f in
        let same : look ps loader key ≡ look ps p.loader p.key = ap (λ n. look ps n key) at.0 ∙ ap (λ k. look ps p.loader k) at.1 in
        sym (or-some (look ps loader key) (Some p.outcome) (ap is_some same ∙ e))
    there e false f = sym (or-none (look ps loader key))

    go : (b : Bool) → is_some (look ps p.loader p.key) ≡ b → look (if b then ps else ps ++ p ∷ []) loader key ≡ option_or (look ps loader key) (look (p ∷ []) loader key)
    go true e = there e (is_at loader key p) refl
    go false e = look-more ps p loader key

look-cons : (p : PairOf) (qs : List PairOf) (loader : ℕ) (key : KeyOf) → look (p ∷ qs) loader key ≡ option_or (look (p ∷ []) loader key) (look qs loader key)
look-cons p qs loader key = go (is_at loader key p)
  where
    go : (b : Bool) → (if b then Some p.outcome else look qs loader key) ≡ option_or (if b then Some p.outcome else None) (look qs loader key)
    go true = refl
    go false = refl

-- pairs that are primed one after another give the map that is stored
pub look-all_primed : (ps qs : List PairOf) (loader : ℕ) (key : KeyOf) → look (all_primed ps qs) loader key ≡ stored (look ps) qs loader key
look-all_primed ps [] loader key = sym (or-none (look ps loader key))
look-all_primed ps (q ∷ qs) loader key =
    look-all_primed (primed ps q) qs loader key
    ∙ ap (λ x. option_or x (look qs loader key)) (look-primed ps q loader key)
    ∙ or-assoc (look ps loader key) (look (q ∷ []) loader key) (look qs loader key)
    ∙ ap (λ x. option_or (look ps loader key) x) (sym (look-cons q qs loader key))

-- a reply of an order that ran over loaders is a reply of their sources
pub reply-ran : {S : Type 0} (may : S → List KeyOf → AnswerOf → Type 0) (loaders : List (LoaderOf S)) (order : OrderOf) (reply : ReplyOf) → IsReplyTo may loaders order reply → IsReply (may_at may loaders) order reply
reply-ran may loaders order reply h =
    record { loader = h.loader; keys = h.keys; answer = h.answer; may_be = (h.asked, h.asked_is, h.may_be); outcomes = h.outcomes }
