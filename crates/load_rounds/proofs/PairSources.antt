-- Lemmas on where a pair of the memory after steps is from.
use Rattle.std.proofs.Common.{◌≡◌, ◌==◌, ℕ, Bool, true, false, List, [], ◌∷◌, ◌++◌, inl, inr, ◌⊎◌, ◌∙◌, ap, refl, Option, Some, None, if◌then◌else◌}
use Rattle.std.specs.Option.{option_or}
use Rattle.load_memory.specs.Keys.{KeyOf}
use Rattle.load_memory.specs.Outcomes.{OutcomeOf, batch_fault}
use Rattle.load_memory.specs.Pairs.{PairOf, look}
use Rattle.execution.specs.Loads.{Memory, IsOneOf}
use Rattle.execution.specs.Rounds.{RuleOf, modes_of, unless_failed, pairs_of}
use Rattle.execution.specs.Sessions.{Step, Forgot, AskedLoads, Lost, Primed, Cleared, ClearedAll, Restarted, is_cell, after, IsAnsweredIn}
use Rattle.execution.proofs.Same.{one-either}
use Rattle.execution.proofs.ReplyLaws.{make, look-member, pairs-from}
use Rattle.load_rounds.specs.Histories.{Call, Priming, Clearing, ClearingAll, Forgetting, Restarting, AreAsking, IsMadeOf, AreMadeOf, replies_of}
use Rattle.load_rounds.proofs.Histories.{memory_after}

module _ (rules : List RuleOf) (loader : ℕ) (key : KeyOf) (o : OutcomeOf) where
  abbrev IsFrom : Memory → List Step → Type 0
  IsFrom M steps = (M loader key ≡ Some o) ⊎ (IsOneOf (Primed (make loader key o)) steps ⊎ IsAnsweredIn (modes_of rules) (make loader key o) (replies_of steps))

  unfailed : (x : Option OutcomeOf) → unless_failed x ≡ Some o → x ≡ Some o
  unfailed (Some (batch_fault text)) e = absurd (cc e)
  unfailed x e = e

  left-in : (b : Bool) (x : Option OutcomeOf) → (if b then None else x) ≡ Some o → x ≡ Some o
  left-in true x e = absurd (cc e)
  left-in false x e = e

  step-from : (M : Memory) (step : Step) → after rules M step loader key ≡ Some o → IsFrom M (step ∷ [])
  step-from M Forgot e = inl (unfailed (M loader key) e)
  step-from M (AskedLoads loads replies) e = now (M loader key) refl e where
    now : (x : Option OutcomeOf) → M loader key ≡ x → option_or x (look (pairs_of (modes_of rules) replies) loader key) ≡ Some o → IsFrom M (AskedLoads loads replies ∷ [])
    now None f a =
        let from = pairs-from (modes_of rules) (make loader key o) replies (look-member loader key o (pairs_of (modes_of rules) replies) a) in
        inr (inr (replies, inl refl, from.0, from.1, from.2))
    now (Some x) f a = inl (f ∙ a)
  step-from M (Lost loads) e = inl e
  step-from M (Primed pair) e = now (M loader key) refl e where
    now : (x : Option OutcomeOf) → M loader key ≡ x → option_or x (look (pair ∷ []) loader key) ≡ Some o → IsFrom M (Primed pair ∷ [])
    now None f a = inr (inl (same (look-member loader key o (pair ∷ []) a)))
      where
        same : IsOneOf (make loader key o) (pair ∷ []) → IsOneOf (Primed (make loader key o)) (Primed pair ∷ [])
        same (inl e) = inl (ap Primed e)
        same (inr h) = absurd h
    now (Some x) f a = inl (f ∙ a)
  step-from M (Cleared cell) e = inl (left-in (is_cell cell (loader, key)) (M loader key) e)
  step-from M (ClearedAll n) e = inl (left-in (n == loader) (M loader key) e)
  step-from M Restarted e = inl (left-in true (M loader key) e)

  more-replies : (step : Step) (steps : List Step) → IsAnsweredIn (modes_of rules) (make loader key o) (replies_of steps) → IsAnsweredIn (modes_of rules) (make loader key o) (replies_of (step ∷ steps))
  more-replies (AskedLoads loads replies) steps h = (h.0, inr h.1, h.2, h.3, h.4)
  more-replies step steps h = h

  first-reply : (step : Step) (steps : List Step) → IsAnsweredIn (modes_of rules) (make loader key o) (replies_of (step ∷ [])) → IsAnsweredIn (modes_of rules) (make loader key o) (replies_of (step ∷ steps))
  first-reply (AskedLoads loads replies) steps h = go h.1 where
    go : IsOneOf h.0 (replies ∷ []) → IsAnsweredIn (modes_of rules) (make loader key o) (replies ∷ replies_of steps)
    go (inl e) = (h.0, inl e, h.2, h.3, h.4)
    go (inr i) = absurd i
  first-reply step steps h = absurd h.1

  pub pair-from : (M : Memory) (steps : List Step) → memory_after rules M steps loader key ≡ Some o → IsFrom M steps
  pair-from M [] e = inl e
  pair-from M (step ∷ steps) e = later (pair-from (after rules M step) steps e) where
    one : IsOneOf (Primed (make loader key o)) (step ∷ []) → IsOneOf (Primed (make loader key o)) (step ∷ steps)
    one (inl e) = inl e
    one (inr h) = absurd h

    first : IsFrom M (step ∷ []) → IsFrom M (step ∷ steps)
    first (inl h) = inl h
    first (inr (inl h)) = inr (inl (one h))
    first (inr (inr h)) = inr (inr (first-reply step steps h))

    later : IsFrom (after rules M step) steps → IsFrom M (step ∷ steps)
    later (inl h) = first (step-from M step h)
    later (inr (inl h)) = inr (inl (inr h))
    later (inr (inr h)) = inr (inr (more-replies step steps h))

-- steps of asking prime nothing: a pair that was primed was primed by a call
asking-primes : (pair : PairOf) (steps : List Step) → AreAsking steps → IsOneOf (Primed pair) steps → ⊥
asking-primes pair [] h i = i
asking-primes pair (AskedLoads loads replies ∷ steps) h (inl e) = cc e
asking-primes pair (AskedLoads loads replies ∷ steps) h (inr i) = asking-primes pair steps h i
asking-primes pair (Lost loads ∷ steps) h (inl e) = cc e
asking-primes pair (Lost loads ∷ steps) h (inr i) = asking-primes pair steps h i
asking-primes pair steps h i = h

primed-is : (p q : PairOf) → Primed p ≡ Primed q → p ≡ q
primed-is p q e = cc e

not-primed : (pair : PairOf) (step : Step) → (Primed pair ≡ step → ⊥) → IsOneOf (Primed pair) (step ∷ []) → ⊥
not-primed pair step other (inl e) = other e
not-primed pair step other (inr j) = j

call-primes : (pair : PairOf) (call : Call) (own : List Step) → IsMadeOf call own → IsOneOf (Primed pair) own → Priming pair ≡ call
call-primes pair (Priming p) own h i = go (rw h at i) where
  go : IsOneOf (Primed pair) (Primed p ∷ []) → Priming pair ≡ Priming p
  go (inl e) = ap Priming (primed-is pair p e)
  go (inr j) = absurd j
call-primes pair (Clearing cell) own h i = absurd (not-primed pair (Cleared cell) (λ e. cc e) (rw h at i))
call-primes pair (ClearingAll n) own h i = absurd (not-primed pair (ClearedAll n) (λ e. cc e) (rw h at i))
call-primes pair Forgetting own h i = let none = rw h at i in absurd none
call-primes pair Restarting own h i = absurd (not-primed pair Restarted (λ e. cc e) (rw h at i))
call-primes pair call own h i = absurd (asking-primes pair own h i)

pub calls-prime : (pair : PairOf) (calls : List Call) (steps : List Step) → AreMadeOf calls steps → IsOneOf (Primed pair) steps → IsOneOf (Priming pair) calls
calls-prime pair [] steps h i = let none = rw h at i in absurd none
calls-prime pair (call ∷ calls) steps h i = go (rw h.2 at i) (λ j. calls-prime pair calls h.1 h.4 j) where
  apart : IsOneOf (Primed pair) h.0 ⊎ IsOneOf (Primed pair) h.1 → (IsOneOf (Primed pair) h.1 → IsOneOf (Priming pair) calls) → IsOneOf (Priming pair) (call ∷ calls)
  apart (inl a) more = inl (call-primes pair call h.0 h.3 a)
  apart (inr b) more = inr (more b)

  go : IsOneOf (Primed pair) (Forgot ∷ (h.0 ++ h.1)) → (IsOneOf (Primed pair) h.1 → IsOneOf (Priming pair) calls) → IsOneOf (Priming pair) (call ∷ calls)
  go (inl e) more = absurd (cc e)
  go (inr j) more = apart (one-either (Primed pair) h.0 h.1 j) more
