-- Within one log each key is asked once, and each pair was there or is answered.
use Rattle.std.proofs.Common.{◌≡◌, ℕ, ◌⊎◌, List, [], ◌∷◌, inl, inr, sym, ◌∙◌, refl, Option, Some, None}
use Rattle.std.specs.Option.{option_or}
use Rattle.load_memory.specs.Keys.{KeyOf}
use Rattle.load_memory.specs.Outcomes.{OutcomeOf}
use Rattle.load_memory.specs.Pairs.{look}
use Rattle.load_memory.specs.Replies.{ReplyOf}
use Rattle.load_queue.specs.Answers.{AnswerOf}
use Rattle.execution.specs.Loads.{Memory, read, IsOneOf, Extends}
use Rattle.execution.specs.Program.{Program, needs}
use Rattle.execution.specs.Front.{front}
use Rattle.execution.specs.Rounds.{RuleOf, modes_of, round_orders, pairs_of, after_round, AreRounds, AreLimited}
use Rattle.execution.specs.Sessions.{Cell, AreApart, order_cells, AreMissing, asked_cells, IsAnsweredIn}
use Rattle.execution.proofs.Same.{one-either}
use Rattle.execution.proofs.ChainLaws.{extends-trans}
use Rattle.execution.proofs.RoundLaws.{stored-extends}
use Rattle.execution.proofs.ReplyLaws.{make, look-member, pairs-from, append-apart}
use Rattle.execution.proofs.TwiceLaws.{absent, together, asked-outcome}

none-before : (M N : Memory) (loader : ℕ) (key : KeyOf) → Extends M N → N loader key ≡ None → M loader key ≡ None
none-before M N loader key ext none = go (M loader key) refl
  where
    go : (r : Option OutcomeOf) → M loader key ≡ r → M loader key ≡ None
    go None e = e
    go (Some o) e = absurd (cc (sym none ∙ ext loader key o e))

module _ (may : ℕ → List KeyOf → AnswerOf → Type 0) (rules : List RuleOf) (p : Program) where
  lacks : (M : Memory) → AreMissing (modes_of rules) M (front (modes_of rules) p M)
  lacks M = (needs p (read (modes_of rules) M), refl)

  pub rounds-extend : (M : Memory) (rounds : List (List ReplyOf)) (end : Memory) → AreRounds may rules p M rounds end → Extends M end
  rounds-extend M [] end h = λ loader key o e. h loader key ∙ e
  rounds-extend M (r ∷ rs) end h = extends-trans M (after_round rules M r) end (stored-extends may M (pairs_of (modes_of rules) r)) (rounds-extend (after_round rules M r) rs end h.2)

  -- says what any of the rounds asks is absent at first
  asked-absent : AreLimited rules → (M : Memory) (rounds : List (List ReplyOf)) (end : Memory) (c : Cell) → AreRounds may rules p M rounds end → IsOneOf c (asked_cells rules p M rounds) → M c.0 c.1 ≡ None
  asked-absent positive M [] end c h i = absurd i
  asked-absent positive M (r ∷ rs) end c h i =
      let modes = modes_of rules in
      elim (one-either c (order_cells (modes_of rules) (round_orders rules (front (modes_of rules) p M))) (asked_cells rules p (after_round rules M r) rs) i) [
        | inl a ↦ absent rules M (front (modes_of rules) p M) c positive (lacks M) a
        | inr b ↦ none-before M (after_round rules M r) c.0 c.1 (stored-extends may M (pairs_of (modes_of rules) r)) (asked-absent positive (after_round rules M r) rs end c h.2 b)
      ]

  pub asked-once : AreLimited rules → (M : Memory) (rounds : List (List ReplyOf)) (end : Memory) → AreRounds may rules p M rounds end → AreApart (asked_cells rules p M rounds)
  asked-once positive M [] end h = tt
  asked-once positive M (r ∷ rs) end h =
      append-apart (order_cells (modes_of rules) (round_orders rules (front (modes_of rules) p M))) (asked_cells rules p (after_round rules M r) rs)
      (together rules M (front (modes_of rules) p M) positive (lacks M)) (asked-once positive (after_round rules M r) rs end h.2)
      (λ c i j. once c (asked-outcome may rules M (front (modes_of rules) p M) r c positive (lacks M, h.1) i) (asked-absent positive (after_round rules M r) rs end c h.2 j))
    where
      once : (c : Cell) → (o : OutcomeOf) × (look (pairs_of (modes_of rules) r) c.0 c.1 ≡ Some o) × (after_round rules M r c.0 c.1 ≡ Some o) → after_round rules M r c.0 c.1 ≡ None → ⊥
      once c got none = cc (sym none ∙ got.2)

  pub answered-in : (M : Memory) (rounds : List (List ReplyOf)) (end : Memory) (loader : ℕ) (key : KeyOf) (o : OutcomeOf) → AreRounds may rules p M rounds end → end loader key ≡ Some o
      → (M loader key ≡ Some o) ⊎ IsAnsweredIn (modes_of rules) (make loader key o) rounds
  answered-in M [] end loader key o h e = inl (sym (h loader key) ∙ e)
  answered-in M (r ∷ rs) end loader key o h e = elim (answered-in (after_round rules M r) rs end loader key o h.2 e) [
    | inl a ↦ now (M loader key) refl a
    | inr b ↦ inr (b.0, inr b.1, b.2, b.3, b.4)
  ]
    where
      now : (x : Option OutcomeOf) → M loader key ≡ x → option_or (M loader key) (look (pairs_of (modes_of rules) r) loader key) ≡ Some o → (M loader key ≡ Some o) ⊎ IsAnsweredIn (modes_of rules) (make loader key o) (r ∷ rs)
      now None f a =
          let got : look (pairs_of (modes_of rules) r) loader key ≡ Some o = rw f at a in
          let from = pairs-from (modes_of rules) (make loader key o) r (look-member loader key o (pairs_of (modes_of rules) r) got) in
          inr (r, inl refl, from.0, from.1, from.2)
      now (Some x) f a = let same : Some x ≡ Some o = rw f at a in inl (f ∙ same)
