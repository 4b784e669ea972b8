-- Each of several programs that share rounds keeps its own bounds.
use Rattle.std.proofs.Common.{◌≡◌, ◌≢◌, ◌||◌, ℕ, ◌≤◌, Bool, true, false, ◌⊎◌, List, [], ◌∷◌, length, inl, inr, sym, ◌∙◌, ap, refl, arith}
use Rattle.load_memory.specs.Keys.{KeyOf}
use Rattle.load_memory.specs.Replies.{ReplyOf}
use Rattle.load_memory.specs.declared.key.KeyMode.{KeyMode}
use Rattle.load_queue.specs.Answers.{AnswerOf}
use Rattle.execution.specs.Loads.{Load, Reader, Memory, read, IsOneOf, Extends}
use Rattle.execution.specs.Program.{Kind, Program, Under, Programs, End, With, tree, trees, needs, all_needs, chain}
use Rattle.execution.specs.Completion.{is_open, any_open}
use Rattle.execution.specs.Front.{front}
use Rattle.execution.specs.Rounds.{RuleOf, modes_of, pairs_of, after_round, AreRounds, IsSparing, AreLimited, HasLoaders, IsBelow, one_unless_empty, own_rounds}
use Rattle.execution.proofs.Same.{one-left, one-right}
use Rattle.execution.proofs.Monotone.{front-open, front-stays}
use Rattle.execution.proofs.ChainLaws.{Fills, IsFilling, covered, front-needs, extends-self, extends-trans, filling-chain, filling-sparing}
use Rattle.execution.proofs.RoundLaws.{round-fills, stored-extends}

below-needs : (p : Program) (ps : Programs) (R : Reader) (l : Load) → IsBelow p ps → IsOneOf l (needs p R) → IsOneOf l (all_needs ps R)
below-needs p End R l h i = absurd h
below-needs p (With position q rest) R l (inl e) i = one-left l (needs q R) (all_needs rest R) (rw (← e) i)
below-needs p (With position q rest) R l (inr h) i = one-right l (needs q R) (all_needs rest R) (below-needs p rest R l h i)

neither : (a b : Bool) → (a || b) ≡ false → (a ≡ false) × (b ≡ false)
neither true b h = absurd (cc h)
neither false b h = (refl, h)

below-open : (p : Program) (ps : Programs) (R : Reader) → IsBelow p ps → any_open (trees ps R) ≡ false → is_open (tree p R) ≡ false
below-open p End R h e = absurd h
below-open p (With position q rest) R (inl s) e = ap (λ t. is_open (tree t R)) s ∙ (neither (is_open (tree q R)) (any_open (trees rest R)) e).0
below-open p (With position q rest) R (inr i) e = below-open p rest R i (neither (is_open (tree q R)) (any_open (trees rest R)) e).1

pub below-front : (modes : List KeyMode) (kind : Kind) (ps : Programs) (p : Program) (M : Memory) → IsBelow p ps → front modes (Under kind ps) M ≡ [] → front modes p M ≡ []
below-front modes kind ps p M h e = (front-open modes p M).1 (below-open p ps (read modes M) h ((front-open modes (Under kind ps) M).0 e))

empty-or-not : (ls : List Load) → ((ls ≡ []) × (one_unless_empty ls ≡ 0)) ⊎ ((ls ≢ []) × (one_unless_empty ls ≡ 1))
empty-or-not [] = inl (refl, refl)
empty-or-not (l ∷ ls) = inr ((λ e. cc e), refl)

module _ (may : ℕ → List KeyOf → AnswerOf → Type 0) (rules : List RuleOf) (kind : Kind) (ps : Programs) (p : Program) (positive : AreLimited rules) (within : HasLoaders (length rules) (Under kind ps)) (among : IsBelow p ps) where
  rounds-extend : (M : Memory) (rounds : List (List ReplyOf)) (end : Memory) → AreRounds may rules (Under kind ps) M rounds end → Extends M end
  rounds-extend M [] end h = λ loader key o e. h loader key ∙ e
  rounds-extend M (r ∷ rs) end h = extends-trans M (after_round rules M r) end (stored-extends may M (pairs_of (modes_of rules) r)) (rounds-extend (after_round rules M r) rs end h.2)

  own-none : (M : Memory) (rounds : List (List ReplyOf)) (end : Memory) → front (modes_of rules) p M ≡ [] → AreRounds may rules (Under kind ps) M rounds end → own_rounds rules p M rounds ≡ 0
  own-none M [] end e h = refl
  own-none M (r ∷ rs) end e h =
      let next : front (modes_of rules) p (after_round rules M r) ≡ [] = front-stays (modes_of rules) p M (after_round rules M r) (stored-extends may M (pairs_of (modes_of rules) r)) e in
      rw (e, own-none (after_round rules M r) rs end next h.2) refl

  own-fills : (M : Memory) (round : List ReplyOf) → Fills (modes_of rules) (Under kind ps) M (after_round rules M round) → Fills (modes_of rules) p M (after_round rules M round)
  own-fills M round fills = λ l i. covered (modes_of rules) (Under kind ps) M (after_round rules M round) (stored-extends may M (pairs_of (modes_of rules) round)) fills l
      (below-needs p ps (read (modes_of rules) M) l among (front-needs (modes_of rules) p M l i))

  -- the memories of its own rounds, the last of them, and what holds of them
  abbrev Own : Memory → List (List ReplyOf) → Memory → Type 0
  Own M rounds end = (Ns : List Memory) × (mid : Memory) × IsFilling (modes_of rules) p M Ns mid × Extends mid end × (length Ns ≡ own_rounds rules p M rounds)

  own-filling : (M : Memory) (rounds : List (List ReplyOf)) (end : Memory) → AreRounds may rules (Under kind ps) M rounds end → Own M rounds end
  own-filling M [] end h = ([], M, refl, rounds-extend M [] end h, refl)
  own-filling M (r ∷ rs) end h = go (empty-or-not (front (modes_of rules) p M)) (own-filling (after_round rules M r) rs end h.2)
    where
      next : Memory
      next = after_round rules M r

      go : ((front (modes_of rules) p M ≡ []) × (one_unless_empty (front (modes_of rules) p M) ≡ 0)) ⊎ ((front (modes_of rules) p M ≢ []) × (one_unless_empty (front (modes_of rules) p M) ≡ 1)) → Own (after_round rules M r) rs end → Own M (r ∷ rs) end
      go (inl e) later = ([], M, refl, rounds-extend M (r ∷ rs) end h, sym (own-none M (r ∷ rs) end e.0 h))
      go (inr e) later = (
        after_round rules M r ∷ later.0,
        later.1,
        (e.0, stored-extends may M (pairs_of (modes_of rules) r), own-fills M r (round-fills may rules (Under kind ps) M r positive within h.1), later.2),
        later.3,
        omega (arith, e.1, later.4),
      )

  pub own-chain : (M : Memory) (rounds : List (List ReplyOf)) (end : Memory) → AreRounds may rules (Under kind ps) M rounds end → own_rounds rules p M rounds ≤ chain p (read (modes_of rules) end)
  own-chain M rounds end h =
      let own : Own M rounds end = own-filling M rounds end h in
      omega (arith, own.4, filling-chain (modes_of rules) p M own.0 own.1 end own.2 own.3)

  pub own-sparing : (M : Memory) (rounds : List (List ReplyOf)) (end : Memory) (steps : List Memory) → AreRounds may rules (Under kind ps) M rounds end → IsSparing (modes_of rules) p end M steps → own_rounds rules p M rounds ≤ length steps
  own-sparing M rounds end steps h run =
      let own : Own M rounds end = own-filling M rounds end h in
      omega (arith, own.4, filling-sparing (modes_of rules) p M M own.1 end own.0 steps (extends-self M) own.2 own.3 run)
