-- Over sources that answer key by key a lawful log is there: while something is missing there is a round to be made, and rounds are
-- at most as many as direct execution's chain has loads.
use Rattle.std.proofs.Common.{◌≡◌, ◌≢◌, ◌⊎◌, ◌≤◌, ℕ, zero, suc, false, List, [], ◌∷◌, map, length, inl, inr, sym, ap, refl, Option, Some, None, arith}
use Rattle.load_memory.specs.Keys.{KeyOf}
use Rattle.load_memory.specs.Outcomes.{ItemOf, OutcomeOf, known}
use Rattle.load_memory.specs.Replies.{ReplyOf}
use Rattle.load_queue.specs.Answers.{given, outcomes_of}
use Rattle.load_queue.specs.Orders.{OrderOf}
use Rattle.execution.specs.Loads.{Load, Memory, Reader, read, AnswersMore}
use Rattle.execution.specs.Program.{Program, Programs, Is, Read, Under, End, With, tree, trees, chain, all_chain}
use Rattle.execution.specs.Completion.{AnsweredOf, is_open, any_open}
use Rattle.execution.specs.Front.{front}
use Rattle.execution.specs.Executed.{exec, completed}
use Rattle.execution.specs.Rounds.{RuleOf, modes_of, key_by_key, round_orders, AreReplies, after_round, AreRounds, IsLawful, direct, RespectsCacheKeys, HoldsItems, AreLimited, HasLoaders}
use Rattle.execution.proofs.Monotone.{exec-whole}
use Rattle.execution.proofs.RoundLaws.{rounds-chain}
use Rattle.load_rounds.proofs.Holding.{rounds-held}

pub none-or : {A : Type 0} (xs : List A) → (xs ≡ []) ⊎ (xs ≢ [])
none-or [] = inl refl
none-or (x ∷ xs) = inr (λ e. cc e)

-- ---- a larger reader reads a chain as long

chain-read : (load : Load) (next : OutcomeOf → Program) (R Q : Reader) → AnswersMore R Q → (r : Option OutcomeOf) → R load ≡ r → ((o : OutcomeOf) → chain (next o) R ≤ chain (next o) Q) → chain (Read load next) R ≤ chain (Read load next) Q
chain-read load next R Q more None e ih = rw e (omega arith)
chain-read load next R Q more (Some o) e ih = let f : Q load ≡ Some o = more load o e in let i : chain (next o) R ≤ chain (next o) Q = ih o in rw (e, f) (omega arith)

mutual
  pub chain-more : (p : Program) (R Q : Reader) → AnswersMore R Q → chain p R ≤ chain p Q
  chain-more (Is own) R Q more = omega arith
  chain-more (Read load next) R Q more = chain-read load next R Q more (R load) refl (λ o. chain-more (next o) R Q more)
  chain-more (Under kind below) R Q more = all-chain-more below R Q more

  all-chain-more : (ps : Programs) (R Q : Reader) → AnswersMore R Q → all_chain ps R ≤ all_chain ps Q
  all-chain-more End R Q more = omega arith
  all-chain-more (With position p rest) R Q more = let a = chain-more p R Q more in let b = all-chain-more rest R Q more in omega (arith, a, b)

module _ (item : ℕ → KeyOf → ItemOf) where
  -- ---- direct execution leaves nothing open

  mutual
    closed : (p : Program) → is_open (tree p (direct item)) ≡ false
    closed (Is own) = refl
    closed (Read load next) = closed (next (known (item load.loader load.key)))
    closed (Under kind below) = all-closed below

    all-closed : (ps : Programs) → any_open (trees ps (direct item)) ≡ false
    all-closed End = refl
    all-closed (With position p rest) = let a = closed p in let b = all-closed rest in rw (a, b) refl

  pub direct-some : (p : Program) → (answered : AnsweredOf) × (exec p (direct item) ≡ Some answered)
  direct-some p = (completed (tree p (direct item)), exec-whole p (direct item) (closed p))

  -- ---- a round can be made

  replies-to : List OrderOf → List ReplyOf
  replies-to os = map (λ (o : OrderOf). record { loader = o.loader; keys = o.keys; outcomes = outcomes_of (length o.keys) (given (map (item o.loader) o.keys)) }) os

  replies-there : (os : List OrderOf) → AreReplies (key_by_key item) os (replies-to os)
  unfolding replies-to
  replies-there [] = tt
  replies-there (o ∷ os) = (record { loader = refl; keys = refl; answer = given (map (item o.loader) o.keys); may_be = refl; outcomes = refl }, replies-there os)

  module _ (rules : List RuleOf) (p : Program) (alike : RespectsCacheKeys (modes_of rules) item) where
    -- `many` rounds, unless fewer are enough
    record Made (M : Memory) (many : ℕ) : Type 0 where
      rounds : List (List ReplyOf)
      end : Memory
      are : AreRounds (key_by_key item) rules p M rounds end
      enough : (front (modes_of rules) p end ≡ []) ⊎ (length rounds ≡ many)

    made : (many : ℕ) (M : Memory) → Made M many
    made zero M = record { rounds = []; end = M; are = λ loader key. refl; enough = inr refl }
    made (suc many) M =
        let replies = replies-to (round_orders rules (front (modes_of rules) p M)) in
        let rest = made many (after_round rules M replies) in
        elim (none-or (front (modes_of rules) p M)) [
          | inl none ↦ record { rounds = []; end = M; are = λ loader key. refl; enough = inl none }
          | inr some ↦ record {
            rounds = replies ∷ rest.rounds;
            end = rest.end;
            are = (some, replies-there (round_orders rules (front (modes_of rules) p M)), rest.are);
            enough = elim rest.enough [ inl e ↦ inl e | inr e ↦ inr (ap suc e) ];
          }
        ]

    pub log-there : (M : Memory) → HoldsItems (modes_of rules) item M → AreLimited rules → HasLoaders (length rules) p → (rounds : List (List ReplyOf)) × (end : Memory) × IsLawful (key_by_key item) rules p M rounds end
    log-there M held limited loaders =
        let m = made (suc (chain p (direct item))) M in
        let at : HoldsItems (modes_of rules) item m.end = rounds-held item rules p alike M m.rounds m.end held m.are in
        let more : AnswersMore (read (modes_of rules) m.end) (direct item) = λ load o f. ap (λ x. Some x) (sym (at load.loader load.key o f)) in
        let few : length m.rounds ≤ chain p (read (modes_of rules) m.end) = rounds-chain (key_by_key item) rules p M m.rounds m.end limited loaders m.are in
        let long = chain-more p (read (modes_of rules) m.end) (direct item) more in
        (m.rounds, m.end, (m.are, elim m.enough [ inl e ↦ e | inr e ↦ absurd (omega (arith, e, few, long)) ]))
