-- A lawful log is a sparing run itself; and of programs that share rounds one has all of them.
use Rattle.std.proofs.Common.{◌≡◌, ◌≢◌, ◌||◌, ℕ, ◌<◌, Bool, true, false, ◌⊎◌, List, [], ◌∷◌, map, length, inl, inr, sym, ◌∙◌, ap, refl, arith, Option, Some, None}
use Rattle.std.proofs.Math.Path.{fun_ext}
use Rattle.std.specs.Option.{option_or}
use Rattle.load_memory.specs.Keys.{KeyOf}
use Rattle.load_memory.specs.Outcomes.{OutcomeOf}
use Rattle.load_memory.specs.Pairs.{look}
use Rattle.load_memory.specs.Replies.{ReplyOf}
use Rattle.load_memory.specs.declared.key.KeyMode.{KeyMode}
use Rattle.load_queue.specs.Answers.{AnswerOf}
use Rattle.execution.specs.Loads.{Load, Reader, Memory, read, IsOneOf}
use Rattle.execution.specs.Program.{Kind, Program, Under, Programs, End, With, tree, trees}
use Rattle.execution.specs.Completion.{is_open, any_open}
use Rattle.execution.specs.Front.{front}
use Rattle.execution.specs.Rounds.{RuleOf, modes_of, round_orders, pairs_of, AreReplies, after_round, AreRounds, IsSpared, IsSparing, AreLimited, IsBelow, one_unless_empty, own_rounds}
use Rattle.execution.specs.Sessions.{Cell, cell_of, order_cells}
use Rattle.execution.proofs.Monotone.{front-open, front-stays}
use Rattle.execution.proofs.ChainLaws.{front-opens}
use Rattle.execution.proofs.RoundLaws.{memories, stored-extends}
use Rattle.execution.proofs.ReplyLaws.{make, pair_cell, one-map, map-one, look-member, replies-cells, orders-loads}
use Rattle.execution.proofs.OnceLaws.{rounds-extend}

module _ (may : ℕ → List KeyOf → AnswerOf → Type 0) (rules : List RuleOf) (p : Program) (positive : AreLimited rules) where
  -- says what a round adds was missing in the front
  added : (M : Memory) (r : List ReplyOf) (loader : ℕ) (key : KeyOf) (o : OutcomeOf) → AreReplies may (round_orders rules (front (modes_of rules) p M)) r → look (pairs_of (modes_of rules) r) loader key ≡ Some o
      → (load : Load) × IsOneOf load (front (modes_of rules) p M) × ((loader, key) ≡ cell_of (modes_of rules) load)
  added M r loader key o h f =
      let modes : List KeyMode = modes_of rules in
      let ls : List Load = front modes p M in
      let here : IsOneOf (loader, key) (map pair_cell (pairs_of modes r)) = map-one pair_cell (make loader key o) (pairs_of modes r) (look-member loader key o (pairs_of modes r) f) in
      let ordered : IsOneOf (loader, key) (order_cells modes (round_orders rules ls)) = rw (replies-cells may modes (round_orders rules ls) r h) at here in
      one-map (cell_of modes) (loader, key) ls (orders-loads modes 0 rules ls (loader, key) positive ordered)

  pub lawful-run : (M : Memory) (rounds : List (List ReplyOf)) (end : Memory) → AreRounds may rules p M rounds end → front (modes_of rules) p end ≡ [] → IsSparing (modes_of rules) p end M (memories may rules M rounds)
  unfolding memories
  lawful-run M [] end h e =
      let same : end ≡ M = fun_ext (λ loader. fun_ext (λ key. h loader key)) in
      ap (front (modes_of rules) p) (sym same) ∙ e
  lawful-run M (r ∷ rs) end h e = ((λ loader key. step loader key (M loader key) refl (look (pairs_of (modes_of rules) r) loader key) refl), lawful-run (after_round rules M r) rs end h.2 e)
    where
      step : (loader : ℕ) (key : KeyOf) (x : Option OutcomeOf) → M loader key ≡ x → (y : Option OutcomeOf) → look (pairs_of (modes_of rules) r) loader key ≡ y
          → (after_round rules M r loader key ≡ M loader key) ⊎ IsSpared (modes_of rules) p end M (after_round rules M r) loader key
      step loader key (Some o) f y g = inl (rw f refl)
      step loader key None f None g = inl (rw (f, g) refl)
      step loader key None f (Some o) g =
          let l = added M r loader key o h.1 g in
          let now : after_round rules M r loader key ≡ Some o = ap (λ x. option_or x (look (pairs_of (modes_of rules) r) loader key)) f ∙ g in
          let last : end loader key ≡ Some o = rounds-extend may rules p (after_round rules M r) rs end h.2 loader key o now in
          inr (l.0, l.1, sym (ap (λ (c : Cell). c.0) l.2), sym (ap (λ (c : Cell). c.1) l.2), now ∙ sym last)

either : (a b : Bool) → (a || b) ≡ true → (a ≡ true) ⊎ (b ≡ true)
either true b h = inl refl
either false b h = inr h

-- one of the programs is open where some position is
open-below : (ps : Programs) (R : Reader) → any_open (trees ps R) ≡ true → (p : Program) × IsBelow p ps × (is_open (tree p R) ≡ true)
open-below End R h = absurd (cc h)
open-below (With position q rest) R h = elim (either (is_open (tree q R)) (any_open (trees rest R)) h) [
  | inl a ↦ (q, inl refl, a)
  | inr b ↦ let r = open-below rest R b in (r.0, inr r.1, r.2)
]

one-round : (ls : List Load) → ls ≢ [] → one_unless_empty ls ≡ 1
one-round [] h = absurd (h refl)
one-round (l ∷ ls) h = refl

empty-or-not : (ls : List Load) → (ls ≡ []) ⊎ (ls ≢ [])
empty-or-not [] = inl refl
empty-or-not (l ∷ ls) = inr (λ e. cc e)

module _ (may : ℕ → List KeyOf → AnswerOf → Type 0) (rules : List RuleOf) (kind : Kind) (ps : Programs) where
  own-none : (p : Program) (M : Memory) (rounds : List (List ReplyOf)) → front (modes_of rules) p M ≡ [] → own_rounds rules p M rounds ≡ 0
  own-none p M [] e = refl
  own-none p M (r ∷ rs) e =
      let next : front (modes_of rules) p (after_round rules M r) ≡ [] = front-stays (modes_of rules) p M (after_round rules M r) (stored-extends may M (pairs_of (modes_of rules) r)) e in
      rw (e, own-none p (after_round rules M r) rs next) refl

  -- some program has as many rounds as there are
  pub all-rounds : (M : Memory) (rounds : List (List ReplyOf)) (end : Memory) → AreRounds may rules (Under kind ps) M rounds end → 0 < length rounds → (p : Program) × IsBelow p ps × (own_rounds rules p M rounds ≡ length rounds)
  all-rounds M [] end h some = absurd (omega arith)
  all-rounds M (r ∷ []) end h some =
      let modes : List KeyMode = modes_of rules in
      let one = open-below ps (read modes M) (front-opens modes (Under kind ps) M h.0) in
      let ne : front modes one.0 M ≢ [] = λ e. cc (sym one.2 ∙ (front-open modes one.0 M).0 e) in
      (one.0, one.1, omega (arith, one-round (front modes one.0 M) ne))
  all-rounds M (r ∷ s ∷ rs) end h some =
      let later = all-rounds (after_round rules M r) (s ∷ rs) end h.2 (omega arith) in
      (later.0, later.1, go later.0 later.2 (empty-or-not (front (modes_of rules) later.0 M)))
    where
      go : (p : Program) → own_rounds rules p (after_round rules M r) (s ∷ rs) ≡ length (s ∷ rs) → (front (modes_of rules) p M ≡ []) ⊎ (front (modes_of rules) p M ≢ []) → own_rounds rules p M (r ∷ s ∷ rs) ≡ length (r ∷ s ∷ rs)
      go p all (inl e) =
          let next : front (modes_of rules) p (after_round rules M r) ≡ [] = front-stays (modes_of rules) p M (after_round rules M r) (stored-extends may M (pairs_of (modes_of rules) r)) e in
          let zero_rounds : own_rounds rules p (after_round rules M r) (s ∷ rs) ≡ 0 = own-none p (after_round rules M r) (s ∷ rs) next in
          absurd (omega (arith, all, zero_rounds))
      go p all (inr ne) = omega (arith, all, one-round (front (modes_of rules) p M) ne)
