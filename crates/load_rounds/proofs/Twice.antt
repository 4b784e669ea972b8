-- No key twice: a cell that was asked is known until it is cleared or its failed batch is forgotten, and what is known isn't asked.
use Rattle.std.proofs.Common.{◌≡◌, ℕ, zero, suc, Bool, true, false, List, [], ◌∷◌, ◌++◌, map, length, drop, inl, inr, ◌⊎◌, sym, ◌∙◌, ap, refl, Option, Some, None}
use Rattle.std.specs.Prelude.{slice_get}
use Rattle.std.specs.List.{list_any}
use Rattle.load_memory.specs.Keys.{KeyOf}
use Rattle.load_memory.specs.Outcomes.{ItemOf, OutcomeOf, known, batch_fault}
use Rattle.load_memory.specs.Replies.{ReplyOf}
use Rattle.load_queue.specs.Answers.{AnswerOf}
use Rattle.load_queue.specs.Loaders.{LoaderOf, AskedOf, unasked}
use Rattle.execution.specs.Loads.{Load, Memory, IsOneOf}
use Rattle.execution.specs.Rounds.{RuleOf, modes_of, round_orders, may_at, unless_failed, AreLimited}
use Rattle.execution.specs.Sessions.{Cell, AreApart, order_cells, Step, Forgot, AskedLoads, Lost, Primed, Cleared, ClearedAll, Restarted, after, IsStep, AreSteps, clears}
use Rattle.execution.proofs.Same.{one-either}
use Rattle.execution.proofs.ReplyLaws.{append-apart}
use Rattle.execution.proofs.TwiceLaws.{absent, asked-outcome}
use Rattle.load_rounds.specs.Sessions.{StateOf, rules_of, session_modes, after_step}
use Rattle.load_rounds.specs.Histories.{Call, Priming, Clearing, ClearingAll, Forgetting, Restarting, clears_at, AreAsking, IsMadeOf, AreMadeOf, entered_cells, log_in, log_of, gained, stored_gained, gained_cells, IsEntered, IsFailedAt, Leads, IsCall, AreCalls}
use Rattle.load_rounds.proofs.GoingOn.{or-left}
use Rattle.load_rounds.proofs.Stepping.{steps-rules}
use Rattle.load_rounds.proofs.Histories.{memory_after, memory-append, are-after, leads-rules, leads-memory, call-leads, calls-lead}
use Rattle.load_rounds.proofs.Gaining.{step_cells, all_cells, AllGoOn, gained-cells, asked-apart, asked-orders, lost-cells, AskedIn, asked-in}

-- nothing is cleared
none-append : (c : Cell) (xs ys : List Step) → list_any (clears c) xs ≡ false → list_any (clears c) ys ≡ false → list_any (clears c) (xs ++ ys) ≡ false
none-append c [] ys h k = k
none-append c (x ∷ xs) ys h k = let b = or-left (clears c x) (list_any (clears c) xs) h in rw b.0 (none-append c xs ys b.1 k)

asking-clears : (c : Cell) (steps : List Step) → AreAsking steps → list_any (clears c) steps ≡ false
asking-clears c [] h = refl
asking-clears c (AskedLoads loads replies ∷ steps) h = asking-clears c steps h
asking-clears c (Lost loads ∷ steps) h = asking-clears c steps h
asking-clears c steps h = absurd h

call-clears : (c : Cell) (call : Call) (own : List Step) → IsMadeOf call own → clears_at c call ≡ false → list_any (clears c) own ≡ false
call-clears c (Priming pair) own h k = rw h refl
call-clears c (Clearing cell) own h k = rw (h, k) refl
call-clears c (ClearingAll loader) own h k = rw (h, k) refl
call-clears c Forgetting own h k = rw h refl
call-clears c Restarting own h k = absurd (cc k)
call-clears c call own h k = asking-clears c own h

calls-clear : (c : Cell) (calls : List Call) (steps : List Step) → AreMadeOf calls steps → list_any (clears_at c) calls ≡ false → list_any (clears c) steps ≡ false
calls-clear c [] steps h k = rw h refl
calls-clear c (call ∷ calls) steps h k =
    let b = or-left (clears_at c call) (list_any (clears_at c) calls) k in
    rw h.2 (none-append c h.0 h.1 (call-clears c call h.0 h.3 b.0) (calls-clear c calls h.1 h.4 b.1))

-- an item that is known stays known
module _ (rules : List RuleOf) (c : Cell) where
  kept-step : (item : ItemOf) (M : Memory) (step : Step) → M c.0 c.1 ≡ Some (known item) → clears c step ≡ false → after rules M step c.0 c.1 ≡ Some (known item)
  kept-step item M Forgot e h = ap unless_failed e
  kept-step item M (Lost loads) e h = e
  kept-step item M (Cleared d) e h = rw h e
  kept-step item M (ClearedAll loader) e h = rw h e
  kept-step item M Restarted e h = absurd (cc h)
  kept-step item M step e h = rw e refl

  -- an item until its key is cleared
  kept : (item : ItemOf) (M : Memory) (steps : List Step) → M c.0 c.1 ≡ Some (known item) → list_any (clears c) steps ≡ false → memory_after rules M steps c.0 c.1 ≡ Some (known item)
  kept item M [] e h = e
  kept item M (step ∷ steps) e h =
      let b = or-left (clears c step) (list_any (clears c) steps) h in
      kept item (after rules M step) steps (kept-step item M step e b.0) b.1

  -- anything while keys are asked
  asking-keeps : (o : OutcomeOf) (M : Memory) (steps : List Step) → AreAsking steps → M c.0 c.1 ≡ Some o → memory_after rules M steps c.0 c.1 ≡ Some o
  asking-keeps o M [] h e = e
  asking-keeps o M (AskedLoads loads replies ∷ steps) h e = asking-keeps o (after rules M (AskedLoads loads replies)) steps h (rw e refl)
  asking-keeps o M (Lost loads ∷ steps) h e = asking-keeps o M steps h e
  asking-keeps o M steps h e = absurd h

asking-parts : (xs ys : List Step) → AreAsking (xs ++ ys) → AreAsking xs × AreAsking ys
asking-parts [] ys h = (tt, h)
asking-parts (AskedLoads loads replies ∷ xs) ys h = asking-parts xs ys h
asking-parts (Lost loads ∷ xs) ys h = asking-parts xs ys h
asking-parts xs ys h = absurd h

not-one : (step : Step) (before rest : List Step) (loads : List Load) (replies : List ReplyOf) → (AskedLoads loads replies ≡ step → ⊥) → step ∷ [] ≡ before ++ AskedLoads loads replies ∷ rest → ⊥
not-one step [] rest loads replies ne e = ne (cc e)
not-one step (b ∷ []) rest loads replies ne e = cc e
not-one step (b ∷ c ∷ bs) rest loads replies ne e = cc e

not-none : (before rest : List Step) (loads : List Load) (replies : List ReplyOf) → [] ≡ before ++ AskedLoads loads replies ∷ rest → ⊥
not-none [] rest loads replies e = cc e
not-none (b ∷ bs) rest loads replies e = cc e

-- a call that asks makes rounds alone
asks-alone : (call : Call) (own before rest : List Step) (loads : List Load) (replies : List ReplyOf) → IsMadeOf call own → own ≡ before ++ AskedLoads loads replies ∷ rest → AreAsking own
asks-alone (Priming pair) own before rest loads replies h e = absurd (not-one (Primed pair) before rest loads replies (λ s. cc s) (sym h ∙ e))
asks-alone (Clearing cell) own before rest loads replies h e = absurd (not-one (Cleared cell) before rest loads replies (λ s. cc s) (sym h ∙ e))
asks-alone (ClearingAll loader) own before rest loads replies h e = absurd (not-one (ClearedAll loader) before rest loads replies (λ s. cc s) (sym h ∙ e))
asks-alone Forgetting own before rest loads replies h e = absurd (not-none before rest loads replies (sym h ∙ e))
asks-alone Restarting own before rest loads replies h e = absurd (not-one Restarted before rest loads replies (λ s. cc s) (sym h ∙ e))
asks-alone call own before rest loads replies h e = h

-- rounds alone leave the entries of the logs
asking-go-on : (steps : List Step) → AreAsking steps → AllGoOn steps
asking-go-on [] h = tt
asking-go-on (AskedLoads loads replies ∷ steps) h = (tt, asking-go-on steps h)
asking-go-on (Lost loads ∷ steps) h = (tt, asking-go-on steps h)
asking-go-on steps h = absurd h

module _ {S : Type 0} (may : S → List KeyOf → AnswerOf → Type 0) where
  drop-none : (n : ℕ) (es : List AskedOf) → es ≡ [] → drop n es ≡ []
  drop-none zero [] e = refl
  drop-none (suc n) [] e = refl
  drop-none n (x ∷ es) e = absurd (cc e)

  none-in : (ls : List (LoaderOf S)) (n : ℕ) → log_in (slice_get (map unasked ls) n) ≡ []
  none-in (l ∷ ls) (suc n) = none-in ls n
  none-in ls n = refl

  -- a session that starts again gains no entry
  restart-gains : (old new : StateOf S) (n : ℕ) → IsCall may Restarting old new → gained_cells n old new ≡ []
  restart-gains old new n h =
      let log : log_of new n ≡ [] = ap (λ (s : StateOf S). log_of s n) h ∙ none-in old.loaders n in
      let none : gained n old new ≡ [] = drop-none (length (log_of old n)) (log_of new n) log in
      rw none refl

  -- a call whose entries ask something leaves those that were there
  call-goes-on : (call : Call) (old new : StateOf S) (c : Cell) → IsCall may call old new → (own : List Step) → IsMadeOf call own → IsEntered c old new → AllGoOn own
  call-goes-on (Priming pair) old new c h own made one = rw made (tt, tt)
  call-goes-on (Clearing cell) old new c h own made one = rw made (tt, tt)
  call-goes-on (ClearingAll loader) old new c h own made one = rw made (tt, tt)
  call-goes-on Forgetting old new c h own made one = rw made tt
  call-goes-on Restarting old new c h own made one = let none = rw (restart-gains old new c.0 h) at one in absurd none
  call-goes-on call old new c h own made one = asking-go-on own made

-- the round of a call that asks a cell: what came before it in the call, and after it
record Found {S : Type 0} (may : S → List KeyOf → AnswerOf → Type 0) (old new : StateOf S) (c : Cell) : Type 0 where
  pub before : List Step
  pub loads : List Load
  pub replies : List ReplyOf
  pub rest : List Step
  pub leads : Leads may old (Forgot ∷ (before ++ AskedLoads loads replies ∷ rest)) new
  pub first : AreAsking before
  pub last : AreAsking rest
  pub ordered : IsOneOf c (order_cells (session_modes old) (round_orders (rules_of old) loads))

module _ {S : Type 0} (may : S → List KeyOf → AnswerOf → Type 0) where
  found : (call : Call) (old new : StateOf S) (c : Cell) → AreLimited (rules_of old) → IsCall may call old new → IsEntered c old new → Found may old new c
  found call old new c limited h one =
      let made = call-leads may call old new h in
      let on = call-goes-on may call old new c h made.0 made.2 one in
      let cells = gained-cells (session_modes old) c.0 may old new (Forgot ∷ made.0) (tt, on) made.1 in
      go made.0 made.1 made.2 (asked-in (session_modes old) c.0 old (Forgot ∷ made.0) c limited (rw cells at one))
    where
      split : (own before rest : List Step) (loads : List Load) (replies : List ReplyOf) → Leads may old (Forgot ∷ own) new → IsMadeOf call own → Forgot ∷ own ≡ before ++ AskedLoads loads replies ∷ rest
          → IsOneOf c (order_cells (session_modes old) (round_orders (rules_of old) loads)) → Found may old new c
      split own [] rest loads replies leads made e ordered = absurd (cc e)
      split own (b ∷ bs) rest loads replies leads made e ordered =
          let same : own ≡ bs ++ AskedLoads loads replies ∷ rest = cc e in
          let alone : AreAsking (bs ++ AskedLoads loads replies ∷ rest) = rw same at (asks-alone call own bs rest loads replies made same) in
          let parts = asking-parts bs (AskedLoads loads replies ∷ rest) alone in
          record { before = bs; loads = loads; replies = replies; rest = rest; leads = rw same at leads; first = parts.0; last = parts.1; ordered = ordered }

      go : (own : List Step) → Leads may old (Forgot ∷ own) new → IsMadeOf call own → AskedIn (session_modes old) c.0 old (Forgot ∷ own) c → Found may old new c
      go own leads made at = split own at.before at.rest at.loads at.replies leads made at.is at.ordered

  -- the memory before the round
  abbrev before_round : (old new : StateOf S) (c : Cell) → Found may old new c → Memory
  before_round old new c f = memory_after (rules_of old) old.memory (Forgot ∷ f.before)

  round-step : (old new : StateOf S) (c : Cell) (f : Found may old new c) → IsStep (may_at may old.loaders) (rules_of old) (before_round old new c f) (AskedLoads f.loads f.replies)
  round-step old new c f = (are-after (may_at may old.loaders) (rules_of old) old.memory (Forgot ∷ f.before) (AskedLoads f.loads f.replies ∷ f.rest) f.leads.may_be).0

  -- a key that was asked is known at the end of the call
  known-after : (old new : StateOf S) (c : Cell) → AreLimited (rules_of old) → Found may old new c → (o : OutcomeOf) × (new.memory c.0 c.1 ≡ Some o)
  known-after old new c limited f =
      let rules = rules_of old in
      let M = before_round old new c f in
      let got = asked-outcome (may_at may old.loaders) rules M f.loads f.replies c limited (round-step old new c f) f.ordered in
      let end = asking-keeps rules c got.0 (after rules M (AskedLoads f.loads f.replies)) f.rest f.last got.2 in
      let memory = leads-memory may old new (Forgot ∷ (f.before ++ AskedLoads f.loads f.replies ∷ f.rest)) f.leads ∙ memory-append rules old.memory (Forgot ∷ f.before) (AskedLoads f.loads f.replies ∷ f.rest) in
      (got.0, ap (λ (N : Memory). N c.0 c.1) memory ∙ end)

  -- a known key isn't asked
  unknown-before : (old new : StateOf S) (c : Cell) (item : ItemOf) → AreLimited (rules_of old) → Found may old new c → old.memory c.0 c.1 ≡ Some (known item) → ⊥
  unknown-before old new c item limited f e =
      let rules = rules_of old in
      let M = before_round old new c f in
      let there = kept rules c item old.memory (Forgot ∷ f.before) e (asking-clears c f.before f.first) in
      let none = absent rules M f.loads c limited (round-step old new c f).0 f.ordered in
      cc (sym there ∙ none)

  pub again : (old mid late new : StateOf S) (first last : Call) (between : List Call) (c : Cell) → AreLimited (rules_of old) → IsCall may first old mid → AreCalls may between mid late → IsCall may last late new
      → IsEntered c old mid → IsEntered c late new → (list_any (clears_at c) between ≡ true) ⊎ IsFailedAt c mid
  again old mid late new first last between c limited h calls k one two =
      go outcome.0 outcome.1 (list_any (clears_at c) between) refl
    where
      lead : (steps : List Step) × Leads may mid steps late × AreMadeOf between steps
      lead = calls-lead may between mid late calls

      own : (steps : List Step) × Leads may old (Forgot ∷ steps) mid × IsMadeOf first steps
      own = call-leads may first old mid h

      outcome : (o : OutcomeOf) × (mid.memory c.0 c.1 ≡ Some o)
      outcome = known-after old mid c limited (found first old mid c limited h one)

      mid-rules : rules_of mid ≡ rules_of old
      mid-rules = leads-rules may old mid (Forgot ∷ own.0) own.1

      late-limited : AreLimited (rules_of late)
      late-limited = rw (leads-rules may mid late lead.0 lead.1 ∙ mid-rules) limited

      go : (o : OutcomeOf) → mid.memory c.0 c.1 ≡ Some o → (b : Bool) → list_any (clears_at c) between ≡ b → (list_any (clears_at c) between ≡ true) ⊎ IsFailedAt c mid
      go o e true cleared = inl cleared
      go (batch_fault text) e false cleared = inr (text, e)
      go (known item) e false cleared =
          let there = kept (rules_of mid) c item mid.memory lead.0 e (calls-clear c between lead.0 lead.2 cleared) in
          let known_late = ap (λ (N : Memory). N c.0 c.1) (leads-memory may mid late lead.0 lead.1) ∙ there in
          absurd (unknown-before late new c item late-limited (found last late new c late-limited k two) known_late)

-- the rounds of one call ask no cell twice
module _ {S : Type 0} (may : ℕ → List KeyOf → AnswerOf → Type 0) (rules : List RuleOf) (n : ℕ) (limited : AreLimited rules) where
  abbrev AreFresh : StateOf S → List Step → Type 0
  AreFresh s steps = AreApart (all_cells (modes_of rules) n s steps) × ((c : Cell) → IsOneOf c (all_cells (modes_of rules) n s steps) → s.memory c.0 c.1 ≡ None)

  round-fresh : (s : StateOf S) (loads : List Load) (replies : List ReplyOf) (steps : List Step) → rules_of s ≡ rules → IsStep may rules s.memory (AskedLoads loads replies)
      → AreFresh (after_step s (AskedLoads loads replies)) steps → AreFresh s (AskedLoads loads replies ∷ steps)
  round-fresh s loads replies steps same h later = (
    append-apart (step_cells (modes_of rules) n s (AskedLoads loads replies)) (all_cells (modes_of rules) n (after_step s (AskedLoads loads replies)) steps)
        (asked-apart (modes_of rules) n s loads replies s.memory own h.0) later.0 (λ c i j. clash c (there c i) (later.1 c j)),
    λ c i. elim (one-either c (step_cells (modes_of rules) n s (AskedLoads loads replies)) (all_cells (modes_of rules) n (after_step s (AskedLoads loads replies)) steps) i) [
      | inl a ↦ absent rules s.memory loads c limited h.0 (ordered c a)
      | inr b ↦ before c (s.memory c.0 c.1) refl (later.1 c b)
    ],
  )
    where
      own : AreLimited (rules_of s)
      own = rw same limited

      ordered : (c : Cell) → IsOneOf c (step_cells (modes_of rules) n s (AskedLoads loads replies)) → IsOneOf c (order_cells (modes_of rules) (round_orders rules loads))
      ordered c i = rw same at (asked-orders (modes_of rules) n s loads replies c own i)

      there : (c : Cell) → IsOneOf c (step_cells (modes_of rules) n s (AskedLoads loads replies)) → (o : OutcomeOf) × (after (rules_of s) s.memory (AskedLoads loads replies) c.0 c.1 ≡ Some o)
      there c i = let got = asked-outcome may rules s.memory loads replies c limited h (ordered c i) in (got.0, rw same got.2)

      clash : (c : Cell) → ((o : OutcomeOf) × (after (rules_of s) s.memory (AskedLoads loads replies) c.0 c.1 ≡ Some o)) → after (rules_of s) s.memory (AskedLoads loads replies) c.0 c.1 ≡ None → ⊥
      clash c got none = cc (sym none ∙ got.1)

      before : (c : Cell) (x : Option OutcomeOf) → s.memory c.0 c.1 ≡ x → after (rules_of s) s.memory (AskedLoads loads replies) c.0 c.1 ≡ None → s.memory c.0 c.1 ≡ None
      before c None e none = e
      before c (Some o) e none = let kept : after (rules_of s) s.memory (AskedLoads loads replies) c.0 c.1 ≡ Some o = rw e refl in absurd (cc (sym none ∙ kept))

  pub asking-fresh : (s : StateOf S) (steps : List Step) → AreAsking steps → rules_of s ≡ rules → AreSteps may rules s.memory steps → AreFresh s steps
  asking-fresh s [] asking same h = (tt, λ c i. absurd i)
  asking-fresh s (AskedLoads loads replies ∷ steps) asking same h =
      round-fresh s loads replies steps same h.0 (asking-fresh (after_step s (AskedLoads loads replies)) steps asking (steps-rules s (AskedLoads loads replies ∷ []) ∙ same) (rw same h.1))
  asking-fresh s (Lost loads ∷ steps) asking same h =
      let later = asking-fresh (after_step s (Lost loads)) steps asking (steps-rules s (Lost loads ∷ []) ∙ same) h.1 in
      lost-fresh s loads steps later
    where
      lost-fresh : (s : StateOf S) (loads : List Load) (steps : List Step) → AreFresh (after_step s (Lost loads)) steps → AreFresh s (Lost loads ∷ steps)
      lost-fresh s loads steps later = rw (lost-cells (modes_of rules) n s loads) later
  asking-fresh s steps asking same h = absurd asking

module _ {S : Type 0} (may : S → List KeyOf → AnswerOf → Type 0) where
  pub together : (call : Call) (old new : StateOf S) (n : ℕ) → AreLimited (rules_of old) → IsCall may call old new → AreApart (entered_cells (session_modes old) n (stored_gained n old new))
  together call old new n limited h =
      let made = call-leads may call old new h in
      go call made.0 made.1 made.2 (made.1).may_be.1 h
    where
      cells : (own : List Step) → Leads may old (Forgot ∷ own) new → AllGoOn own → entered_cells (session_modes old) n (stored_gained n old new) ≡ all_cells (session_modes old) n old (Forgot ∷ own)
      cells own leads on = gained-cells (session_modes old) n may old new (Forgot ∷ own) (tt, on) leads

      fresh : (own : List Step) → Leads may old (Forgot ∷ own) new → AreAsking own → AreSteps (may_at may old.loaders) (rules_of old) (after (rules_of old) old.memory Forgot) own → AreApart (entered_cells (session_modes old) n (stored_gained n old new))
      fresh own leads made h = rw (cells own leads (asking-go-on own made)) (asking-fresh (may_at may old.loaders) (rules_of old) n limited (after_step old Forgot) own made refl h).0

      go : (call : Call) (own : List Step) → Leads may old (Forgot ∷ own) new → IsMadeOf call own → AreSteps (may_at may old.loaders) (rules_of old) (after (rules_of old) old.memory Forgot) own → IsCall may call old new
          → AreApart (entered_cells (session_modes old) n (stored_gained n old new))
      go Restarting own leads made h is = rw (restart-gains may old new n is) tt
      go (Priming pair) own leads made h is = rw (cells own leads (rw made (tt, tt)), made) tt
      go (Clearing cell) own leads made h is = rw (cells own leads (rw made (tt, tt)), made) tt
      go (ClearingAll loader) own leads made h is = rw (cells own leads (rw made (tt, tt)), made) tt
      go Forgetting own leads made h is = rw (cells own leads (rw made tt), made) tt
      go call own leads made h is = fresh own leads made h
