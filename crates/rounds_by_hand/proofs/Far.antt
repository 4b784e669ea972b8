-- Lemmas on how far a hand is, and what its calls make of that.
use Rattle.std.proofs.Common.{◌≡◌, ◌<◌, ◌≤◌, ◌∙◌, ◌⊎◌, ◌+◌, ℕ, List, [], ◌∷◌, map, length, refl, ap, sym, subst, arith, inl, inr, false}
use Rattle.std.proofs.lemmas.List.{length-map}
use Rattle.std.proofs.lemmas.List.Elements.{All-head, All-tail, All-nil, All-cons}
use Rattle.std.proofs.lemmas.List.Sorted.{IsPermutation-refl}
use Rattle.std.specs.Prelude.{All}
use Rattle.load_memory.specs.Keys.{KeyOf}
use Rattle.load_memory.specs.Pairs.{MemoryOf}
use Rattle.load_memory.specs.Replies.{ReplyOf}
use Rattle.load_memory.proofs.ReplyPairs.{All-of_map}
use Rattle.load_queue.specs.Answers.{AnswerOf}
use Rattle.load_queue.specs.Loaders.{LoaderOf, AreOnRecord, marked, stored_in}
use Rattle.load_queue.specs.Orders.{OrderOf, CutOf}
use Rattle.execution.specs.Program.{Program}
use Rattle.execution.specs.Completion.{AnsweredOf}
use Rattle.execution.specs.Front.{keys_for}
use Rattle.execution.specs.Loads.{Load}
use Rattle.execution.specs.Rounds.{RuleOf, rule_of, any_answer, may_at, AreReplies}
use Rattle.execution.specs.Sessions.{Forgot, Lost}
use Rattle.load_rounds.specs.Headline.{StopsAnswering}
use Rattle.load_rounds.specs.Sessions.{SessionOf, StateOf, state_of, rules_of, after_step, of_first}
use Rattle.load_rounds.specs.ByHand.{AreReceived, front_in, orders_in, received, IsAsked, IsRound, IsUnasked}
use Rattle.load_rounds.specs.SharedRounds.{joint}
use Rattle.load_rounds.specs.declared.limits.Limits.{Limits}
use Rattle.load_rounds.specs.Executions.{plans_in}
use Rattle.load_rounds.specs.Runs.{RunOf}
use Rattle.load_rounds.specs.declared.rounds.Stage.TheVariants as stage
use Rattle.load_rounds.proofs.Numbering.{orders-below, orders-loads}
use Rattle.load_rounds.proofs.Runs.{lost-rules, round-asked, round-orders}
use Rattle.load_rounds.proofs.Stages.{stopped-all}
use Rattle.load_rounds.proofs.Stepping.{record-logged, record-many, record-same, record-then}
use Rattle.rounds_by_hand.specs.declared.pending.Pending.{Pending}
use Rattle.rounds_by_hand.specs.declared.pending.Pending.TheVariants.{Out, In}
use Rattle.rounds_by_hand.specs.Pending.{order_in, still_out, is_in, IsReplied}
use Rattle.rounds_by_hand.proofs.Orders.{out-orders, out-away, out-own}
use Rattle.rounds_by_hand.specs.Hands.{FarOf, HandOf, handed, ready, out, over, IsFarWithin, KeepsHand, KeepsLoaders, IsOutWith, HoldsFar, HasGone}

-- orders of which none has a reply
pub none-replied : (may : ℕ → List KeyOf → AnswerOf → Type 0) (ps : List Pending) → All (λ one. is_in one ≡ false) ps → All (IsReplied may) ps
none-replied may [] away = All-nil (IsReplied may)
none-replied may (p ∷ ps) away = All-cons (IsReplied may) p ps (go p (All-head (λ one. is_in one ≡ false) p ps away)) (none-replied may ps (All-tail (λ one. is_in one ≡ false) p ps away))
  where
    go : (one : Pending) → is_in one ≡ false → IsReplied may one
    go (Out order) e = tt
    go (In reply) e = absurd (cc e)

module _ {S : Type 0} where
  -- a session keeps its loaders
  pub same-kept : (old new : StateOf S) → new ≡ old → KeepsLoaders old new
  same-kept old new e = rw e (record { rules = refl; recorded = record-same old.loaders })

  pub then-kept : (old mid new : StateOf S) → KeepsLoaders old mid → KeepsLoaders mid new → KeepsLoaders old new
  then-kept old mid new h k = record { rules = k.rules ∙ h.rules; recorded = record-then old.loaders mid.loaders new.loaders h.recorded k.recorded }

  pub kept-many : (old new : StateOf S) → KeepsLoaders old new → length new.loaders ≡ length old.loaders
  kept-many old new h = record-many old.loaders new.loaders h.recorded

  pub lost-kept : (old new : StateOf S) (loads : List Load) → new ≡ after_step old (Lost loads) → KeepsLoaders old new
  lost-kept old new loads e = rw e (record { rules = lost-rules old loads; recorded = record-logged false (old.rounds + 1) 0 (λ n. keys_for n loads) old.loaders })

  pub forgot-kept : (old new : StateOf S) → new ≡ after_step old Forgot → KeepsLoaders old new
  forgot-kept old new e = rw e (record { rules = refl; recorded = record-same old.loaders })

  pub unasked-kept : (p : Program) (old new : StateOf S) → IsUnasked p old new → KeepsLoaders old new
  unasked-kept p old new (inl same) = same-kept old new same
  unasked-kept p old new (inr lost) = lost-kept old new (of_first lost.loaders (front_in old p)) lost.after

  stored-rules : (round : ℕ) (ls : List (LoaderOf S)) → map rule_of (map (λ l. stored_in l round) ls) ≡ map rule_of ls
  stored-rules round [] = refl
  stored-rules round (l ∷ ls) = ap (λ rs. rule_of l ∷ rs) (stored-rules round ls)

  stored-recorded : (round : ℕ) (ls : List (LoaderOf S)) → AreOnRecord ls (map (λ l. stored_in l round) ls)
  stored-recorded round [] = tt
  stored-recorded round (l ∷ ls) = (record { same = refl; made = 0; orders = omega arith; entries = omega (arith, length-map l.log (marked round)) }, stored-recorded round ls)

  pub received-kept : (old new : StateOf S) (replies : List ReplyOf) → new ≡ received old replies → KeepsLoaders old new
  received-kept old new replies e = rw e (record { rules = stored-rules old.rounds old.loaders; recorded = stored-recorded old.rounds old.loaders })

  -- each order of a round is of one of the loaders
  pub have-loaders : (s : StateOf S) (p : Program) → All (λ (o : OrderOf). o.loader < length s.loaders) (orders_in s p)
  have-loaders s p =
      let rules : List RuleOf = rules_of s in
      let below = orders-below 0 (length s.loaders) rules (λ m. keys_for m (front_in s p)) (omega (arith, length-map s.loaders rule_of)) in
      rw (← orders-loads 0 rules (front_in s p)) below

  pub orders-have : (s : StateOf S) (p : Program) (ps : List Pending) → map order_in ps ≡ orders_in s p → All (λ one. (order_in one).loader < length s.loaders) ps
  orders-have s p ps e = All-of_map order_in (λ (o : OrderOf). o.loader < length s.loaders) ps (rw e (have-loaders s p))

  -- the replies to them, in order
  pub received-in : (may : S → List KeyOf → AnswerOf → Type 0) (s : StateOf S) (p : Program) (ps : List Pending) (replies : List ReplyOf) → map order_in ps ≡ orders_in s p → AreReplies (may_at may s.loaders) (map order_in ps) replies
      → AreReceived (may_at may s.loaders) (orders_in s p) replies
  received-in may s p ps replies e fit = record { replies = replies; fit = rw e at fit; moved = IsPermutation-refl replies }

  module _ {P E : Type 0} (program : P → Program) (text_of : P → AnsweredOf → List ℕ) (may : S → List KeyOf → AnswerOf → Type 0) where
    -- a property of the session whatever comes next
    pub gone-stops : (loaders : P → ℕ) (fits : P → E → MemoryOf → Type 0) (begun now : SessionOf S) (plans : List P) (limits : Limits) (far : FarOf P E) → HasGone program text_of may begun now plans limits far
        → (now ≡ begun) ⊎ StopsAnswering may (state_of begun) (state_of now) (joint program text_of plans)
    gone-stops loaders fits begun now plans limits handed h = inl h
    gone-stops loaders fits begun now plans limits (ready run) h = inr (stopped-all program text_of loaders fits may (state_of begun) (state_of now) plans run h.0 h.1)
    gone-stops loaders fits begun now plans limits (out run ps) h = inr (stopped-all program text_of loaders fits may (state_of begun) (state_of now) plans run h.0 h.1)
    gone-stops loaders fits begun now plans limits over h = inr h

  module _ {P E : Type 0} (program : P → Program) (text_of : P → AnsweredOf → List ℕ) where
    -- the orders of a round that was just made
    pub out-with : (old new : StateOf S) (plans : List P) (later : RunOf P E) (orders : List CutOf) (ps : List Pending) → plans_in later.parts ≡ plans → later.stage ≡ stage.Out → IsRound (joint program text_of plans) old new orders
        → ps ≡ map still_out orders → IsOutWith program text_of new later ps
    out-with old new plans later orders ps e stage is same = record {
      stage = stage;
      latest = subst (λ qs. IsAsked (joint program text_of qs) new) (sym e) (round-asked (joint program text_of plans) old new orders is);
      orders = ap (map order_in) same ∙ out-orders orders ∙ sym (round-orders (joint program text_of plans) old new orders is) ∙ ap (λ qs. orders_in new (joint program text_of qs)) (sym e);
      own = rw same (out-own new.loaders orders is.cut);
      replies = none-replied any_answer ps (rw same (out-away orders));
    }

  module _ {P E : Type 0} (program : P → Program) (text_of : P → AnsweredOf → List ℕ) (loaders : P → ℕ) (fits : P → E → MemoryOf → Type 0) where
    -- what a step keeps
    pub keeps-hand : (old new : HandOf S P E) → All (λ plan. loaders plan ≤ length old.session.loaders) old.plans → KeepsLoaders (state_of old.session) (state_of new.session) → new.plans ≡ old.plans
        → new.limits ≡ old.limits → HoldsFar program text_of loaders fits new.session new.plans new.far → IsFarWithin program text_of new.session new.plans new.limits new.far → KeepsHand program text_of loaders fits old new
    keeps-hand old new enough kept same limits round within = record {
      holds = record {
        enough = subst (All (λ plan. loaders plan ≤ length new.session.loaders)) (sym same) (subst (λ n. All (λ plan. loaders plan ≤ n) old.plans) (sym (kept-many (state_of old.session) (state_of new.session) kept)) enough);
        round = round;
        within = within;
      };
      plans = same;
      limits = limits;
      session = kept;
    }

    pub kept-then : (old mid new : HandOf S P E) → KeepsHand program text_of loaders fits old mid → KeepsHand program text_of loaders fits mid new → KeepsHand program text_of loaders fits old new
    kept-then old mid new h k = record {
      holds = k.holds;
      plans = k.plans ∙ h.plans;
      limits = k.limits ∙ h.limits;
      session = then-kept (state_of old.session) (state_of mid.session) (state_of new.session) h.session k.session;
    }
