-- Answers over sources that answer key by key.
use Rattle.std.proofs.Common.{◌≡◌, ℕ, zero, suc, List, [], ◌∷◌, map, length, Option, Some, None, refl, sym, ap, ◌∙◌}
use Rattle.std.proofs.lemmas.List.Elements.{All-head, All-tail}
use Rattle.std.specs.Prelude.{slice_get}
use Rattle.load_memory.specs.Keys.{KeyOf, folded}
use Rattle.load_memory.specs.Outcomes.{ItemOf}
use Rattle.load_memory.specs.Replies.{ReplyOf}
use Rattle.load_memory.specs.declared.key.KeyMode.{KeyMode}
use Rattle.load_queue.specs.Answers.{AnswerOf, given}
use Rattle.load_queue.specs.Loaders.{LoaderOf}
use Rattle.load_queue.specs.Orders.{OrderOf}
use Rattle.execution.specs.Loads.{Memory, mode_at, read}
use Rattle.execution.specs.Program.{Program}
use Rattle.execution.specs.Completion.{AnsweredOf}
use Rattle.execution.specs.Executed.{exec}
use Rattle.execution.specs.Front.{front}
use Rattle.execution.specs.Rounds.{MayAnswer, RuleOf, rule_of, modes_of, may_at, round_orders, AreReplies, AreRounds, IsLawful, after_round, without_failed, key_by_key, direct, RespectsCacheKeys, HoldsItems}
use Rattle.execution.specs.Sessions.{Forgot}
use Rattle.execution.proofs.OneLog.{one-log, log-direct}
use Rattle.load_rounds.specs.Sessions.{StateOf, rules_of, session_modes, after_steps}
use Rattle.load_rounds.specs.Headline.{asked_steps, Headline}
use Rattle.execution.specs.Executes.{IsTextOf}
use Rattle.load_rounds.specs.KeyByKey.{CompareAlike, item_of_loader, item_over}

-- ---- what may be answered, as something weaker

module _ (may other : MayAnswer) (weaker : (loader : ℕ) (keys : List KeyOf) (answer : AnswerOf) → may loader keys answer → other loader keys answer) where
  replies-weaker : (os : List OrderOf) (rs : List ReplyOf) → AreReplies may os rs → AreReplies other os rs
  replies-weaker [] [] h = tt
  replies-weaker (o ∷ os) (r ∷ rs) h =
      (record { loader = h.0.loader; keys = h.0.keys; answer = h.0.answer; may_be = weaker o.loader o.keys h.0.answer h.0.may_be; outcomes = h.0.outcomes }, replies-weaker os rs h.1)
  replies-weaker os rs h = absurd h

  pub rounds-weaker : (rules : List RuleOf) (p : Program) (M : Memory) (rounds : List (List ReplyOf)) (end : Memory) → AreRounds may rules p M rounds end → AreRounds other rules p M rounds end
  rounds-weaker rules p M [] end h = h
  rounds-weaker rules p M (round ∷ rounds) end h =
      (h.0, replies-weaker (round_orders rules (front (modes_of rules) p M)) round h.1, rounds-weaker rules p (after_round rules M round) rounds end h.2)

pub some-same : {X : Type 0} (a b : X) → Some a ≡ Some b → a ≡ b
some-same a b e = cc e

none-some : {X : Type 0} (a : X) → None ≡ Some a → ⊥
none-some a e = cc e

module _ {S : Type 0} (may : S → List KeyOf → AnswerOf → Type 0) (item : S → KeyOf → ItemOf) (by_key : (s : S) (keys : List KeyOf) (answer : AnswerOf) → may s keys answer → answer ≡ given (map (item s) keys)) where
  -- the answers that the source of a number may give are those of its items, key by key
  pub may-report : (loaders : List (LoaderOf S)) (loader : ℕ) (keys : List KeyOf) (answer : AnswerOf) → may_at may loaders loader keys answer → key_by_key (item_over item loaders) loader keys answer
  may-report loaders loader keys answer h =
      by_key h.0.source keys answer h.2 ∙ ap (λ (o : Option (LoaderOf S)). given (map (item_of_loader item o) keys)) (sym h.1)

  -- the log of an answer is lawful over sources that answer key by key
  pub lawful-report : (old new : StateOf S) (p : Program) (text_of : AnsweredOf → List ℕ) (text : List ℕ) (rounds : ℕ) (h : Headline may old new p text_of text rounds)
      → IsLawful (key_by_key (item_over item old.loaders)) (rules_of old) p (without_failed old.memory) h.log new.memory
  lawful-report old new p text_of text rounds h = (
    rounds-weaker (may_at may old.loaders) (key_by_key (item_over item old.loaders)) (may-report old.loaders) (rules_of old) p (without_failed old.memory) h.log new.memory h.made.rounds,
    h.complete,
  )

  -- two answers from one state
  module _ (old new other : StateOf S) (p : Program) (text_of : AnsweredOf → List ℕ) (text more : List ℕ) (rounds count : ℕ) (h : Headline may old new p text_of text rounds) (k : Headline may old other p text_of more count) where
    same-log : h.log ≡ k.log
    same-log =
        (one-log (item_over item old.loaders) (rules_of old) p (without_failed old.memory) h.log k.log new.memory other.memory (lawful-report old new p text_of text rounds h) (lawful-report old other p text_of more count k)).0

    pub one-state : new ≡ other
    one-state = h.made.after ∙ ap (λ log. after_steps old (Forgot ∷ asked_steps (rules_of old) p (without_failed old.memory) log)) same-log ∙ sym k.made.after

    pub one-count : rounds ≡ count
    one-count = sym h.counted ∙ ap (λ (log : List (List ReplyOf)). length log) same-log ∙ k.counted

    pub one-text : text ≡ more
    one-text =
        let same : Some (h.answered).answered ≡ Some (k.answered).answered = sym (h.answered).executed ∙ ap (λ (s : StateOf S). exec p (read (session_modes old) s.memory)) one-state ∙ (k.answered).executed in
        (h.answered).report ∙ ap text_of (some-same (h.answered).answered (k.answered).answered same) ∙ sym (k.answered).report

  -- keys that are one for their loader have one item
  module _ (mode_of : S → KeyMode) (respects : (s : S) (j k : KeyOf) → folded (mode_of s) j ≡ folded (mode_of s) k → item s j ≡ item s k) where
    mode-alike : (loaders : List (LoaderOf S)) (loader : ℕ) (l : LoaderOf S) → CompareAlike mode_of loaders → slice_get loaders loader ≡ Some l → mode_at (modes_of (map rule_of loaders)) loader ≡ mode_of l.source
    mode-alike [] loader l alike at = absurd (none-some l at)
    mode-alike (x ∷ xs) zero l alike at = All-head (λ (y : LoaderOf S). y.mode ≡ mode_of y.source) x xs alike ∙ ap (λ (y : LoaderOf S). mode_of y.source) (some-same x l at)
    mode-alike (x ∷ xs) (suc loader) l alike at = mode-alike xs loader l (All-tail (λ (y : LoaderOf S). y.mode ≡ mode_of y.source) x xs alike) at

    pub respects-alike : (loaders : List (LoaderOf S)) → CompareAlike mode_of loaders → RespectsCacheKeys (modes_of (map rule_of loaders)) (item_over item loaders)
    respects-alike loaders alike = λ loader j k same. go loader j k same (slice_get loaders loader) refl
      where
        go : (loader : ℕ) (j k : KeyOf) → folded (mode_at (modes_of (map rule_of loaders)) loader) j ≡ folded (mode_at (modes_of (map rule_of loaders)) loader) k → (o : Option (LoaderOf S)) → slice_get loaders loader ≡ o
            → item_over item loaders loader j ≡ item_over item loaders loader k
        go loader j k same None at = rw at refl
        go loader j k same (Some l) at =
            let mode : mode_at (modes_of (map rule_of loaders)) loader ≡ mode_of l.source = mode-alike loaders loader l alike at in
            rw at (respects l.source j k (rw mode at same))

    -- the text of an answer is that of direct execution
    pub text-direct : (old new : StateOf S) (p : Program) (text_of : AnsweredOf → List ℕ) (text : List ℕ) (rounds : ℕ) → CompareAlike mode_of old.loaders → HoldsItems (session_modes old) (item_over item old.loaders) (without_failed old.memory)
        → Headline may old new p text_of text rounds → IsTextOf text_of p (direct (item_over item old.loaders)) text
    text-direct old new p text_of text rounds alike first h =
        let same = log-direct (item_over item old.loaders) (rules_of old) p (respects-alike old.loaders alike) (without_failed old.memory) h.log new.memory first (lawful-report old new p text_of text rounds h) in
        record { answered = (h.answered).answered; executed = sym same ∙ (h.answered).executed; report = (h.answered).report }
