-- Answers to several requests over sources that answer key by key.
use Rattle.std.proofs.Common.{◌≡◌, ℕ, suc, false, List, [], ◌∷◌, map, Some, refl, sym, ap, subst, ◌∙◌}
use Rattle.load_memory.specs.Keys.{KeyOf, folded}
use Rattle.load_memory.specs.Outcomes.{ItemOf}
use Rattle.load_memory.specs.Replies.{ReplyOf}
use Rattle.load_memory.specs.declared.key.KeyMode.{KeyMode}
use Rattle.load_queue.specs.Answers.{AnswerOf, given}
use Rattle.execution.specs.Loads.{Reader, read, AnswersMore}
use Rattle.execution.specs.Program.{tree, trees}
use Rattle.execution.specs.Completion.{is_open, any_open}
use Rattle.execution.specs.Rounds.{may_at, key_by_key, AreRounds, IsLawful, without_failed, direct, HoldsItems}
use Rattle.execution.specs.Sessions.{Forgot}
use Rattle.execution.proofs.Monotone.{front-open, exec-stays}
use Rattle.execution.proofs.OneLog.{one-log}
use Rattle.load_rounds.specs.Sessions.{StateOf, rules_of, session_modes, after_steps}
use Rattle.load_rounds.specs.Headline.{asked_steps}
use Rattle.load_rounds.specs.KeyByKey.{item_over}
use Rattle.load_rounds.specs.SharedRounds.{RequestOf, ReportOf, items_from, together, IsShared, AreShared, AreTexts, SharedHeadline}
use Rattle.load_rounds.specs.SharedKeyByKey.{AreAnsweredAlike, AreAnsweredDirectly}
use Rattle.load_rounds.proofs.GoingOn.{or-left}
use Rattle.load_rounds.proofs.Holding.{rounds-held}
use Rattle.load_rounds.proofs.KeyByKey.{rounds-weaker, some-same, may-report, respects-alike}

module _ {S : Type 0} (old new : StateOf S) where
  -- the texts by a reader that answers at least as much as the memory
  texts-by : (log : List (List ReplyOf)) (Q : Reader) (n : ℕ) (rs : List RequestOf) (reports : List ReportOf) → AnswersMore (read (session_modes old) new.memory) Q → any_open (trees (items_from n rs) (read (session_modes old) new.memory)) ≡ false
      → AreShared old new log rs reports → AreTexts rs Q reports
  texts-by log Q n [] [] more closed h = tt
  texts-by log Q n (r ∷ rs) (t ∷ ts) more closed h =
      let R : Reader = read (session_modes old) new.memory in
      let own = or-left (is_open (tree r.program R)) (any_open (trees (items_from (suc n) rs) R)) closed in
      let text = h.0.answered in
      (record { answered = text.answered; executed = exec-stays r.program R Q more own.0 ∙ text.executed; report = text.report }, texts-by log Q (suc n) rs ts more own.1 h.1)
  texts-by log Q n rs reports more closed h = absurd h

  -- two answers to one request with one log and one memory
  one-report : (log : List (List ReplyOf)) (r : RequestOf) (t u : ReportOf) → IsShared old new log r t → IsShared old new log r u → t ≡ u
  one-report log r t u h k =
      let same : Some (h.answered).answered ≡ Some (k.answered).answered = sym (h.answered).executed ∙ (k.answered).executed in
      let text : t.text ≡ u.text = (h.answered).report ∙ ap r.text_of (some-same (h.answered).answered (k.answered).answered same) ∙ sym (k.answered).report in
      let make : List ℕ → ℕ → ℕ → ReportOf = λ x n l. record { text = x; rounds = n; loads = l } in
      ap (λ x. make x t.rounds t.loads) text ∙ ap (λ n. make u.text n t.loads) (sym h.counted ∙ k.counted) ∙ ap (make u.text u.rounds) (h.loads ∙ sym k.loads)

  all-one-report : (log : List (List ReplyOf)) (rs : List RequestOf) (ts us : List ReportOf) → AreShared old new log rs ts → AreShared old new log rs us → ts ≡ us
  all-one-report log [] [] [] h k = refl
  all-one-report log [] (t ∷ ts) us h k = absurd h
  all-one-report log (r ∷ rs) [] us h k = absurd h
  all-one-report log (r ∷ rs) (t ∷ ts) (u ∷ us) h k = rw (one-report log r t u h.0 k.0, all-one-report log rs ts us h.1 k.1) refl
  all-one-report log rs ts us h k = absurd k

module _ {S : Type 0} (may : S → List KeyOf → AnswerOf → Type 0) (item : S → KeyOf → ItemOf) (by_key : (s : S) (keys : List KeyOf) (answer : AnswerOf) → may s keys answer → answer ≡ given (map (item s) keys)) where
  shared-rounds : (old new : StateOf S) (rs : List RequestOf) (ts : List ReportOf) (h : SharedHeadline may old new rs ts) → AreRounds (key_by_key (item_over item old.loaders)) (rules_of old) (together rs) (without_failed old.memory) h.log new.memory
  shared-rounds old new rs ts h =
      rounds-weaker (may_at may old.loaders) (key_by_key (item_over item old.loaders)) (may-report may item by_key old.loaders) (rules_of old) (together rs) (without_failed old.memory) h.log new.memory h.made.rounds

  pub answered-alike : AreAnsweredAlike may
  answered-alike = λ old new other rs ts us h k.
      let lawful : IsLawful (key_by_key (item_over item old.loaders)) (rules_of old) (together rs) (without_failed old.memory) h.log new.memory = (shared-rounds old new rs ts h, h.complete) in
      let also : IsLawful (key_by_key (item_over item old.loaders)) (rules_of old) (together rs) (without_failed old.memory) k.log other.memory = (shared-rounds old other rs us k, k.complete) in
      let log = (one-log (item_over item old.loaders) (rules_of old) (together rs) (without_failed old.memory) h.log k.log new.memory other.memory lawful also).0 in
      let state : new ≡ other = h.made.after ∙ ap (λ l. after_steps old (Forgot ∷ asked_steps (rules_of old) (together rs) (without_failed old.memory) l)) log ∙ sym k.made.after in
      let there = subst (λ l. AreShared old other l rs us) (sym log) k.answers in
      (state, all-one-report old new h.log rs ts us h.answers (subst (λ (s : StateOf S). AreShared old s h.log rs us) (sym state) there))

  pub report-directly : (mode_of : S → KeyMode) → ((s : S) (j k : KeyOf) → folded (mode_of s) j ≡ folded (mode_of s) k → item s j ≡ item s k) → AreAnsweredDirectly may item mode_of
  report-directly mode_of respects = λ old new rs ts alike first h.
      let items : ℕ → KeyOf → ItemOf = item_over item old.loaders in
      let R : Reader = read (session_modes old) new.memory in
      let held : HoldsItems (session_modes old) items new.memory =
      rounds-held items (rules_of old) (together rs) (respects-alike may item by_key mode_of respects old.loaders alike) (without_failed old.memory) h.log new.memory first (shared-rounds old new rs ts h) in
      let more : AnswersMore R (direct items) = λ load o e. ap (λ x. Some x) (sym (held load.loader load.key o e)) in
      texts-by old new h.log (direct items) 0 rs ts more ((front-open (session_modes old) (together rs) new.memory).0 h.complete) h.answers
