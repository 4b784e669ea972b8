-- The headline of one request, and of a list of it alone; and how many rounds several requests take.
use Rattle.std.proofs.Common.{◌≡◌, ◌≢◌, ◌⊎◌, ℕ, suc, ◌≤◌, List, [], ◌∷◌, length, refl, ap, subst, ◌∙◌, sym, arith}
use Rattle.std.proofs.lemmas.List.{append-nil}
use Rattle.load_memory.specs.Keys.{KeyOf}
use Rattle.load_memory.specs.Replies.{ReplyOf}
use Rattle.load_memory.specs.declared.key.KeyMode.{KeyMode}
use Rattle.load_queue.specs.Answers.{AnswerOf}
use Rattle.execution.specs.Loads.{Load, Memory, read}
use Rattle.execution.specs.Program.{Program, needs, chain, all_chain}
use Rattle.execution.specs.Front.{front, missing, firsts}
use Rattle.execution.specs.Rounds.{RuleOf, modes_of, may_at, round_orders, AreReplies, AreRounds, after_round, one_unless_empty, own_rounds, without_failed}
use Rattle.execution.specs.Sessions.{Step, Forgot, AreApart, asked_cells}
use Rattle.load_rounds.specs.Sessions.{StateOf, rules_of, session_modes, after_steps}
use Rattle.load_rounds.specs.Calls.{RoundLost}
use Rattle.load_rounds.specs.Headline.{asked_steps, Headline, StopsAnswering}
use Rattle.load_rounds.specs.SharedRounds.{RequestOf, ReportOf, items_from, together, greatest, AreShared, SharedHeadline, IsAnsweredAlone}

pub front-one : (modes : List KeyMode) (r : RequestOf) (M : Memory) → front modes (together (r ∷ [])) M ≡ front modes r.program M
front-one modes r M = ap (λ ls. firsts modes (missing (read modes M) ls)) (append-nil (needs r.program (read modes M)))

one-some : (loads : List Load) → loads ≢ [] → one_unless_empty loads ≡ 1
one-some [] h = absurd (h refl)
one-some (l ∷ ls) h = refl

-- two programs with one front
module _ (rules : List RuleOf) (p q : Program) (same : (M : Memory) → front (modes_of rules) p M ≡ front (modes_of rules) q M) where
  rounds-same : (may : ℕ → List KeyOf → AnswerOf → Type 0) (M : Memory) (log : List (List ReplyOf)) (end : Memory) → AreRounds may rules p M log end → AreRounds may rules q M log end
  rounds-same may M [] end h = h
  rounds-same may M (r ∷ log) end h = (
    subst (λ (loads : List Load). loads ≢ []) (same M) h.0,
    subst (λ loads. AreReplies may (round_orders rules loads) r) (same M) h.1,
    rounds-same may (after_round rules M r) log end h.2,
  )

  steps-same : (M : Memory) (log : List (List ReplyOf)) → asked_steps rules p M log ≡ asked_steps rules q M log
  steps-same M [] = refl
  steps-same M (r ∷ log) = rw (same M, steps-same (after_round rules M r) log) refl

  cells-same : (M : Memory) (log : List (List ReplyOf)) → asked_cells rules p M log ≡ asked_cells rules q M log
  cells-same M [] = refl
  cells-same M (r ∷ log) = rw (same M, cells-same (after_round rules M r) log) refl

-- all rounds of a program are its own
own-all : (may : ℕ → List KeyOf → AnswerOf → Type 0) (rules : List RuleOf) (p : Program) (M : Memory) (log : List (List ReplyOf)) (end : Memory) → AreRounds may rules p M log end → own_rounds rules p M log ≡ length log
own-all may rules p M [] end h = refl
own-all may rules p M (r ∷ log) end h = omega (arith, one-some (front (modes_of rules) p M) h.0, own-all may rules p (after_round rules M r) log end h.2)

module _ {S : Type 0} (may : S → List KeyOf → AnswerOf → Type 0) (old new : StateOf S) where
  pub headline-one : (r : RequestOf) (report : ReportOf) → SharedHeadline may old new (r ∷ []) (report ∷ []) → Headline may old new r.program r.text_of report.text report.rounds
  headline-one r report h =
      let rules : List RuleOf = rules_of old in
      let M0 : Memory = without_failed old.memory in
      let same = λ (M : Memory). front-one (modes_of rules) r M in
      let longest = h.longest in
      record {
        answered = h.answers.0.answered;
        log = h.log;
        made = record {
          rounds = rounds-same rules (together (r ∷ [])) r.program same (may_at may old.loaders) M0 h.log new.memory h.made.rounds;
          after = h.made.after ∙ ap (λ (steps : List Step). after_steps old (Forgot ∷ steps)) (steps-same rules (together (r ∷ [])) r.program same M0 h.log);
        };
        complete = sym (same new.memory) ∙ h.complete;
        recorded = h.recorded;
        pairs = h.pairs;
        once = subst AreApart (cells-same rules (together (r ∷ [])) r.program same M0 h.log) h.once;
        counted = omega (arith, longest);
        chained = h.answers.0.chained;
        fewest = h.answers.0.fewest;
      }

  -- says what stays after want of memory
  pub stops-one : (r : RequestOf) → StopsAnswering may old new (together (r ∷ [])) → StopsAnswering may old new r.program
  stops-one r h =
      let rules : List RuleOf = rules_of old in
      let M0 : Memory = without_failed old.memory in
      let same = λ (M : Memory). front-one (modes_of rules) r M in
      record {
        log = h.log;
        mid = h.mid;
        made = record {
          rounds = rounds-same rules (together (r ∷ [])) r.program same (may_at may old.loaders) M0 h.log h.mid.memory h.made.rounds;
          after = h.made.after ∙ ap (λ (steps : List Step). after_steps old (Forgot ∷ steps)) (steps-same rules (together (r ∷ [])) r.program same M0 h.log);
        };
        end = subst (λ (loads : List Load). (new ≡ h.mid) ⊎ RoundLost h.mid new loads) (same h.mid.memory) h.end;
        recorded = h.recorded;
      }

  pub headline-alone : (r : RequestOf) (report : ReportOf) → IsAnsweredAlone may old new r report → SharedHeadline may old new (r ∷ []) (report ∷ [])
  headline-alone r report (h, loads) =
      let rules : List RuleOf = rules_of old in
      let M0 : Memory = without_failed old.memory in
      let same = λ (M : Memory). sym (front-one (modes_of rules) r M) in
      let counted = h.counted in
      record {
        log = h.log;
        made = record {
          rounds = rounds-same rules r.program (together (r ∷ [])) same (may_at may old.loaders) M0 h.log new.memory h.made.rounds;
          after = h.made.after ∙ ap (λ (steps : List Step). after_steps old (Forgot ∷ steps)) (steps-same rules r.program (together (r ∷ [])) same M0 h.log);
        };
        complete = sym (same new.memory) ∙ h.complete;
        recorded = h.recorded;
        answers = (record { answered = h.answered; counted = own-all (may_at may old.loaders) rules r.program M0 h.log new.memory h.made.rounds ∙ counted; chained = h.chained; fewest = h.fewest; loads = loads }, tt);
        pairs = h.pairs;
        once = subst AreApart (cells-same rules r.program (together (r ∷ [])) same M0 h.log) h.once;
        longest = omega (arith, counted);
      }

  greatest-chain : (log : List (List ReplyOf)) (n : ℕ) (rs : List RequestOf) (reports : List ReportOf) → AreShared old new log rs reports → greatest reports ≤ all_chain (items_from n rs) (read (session_modes old) new.memory)
  greatest-chain log n [] [] h = omega arith
  greatest-chain log n (r ∷ rs) (t ∷ ts) h = let own = h.0.chained in omega (arith, own, greatest-chain log (suc n) rs ts h.1)
  greatest-chain log n rs reports h = absurd h

  pub shared-chain : (rs : List RequestOf) (reports : List ReportOf) (h : SharedHeadline may old new rs reports) → length h.log ≤ chain (together rs) (read (session_modes old) new.memory)
  shared-chain rs reports h = let longest = h.longest in omega (arith, longest, greatest-chain h.log 0 rs reports h.answers)
