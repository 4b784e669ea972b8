-- What is known in a session of a world after rounds, direct execution is told too. So the work over it is at most the direct work, and is
-- that where nothing is missing.
use Rattle.std.proofs.Common.{◌≡◌, ◌≤◌, ◌+◌, ℕ, suc, false, List, [], ◌∷◌, Option, Some, None, refl, sym, ap, ap₂, subst, ◌∙◌, arith}
use Rattle.load_memory.specs.Keys.{KeyOf}
use Rattle.load_memory.specs.Outcomes.{ItemOf, OutcomeOf}
use Rattle.load_memory.specs.Replies.{ReplyOf}
use Rattle.load_memory.specs.declared.key.KeyMode.{KeyMode}
use Rattle.csv_source.specs.Tables.{SourceOf, item_of_key}
use Rattle.csv_source.specs.KeyLaws.{item_of_key-folded}
use Rattle.execution.specs.Loads.{Reader, AnswersMore, read}
use Rattle.execution.specs.Program.{Program, tree, trees}
use Rattle.execution.specs.Completion.{is_open, any_open}
use Rattle.execution.specs.Front.{front}
use Rattle.execution.specs.Rounds.{modes_of, may_at, key_by_key, without_failed, direct, RespectsCacheKeys, HoldsItems}
use Rattle.execution.specs.Sessions.{Forgot}
use Rattle.execution.specs.Work.{count_positions, work}
use Rattle.execution.proofs.Monotone.{front-open, tree-stays}
use Rattle.load_rounds.specs.KeyByKey.{item_over}
use Rattle.load_rounds.specs.Headline.{asked_steps, MakesRounds}
use Rattle.load_rounds.specs.Limits.{work_of_all, work_in, IsWithin, IsOver as IsMore, AreOver}
use Rattle.load_rounds.specs.Sessions.{SessionOf, StateOf, state_of, rules_of, session_modes}
use Rattle.load_rounds.specs.SharedRounds.{RequestOf, items_from, together}
use Rattle.load_rounds.specs.declared.limits.Excess.{Excess}
use Rattle.load_rounds.specs.declared.limits.Excess.TheVariants.{Work, Rounds}
use Rattle.load_rounds.proofs.GoingOn.{or-left}
use Rattle.load_rounds.proofs.Holding.{rounds-held}
use Rattle.load_rounds.proofs.KeyByKey.{rounds-weaker, may-report, respects-alike}
use Rattle.load_rounds.proofs.Limiting.{work-of-all-grows}
use Rattle.load_rounds.proofs.Stepping.{steps-rules}
use Rattle.world_answers.specs.Answers.{item_at, may_tell}
use Rattle.world_answers.specs.Services.{ServiceOf, limits_in}
use Rattle.world_answers.specs.Sessions.{IsOver}
use Rattle.world_answers.proofs.Direct.{over-alike, over-items, over-held}

-- ---- work

-- where nothing is missing the work stays
work-stays : (n : ℕ) (rs : List RequestOf) (R Q : Reader) → AnswersMore R Q → any_open (trees (items_from n rs) R) ≡ false → work_of_all rs Q ≡ work_of_all rs R
work-stays n [] R Q more closed = refl
work-stays n (r ∷ rs) R Q more closed =
    let own = or-left (is_open (tree r.program R)) (any_open (trees (items_from (suc n) rs) R)) closed in
    let same : work r.program Q ≡ work r.program R = ap count_positions (tree-stays r.program R Q more own.0) in
    let rest : work_of_all rs Q ≡ work_of_all rs R = work-stays (suc n) rs R Q more own.1 in
    ap₂ (λ (a b : ℕ). a + b) same rest

more-than : (limit : Option ℕ) (a b : ℕ) → a ≤ b → IsMore limit a → IsMore limit b
more-than None a b le more = more
more-than (Some most) a b le more = omega (arith, le, more)

-- ---- rounds in a session of a world

module _ (s : ServiceOf) (begun : SessionOf SourceOf) (over : IsOver s.world begun) (after : StateOf SourceOf) (p : Program) (log : List (List ReplyOf)) (made : MakesRounds may_tell (state_of begun) after p log) where
  abbrev old : StateOf SourceOf
  old = state_of begun

  abbrev item : ℕ → KeyOf → ItemOf
  item = item_over item_of_key begun.loaders

  abbrev pub at_once : Reader
  at_once = direct (item_at s.world.sources)

  modes-kept : session_modes after ≡ session_modes old
  modes-kept = ap modes_of (ap (λ (x : StateOf SourceOf). rules_of x) made.after ∙ steps-rules old (Forgot ∷ asked_steps (rules_of old) p (without_failed old.memory) log))

  -- direct execution is told all that is known
  pub told-directly : AnswersMore (read (session_modes after) after.memory) at_once
  told-directly =
      -- their sources answer key by key, and keys that are one for a loader have one item
      let respects : RespectsCacheKeys (session_modes old) item =
      respects-alike may_tell item_of_key (λ source keys answer is. is) (λ (s : SourceOf). s.mode) item_of_key-folded begun.loaders (over-alike s.world begun over) in
      let by-key = rounds-weaker (may_at may_tell begun.loaders) (key_by_key item) (may-report may_tell item_of_key (λ source keys answer is. is) begun.loaders)
      (rules_of old) p (without_failed old.memory) log after.memory made.rounds in
      let held : HoldsItems (session_modes old) item after.memory =
      rounds-held item (rules_of old) p respects (without_failed old.memory) log after.memory (over-held s.world begun over (session_modes old) item) by-key in
      let more : AnswersMore (read (session_modes old) after.memory) (direct item) = λ load o f. ap (λ (x : OutcomeOf). Some x) (sym (held load.loader load.key o f)) in
      let same : AnswersMore (read (session_modes old) after.memory) at_once = subst (λ (i : ℕ → KeyOf → ItemOf). AnswersMore (read (session_modes old) after.memory) (direct i)) (over-items s.world begun over) more in
      subst (λ (ms : List KeyMode). AnswersMore (read ms after.memory) at_once) (sym modes-kept) same

  direct-least : (rs : List RequestOf) → work_in after rs ≤ work_of_all rs at_once
  direct-least rs = work-of-all-grows rs (read (session_modes after) after.memory) at_once told-directly

  direct-same : (rs : List RequestOf) → front (session_modes old) (together rs) after.memory ≡ [] → work_of_all rs at_once ≡ work_in after rs
  direct-same rs none =
      let complete : front (session_modes after) (together rs) after.memory ≡ [] = ap (λ (ms : List KeyMode). front ms (together rs) after.memory) modes-kept ∙ none in
      work-stays 0 rs (read (session_modes after) after.memory) at_once told-directly ((front-open (session_modes after) (together rs) after.memory).0 complete)

  -- an answer that is within the limit is so by its direct work
  pub within-direct : (rs : List RequestOf) → front (session_modes old) (together rs) after.memory ≡ [] → IsWithin s.work (work_in after rs) → IsWithin s.work (work_of_all rs at_once)
  within-direct rs none within = subst (λ (n : ℕ). IsWithin s.work n) (sym (direct-same rs none)) within

  -- and what is over a limit, which is that on work, since rounds have none
  pub over-direct : (rs : List RequestOf) (rounds : ℕ) (excess : Excess) → AreOver (limits_in s) rs after rounds excess → (excess ≡ Work) × IsMore s.work (work_of_all rs at_once)
  over-direct rs rounds Work more = (refl, more-than s.work (work_in after rs) (work_of_all rs at_once) (direct-least rs) more)
  over-direct rs rounds Rounds more = absurd more.0
