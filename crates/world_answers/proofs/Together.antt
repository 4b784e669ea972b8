-- Plans that are asked over a session of a world, together or alone: each text is that of direct execution.
use Rattle.std.proofs.Common.{◌≡◌, ◌∙◌, ℕ, List, [], ◌∷◌, map, length, sym, ap, subst}
use Rattle.std.specs.List.{AllZip}
use Rattle.load_memory.specs.Keys.{KeyOf}
use Rattle.load_memory.specs.Outcomes.{ItemOf}
use Rattle.csv_source.specs.Tables.{SourceOf, item_of_key}
use Rattle.csv_source.specs.KeyLaws.{item_of_key-folded}
use Rattle.execution.specs.Executes.{IsTextOf}
use Rattle.execution.specs.Rounds.{direct}
use Rattle.gq_check.specs.Plans.{PlanOf}
use Rattle.gq_resolve.specs.Within.{text_within}
use Rattle.plan_program.specs.PlanPrograms.{plan_program}
use Rattle.load_rounds.specs.KeyByKey.{item_over}
use Rattle.load_rounds.specs.Headline.{Headline}
use Rattle.load_rounds.specs.Limits.{IsWithin, IsOver as IsMore}
use Rattle.load_rounds.specs.Sessions.{SessionOf, StateOf, state_of, session_modes}
use Rattle.load_rounds.specs.SharedRounds.{RequestOf, ReportOf, AreTexts, SharedHeadline, request_of, together}
use Rattle.load_rounds.specs.declared.limits.Excess.TheVariants.{Work}
use Rattle.load_rounds.specs.declared.limits.Overrun.{Overrun}
use Rattle.server.specs.Overruns.{AreGiven, answered, overrun, overrun_report, overrun_text}
use Rattle.server.specs.Plans.{requests_within}
use Rattle.load_rounds.proofs.KeyByKey.{text-direct}
use Rattle.load_rounds.proofs.Requests.{front-one}
use Rattle.load_rounds.proofs.SharedKeyByKey.{report-directly}
use Rattle.world_answers.specs.Answers.{item_at, may_tell, direct_work, IsDirectText, executed, too_much, IsGivenAlone, answered_alone, overrun_alone, AnswersAnew, IsAnsweredAnew}
use Rattle.world_answers.specs.Arrays.{AnswersTogether}
use Rattle.world_answers.specs.Services.{ServiceOf, limits_in}
use Rattle.world_answers.specs.Sessions.{IsOver}
use Rattle.world_answers.proofs.Direct.{over-alike, over-items, over-held}
use Rattle.world_answers.proofs.Known.{within-direct, over-direct}

module _ (s : ServiceOf) where
  -- ---- several plans

  each-executed : (all : List PlanOf) → IsWithin s.work (direct_work s all) → (plans : List PlanOf) (reports : List ReportOf) → AreTexts (requests_within s.most plans) (direct (item_at s.world.sources)) reports → AllZip (λ (p : PlanOf) (t : ReportOf). IsDirectText s all p t.text) plans reports
  each-executed all within [] [] h = tt
  each-executed all within (p ∷ ps) (t ∷ ts) h = (executed within h.0, each-executed all within ps ts h.1)
  each-executed all within plans reports h = absurd h

  each-refused : (all : List PlanOf) → IsMore s.work (direct_work s all) → (o : Overrun) → o.excess ≡ Work → (plans : List PlanOf) → AllZip (λ (p : PlanOf) (t : ReportOf). IsDirectText s all p t.text) plans (map (λ (r : RequestOf). overrun_report o) (requests_within s.most plans))
  each-refused all more o same [] = tt
  each-refused all more o same (p ∷ ps) = (too_much more (ap overrun_text same), each-refused all more o same ps)

  module _ (begun : SessionOf SourceOf) (over : IsOver s.world begun) (after : StateOf SourceOf) where
    -- answers with the headline of several
    texts-direct : (rs : List RequestOf) (reports : List ReportOf) → SharedHeadline may_tell (state_of begun) after rs reports → AreTexts rs (direct (item_at s.world.sources)) reports
    texts-direct rs reports h =
        let old : StateOf SourceOf = state_of begun in
        let texts : AreTexts rs (direct (item_over item_of_key old.loaders)) reports =
        report-directly may_tell item_of_key (λ source keys answer is. is) (λ (s : SourceOf). s.mode) item_of_key-folded old after rs reports
        (over-alike s.world begun over) (over-held s.world begun over (session_modes old) (item_over item_of_key old.loaders)) h in
        subst (λ (item : ℕ → KeyOf → ItemOf). AreTexts rs (direct item) reports) (over-items s.world begun over) texts

    given-direct : (plans : List PlanOf) (reports : List ReportOf) → AreGiven may_tell (limits_in s) (state_of begun) after (requests_within s.most plans) reports → AllZip (λ (p : PlanOf) (t : ReportOf). IsDirectText s plans p t.text) plans reports
    given-direct plans reports (answered h within) =
        let asked : List RequestOf = requests_within s.most plans in
        each-executed plans (within-direct s begun over after (together asked) h.log h.made asked h.complete within.work) plans reports (texts-direct asked reports h)
    given-direct plans reports (overrun {o = o} h same) =
        let asked : List RequestOf = requests_within s.most plans in
        let told : (o.excess ≡ Work) × IsMore s.work (direct_work s plans) = over-direct s begun over after (together asked) h.log h.made asked (length h.log) o.excess h.over in
        subst (λ (ts : List ReportOf). AllZip (λ (p : PlanOf) (t : ReportOf). IsDirectText s plans p t.text) plans ts) (sym same) (each-refused plans told.1 o told.0 plans)

    -- ---- one plan alone

    text-alone : (plan : PlanOf) (text : List ℕ) (rounds : ℕ) → Headline may_tell (state_of begun) after (plan_program plan) (text_within s.most) text rounds → IsTextOf (text_within s.most) (plan_program plan) (direct (item_at s.world.sources)) text
    text-alone plan text rounds h =
        let old : StateOf SourceOf = state_of begun in
        let text-is : IsTextOf (text_within s.most) (plan_program plan) (direct (item_over item_of_key old.loaders)) text =
        text-direct may_tell item_of_key (λ source keys answer is. is) (λ (s : SourceOf). s.mode) item_of_key-folded old after (plan_program plan) (text_within s.most) text rounds
        (over-alike s.world begun over) (over-held s.world begun over (session_modes old) (item_over item_of_key old.loaders)) h in
        subst (λ (item : ℕ → KeyOf → ItemOf). IsTextOf (text_within s.most) (plan_program plan) (direct item) text) (over-items s.world begun over) text-is

    alone-direct : (plan : PlanOf) (text : List ℕ) (rounds : ℕ) → IsGivenAlone s plan (state_of begun) after text rounds → IsDirectText s (plan ∷ []) plan text
    alone-direct plan text rounds (answered_alone h within) =
        let old : StateOf SourceOf = state_of begun in
        let r : RequestOf = request_of (plan_program plan) (text_within s.most) in
        executed (within-direct s begun over after (plan_program plan) h.log h.made (r ∷ []) (front-one (session_modes old) r after.memory ∙ h.complete) within.work) (text-alone plan text rounds h)
    alone-direct plan text rounds (overrun_alone {o = o} h same counted) =
        let asked : List RequestOf = requests_within s.most (plan ∷ []) in
        let told : (o.excess ≡ Work) × IsMore s.work (direct_work s (plan ∷ [])) = over-direct s begun over after (together asked) h.log h.made asked (length h.log) o.excess h.over in
        too_much told.1 (same ∙ ap overrun_text told.0)

  -- what plans are given together over a session of a world
  pub direct-each : (after : StateOf SourceOf) (plans : List PlanOf) (reports : List ReportOf) → AnswersTogether s plans after reports → AllZip (λ (p : PlanOf) (t : ReportOf). IsDirectText s plans p t.text) plans reports
  direct-each after plans reports h = given-direct h.begun h.over after plans reports h.given

-- what a plan is given alone in a session of a world
pub answer-direct : (s : ServiceOf) (after : StateOf SourceOf) (plan : PlanOf) (text : List ℕ) (rounds : ℕ) → AnswersAnew s plan after text rounds → IsAnsweredAnew s plan text
answer-direct s after plan text rounds h = record {
  direct = alone-direct s h.begun h.over after plan text rounds h.given;
  after = after;
  rounds = rounds;
  answers = h;
}
