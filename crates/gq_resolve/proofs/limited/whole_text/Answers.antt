use Rattle.std.proofs.Common.{◌≡◌, ◌∙◌, ap, sym, subst, ℕ, Option, Some, None}
use Rattle.std.specs.Prelude.{String}
use Rattle.std.specs.declared.alloc.Global.{Global}
use Rattle.load_memory.specs.Pairs.{MemoryOf}
use Rattle.gq_check.specs.Plans.{PlanOf}
use Rattle.std.proofs.lemmas.Result.{IfOk-weaker}
use Rattle.execution.specs.Executed.{completed}
use Rattle.execution.specs.Loads.{Reader}
use Rattle.execution.specs.Program.{Program, tree}
use Rattle.plan_program.specs.PlanPrograms.{plan_program}
use Rattle.plan_walk.specs.Reading.{lookup}
use Rattle.gq_resolve.specs.Answered.{answer_text}
use Rattle.gq_resolve.specs.Limited.{AnswersWithin, limited_text}
use Rattle.gq_resolve.specs.Within.{IsLimit, IsWritten}
use Rattle.gq_resolve.proofs.Limiting.{limited-over}
use Rattle.gq_resolve.proofs.limited.whole_text.Goals as goal

-- a limit is given
limited : (given : Option ℕ) (most : ℕ) (plan : PlanOf) (m : MemoryOf) (text is : Option (String Global)) → given ≡ Some most → text ≡ is → IsWritten given plan m text → AnswersWithin most (plan_program plan) (lookup m) is
limited given most plan m text is e same w = subst (λ (n : ℕ). AnswersWithin n (plan_program plan) (lookup m) is) (subst (λ (x : Option ℕ). IsLimit x w.limit) e w.given) (subst (AnswersWithin w.limit (plan_program plan) (lookup m)) same w.answers)

pub returns-in-Some-Some : goal.returns-in-Some-Some
returns-in-Some-Some c = λ plan m written.
    let p : Program = plan_program plan in
    let R : Reader = lookup m in
    let most = c.in-Some-Some.most in
    let within : AnswersWithin most p R (Some c.in-Some-Some.text) = limited c.args.most most plan m _ _ c.in-Some-Some.is-1 c.in-Some-Some.is-0 written in
    rw c.in-Some-Some.is-1 (IfOk-weaker c.limit_text.result _ _ (λ kept is closed. is ∙ ap (limited_text most) (within closed)) c.limit_text.ensures)

pub returns-in-Some-None : goal.returns-in-Some-None
returns-in-Some-None c = λ plan m written closed.
    let within : AnswersWithin written.limit (plan_program plan) (lookup m) (Some c.in-Some-None.text) = rw c.in-Some-None.is-0 at written.answers in
    rw c.in-Some-None.is-1 (within closed)

pub returns-in-None-Some : goal.returns-in-None-Some
returns-in-None-Some c = λ plan m written.
    let p : Program = plan_program plan in
    let R : Reader = lookup m in
    let most = c.in-None-Some.field-0-1 in
    let within : AnswersWithin most p R None = limited c.args.most most plan m _ _ c.in-None-Some.is-1 c.in-None-Some.is-0 written in
    rw c.in-None-Some.is-1 (IfOk-weaker c.too_long.result _ _ (λ text is closed. is ∙ sym (limited-over most (answer_text (completed (tree p R))) (within closed))) c.too_long.ensures)
