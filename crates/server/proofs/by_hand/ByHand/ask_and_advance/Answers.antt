use Rattle.std.proofs.Common.{◌∙◌, List, map, sym, subst}
use Rattle.std.proofs.lemmas.Result.{IfOk-weaker}
use Rattle.std.specs.Prelude.{IfOk}
use Rattle.load_rounds.specs.SharedRounds.{report_of}
use Rattle.load_rounds.specs.declared.answer.Answer.{Answer}
use Rattle.rounds_by_hand.specs.declared.progress.Progress.TheVariants.{Done}
use Rattle.server.specs.Hands.{Nears, Responds, planned_of, refusals_in}
use Rattle.server.specs.Planned.{IsResponseOf}
use Rattle.server.proofs.Handing.{goes-on, held, holds-on, nears, overrun-responds, refusal-responds, responds, stays-held, told, was-held}
use Rattle.server.proofs.by_hand.ByHand.ask_and_advance.Goals as goal

pub returns-then-self-clause-answered : goal.returns-then-self-clause-answered
returns-then-self-clause-answered g c =
    let hand = c.self.inside.hand in
    let form = c.self.inside.form in
    let planned = planned_of form c.self.inside.loaders hand.plans in
    let refused = sym c.self.invariant.refuses_is ∙ c.if-self.true in
    let answer = c.in_ok-response.field-0 in
    let response = subst (λ (answers : List Answer). IsResponseOf form.is_array (refusals_in form) (map report_of answers) (report_of answer)) c.new.ensures.items c.in_ok-response.ensures in
    rw (← c.self.view_is) (refusal-responds c.self.inside.queries c.self.inside.max_answer c.self.inside.limits planned g.S.LocalSource.may_tell hand refused (c.self.invariant.refused refused) answer response)

pub invariant_of-self : goal.invariant_of-self
invariant_of-self g c = holds-on c.self.inside.queries c.self.inside.max_answer c.self.inside.limits c.self.inside.form c.self.inside.loaders c.self.inside.is_refused c.self.inside.hand c.ask_and_advance.new.self c.self.invariant c.if-self.false c.ask_and_advance.ensures.kept

pub returns-in_err-overrun-in-Err-Over-clause-underway : goal.returns-in_err-overrun-in-Err-Over-clause-underway
returns-in_err-overrun-in-Err-Over-clause-underway g c =
    rw (← c.self.view_is)
    (goes-on c.self.inside.queries c.self.inside.max_answer c.self.inside.limits c.self.inside.form c.self.inside.loaders c.self.inside.hand c.ask_and_advance.new.self c.ask_and_advance.ensures.kept.plans c.self.invariant.limits c.ask_and_advance.ensures.kept.limits g.S.LocalSource.may_tell c.ask_and_advance.ensures.underway)

pub returns-in-Err-Over-clause-underway : goal.returns-in-Err-Over-clause-underway
returns-in-Err-Over-clause-underway g c =
    rw (← c.self.view_is)
    (goes-on c.self.inside.queries c.self.inside.max_answer c.self.inside.limits c.self.inside.form c.self.inside.loaders c.self.inside.hand c.ask_and_advance.new.self c.ask_and_advance.ensures.kept.plans c.self.invariant.limits c.ask_and_advance.ensures.kept.limits g.S.LocalSource.may_tell c.ask_and_advance.ensures.underway)

pub returns-in-Err-NoMemory-clause-underway : goal.returns-in-Err-NoMemory-clause-underway
returns-in-Err-NoMemory-clause-underway g c =
    rw (← c.self.view_is)
    (goes-on c.self.inside.queries c.self.inside.max_answer c.self.inside.limits c.self.inside.form c.self.inside.loaders c.self.inside.hand c.ask_and_advance.new.self c.ask_and_advance.ensures.kept.plans c.self.invariant.limits c.ask_and_advance.ensures.kept.limits g.S.LocalSource.may_tell c.ask_and_advance.ensures.underway)

pub returns-clause-underway : goal.returns-clause-underway
returns-clause-underway g c =
    rw (← c.self.view_is)
    (goes-on c.self.inside.queries c.self.inside.max_answer c.self.inside.limits c.self.inside.form c.self.inside.loaders c.self.inside.hand c.ask_and_advance.new.self c.ask_and_advance.ensures.kept.plans c.self.invariant.limits c.ask_and_advance.ensures.kept.limits g.S.LocalSource.may_tell c.ask_and_advance.ensures.underway)

pub returns-in-Err-Over-clause-answered : goal.returns-in-Err-Over-clause-answered
returns-in-Err-Over-clause-answered g c =
    let form = c.self.inside.form in
    let loaders = c.self.inside.loaders in
    let hand = c.self.inside.hand in
    let new = c.ask_and_advance.new.self in
    let planned = planned_of form loaders hand.plans in
    let e = c.ask_and_advance.ensures in
    let open' = sym c.self.invariant.refuses_is ∙ c.if-self.false in
    let refused = rw c.in-Err-Over.field-0-is at c.in-Err-Over.ensures.refused in
    let answer = c.in_ok-overrun-in-Err-Over.field-0 in
    let was = was-held c.self.inside.queries c.self.inside.max_answer c.self.inside.limits form loaders hand new e.kept.plans c.self.invariant.limits e.kept.limits in
    let is = stays-held c.self.inside.queries c.self.inside.max_answer c.self.inside.limits form loaders hand new e.kept.plans c.self.invariant.limits e.kept.limits in
    let own = overrun-responds c.self.inside.queries c.self.inside.max_answer c.self.inside.limits planned g.S.LocalSource.may_tell hand new c.in-Err-Over.overrun was is open' refused.went answer c.in_ok-overrun-in-Err-Over.ensures in
    rw (← c.self.view_is) (told c.self.inside.queries c.self.inside.max_answer c.self.inside.limits form loaders hand new e.kept.plans (λ b. Responds g.S.LocalSource.may_tell (held c.self.inside.queries c.self.inside.max_answer c.self.inside.limits planned hand) b (Done answer)) own)

pub returns-clause-answered : goal.returns-clause-answered
returns-clause-answered g c =
    let form = c.self.inside.form in
    let loaders = c.self.inside.loaders in
    let hand = c.self.inside.hand in
    let new = c.ask_and_advance.new.self in
    let planned = planned_of form loaders hand.plans in
    let e = c.in-Ok.ensures in
    let open' = sym c.self.invariant.refuses_is ∙ c.if-self.false in
    let was = was-held c.self.inside.queries c.self.inside.max_answer c.self.inside.limits form loaders hand new e.kept.plans c.self.invariant.limits e.kept.limits in
    let is = stays-held c.self.inside.queries c.self.inside.max_answer c.self.inside.limits form loaders hand new e.kept.plans c.self.invariant.limits e.kept.limits in
    let own = IfOk-weaker c.try_map.result _ _ (λ own is-own. responds c.self.inside.queries c.self.inside.max_answer c.self.inside.limits planned g.S.LocalSource.may_tell hand new was is open' c.in-Ok.did own is-own e.answers) c.try_map.ensures.made in
    rw (← c.self.view_is) (told c.self.inside.queries c.self.inside.max_answer c.self.inside.limits form loaders hand new e.kept.plans (λ b. IfOk c.try_map.result (Responds g.S.LocalSource.may_tell (held c.self.inside.queries c.self.inside.max_answer c.self.inside.limits planned hand) b)) own)

pub returns-clause-working : goal.returns-clause-working
returns-clause-working g c =
    let form = c.self.inside.form in
    let loaders = c.self.inside.loaders in
    let hand = c.self.inside.hand in
    let new = c.ask_and_advance.new.self in
    let planned = planned_of form loaders hand.plans in
    let e = c.in-Ok.ensures in
    let was = was-held c.self.inside.queries c.self.inside.max_answer c.self.inside.limits form loaders hand new e.kept.plans c.self.invariant.limits e.kept.limits in
    let is = stays-held c.self.inside.queries c.self.inside.max_answer c.self.inside.limits form loaders hand new e.kept.plans c.self.invariant.limits e.kept.limits in
    let own = IfOk-weaker c.try_map.result _ _ (λ own is-own. nears c.self.inside.queries c.self.inside.max_answer c.self.inside.limits planned hand new was is c.in-Ok.did own is-own e.working) c.try_map.ensures.made in
    rw (← c.self.view_is) (told c.self.inside.queries c.self.inside.max_answer c.self.inside.limits form loaders hand new e.kept.plans (λ b. IfOk c.try_map.result (Nears (held c.self.inside.queries c.self.inside.max_answer c.self.inside.limits planned hand) b)) own)
