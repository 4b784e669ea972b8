use Rattle.std.proofs.Common.{◌≤◌, ◌∙◌, ap, length, subst, sym}
use Rattle.server.specs.Asked.{asked_of}
use Rattle.server.specs.Clients.{ClientOf}
use Rattle.server.proofs.Loaders.{answers-many}
use Rattle.server.proofs.Outcomes.{anyway}
use Rattle.server.proofs.Responding.{answers-respond, answers-stop, plans-stop, refusal-answers}
use Rattle.server.proofs.client.ClientSession.answer_with.Goals as goal

pub returns-then-is_refused-clause-answered : goal.returns-then-is_refused-clause-answered
returns-then-is_refused-clause-answered g c =
    let inside = c.planned.inside in
    rw c.plan_asked.ensures.same
    (refusal-answers g.S.Source.may_answer c.args.self.now (asked_of c.args.asked) inside.form inside.loaders inside.plans.items c.in_ok-planned.planned c.planned.view_is c.in_ok-planned.ensures.planned c.new.result c.response.result c.new.ensures.items
    (sym c.is_refused.ensures ∙ c.if-is_refused.true) c.response.ensures)

pub invariant_of-self : goal.invariant_of-self
invariant_of-self g c =
    let done = c.answer_all.ensures in
    let many = answers-many g.S.Source.may_answer c.self.inside.session c.answer_all.new.session c.self.inside.limits c.planned.inside.plans.items c.answer_all.result done.answers done.stopped in
    subst (λ n. length c.self.inside.queries.bindings.loaders ≤ n) (sym many) c.self.invariant

pub returns-in_err-given-clause-stopped : goal.returns-in_err-given-clause-stopped
returns-in_err-given-clause-stopped g c =
    let inside = c.planned.inside in
    let same = ap (λ (x : ClientOf _). x.session) (c.self.view_is ∙ c.plan_asked.ensures.same) in
    anyway _
    (plans-stop g.S.Source.may_answer c.args.self.now (asked_of c.args.asked) inside.form inside.loaders inside.plans.items c.in_ok-planned.planned c.planned.view_is c.in_ok-planned.ensures.planned c.self.inside.session c.answer_all.new.session same
    (sym c.is_refused.ensures ∙ c.if-is_refused.false) c.in_err-given.ensures.stopped)

pub invariant_of-self-2 : goal.invariant_of-self-2
invariant_of-self-2 g c =
    let done = c.answer_all.ensures in
    let many = answers-many g.S.Source.may_answer c.self.inside.session c.answer_all.new.session c.self.inside.limits c.planned.inside.plans.items c.answer_all.result done.answers done.stopped in
    subst (λ n. length c.self.inside.queries.bindings.loaders ≤ n) (sym many) c.self.invariant

pub returns-clause-answered : goal.returns-clause-answered
returns-clause-answered g c =
    let inside = c.planned.inside in
    let began = c.self.view_is ∙ c.plan_asked.ensures.same in
    answers-respond g.S.Source.may_answer c.args.self.now (asked_of c.args.asked) inside.form inside.loaders inside.plans.items c.in_ok-planned.planned c.planned.view_is c.in_ok-planned.ensures.planned c.self.inside.session c.answer_all.new.session
    (ap (λ (x : ClientOf _). x.session) began) (sym c.is_refused.ensures ∙ c.if-is_refused.false) c.self.inside.limits c.in_ok-given.given c.in_ok-given.ensures.answers (ap (λ (x : ClientOf _). x.limits) began) c.respond.result c.respond.ensures

pub returns-clause-stopped : goal.returns-clause-stopped
returns-clause-stopped g c =
    let inside = c.planned.inside in
    let same = ap (λ (x : ClientOf _). x.session) (c.self.view_is ∙ c.plan_asked.ensures.same) in
    anyway _
    (answers-stop g.S.Source.may_answer c.args.self.now (asked_of c.args.asked) inside.form inside.loaders inside.plans.items c.in_ok-planned.planned c.planned.view_is c.in_ok-planned.ensures.planned c.self.inside.session c.answer_all.new.session same
    (sym c.is_refused.ensures ∙ c.if-is_refused.false) c.self.inside.limits c.in_ok-given.given c.in_ok-given.ensures.answers)
