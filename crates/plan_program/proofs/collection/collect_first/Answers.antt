use Rattle.std.proofs.Common.{◌≡◌, ap, refl, List, arith}
use Rattle.gq_parser.specs.declared.tree.Selection.{Selection}
use Rattle.gq_parser.specs.Tree.{and_selection, selection_of, map_selections}
use Rattle.gq_check.specs.Plans.{plan_of}
use Rattle.plan_program.specs.declared.collection.Rest.{Rest}
use Rattle.plan_program.specs.Collecting.{collected_of}
use Rattle.plan_program.proofs.Rests.{rests-last, steps-last, rests-inside, steps-inside}
use Rattle.plan_program.proofs.collection.collect_first.Goals as goal

pub returns-in_default-clause-collected : goal.returns-in_default-clause-collected
returns-in_default-clause-collected c =
    let old = c.args.left.now in
    rests-last (plan_of c.args.plan.now) c.args.ty.now (collected_of c.args.so_far.now) old.items c.pop.new.self.items c.args.rest c.pop.result c.in_default.ensures.cases c.pop.ensures.items
    (λ none. omega (arith, old.ok.0, (rw none at c.pop.ensures.cases).0))

pub returns-in_default-clause-steps : goal.returns-in_default-clause-steps
returns-in_default-clause-steps c =
    steps-last (plan_of c.args.plan.now).fragments c.args.left.now.items c.pop.new.self.items c.args.rest c.pop.result c.in_default.ensures.cases c.pop.ensures.items

pub returns-in_ok-push-in-Some-2-clause-collected : goal.returns-in_ok-push-in-Some-2-clause-collected
returns-in_ok-push-in-Some-2-clause-collected c =
    let s = selection_of c.in-Some.selection.now in
    let others : Rest = record { selections = c.in-Some.selections; enterable = c.args.rest.enterable } in
    let first : map_selections c.args.rest.selections.now ≡ and_selection s (map_selections others.selections.now) = ap (λ (ss : List Selection). map_selections ss) c.in-Some.ensures.cases.0 in
    rests-inside (plan_of c.args.plan.now) c.args.ty.now (collected_of c.args.so_far.now) (collected_of c.collect_one.new.so_far) c.args.left.now.items c.push.new.self.items c.args.rest others c.in-Some-2.inner s
    (rw c.in-Some-2.is at c.in_ok-inner.ensures.collected) first refl c.in_ok-push-in-Some-2.ensures.items

pub returns-in_ok-push-in-Some-2-clause-steps : goal.returns-in_ok-push-in-Some-2-clause-steps
returns-in_ok-push-in-Some-2-clause-steps c =
    let s = selection_of c.in-Some.selection.now in
    let others : Rest = record { selections = c.in-Some.selections; enterable = c.args.rest.enterable } in
    let first : map_selections c.args.rest.selections.now ≡ and_selection s (map_selections others.selections.now) = ap (λ (ss : List Selection). map_selections ss) c.in-Some.ensures.cases.0 in
    steps-inside (plan_of c.args.plan.now).fragments c.args.left.now.items c.push.new.self.items c.args.rest others c.in-Some-2.inner s
    (rw c.in-Some-2.is at c.in_ok-inner.ensures.steps) first refl c.in_ok-push-in-Some-2.ensures.items
