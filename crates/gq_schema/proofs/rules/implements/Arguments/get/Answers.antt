use Rattle.std.proofs.Common.{◌∙◌, ◌<◌, sym, length, rules}
use Rattle.schema_syntax.specs.Tree.{argument_of}
use Rattle.gq_schema.specs.Types.{is_argument}
use Rattle.gq_schema.proofs.PlaceLaws.{none_at, found_within, found_element}
use Rattle.gq_schema.proofs.rules.implements.Arguments.get.Goals as goal

pub returns-in_err-place : goal.returns-in_err-place
returns-in_err-place c =
    let q = c.args.name.now in
    rw c.from_residual.ensures (sym (none_at argument_of (is_argument q) 0 c.args.self.now.arguments.now (sym (c.args.self.now.placed q) ∙ sym c.in_err-place.ensures.value)))

pub offset_bounds-self-place : goal.offset_bounds-self-place
offset_bounds-self-place c =
    let q = c.args.name.now in
    let all = c.args.self.now.arguments.now in
    let below : c.in_ok-place.field-0.now < length all = found_within argument_of (is_argument q) all c.in_ok-place.field-0.now (sym (c.args.self.now.placed q) ∙ sym c.in_ok-place.ensures.value) in
    search rules

pub bounds-self-place : goal.bounds-self-place
bounds-self-place c =
    let q = c.args.name.now in
    let all = c.args.self.now.arguments.now in
    found_within argument_of (is_argument q) all c.in_ok-place.field-0.now (sym (c.args.self.now.placed q) ∙ sym c.in_ok-place.ensures.value)

pub returns : goal.returns
returns c =
    let q = c.args.name.now in
    let all = c.args.self.now.arguments.now in
    sym (found_element argument_of (is_argument q) all c.in_ok-place.field-0.now c.index-self-place.result (sym (c.args.self.now.placed q) ∙ sym c.in_ok-place.ensures.value))
