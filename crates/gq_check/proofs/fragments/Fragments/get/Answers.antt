use Rattle.std.proofs.Common.{◌∙◌, sym, ◌<◌, length, arith}
use Rattle.gq_parser.specs.Tree.{fragment_of}
use Rattle.gq_schema.proofs.PlaceLaws.{none_at, found_within, found_first}
use Rattle.gq_check.specs.Plans.{is_fragment}
use Rattle.gq_check.proofs.fragments.Fragments.get.Goals as goal

pub returns-in_err-place : goal.returns-in_err-place
returns-in_err-place c =
    let q = c.args.name.now in
    let all = c.self.inside.items.items in
    let at = sym (c.self.invariant q) ∙ sym c.in_err-place.ensures.value in
    rw (c.from_residual.ensures, ← c.self.view_is) (sym (none_at fragment_of (is_fragment q) 0 all at))

pub index-requires : goal.index-requires
index-requires c =
    let q = c.args.name.now in
    let all = c.self.inside.items.items in
    let at = sym (c.self.invariant q) ∙ sym c.in_ok-place.ensures.value in
    let below : c.in_ok-place.field-0.now < length all = found_within fragment_of (is_fragment q) all c.in_ok-place.field-0.now at in
    omega arith

pub returns : goal.returns
returns c =
    let q = c.args.name.now in
    let all = c.self.inside.items.items in
    let at = sym (c.self.invariant q) ∙ sym c.in_ok-place.ensures.value in
    rw (← c.self.view_is) (sym (found_first fragment_of (is_fragment q) all c.in_ok-place.field-0.now c.index.result.now at c.index.ensures))
