use Rattle.std.proofs.Common.{◌≡◌, ◌∙◌, sym, ap, arith, map}
use Rattle.std.proofs.lemmas.Grind.{common_steps}
use Rattle.std.proofs.lemmas.List.{append-nil}
use Rattle.std.proofs.lemmas.Result.{on_ok_weaker}
use Rattle.gq_parser.specs.Tree as tree
use Rattle.gq_parser.specs.Tree.{selection_of, set_of, directives_of, condition_if}
use Rattle.gq_parser.specs.declared.tree.Selection.{Selection}
use Rattle.gq_parser.proofs.Views.{selection_spread, selection_inline, of_inline}
use Rattle.rules_parts.specs.declared.source.SelectionLists.{SelectionLists}
use Rattle.rules_parts.specs.Lists.{fragments_in}
use Rattle.rules_parts.specs.Pieces.{selection_part_of, field_part_of, spread_part_of, inline_part_of}
use Rattle.rules_parts.proofs.Adding.{adds-one}
use Rattle.rules_parts.proofs.selections.add_alone.Goals as goal

pub returns-in_ok-push-in-Spread : goal.returns-in_ok-push-in-Spread
returns-in_ok-push-in-Spread c =
    let fs = fragments_in c.args.source.now in
    let old = c.args.lists.now in
    let s = c.in-Spread.spread in
    let read : selection_of c.args.part.selection.now ≡ tree.Spread s.place s.name (directives_of s.directives.items) =
    ap (λ (x : Selection). selection_of x) c.in-Spread.is ∙ selection_spread s in
    let new : SelectionLists = record { fields = old.fields; spreads = c.push-in-Spread.new.self; inlines = old.inlines; directives = c.add_directives-in-Spread.new.lists } in
    on_ok_weaker c.add_directives-in-Spread.result (λ more. adds-one fs old new (selection_part_of c.args.part) _ read
    (sym (append-nil (map field_part_of old.fields.items))) (grind (arith, common_steps)) (sym (append-nil (map inline_part_of old.inlines.items))) (rw c.deref-in-Spread.ensures.value at more)) c.add_directives-in-Spread.ensures

pub returns-in_ok-push-in-Inline : goal.returns-in_ok-push-in-Inline
returns-in_ok-push-in-Inline c =
    let fs = fragments_in c.args.source.now in
    let old = c.args.lists.now in
    let i = c.in-Inline.inline in
    let read : selection_of c.args.part.selection.now ≡ tree.Inline i.place (condition_if i.condition) (directives_of i.directives.items) (set_of i.selection_set) =
    ap (λ (x : Selection). selection_of x) c.in-Inline.is ∙ (selection_inline i ∙ of_inline i.place i.condition i.directives i.selection_set) in
    let new : SelectionLists = record { fields = old.fields; spreads = old.spreads; inlines = c.push-in-Inline.new.self; directives = c.add_directives-in-Inline.new.lists } in
    on_ok_weaker c.add_directives-in-Inline.result (λ more. adds-one fs old new (selection_part_of c.args.part) _ read
    (sym (append-nil (map field_part_of old.fields.items))) (sym (append-nil (map spread_part_of old.spreads.items))) (grind (arith, common_steps)) (rw c.deref-in-Inline.ensures.value at more)) c.add_directives-in-Inline.ensures
