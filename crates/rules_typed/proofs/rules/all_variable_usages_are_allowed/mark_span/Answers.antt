use Rattle.std.proofs.Common.{◌∙◌, ap, false, map, not, slice_index, slice_index_or, arith}
use Rattle.std.proofs.lemmas.List.{length-map}
use Rattle.gq_parser.specs.Tree.{operation_of}
use Rattle.rules_parts.specs.declared.part.Owner.TheVariants as owner
use Rattle.rules_parts.specs.Parts.{use_of}
use Rattle.rules_spreads.specs.Rows.{rows_in}
use Rattle.rules_spreads.specs.OperationSpans.{set_at}
use Rattle.rules_typed.specs.UseKinds.{use_at}
use Rattle.rules_typed.proofs.AllowLaws.{forbids_span}
use Rattle.rules_typed.proofs.KindLaws.{same_forbids, rows-seen}
use Rattle.rules_typed.proofs.rules.all_variable_usages_are_allowed.mark_span.Goals as goal

pub returns : goal.returns
returns c = λ g k are within.
    let table = c.args.table.now in
    let span = c.args.span.now in
    let items = c.args.uses.now in
    let uses = map use_of items in
    let all = span.operations.now in
    let kind = c.requires.kinds k (omega (arith, within, length-map items use_of)) in
    let r = slice_index table.kinds.stand_ins.items k in
    let set = set_at c.in_ok-sets.sets.items r in
    let rows = rows-seen table.places items c.requires.places k within in
    let allows = c.in_ok-sets.ensures in
    let by_own = rw (c.deref.ensures.value, c.deref-2.ensures.value, c.deref-3.ensures.value) at (c.in_ok-note_missing_in_operations.ensures k) in
    let by_all = rw (c.deref-4.ensures.value, c.deref-5.ensures.value, c.deref-6.ensures.value, c.deref-7.ensures.value) at (c.in_ok-note_missing_in_fragments.ensures k) in
    forbids_span g (use_at uses k) k (map operation_of all) span.first span.count (rows_in table.places.operations.items) (rows_in table.places.fragments.items) span.reached.items set
    (slice_index_or c.args.marks.now.items k false) (slice_index_or c.note_missing_in_operations.new.noted.items k false) (slice_index_or c.note_missing_in_fragments.new.noted.items k false)
    are (omega (arith, span.within, length-map all operation_of)) (λ q. rows (owner.Operation q)) (λ j. rows (owner.Fragment j))
    (λ m o lt is. allows r m o (omega (arith, kind.within, length-map items use_of)) lt kind.listed is ∙ ap (λ b. not b) (same_forbids o.variables (use_at uses r) (use_at uses k) kind.name kind.location))
    by_own by_all
