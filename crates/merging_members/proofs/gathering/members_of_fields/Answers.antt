use Rattle.std.proofs.Common.{◌∙◌, ap, List, map}
use Rattle.gq_parser.specs.Tree.{document_of, operation_of}
use Rattle.gq_parser.specs.declared.tree.Operation as rust
use Rattle.merging_members.specs.Members.{count_operations}
use Rattle.merging_members.proofs.Adding.{added-both}
use Rattle.merging_members.proofs.gathering.members_of_fields.Goals as goal

pub returns : goal.returns
returns c = λ spread knows.
    let d = document_of c.args.document.now in
    let first = c.in_ok-first.ensures.rows spread knows in
    let others = c.in_ok-gather_fragments.ensures spread knows in
    added-both c.args.walk.now.numbers.now spread d c.in_ok-first.first c.new-rows.result.items c.gather_operations.new.rows.items c.gather_fragments.new.rows.items c.new-rows.ensures.items (c.in_ok-first.ensures.next ∙ ap (λ (os : List rust.Operation). count_operations (map operation_of os)) c.deref.ensures.value) (rw (← c.deref.ensures.value) first) (rw (← c.deref-2.ensures.value) others)
