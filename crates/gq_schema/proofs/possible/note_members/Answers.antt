use Rattle.std.proofs.Common.{arith, bytes_eq, string_bytes, drop, ◌+◌}
use Rattle.std.specs.List.{list_any}
use Rattle.schema_syntax.specs.Tree.{names_of}
use Rattle.gq_schema.specs.Types.{is_called}
use Rattle.gq_schema.specs.Possible.{unions_at, has_union}
use Rattle.gq_schema.proofs.Walks.{drop-next}
use Rattle.gq_schema.proofs.TypeNameLists.{has_union-push, has_union-step}
use Rattle.gq_schema.proofs.possible.note_members.Goals as goal

pub loop-member-preserved : goal.loop-member-preserved
loop-member-preserved c = λ o q.
    let i = c.loop-member.member-index in
    let members = c.args.union.now.members.items in
    let x = c.member-item.result in
    let name = string_bytes c.args.union.now.name.text in
    has_union-step (bytes_eq q name) (bytes_eq o (string_bytes x.text)) (list_any (is_called o) (names_of (drop (i + 1) members))) (list_any (is_called o) (names_of members))
    (has_union c.note_union.new.unions o q) (has_union c.loop-member.unions o q) (has_union c.args.unions.now o q)
    (has_union-push (bytes_eq o (string_bytes x.text)) q name (unions_at c.note_union.new.unions o) (unions_at c.loop-member.unions o) (c.in_ok-note_union.ensures o))
    (rw (drop-next members i x (omega arith) (rw c.deref-member-items.ensures.value at c.member-item.is)) at (c.loop-member.invariant o q))
