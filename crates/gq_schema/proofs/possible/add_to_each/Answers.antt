use Rattle.std.proofs.Common.{arith, bytes_eq, string_bytes, drop, ◌+◌}
use Rattle.std.specs.List.{list_any}
use Rattle.schema_syntax.specs.Tree.{names_of}
use Rattle.gq_schema.specs.Types.{is_called}
use Rattle.gq_schema.specs.Possible.{names_at}
use Rattle.gq_schema.proofs.Walks.{drop-next}
use Rattle.gq_schema.proofs.TypeNameLists.{with_name_if-step}
use Rattle.gq_schema.proofs.possible.add_to_each.Goals as goal

pub loop-name-preserved : goal.loop-name-preserved
loop-name-preserved c = λ q.
    let i = c.loop-name.name-index in
    let names = c.args.names.now in
    let x = c.name-item.result in
    with_name_if-step (bytes_eq q (string_bytes x.text)) (list_any (is_called q) (names_of (drop (i + 1) names))) (list_any (is_called q) (names_of names))
    (names_at c.add_to.new.possible q) (names_at c.loop-name.possible q) (names_at c.args.possible.now q) (string_bytes c.args.object.now.text)
    (c.in_ok-add_to.ensures q) (rw (drop-next names i x (omega arith) c.name-item.is) at (c.loop-name.invariant q))
