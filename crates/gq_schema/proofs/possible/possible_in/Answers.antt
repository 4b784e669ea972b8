use Rattle.std.proofs.Common.{arith, drop, ◌+◌}
use Rattle.schema_syntax.specs.Tree.{definition_of}
use Rattle.gq_schema.specs.Indexes.{tree_in}
use Rattle.gq_schema.specs.Types.{possible_names}
use Rattle.gq_schema.specs.Possible.{names_at}
use Rattle.gq_schema.proofs.Walks.{drop-next}
use Rattle.gq_schema.proofs.TypeNameLists.{possible_names-step}
use Rattle.gq_schema.proofs.possible.possible_in.Goals as goal

pub loop-indexed-preserved : goal.loop-indexed-preserved
loop-indexed-preserved c = λ q.
    let i = c.loop-indexed.indexed-index in
    let all = c.args.definitions.now in
    let x = c.indexed-item.result in
    let defs = tree_in all in
    possible_names-step defs q (definition_of x.definition) (tree_in (drop (i + 1) all)) (names_at c.add_definition.new.possible q) (names_at c.loop-indexed.possible q) (possible_names defs q)
    (c.in_ok-add_definition.ensures defs q c.in_ok-unions.ensures) (rw (drop-next all i x (omega arith) c.indexed-item.is) at (c.loop-indexed.invariant q))
