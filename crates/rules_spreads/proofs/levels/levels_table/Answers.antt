use Rattle.std.proofs.Common.{◌∙◌, sym, length, map}
use Rattle.gq_parser.specs.Tree.{fragment_of}
use Rattle.rules_spreads.proofs.LevelLaws.{tested-full}
use Rattle.rules_spreads.proofs.levels.levels_table.Goals as goal

pub returns-then-is_full-clause-full : goal.returns-then-is_full-clause-full
returns-then-is_full-clause-full c =
    tested-full c.in_ok-table.table.items (length (map fragment_of c.args.parts.now.document.now.fragments.items)) (sym (rw c.deref.ensures.value at c.is_full.ensures) ∙ c.if-is_full.true) c.in_ok-table.ensures.len
