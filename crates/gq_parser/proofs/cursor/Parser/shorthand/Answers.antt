use Rattle.gq_parser.proofs.Steps.{is_shorthand}
use Rattle.gq_parser.proofs.cursor.Parser.shorthand.Goals as goal

pub returns-clause-reads : goal.returns-clause-reads
returns-clause-reads c =
    let set = c.in_ok-selection_set.ensures.reads in
    (rw (c.new.ensures.items, c.new-2.ensures.items) (is_shorthand set.0), set.1)
