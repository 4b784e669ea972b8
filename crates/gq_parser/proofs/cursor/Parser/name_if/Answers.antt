use Rattle.std.proofs.Common.{refl}
use Rattle.gq_parser.specs.Grammar.{no_name, a_name}
use Rattle.gq_parser.proofs.Steps.{no_name_comes}
use Rattle.gq_parser.proofs.cursor.Parser.name_if.Goals as goal

pub returns-in_default-clause-reads : goal.returns-in_default-clause-reads
returns-in_default-clause-reads c = λ room. rw c.in_default.ensures.0 (no_name, λ stack. no_name_comes room _ stack c.in_default.ensures.1)

pub returns-clause-reads : goal.returns-clause-reads
returns-clause-reads c = λ room. rw (c.in-Some.ensures, c.in_ok-from_str.ensures.ok) (a_name, λ stack. refl)
