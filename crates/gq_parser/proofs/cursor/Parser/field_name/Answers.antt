use Rattle.std.proofs.Common.{refl}
use Rattle.gq_parser.specs.Grammar.{unaliased, aliased}
use Rattle.gq_parser.proofs.Steps.{no_alias_comes}
use Rattle.gq_parser.proofs.cursor.Parser.field_name.Goals as goal

pub returns-then-not-eat-clause-reads : goal.returns-then-not-eat-clause-reads
returns-then-not-eat-clause-reads c = λ room place k. rw c.if-not-eat.ensures.0 (unaliased, λ stack. no_alias_comes room _ stack c.if-not-eat.ensures.1)

pub returns-clause-reads : goal.returns-clause-reads
returns-clause-reads c = λ room place k. rw (c.if-not-eat.ensures.1, (c.in_ok-name.ensures.reads room).0.1) (aliased, λ stack. refl)
