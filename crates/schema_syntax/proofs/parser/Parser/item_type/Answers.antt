use Rattle.std.proofs.Common.{◌∷◌, []}
use Rattle.gq_parser.specs.Tree.{type_of}
use Rattle.schema_syntax.specs.Machine.{A, AnItem, ATypeName, MaybeBang}
use Rattle.schema_syntax.specs.Parsing.{IsTypeRead}
use Rattle.schema_syntax.proofs.Steps.{reads_at, item_comes}
use Rattle.schema_syntax.proofs.parser.Parser.item_type.Goals as goal

pub returns-clause-reads : goal.returns-clause-reads
returns-clause-reads c = λ room. reads_at (λ t. IsTypeRead (type_of t)) room room room (A AnItem ∷ MaybeBang ∷ []) (A ATypeName ∷ MaybeBang ∷ []) [] _ _ _ c.named_type.result c.in_default.ensures.0 (λ stack. item_comes room _ (MaybeBang ∷ stack) c.in_default.ensures.1) (c.named_type.ensures.reads room)
