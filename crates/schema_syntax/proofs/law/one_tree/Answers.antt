use Rattle.schema_syntax.proofs.Unique.{document_one}
use Rattle.schema_syntax.proofs.law.one_tree.Goals as goal

pub returns : goal.returns
returns c = λ tokens ds es h h'. document_one h h'
