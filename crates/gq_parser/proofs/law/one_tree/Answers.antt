use Rattle.gq_parser.proofs.Unique.{document_one}
use Rattle.gq_parser.proofs.law.one_tree.Goals as goal

pub returns : goal.returns
returns c = λ tokens d e h h'. document_one h h'
