use Rattle.std.proofs.Common.{arith}
use Rattle.std.proofs.lemmas.Grind.{text_groups}
use Rattle.gq_schema.proofs.possible.note_union.Goals as goal

pub returns : goal.returns
returns c = λ o. grind (arith, text_groups)
