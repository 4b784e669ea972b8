use Rattle.std.proofs.Common.{arith}
use Rattle.std.proofs.lemmas.Map.Text.{text_keys}
use Rattle.rules_untyped.proofs.variable_use_index.note_use.Goals as goal

pub returns : goal.returns
returns c = λ q. grind (arith, text_keys)
