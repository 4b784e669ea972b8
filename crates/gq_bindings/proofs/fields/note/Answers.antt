use Rattle.std.proofs.Common.{arith}
use Rattle.std.proofs.lemmas.Map.Text.{text_keys}
use Rattle.gq_bindings.proofs.fields.note.Goals as goal

pub returns-in_err-insert-clause-err : goal.returns-in_err-insert-clause-err
returns-in_err-insert-clause-err c = λ q r. grind (arith, text_keys)

pub returns-clause-ok : goal.returns-clause-ok
returns-clause-ok c = λ q r. grind (arith, text_keys)
