use Rattle.std.proofs.Common.{[], ◌∷◌, arith, length-append}
use Rattle.json.specs.Print.{quoted}
use Rattle.gq_resolve.proofs.Sizes.{in-quotes, takes-some}
use Rattle.gq_resolve.proofs.answer_text.least_bytes.Goals as goal

pub returns-in-Key : goal.returns-in-Key
returns-in-Key c = rw c.in-Key.is (omega (arith, c.text_bytes.ensures, in-quotes c.in-Key.text.now, length-append (quoted c.in-Key.text.now) (58 ∷ [])))

pub returns-in-String : goal.returns-in-String
returns-in-String c = rw c.in-String.is (omega (arith, c.text_bytes-in-String.ensures, in-quotes c.in-String.text.now))

pub returns-in_default : goal.returns-in_default
returns-in_default c = takes-some _ c.requires
