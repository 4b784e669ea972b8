use Rattle.std.proofs.Common.{[], List, refl, inr}
use Rattle.std.proofs.lemmas.List.{append-nil}
use Rattle.gq_parser.specs.Word.{Token}
use Rattle.gq_parser.specs.Fault.{IsShallow, most_brackets}
use Rattle.schema_syntax.specs.Tree.{Definition}
use Rattle.schema_syntax.specs.Grammar.{IsDocument}
use Rattle.schema_syntax.specs.Text.{IsReadable}
use Rattle.schema_syntax.proofs.reading.read_tokens.Goals as goal

readable : {ds : List Definition} {tokens : List Token} → IsDocument ds tokens → IsShallow most_brackets tokens → IsReadable tokens
readable {ds = ds} h shallow = record { viable = record { definitions = ds; more = []; spelled = tt; is = rw append-nil h }; shallow = shallow }

pub returns-in-Some-clause-fault : goal.returns-in-Some-clause-fault
returns-in-Some-clause-fault c = rw c.in-Some.is (inr (refl, readable c.in-Ok.ensures.found.0 c.in-Ok.ensures.found.1))
