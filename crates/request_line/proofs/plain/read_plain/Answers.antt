use Rattle.std.proofs.Common.{◌≡◌, [], ◌∷◌, refl, arith}
use Rattle.json.specs.Token.{begin_object}
use Rattle.json.specs.Lex.{tokens}
use Rattle.serde_json.specs.Data.{object}
use Rattle.request_line.specs.Requests.{IsValue}
use Rattle.request_line.specs.Plain.{ReadsMembers}
use Rattle.request_line.proofs.PlainMembers.{object_read}
use Rattle.request_line.proofs.plain.read_plain.Goals as goal

pub returns-in-None : goal.returns-in-None
returns-in-None c =
    let text = c.args.text.now in
    let opened : tokens text ≡ begin_object ∷ c.next.new.self = grind arith in
    let over : c.read_members.new.reader ≡ [] = grind arith in
    let said : ReadsMembers c.next.new.self c.read_members.new.reader c.in-Some.parts = grind arith in
    let is : IsValue text (object said.0) = record { text = c.utf8.text; value = object_read text c.next.new.self c.read_members.new.reader said.0 opened said.2 over } in
    c.of_request.ensures text (object said.0) is refl (c.request.ensures said.0 said.1)
