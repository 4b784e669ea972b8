use Rattle.std.proofs.Common.{Some, None, arith, rules, ap₂, sym, ◌∙◌, ◌≡◌, ◌++◌, ◌∷◌, subst}
use Rattle.std.specs.Prelude.{string_bytes}
use Rattle.std.proofs.lemmas.Str.Pattern.{split_parts}
use Rattle.query_command.specs.Words.{HasNoEquals}
use Rattle.query_command.proofs.Parts.{lacks_equals}
use Rattle.query_command.proofs.command_words.table_file.Goals as goal

pub returns-in_ok-from_str-in-Some-2 : goal.returns-in_ok-from_str-in-Some-2
returns-in_ok-from_str-in-Some-2 c =
    let parts = split_parts 61 c.args.word.now (Some (c.in-Some.name, c.in-Some.file)) c.in-Some.ensures.cases (omega arith) in
    let name : string_bytes c.in_ok-from_str-in-Some.field-0 ≡ c.in-Some.name.now = search rules in
    let file : string_bytes c.in_ok-from_str-in-Some-2.field-0 ≡ c.in-Some.file.now = search rules in
    (ap₂ (λ a b. a ++ 61 ∷ b) name file ∙ sym parts.0, subst HasNoEquals (sym name) (lacks_equals c.in-Some.name.now parts.1))

pub returns-in-None : goal.returns-in-None
returns-in-None c = lacks_equals c.args.word.now (split_parts 61 c.args.word.now None c.in-None.ensures.cases (omega arith))
