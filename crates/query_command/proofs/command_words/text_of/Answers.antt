use Rattle.std.proofs.Common.{ap, ◌∙◌, ◌≡◌, ℕ, List, [], Option, rules}
use Rattle.std.specs.Prelude.{unwrap_or}
use Rattle.std.proofs.lemmas.Result.{IfOk-weaker}
use Rattle.clap.specs.Words.{found_of, first_value}
use Rattle.clap.proofs.WalkLemmas.{first_value-rows}
use Rattle.query_command.proofs.command_words.text_of.Goals as goal

pub returns : goal.returns
returns c =
    let found = found_of c.args.matches.now in
    let text : c.unwrap_or.result.now ≡ unwrap_or (first_value found c.args.id.now) [] = search rules in
    IfOk-weaker c.from_str.result _ _ (λ s e. e ∙ text ∙ ap (λ (o : Option (List ℕ)). unwrap_or o []) (first_value-rows found c.args.id.now)) c.from_str.ensures.ok
