use Rattle.std.proofs.Common.{subst, ℕ, List, Option}
use Rattle.std.specs.Str.Parse.{ParsesUnsigned, ExplainsUnsignedError, HasUnsignedDigitsIfOk}
use Rattle.clap.specs.Words.{found_of, one_text}
use Rattle.clap.proofs.WalkLemmas.{one_text-rows}
use Rattle.query_command.specs.Words.{IsNumber}
use Rattle.query_command.proofs.Parts.{number_read}
use Rattle.query_command.proofs.command_words.number_of.Goals as goal

pub returns : goal.returns
returns c =
    let id = c.args.id.now in
    let found = found_of c.args.matches.now in
    subst (λ (o : Option (List ℕ)). IsNumber o c.get_one.result) (one_text-rows found id)
    (number_read (λ text r. ParsesUnsigned 32 10 text r × ExplainsUnsignedError 10 text r × HasUnsignedDigitsIfOk text r) (λ text r g. g.0) (one_text found id) c.get_one.result c.get_one.ensures.none c.get_one.ensures.value)
