use Rattle.std.proofs.Common.{subst, Option, List, ℕ}
use Rattle.clap.specs.Words.{found_of, one_text}
use Rattle.clap.proofs.WalkLemmas.{one_text-rows}
use Rattle.query_command.specs.Words.{IsFlag}
use Rattle.query_command.proofs.Parts.{flag_read}
use Rattle.query_command.proofs.command_words.is_given.Goals as goal

pub returns : goal.returns
returns c =
    let id = c.args.id.now in
    let found = found_of c.args.matches.now in
    subst (λ (o : Option (List ℕ)). IsFlag o c.get_flag.result) (one_text-rows found id)
    (flag_read (one_text found id) c.get_flag.result c.get_flag.ensures.none c.get_flag.ensures.value c.get_flag.ensures.other)
