use Rattle.std.proofs.Common.{subst, sym}
use Rattle.std.specs.Prelude.{string_bytes}
use Rattle.std.proofs.lemmas.List.Elements.{All-push}
use Rattle.std.specs.List.{All}
use Rattle.query_command.specs.Words.{HasNoEquals}
use Rattle.query_command.proofs.Parts.{bad_word, more_tables}
use Rattle.query_command.proofs.command_words.table_files.Goals as goal

pub returns-in-None : goal.returns-in-None
returns-in-None c = bad_word c.args.words.now c.loop-word.word-index _ c.loop-word-test.true (rw c.in-None.is at c.in_ok-table.ensures)

pub loop-word-preserved : goal.loop-word-preserved
loop-word-preserved c =
    let made = rw c.in-Some.is at c.in_ok-table.ensures in
    record {
      whole = more_tables c.args.words.now c.loop-word.word-index _ c.loop-word.tables.items c.push.new.self.items c.in-Some.table c.loop-word-test.true c.in_ok-push-in-Some.ensures.items made.0 c.loop-word.invariant.whole;
      first = subst (All (λ t. HasNoEquals (string_bytes t.name))) (sym c.in_ok-push-in-Some.ensures.items) (All-push (λ t. HasNoEquals (string_bytes t.name)) c.loop-word.tables.items c.in-Some.table c.loop-word.invariant.first made.1);
    }
