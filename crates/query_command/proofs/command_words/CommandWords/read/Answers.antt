use Rattle.std.proofs.Common.{subst, map}
use Rattle.std.specs.Prelude.{string_bytes}
use Rattle.clap.specs.Words.{app_of, kind_of}
use Rattle.query_command.specs.Words.{IsWords, IsUnread}
use Rattle.query_command.proofs.Refused.{taken_by, read_by, refused_by, unread, refused}
use Rattle.query_command.proofs.command_words.CommandWords.read.Goals as goal

pub returns-in-Ok-words_of-clause-ok : goal.returns-in-Ok-words_of-clause-ok
returns-in-Ok-words_of-clause-ok c =
    let texts = map string_bytes c.args.words.now in
    let app = app_of c.in_ok-command.command in
    record {
      taken = taken_by app texts c.in-Ok.matches c.in_ok-command.ensures c.in-Ok.ensures.kinds;
      parts = subst (λ rows. IsWords rows c.in-Ok-words_of.words) (read_by app texts c.in-Ok.matches c.in_ok-command.ensures c.in-Ok.ensures.matches) c.in-Ok-words_of.ensures.ok;
    }

pub returns-in-Ok-clause-err : goal.returns-in-Ok-clause-err
returns-in-Ok-clause-err c =
    let texts = map string_bytes c.args.words.now in
    let app = app_of c.in_ok-command.command in
    unread texts c.in-Err-words_of.stop (taken_by app texts c.in-Ok.matches c.in_ok-command.ensures c.in-Ok.ensures.kinds)
    (subst (λ rows. IsUnread rows c.in-Err-words_of.stop) (read_by app texts c.in-Ok.matches c.in_ok-command.ensures c.in-Ok.ensures.matches) c.in-Err-words_of.ensures.err)

pub returns-clause-err : goal.returns-clause-err
returns-clause-err c =
    let texts = map string_bytes c.args.words.now in
    refused texts (kind_of c.in-Err.error) c.refusal.result (refused_by (app_of c.in_ok-command.command) texts c.in-Err.error c.in_ok-command.ensures c.in-Err.ensures.kinds) c.refusal.ensures
