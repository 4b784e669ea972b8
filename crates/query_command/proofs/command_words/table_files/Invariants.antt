use Rattle.std.proofs.Common.{◌≡◌, ◌++◌, drop, map}
use Rattle.std.specs.Prelude.{string_bytes}
use Rattle.std.specs.List.{All}
use Rattle.query_command.specs.Words.{HasNoEquals, joined}
use Rattle.query_command.proofs.command_words.table_files.Given as goal

abbrev pub invariant-loop-word : goal.invariant-loop-word
invariant-loop-word l = record {
  whole : map joined l.tables.items ++ map (λ w. w.now) (drop l.word-index l.words) ≡ map (λ w. w.now) l.words;
  first : All (λ t. HasNoEquals (string_bytes t.name)) l.tables.items;
}
