-- What contracts see of the program's values.
use Rattle.std.specs.Prelude.{map}
use Rattle.bindings_syntax.specs.Seen.{text_seen}
use Rattle.gq_schema.specs.Types.{tree_of}
use Rattle.fault_sentences.specs.declared.schema.Found as rust-found
use Rattle.fault_sentences.specs.declared.line.BadLine as rust-line
use Rattle.fault_sentences.specs.Places.{Found}
use Rattle.fault_sentences.specs.Lines.{LineOf}

abbrev pub found_seen : rust-found.Found → Found
found_seen f = record { word = f.word.now; next = f.next.now; of_type = f.of_type.now }

abbrev pub line_seen : rust-line.BadLine → LineOf
line_seen bad = record {
  defs = tree_of bad.schema.now;
  text = text_seen bad.text.now;
  number = bad.number;
  bytes = bad.line.now;
  words = map (λ w. w.now) bad.words.now;
}
