use Rattle.std.proofs.Common.{◌≡◌, ◌∷◌, [], length, List, ℕ}
use Rattle.csv_source.specs.Reading.{IsPlain, StandsBehind, Lawful}
use Rattle.csv_source.proofs.read.read_all.Given as goal

abbrev pub invariant-loop-rows : goal.invariant-loop-rows
invariant-loop-rows g l = record {
  plain : IsPlain l.reader;
  begun : l.builder.begun ≡ [];
  count : length l.builder.rows ≡ l.rows;
  lawful : Lawful (l.builder.names ∷ l.builder.rows);
  behind : (text : List ℕ) → StandsBehind g.R.Read.remaining l.fn.reader text [] → StandsBehind g.R.Read.remaining l.reader text (l.builder.names ∷ l.builder.rows);
}
