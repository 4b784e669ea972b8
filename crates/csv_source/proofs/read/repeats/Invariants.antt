use Rattle.std.proofs.Common.{◌≡◌, ◌<◌, ◌≢◌, ℕ, List, [], take, get_or}
use Rattle.std.specs.Prelude.{bytes_eq}
use Rattle.std.specs.List.{list_any}
use Rattle.csv.specs.Records.{fields_of}
use denote.Ref.{Bor}
use Rattle.csv_source.proofs.read.repeats.Given as goal

abbrev pub invariant-loop-name : goal.invariant-loop-name
invariant-loop-name l = record {
  over : l.name-iterator.row.now ≡ l.names;
  known : (q : Bor (List ℕ)) → list_any (λ k. bytes_eq q.now k.now) l.seen.keys ≡ list_any (λ t. bytes_eq q.now t) (take l.name-iterator.at (fields_of l.names));
  apart : (a b : ℕ) → a < b → b < l.name-iterator.at → get_or (fields_of l.names) a [] ≢ get_or (fields_of l.names) b [];
}
