use Rattle.std.proofs.Common.{◌≡◌, ℕ, ◌+◌, ◌<◌, ◌≤◌}
use Rattle.gq_lexer.specs.Place.{place_of}
use Rattle.fault_sentences.specs.Places.{BeginsAt}
use Rattle.fault_sentences.proofs.token.character_at.Given as goal

abbrev pub invariant-loop-i : goal.invariant-loop-i
invariant-loop-i l = record {
  place : l.here ≡ place_of l.bytes l.i;
  line : l.here.line ≤ l.i + 1;
  column : l.here.column ≤ l.i + 1;
  none : (k : ℕ) → k < l.i → BeginsAt l.text l.at k → ⊥;
}
