use Rattle.std.proofs.Common.{ℕ, ◌<◌}
use Rattle.gq_lexer.specs.declared.token.Token.{Token}
use Rattle.fault_sentences.specs.Places.{IsAt}
use Rattle.fault_sentences.proofs.token.token_at.Given as goal

abbrev pub invariant-loop-i : goal.invariant-loop-i
invariant-loop-i l = (k : ℕ) → k < l.i → (t : Token) → IsAt l.at k t l.tokens → ⊥
