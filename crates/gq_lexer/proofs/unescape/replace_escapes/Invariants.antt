use Rattle.std.proofs.Common.{length}
use Rattle.std.specs.String.{string_bytes}
use Rattle.gq_lexer.proofs.Values.{IsUnescaped}
use Rattle.gq_lexer.proofs.unescape.replace_escapes.Given as goal

abbrev pub invariant-loop-rest : goal.invariant-loop-rest
invariant-loop-rest l = IsUnescaped l.body l.rest (string_bytes l.value)

abbrev pub decreases-loop-rest : goal.decreases-loop-rest
decreases-loop-rest l = length l.rest
