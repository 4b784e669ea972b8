use Rattle.std.proofs.Common.{◌≡◌, drop, filter, map}
use denote.Text.{Utf8}
use denote.Shadow.{shadow}
use Rattle.gq_lexer.specs.Tokens.{bytes_of}
use Rattle.gq_lexer.specs.declared.token.Token.{Token}
use Rattle.fault_sentences.specs.Places.{is_definition, is_name, last_defined, last_of}
use Rattle.fault_sentences.proofs.Following.{behind_from}
use Rattle.fault_sentences.proofs.token.last_defined.Given as goal

abbrev pub invariant-loop-token : goal.invariant-loop-token
invariant-loop-token l = record {
  utf8 : shadow (Utf8 l.name);
  same : last_of l.name (map (bytes_of l.schema) (filter (λ (t : Token). is_name t.kind) (behind_from (is_definition l.schema) l.is_name (drop l.token-index l.tokens))))
      ≡ last_defined l.schema l.tokens;
}
