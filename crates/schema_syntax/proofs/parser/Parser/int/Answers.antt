use Rattle.std.proofs.Common.{All, subst}
use Rattle.std.proofs.lemmas.List.Elements.{All-tail}
use Rattle.gq_lexer.specs.Tokens.{IsToken}
use Rattle.schema_syntax.proofs.parser.Parser.int.Goals as goal

pub invariant_of-self : goal.invariant_of-self
invariant_of-self c = All-tail (IsToken c.self.inside.text.now) _ _ (subst (All (IsToken c.self.inside.text.now)) c.in-Some.ensures.cases.0 c.self.invariant)
