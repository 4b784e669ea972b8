use Rattle.std.proofs.Common.{◌∷◌, ◌∙◌}
use Rattle.std.proofs.lemmas.Result.{err_from_is_err_and}
use Rattle.schema_syntax.proofs.Steps.{fails_earlier}
use Rattle.schema_syntax.specs.Machine.{InterfaceBody}
use Rattle.schema_syntax.proofs.Bodies.{interface_is}
use Rattle.schema_syntax.proofs.parser.Parser.interface.Goals as goal

pub returns-in_err-interface_brace-clause-reads : goal.returns-in_err-interface_brace-clause-reads
returns-in_err-interface_brace-clause-reads c = let p = err_from_is_err_and c.from_residual-in_err-interface_brace.result c.from_residual-in_err-interface_brace.ensures.1 in rw (p.1, p.2)
    (λ stack. fails_earlier _ _ _ ((c.in_ok-name.ensures.reads 128).1 (InterfaceBody ∷ stack)) (c.in_err-interface_brace.ensures.reads stack))

pub returns-in_err-fields-clause-reads : goal.returns-in_err-fields-clause-reads
returns-in_err-fields-clause-reads c = let p = err_from_is_err_and c.from_residual-in_err-fields.result c.from_residual-in_err-fields.ensures.1 in rw (p.1, p.2)
    (λ stack. fails_earlier _ _ _ ((c.in_ok-name.ensures.reads 128).1 (InterfaceBody ∷ stack) ∙ c.in_ok-interface_brace.ensures.reads.1 stack) (c.in_err-fields.ensures.reads stack))

pub returns-clause-reads : goal.returns-clause-reads
returns-clause-reads c = (
  λ place. interface_is (c.in_ok-name.ensures.reads 128).0 c.in_ok-interface_brace.ensures.reads.0 c.in_ok-fields.ensures.reads.0,
  λ stack. (c.in_ok-name.ensures.reads 128).1 (InterfaceBody ∷ stack) ∙ c.in_ok-interface_brace.ensures.reads.1 stack ∙ c.in_ok-fields.ensures.reads.1 stack,
)
