use Rattle.std.proofs.Common.{◌∷◌, ◌∙◌, [], refl}
use Rattle.std.proofs.lemmas.Result.{err_from_is_err_and}
use Rattle.schema_syntax.proofs.Steps.{fails_earlier}
use Rattle.gq_lexer.specs.declared.token.Punct.TheVariants.{Amp}
use Rattle.gq_parser.specs.Word.{Punct}
use Rattle.schema_syntax.specs.Tree.{name_of}
use Rattle.schema_syntax.specs.Machine.{FirstInterface, MoreInterfaces}
use Rattle.schema_syntax.specs.Grammar.{AreMoreInterfaces}
use Rattle.schema_syntax.specs.Parsing.{AreSomeInterfaces}
use Rattle.schema_syntax.proofs.Views.{view_push}
use Rattle.schema_syntax.proofs.Bodies.{grown, ampersand_comes, first_interface, next_interface_holds, interfaces_end}
use Rattle.schema_syntax.proofs.parser.Parser.some_interfaces.Goals as goal

pub returns-in_err-type_name-clause-reads : goal.returns-in_err-type_name-clause-reads
returns-in_err-type_name-clause-reads c = let p = err_from_is_err_and c.from_residual.result c.from_residual.ensures.1 in rw (p.1, p.2)
    (λ stack. fails_earlier _ _ _ (ampersand_comes 128 _ _ _ stack c.eat.ensures) (c.in_err-type_name.ensures.reads 128 (MoreInterfaces ∷ stack)))

pub loop-interfaces-init : goal.loop-interfaces-init
loop-interfaces-init c = first_interface _ _ _ _ c.in_ok-type_name.field-0 _ c.eat.ensures (c.in_ok-type_name.ensures.reads 128) c.in_ok-type_name.ensures.shrinks (c.in_ok-push.ensures.items ∙ rw c.new-interfaces.ensures.items refl)

pub loop-interfaces-preserved : goal.loop-interfaces-preserved
loop-interfaces-preserved c =
    let n = c.in_ok-type_name-2.ensures.reads 128 in
    grown AreMoreInterfaces AreSomeInterfaces 128 (FirstInterface ∷ []) (MoreInterfaces ∷ []) _ _ _ _ (Punct Amp) _ _ (λ others. name_of c.in_ok-type_name-2.field-0 ∷ others) c.loop-interfaces.invariant c.loop-interfaces-test.ensures
    (next_interface_holds n.0) (λ p stack. n.1 (MoreInterfaces ∷ stack)) c.in_ok-type_name-2.ensures.shrinks (λ others. rw c.in_ok-push-2.ensures.items (view_push name_of _ _ others))

pub returns-clause-reads : goal.returns-clause-reads
returns-clause-reads c = interfaces_end _ _ _ _ c.loop-interfaces.invariant c.loop-interfaces-test.ensures
