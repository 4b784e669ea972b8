use Rattle.std.proofs.Common.{◌∷◌, ◌∙◌, [], refl}
use Rattle.std.proofs.lemmas.Result.{err_from_is_err_and}
use Rattle.schema_syntax.proofs.Steps.{fails_earlier}
use Rattle.gq_lexer.specs.declared.token.Punct.TheVariants.{Pipe}
use Rattle.gq_parser.specs.Word.{Punct}
use Rattle.schema_syntax.specs.Tree.{name_of}
use Rattle.schema_syntax.specs.Machine.{A, ATypeName, MaybePipe, MoreMembers}
use Rattle.schema_syntax.specs.Grammar.{AreMoreMembers}
use Rattle.schema_syntax.specs.Parsing.{AreMembersRead}
use Rattle.schema_syntax.proofs.Views.{view_push}
use Rattle.schema_syntax.proofs.Bodies.{grown, pipe_comes, first_member, next_member_holds, members_end}
use Rattle.schema_syntax.proofs.parser.Parser.members.Goals as goal

pub returns-in_err-type_name-clause-reads : goal.returns-in_err-type_name-clause-reads
returns-in_err-type_name-clause-reads c = let p = err_from_is_err_and c.from_residual.result c.from_residual.ensures.1 in rw (p.1, p.2)
    (λ stack. fails_earlier _ _ _ (pipe_comes 128 _ _ _ (A ATypeName ∷ MoreMembers ∷ stack) c.eat.ensures) (c.in_err-type_name.ensures.reads 128 (MoreMembers ∷ stack)))

pub loop-members-init : goal.loop-members-init
loop-members-init c = first_member _ _ _ _ c.in_ok-type_name.field-0 _ c.eat.ensures (c.in_ok-type_name.ensures.reads 128) c.in_ok-type_name.ensures.shrinks (c.in_ok-push.ensures.items ∙ rw c.new-members.ensures.items refl)

pub loop-members-preserved : goal.loop-members-preserved
loop-members-preserved c =
    let n = c.in_ok-type_name-2.ensures.reads 128 in
    grown AreMoreMembers AreMembersRead 128 (MaybePipe ∷ A ATypeName ∷ MoreMembers ∷ []) (MoreMembers ∷ []) _ _ _ _ (Punct Pipe) _ _ (λ others. name_of c.in_ok-type_name-2.field-0 ∷ others) c.loop-members.invariant c.loop-members-test.ensures
    (next_member_holds n.0) (λ p stack. n.1 (MoreMembers ∷ stack)) c.in_ok-type_name-2.ensures.shrinks (λ others. rw c.in_ok-push-2.ensures.items (view_push name_of _ _ others))

pub returns-clause-reads : goal.returns-clause-reads
returns-clause-reads c = members_end _ _ _ _ c.loop-members.invariant c.loop-members-test.ensures
