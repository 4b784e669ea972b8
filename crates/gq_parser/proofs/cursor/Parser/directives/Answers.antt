use Rattle.std.proofs.Common.{[], ◌∷◌, ◌∙◌, ap, subst, sym, arith, length}
use Rattle.std.proofs.lemmas.Result.{err_from_is_err_and}
use Rattle.std.proofs.lemmas.List.{append-nil}
use Rattle.gq_parser.specs.Tree.{directive_of, directives_of}
use Rattle.gq_parser.specs.Machine.{MaybeArguments, MaybeDirectives, read}
use Rattle.gq_parser.specs.Grammar.{AreDirectives, directive, no_directives, next_directive}
use Rattle.gq_parser.proofs.Front.{fails_earlier}
use Rattle.gq_parser.proofs.Views.{map_push}
use Rattle.gq_parser.proofs.Steps.{no_directives_come}
use Rattle.gq_parser.proofs.cursor.Parser.directives.Goals as goal

pub returns-in_err-arguments-clause-reads : goal.returns-in_err-arguments-clause-reads
returns-in_err-arguments-clause-reads c =
    let p = err_from_is_err_and c.from_residual-in_err-arguments.result c.from_residual-in_err-arguments.ensures.1 in
    rw (p.1, p.2) (λ stack. fails_earlier _ _ _ (c.loop-place.invariant.reads stack ∙ ap (read c.args.room (MaybeDirectives c.args.constness ∷ stack)) c.in-Some.ensures ∙ (c.in_ok-name.ensures.reads c.args.room).1 (MaybeArguments c.args.constness ∷ MaybeDirectives c.args.constness ∷ stack)) (c.in_err-arguments.ensures.reads (MaybeDirectives c.args.constness ∷ stack)))

pub loop-place-preserved : goal.loop-place-preserved
loop-place-preserved c =
    let name = c.in_ok-name.ensures.reads c.args.room in
    record {
      joins = λ others end rest. rw (c.in_ok-push.ensures.items, map_push directive_of _ _ others) (c.loop-place.invariant.joins _ end (rw (c.in-Some.ensures, name.0.1) (next_directive (directive c.in_ok-arguments.ensures.reads.0) rest)));
      reads = λ stack. c.loop-place.invariant.reads stack ∙ ap (read c.args.room (MaybeDirectives c.args.constness ∷ stack)) c.in-Some.ensures ∙ name.1 (MaybeArguments c.args.constness ∷ MaybeDirectives c.args.constness ∷ stack) ∙ c.in_ok-arguments.ensures.reads.1 (MaybeDirectives c.args.constness ∷ stack);
      shrinks = omega (arith, c.loop-place.invariant.shrinks, c.in_ok-name.ensures.shrinks, c.in_ok-arguments.ensures.shrinks, ap length c.in-Some.ensures);
    }

pub returns-clause-reads : goal.returns-clause-reads
returns-clause-reads c =
    let none = c.in_default.ensures in (
      rw none.0 (subst (λ ds. AreDirectives c.args.constness ds c.args.self.now c.loop-place.self) (append-nil (directives_of c.loop-place.directives.items)) (c.loop-place.invariant.joins [] _ no_directives)),
      λ stack. c.loop-place.invariant.reads stack ∙ no_directives_come _ _ _ stack none.1 ∙ ap (read c.args.room stack) (sym none.0),
    )
