use Rattle.std.proofs.Common.{◌≡◌, ◌∙◌, [], ◌∷◌, suc, ◌-◌, refl, sym, ap, arith, rules}
use Rattle.std.proofs.lemmas.Result.{err_from_is_err_and}
use Rattle.gq_lexer.specs.declared.token.Punct.TheVariants.{BraceLeft}
use Rattle.gq_parser.specs.declared.value.Constness.TheVariants.{NotConst}
use Rattle.gq_parser.specs.declared.keyword.Keyword.TheVariants.{On}
use Rattle.gq_parser.specs.Keywords.{keyword_of}
use Rattle.gq_parser.specs.Word.{Punct, at}
use Rattle.gq_parser.specs.Tree.{no_selection, and_selection, selection_of, set_of, set_at}
use Rattle.gq_parser.specs.Machine.{MaybeArguments, MaybeDirectives, ASet, MaybeSet, FirstSelection, MoreSelections, one, read}
use Rattle.gq_parser.specs.Grammar.{AreSelections, IsSelectionSet, field, spread, inline, no_set, a_set, no_condition, condition, no_more_selections, next_selection}
use Rattle.gq_parser.proofs.Front.{fails_earlier, earlier, front_more, front_fails}
use Rattle.gq_parser.proofs.Views.{selection_field, selection_spread, selection_inline, of_field, of_inline, of_set, selections_push}
use Rattle.gq_parser.proofs.Steps.{no_set_comes, selection_comes, inline_comes, condition_comes, spread_comes, not_on, set_opens, maybe_set_opens, room_back}
use Rattle.gq_parser.proofs.Lists.{first_selection}
use Rattle.gq_parser.proofs.cursor.Parser.+selection.Goals as goal

pub dots-returns-in_err-inline-clause-reads : goal.dots-returns-in_err-inline-clause-reads
dots-returns-in_err-inline-clause-reads t c =
    let p = err_from_is_err_and c.from_residual.result c.from_residual.ensures.1 in
    let none = c.in_default.ensures in
    rw (p.1, p.2) (λ stack. fails_earlier _ _ _ (inline_comes _ _ stack none.1 ∙ ap (read c.args.room (MaybeDirectives NotConst ∷ ASet ∷ stack)) (sym none.0)) (c.in_err-inline.ensures.reads stack))

pub dots-returns-in_default-clause-reads : goal.dots-returns-in_default-clause-reads
dots-returns-in_default-clause-reads t c =
    let none = c.in_default.ensures in
    let inner = c.in_ok-inline.ensures.reads in
    (rw (selection_inline, ← none.0) (inner.0 _ no_condition), λ stack. inline_comes _ _ stack none.1 ∙ rw (← none.0) (inner.1 stack))

pub dots-returns-in_err-inline-2-clause-reads : goal.dots-returns-in_err-inline-2-clause-reads
dots-returns-in_err-inline-2-clause-reads t c =
    let p = err_from_is_err_and c.from_residual-in_err-inline-2.result c.from_residual-in_err-inline-2.ensures.1 in
    let is : keyword_of c.in-Some.name.value.now ≡ On = search rules in
    let e = c.in-Some.ensures in
    let name = c.in_ok-condition.ensures.reads c.args.room in
    rw (p.1, p.2) (λ stack. fails_earlier _ _ _ (condition_comes _ stack is e ∙ name.1 (MaybeDirectives _ ∷ ASet ∷ stack)) (c.in_err-inline-2.ensures.reads stack))

pub dots-returns-then-eq-clause-reads : goal.dots-returns-then-eq-clause-reads
dots-returns-then-eq-clause-reads t c =
    let is : keyword_of c.in-Some.name.value.now ≡ On = search rules in
    let e = c.in-Some.ensures in
    let name = c.in_ok-condition.ensures.reads c.args.room in
    let inner = c.in_ok-inline-2.ensures.reads in
    (rw (selection_inline, e, is, name.0.1) (inner.0 _ condition), λ stack. condition_comes _ stack is e ∙ name.1 (MaybeDirectives _ ∷ ASet ∷ stack) ∙ inner.1 stack)

pub dots-returns-clause-reads : goal.dots-returns-clause-reads
dots-returns-clause-reads t c =
    let other = not_on (keyword_of c.in-Some.name.value.now) (search rules) in
    let e = c.in-Some.ensures in
    let inner = c.in_ok-directives.ensures.reads in
    (rw (selection_spread, e, c.in_ok-name.ensures.ok) (spread other inner.0), λ stack. rw e (spread_comes _ _ _ _ _ stack other ∙ inner.1 stack))

pub field-returns-in_err-alias-clause-reads : goal.field-returns-in_err-alias-clause-reads
field-returns-in_err-alias-clause-reads t c =
    let p = err_from_is_err_and c.from_residual.result c.from_residual.ensures.1 in
    rw (p.1, p.2) (λ k stack. c.in_err-alias.ensures.reads c.args.room c.args.place k (MaybeArguments _ ∷ MaybeDirectives _ ∷ MaybeSet ∷ stack))

pub field-returns-in_err-arguments-clause-reads : goal.field-returns-in_err-arguments-clause-reads
field-returns-in_err-arguments-clause-reads t c =
    let p = err_from_is_err_and c.from_residual-in_err-arguments.result c.from_residual-in_err-arguments.ensures.1 in
    rw (p.1, p.2) (λ k stack. fails_earlier _ _ _ ((c.in_ok-alias.ensures.reads c.args.room c.args.place k).1 (MaybeArguments _ ∷ MaybeDirectives _ ∷ MaybeSet ∷ stack)) (c.in_err-arguments.ensures.reads (MaybeDirectives _ ∷ MaybeSet ∷ stack)))

pub field-returns-in_err-directives-clause-reads : goal.field-returns-in_err-directives-clause-reads
field-returns-in_err-directives-clause-reads t c =
    let p = err_from_is_err_and c.from_residual-in_err-directives.result c.from_residual-in_err-directives.ensures.1 in
    rw (p.1, p.2) (λ k stack. fails_earlier _ _ _ ((c.in_ok-alias.ensures.reads c.args.room c.args.place k).1 (MaybeArguments _ ∷ MaybeDirectives _ ∷ MaybeSet ∷ stack) ∙ c.in_ok-arguments.ensures.reads.1 (MaybeDirectives _ ∷ MaybeSet ∷ stack)) (c.in_err-directives.ensures.reads (MaybeSet ∷ stack)))

pub field-returns-in_err-selection_set-clause-reads : goal.field-returns-in_err-selection_set-clause-reads
field-returns-in_err-selection_set-clause-reads t c =
    let p = err_from_is_err_and c.from_residual-in_err-selection_set.result c.from_residual-in_err-selection_set.ensures.1 in
    rw (p.1, p.2) (λ k stack. fails_earlier _ _ _ ((c.in_ok-alias.ensures.reads c.args.room c.args.place k).1 (MaybeArguments _ ∷ MaybeDirectives _ ∷ MaybeSet ∷ stack) ∙ c.in_ok-arguments.ensures.reads.1 (MaybeDirectives _ ∷ MaybeSet ∷ stack) ∙ c.in_ok-directives.ensures.reads.1 (MaybeSet ∷ stack)) (c.in_err-selection_set.ensures.reads stack))

pub field-returns-clause-reads : goal.field-returns-clause-reads
field-returns-clause-reads t c = λ k. (
  rw of_field (field (c.in_ok-alias.ensures.reads c.args.room c.args.place k).0 c.in_ok-arguments.ensures.reads.0 c.in_ok-directives.ensures.reads.0 c.in_ok-selection_set.ensures.reads.0),
  λ stack. (c.in_ok-alias.ensures.reads c.args.room c.args.place k).1 (MaybeArguments _ ∷ MaybeDirectives _ ∷ MaybeSet ∷ stack) ∙ c.in_ok-arguments.ensures.reads.1 (MaybeDirectives _ ∷ MaybeSet ∷ stack) ∙ c.in_ok-directives.ensures.reads.1 (MaybeSet ∷ stack) ∙ c.in_ok-selection_set.ensures.reads.1 stack,
)

pub inline-returns-clause-reads : goal.inline-returns-clause-reads
inline-returns-clause-reads t c = (
  λ mid condition. rw of_inline (inline condition c.in_ok-directives.ensures.reads.0 c.in_ok-selection_set.ensures.reads.0),
  λ stack. c.in_ok-directives.ensures.reads.1 (ASet ∷ stack) ∙ c.in_ok-selection_set.ensures.reads.1 stack,
)

pub maybe_set-returns-in_default-clause-reads : goal.maybe_set-returns-in_default-clause-reads
maybe_set-returns-in_default-clause-reads t c =
    let none = c.in_default.ensures in
    rw none.0 (no_set, λ stack. no_set_comes _ _ stack none.1)

pub maybe_set-returns-in_err-set-clause-reads : goal.maybe_set-returns-in_err-set-clause-reads
maybe_set-returns-in_err-set-clause-reads t c =
    let p = err_from_is_err_and c.from_residual.result c.from_residual.ensures.1 in
    rw (p.1, p.2) (λ stack. fails_earlier _ _ _ (maybe_set_opens stack (omega arith) c.in-Some.ensures) (c.in_err-set.ensures.reads stack))

pub maybe_set-returns-clause-reads : goal.maybe_set-returns-clause-reads
maybe_set-returns-clause-reads t c =
    let some : c.args.room ≡ suc (c.args.room - 1) = omega arith in
    let inner = c.in_ok-set.ensures.reads in
    (rw (c.in-Some.ensures, c.in_ok-new.ensures.ok) (a_set inner.0), λ stack. maybe_set_opens stack some c.in-Some.ensures ∙ inner.1 stack ∙ room_back stack _ some)

pub selection-returns-in_err-field-clause-reads : goal.selection-returns-in_err-field-clause-reads
selection-returns-in_err-field-clause-reads t c =
    let p = err_from_is_err_and c.from_residual-in_err-field.result c.from_residual-in_err-field.ensures.1 in
    let e = rw (c.in-Some.place-is, c.in-Some.value-is) at c.in-Some.ensures in
    rw (p.1, p.2) (λ stack. rw e (c.in_err-field.ensures.reads (keyword_of c.in-Some.value.now) (MoreSelections ∷ stack)))

pub selection-returns-in-Some-clause-reads : goal.selection-returns-in-Some-clause-reads
selection-returns-in-Some-clause-reads t c =
    let e = c.in-Some.ensures in
    (rw (selection_field, e, ← c.in_ok-first.ensures.ok) (c.in_ok-field.ensures.reads _).0, λ stack. rw e ((c.in_ok-field.ensures.reads On).1 (MoreSelections ∷ stack)))

pub selections-loop-selections-init : goal.selections-loop-selections-init
selections-loop-selections-init t c = first_selection _ _ _ _ c.in_ok-selection.field-0 _ c.in_ok-selection.ensures.reads.0 c.in_ok-selection.ensures.reads.1 c.in_ok-selection.ensures.shrinks (c.in_ok-push.ensures.items ∙ rw c.in_ok-selections.ensures.items refl)

pub selections-returns-in_err-selection-2-clause-reads : goal.selections-returns-in_err-selection-2-clause-reads
selections-returns-in_err-selection-2-clause-reads t c =
    let p = err_from_is_err_and c.from_residual-in_err-selection-2.result c.from_residual-in_err-selection-2.ensures.1 in
    rw (p.1, p.2) (front_fails AreSelections (λ ss before. IsSelectionSet (set_at c.args.place ss) (at c.args.place (Punct BraceLeft) ∷ before)) _ _ _ _ _ _ _ _ _ _ c.loop-selections.invariant c.loop-selections-test.ensures
    (λ h stack. fails_earlier _ _ _ (selection_comes _ _ stack h) (c.in_err-selection-2.ensures.reads stack)))

pub selections-loop-selections-preserved : goal.selections-loop-selections-preserved
selections-loop-selections-preserved t c =
    front_more AreSelections (λ ss before. IsSelectionSet (set_at c.args.place ss) (at c.args.place (Punct BraceLeft) ∷ before)) _ _ _ _ _ _ _ _ _ _ _ (and_selection (selection_of c.in_ok-selection-2.field-0)) c.loop-selections.invariant c.loop-selections-test.ensures
    (λ others end rest. next_selection c.in_ok-selection-2.ensures.reads.0 rest)
    (λ h stack. selection_comes _ _ stack h ∙ c.in_ok-selection-2.ensures.reads.1 stack)
    c.in_ok-selection-2.ensures.shrinks
    (λ others. rw c.in_ok-push-2.ensures.items (selections_push _ _ others))

pub selections-returns-clause-reads : goal.selections-returns-clause-reads
selections-returns-clause-reads t c =
    let eaten = c.loop-selections-test.ensures in
    (rw (of_set, c.shrink_to_fit.ensures.items) (c.loop-selections.invariant.joins no_selection _ (rw eaten.1 no_more_selections)), λ stack. c.loop-selections.invariant.reads stack ∙ rw eaten.1 refl)

pub set-returns-clause-reads : goal.set-returns-clause-reads
set-returns-clause-reads t c =
    let some : c.args.room ≡ suc (c.args.room - 1) = omega arith in
    let e = c.in-Some.ensures in
    earlier (λ s. IsSelectionSet (set_of s)) (λ s before. IsSelectionSet (set_of s) (at c.in-Some.place (Punct BraceLeft) ∷ before)) c.args.room (c.args.room - 1) c.args.room (suc (c.args.room - 1)) (one ASet) (one FirstSelection) [] []
    c.args.self.now c.take.new.self c.selections.new.self c.selections.result
    (λ s h. rw e h) (λ stack. set_opens stack some e) (λ stack. room_back stack _ some) c.selections.ensures.reads
