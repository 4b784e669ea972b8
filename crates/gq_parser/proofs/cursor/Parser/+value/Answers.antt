use Rattle.std.proofs.Common.{◌≡◌, ◌∙◌, ◌∷◌, suc, ◌-◌, refl, ap, arith, rules}
use Rattle.std.proofs.lemmas.Result.{err_from_is_err_and}
use Rattle.gq_parser.specs.Word.{Punct}
use Rattle.gq_parser.specs.Tree.{and_value, no_value, and_member, no_member, literal_of, argument_of}
use Rattle.gq_parser.specs.Machine.{AColon, AValue, MoreValues, MoreMembers}
use Rattle.gq_parser.specs.Grammar.{AreValues, AreMembers, variable, int, float, text, array, object, no_more_values, next_value, no_more_members, argument}
use Rattle.gq_parser.specs.Parsing.{says}
use Rattle.gq_parser.proofs.Front.{fails_earlier, front_more, front_fails}
use Rattle.gq_parser.proofs.Views.{literal_int, literal_float, literal_text, literal_variable, literal_list, literal_object, of_argument, values_push, members_push}
use Rattle.gq_parser.proofs.Steps.{taken, list_opens, object_opens, room_back, value_comes, member_comes, member_then, not_const}
use Rattle.gq_parser.proofs.cursor.Parser.+value.Goals as goal

pub argument-returns-in_err-colon-clause-reads : goal.argument-returns-in_err-colon-clause-reads
argument-returns-in_err-colon-clause-reads t c =
    let p = err_from_is_err_and c.from_residual-in_err-colon.result c.from_residual-in_err-colon.ensures.1 in
    rw (p.1, p.2) (λ stack. fails_earlier _ _ _ ((c.in_ok-place.ensures.reads c.args.room).1 (AColon ∷ AValue c.args.constness ∷ stack)) (c.in_err-colon.ensures.reads c.args.room (AValue c.args.constness ∷ stack)))

pub argument-returns-in_err-value-clause-reads : goal.argument-returns-in_err-value-clause-reads
argument-returns-in_err-value-clause-reads t c =
    let p = err_from_is_err_and c.from_residual-in_err-value.result c.from_residual-in_err-value.ensures.1 in
    rw (p.1, p.2) (λ stack. fails_earlier _ _ _ ((c.in_ok-place.ensures.reads c.args.room).1 (AColon ∷ AValue c.args.constness ∷ stack) ∙ (c.in_ok-colon.ensures.reads c.args.room).1 (AValue c.args.constness ∷ stack)) (c.in_err-value.ensures.reads stack))

pub argument-returns-clause-reads : goal.argument-returns-clause-reads
argument-returns-clause-reads t c = (
  rw (of_argument, (c.in_ok-place.ensures.reads c.args.room).0.1, (c.in_ok-colon.ensures.reads c.args.room).0.1) (argument c.in_ok-value.ensures.reads.0),
  λ stack. (c.in_ok-place.ensures.reads c.args.room).1 (AColon ∷ AValue c.args.constness ∷ stack) ∙ (c.in_ok-colon.ensures.reads c.args.room).1 (AValue c.args.constness ∷ stack) ∙ c.in_ok-value.ensures.reads.1 stack,
)

pub members-returns-in_err-argument-clause-reads : goal.members-returns-in_err-argument-clause-reads
members-returns-in_err-argument-clause-reads t c =
    let p = err_from_is_err_and c.from_residual.result c.from_residual.ensures.1 in
    rw (p.1, p.2) (front_fails (AreMembers c.args.constness) (AreMembers c.args.constness) _ _ _ _ _ _ _ _ _ _ c.loop-constness.invariant c.loop-constness-test.ensures
    (λ h stack. fails_earlier _ _ _ (member_comes _ _ _ stack h) (c.in_err-argument.ensures.reads (MoreMembers c.args.constness ∷ stack))))

pub members-loop-constness-preserved : goal.members-loop-constness-preserved
members-loop-constness-preserved t c =
    let a = argument_of c.in_ok-argument.field-0 in
    front_more (AreMembers c.args.constness) (AreMembers c.args.constness) _ _ _ _ _ _ _ _ _ _ _ (and_member a.place a.name a.value) c.loop-constness.invariant c.loop-constness-test.ensures
    (λ others end rest. member_then c.in_ok-argument.ensures.reads.0 rest)
    (λ h stack. member_comes _ _ _ stack h ∙ c.in_ok-argument.ensures.reads.1 (MoreMembers c.args.constness ∷ stack))
    c.in_ok-argument.ensures.shrinks
    (λ others. rw c.in_ok-push.ensures.items (members_push _ _ others))

pub members-returns-clause-reads : goal.members-returns-clause-reads
members-returns-clause-reads t c =
    let eaten = c.loop-constness-test.ensures in
    (c.loop-constness.invariant.joins no_member _ (rw eaten.1 no_more_members), λ stack. c.loop-constness.invariant.reads stack ∙ rw eaten.1 refl)

pub value-returns-in_err-items-in-Punct-BracketLeft-clause-reads : goal.value-returns-in_err-items-in-Punct-BracketLeft-clause-reads
value-returns-in_err-items-in-Punct-BracketLeft-clause-reads t c =
    let p = err_from_is_err_and c.from_residual-in_err-items-in-Punct-BracketLeft.result c.from_residual-in_err-items-in-Punct-BracketLeft.ensures.1 in
    let e = taken c.in_ok-place.ensures (ap says c.in-Punct-BracketLeft.is ∙ ap Punct (rw c.in-Punct-BracketLeft.is at c.in-Punct-BracketLeft.field-0-is)) in
    rw (p.1, p.2) (λ stack. fails_earlier _ _ _ (list_opens _ stack (omega arith) e) (c.in_err-items-in-Punct-BracketLeft.ensures.reads stack))

pub value-returns-in_err-members-in-Punct-BraceLeft-clause-reads : goal.value-returns-in_err-members-in-Punct-BraceLeft-clause-reads
value-returns-in_err-members-in-Punct-BraceLeft-clause-reads t c =
    let p = err_from_is_err_and c.from_residual-in_err-members-in-Punct-BraceLeft.result c.from_residual-in_err-members-in-Punct-BraceLeft.ensures.1 in
    let e = taken c.in_ok-place.ensures (ap says c.in-Punct-BraceLeft.is ∙ ap Punct (rw c.in-Punct-BraceLeft.is at c.in-Punct-BraceLeft.field-0-is)) in
    rw (p.1, p.2) (λ stack. fails_earlier _ _ _ (object_opens _ stack (omega arith) e) (c.in_err-members-in-Punct-BraceLeft.ensures.reads stack))

pub value-returns-in_ok-text-in-Int-clause-reads : goal.value-returns-in_ok-text-in-Int-clause-reads
value-returns-in_ok-text-in-Int-clause-reads t c =
    let e = taken c.in_ok-place.ensures (ap says c.in-Int.is) in
    rw (e, c.new.ensures, literal_int, c.in_ok-text-in-Int.ensures.ok) (int, λ stack. refl)

pub value-returns-in_ok-text-in-Float-clause-reads : goal.value-returns-in_ok-text-in-Float-clause-reads
value-returns-in_ok-text-in-Float-clause-reads t c =
    let e = taken c.in_ok-place.ensures (ap says c.in-Float.is) in
    rw (e, c.new-in-Float.ensures, literal_float, c.in_ok-text-in-Float.ensures.ok) (float, λ stack. refl)

pub value-returns-in-Text-clause-reads : goal.value-returns-in-Text-clause-reads
value-returns-in-Text-clause-reads t c =
    let e = taken c.in_ok-place.ensures (ap says c.in-Text.is) in
    rw (e, c.new-in-Text.ensures, literal_text, c.from.ensures) (text, λ stack. refl)

pub value-returns-in_ok-name-in-Punct-Dollar-clause-reads : goal.value-returns-in_ok-name-in-Punct-Dollar-clause-reads
value-returns-in_ok-name-in-Punct-Dollar-clause-reads t c =
    let e = taken c.in_ok-place.ensures (ap says c.in-Punct-Dollar.is ∙ ap Punct (rw c.in-Punct-Dollar.is at c.in-Punct-Dollar.field-0-is)) in
    let name = c.in_ok-name-in-Punct-Dollar.ensures.reads c.args.room in
    let other = not_const c.args.constness (search rules) in
    (rw (e, name.0.1, c.new-in-Punct-Dollar.ensures, literal_variable, other) variable, λ stack. rw (e, other) (name.1 stack))

pub value-returns-in_ok-items-in-Punct-BracketLeft-clause-reads : goal.value-returns-in_ok-items-in-Punct-BracketLeft-clause-reads
value-returns-in_ok-items-in-Punct-BracketLeft-clause-reads t c =
    let e = taken c.in_ok-place.ensures (ap says c.in-Punct-BracketLeft.is ∙ ap Punct (rw c.in-Punct-BracketLeft.is at c.in-Punct-BracketLeft.field-0-is)) in
    let some : c.args.room ≡ suc (c.args.room - 1) = omega arith in
    (rw (e, c.new-in-Punct-BracketLeft.ensures, literal_list) (array c.in_ok-items-in-Punct-BracketLeft.ensures.reads.0), λ stack. list_opens _ stack some e ∙ c.in_ok-items-in-Punct-BracketLeft.ensures.reads.1 stack ∙ room_back stack _ some)

pub value-returns-in_ok-members-in-Punct-BraceLeft-clause-reads : goal.value-returns-in_ok-members-in-Punct-BraceLeft-clause-reads
value-returns-in_ok-members-in-Punct-BraceLeft-clause-reads t c =
    let e = taken c.in_ok-place.ensures (ap says c.in-Punct-BraceLeft.is ∙ ap Punct (rw c.in-Punct-BraceLeft.is at c.in-Punct-BraceLeft.field-0-is)) in
    let some : c.args.room ≡ suc (c.args.room - 1) = omega arith in
    (rw (e, c.new-in-Punct-BraceLeft.ensures, literal_object) (object c.in_ok-members-in-Punct-BraceLeft.ensures.reads.0), λ stack. object_opens _ stack some e ∙ c.in_ok-members-in-Punct-BraceLeft.ensures.reads.1 stack ∙ room_back stack _ some)

pub values-returns-in_err-value-clause-reads : goal.values-returns-in_err-value-clause-reads
values-returns-in_err-value-clause-reads t c =
    let p = err_from_is_err_and c.from_residual.result c.from_residual.ensures.1 in
    rw (p.1, p.2) (front_fails (AreValues c.args.constness) (AreValues c.args.constness) _ _ _ _ _ _ _ _ _ _ c.loop-constness.invariant c.loop-constness-test.ensures
    (λ h stack. fails_earlier _ _ _ (value_comes _ _ _ stack h) (c.in_err-value.ensures.reads (MoreValues c.args.constness ∷ stack))))

pub values-loop-constness-preserved : goal.values-loop-constness-preserved
values-loop-constness-preserved t c =
    front_more (AreValues c.args.constness) (AreValues c.args.constness) _ _ _ _ _ _ _ _ _ _ _ (and_value (literal_of c.in_ok-value.field-0)) c.loop-constness.invariant c.loop-constness-test.ensures
    (λ others end rest. next_value c.in_ok-value.ensures.reads.0 rest)
    (λ h stack. value_comes _ _ _ stack h ∙ c.in_ok-value.ensures.reads.1 (MoreValues c.args.constness ∷ stack))
    c.in_ok-value.ensures.shrinks
    (λ others. rw c.in_ok-push.ensures.items (values_push _ _ others))

pub values-returns-clause-reads : goal.values-returns-clause-reads
values-returns-clause-reads t c =
    let eaten = c.loop-constness-test.ensures in
    (c.loop-constness.invariant.joins no_value _ (rw eaten.1 no_more_values), λ stack. c.loop-constness.invariant.reads stack ∙ rw eaten.1 refl)
