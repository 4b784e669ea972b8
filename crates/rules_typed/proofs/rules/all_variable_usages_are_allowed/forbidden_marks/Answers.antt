use Rattle.std.proofs.Common.{◌≡◌, ◌∙◌, ◌||◌, ap, sym, refl, Bool, true, false, List, map, slice_index_or, arith}
use Rattle.std.proofs.lemmas.List.{drop_all, length-map}
use Rattle.gq_parser.specs.declared.tree.Operation as rust
use Rattle.gq_parser.specs.Tree.{operation_of}
use Rattle.rules_typed.specs.AllVariableUsagesAreAllowed.{is_forbidden}
use Rattle.rules_typed.specs.UseKinds.{use_at}
use Rattle.rules_typed.specs.ForbiddenMarks.{uses_in}
use Rattle.rules_typed.proofs.rules.all_variable_usages_are_allowed.forbidden_marks.Goals as goal

or-none : (b : Bool) → (b || false) ≡ b
or-none true = refl
or-none false = refl

pub returns : goal.returns
returns c = λ k within.
    let all = c.as_slice-operations.result.now in
    let done = rw (drop_all c.loop-first.first (map operation_of all) (omega (arith, c.loop-first-test.false, length-map all operation_of))) at (c.loop-first.invariant k within) in
    let whole = ap (λ (os : List rust.Operation). is_forbidden c.args.graph.now 0 (map operation_of os) (use_at (uses_in c.args.parts.now) k)) c.as_slice-operations.ensures.value in
    sym (or-none (slice_index_or c.loop-first.marks.items k false)) ∙ (done ∙ whole)
