use Rattle.std.proofs.Common.{◌≡◌, ◌∙◌, get_or, sym, ap, subst, List, Ok, arith}
use Rattle.std.specs.Arc.{arc_value}
use Rattle.std.specs.Option.{option_map}
use Rattle.gq_parser.specs.declared.tree.Fragment.{Fragment}
use Rattle.gq_parser.specs.declared.tree.Operation.{Operation}
use Rattle.gq_parser.specs.Tree.{operation_of}
use Rattle.schema_syntax.specs.declared.tree.Definition.{Definition}
use Rattle.gq_schema.specs.Types.{tree_of}
use Rattle.gq_check.specs.Plans.{fragments_of, kept_document, operations_in, operations_of}
use Rattle.gq_check.specs.Prepared.{chosen_operation}
use Rattle.gq_check.specs.Verdict.{IsValid}
use Rattle.gq_check.proofs.preparation.prepare_again.Goals as goal

pub with_values-requires : goal.with_values-requires
with_values-requires c =
    let kept = c.args.kept.now in
    let name = option_map (λ n. n.now) c.args.operation_name in
    let o = c.in_ok-operation.operation in
    let defs : kept.definitions ≡ arc_value c.in_ok-schema.schema = grind arith in
    let same : arc_value c.in_ok-fragments.fragments ≡ kept.fragments = grind arith in
    let i = c.index-operations-place.result in
    let one : arc_value (get_or c.operations-operations.result.now c.in_ok-place.place i) ≡ arc_value i = ap arc_value (sym c.index-operations-place.is) in
    let copy : arc_value i ≡ arc_value o = grind arith in
    let there : chosen_operation (operations_in c.operations-operations.result.now) name ≡ Ok (operation_of (arc_value o)) =
    c.in_ok-place.ensures.ok i ∙ ap (λ (x : Operation). Ok (operation_of x)) (one ∙ copy) in
    record {
      document = kept_document kept;
      valid = subst (λ (ds : List Definition). IsValid (tree_of ds) (kept_document kept)) defs c.operations-operations.ensures.valid;
      same = ap (λ (fs : List Fragment). fragments_of fs) same;
      name = name;
      chosen = subst (λ (os : List Operation). chosen_operation (operations_of os) name ≡ Ok (operation_of (arc_value o))) c.operations-operations.ensures.same there;
    }
