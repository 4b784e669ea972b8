use Rattle.std.proofs.Common.{◌≡◌, ◌∙◌, ◌+◌, sym, ap, arith, map, drop, [], Some, Option}
use Rattle.std.specs.Option.{option_map}
use Rattle.std.proofs.lemmas.List.{drop_all}
use Rattle.gq_parser.specs.declared.tree.Value.{Value}
use Rattle.gq_parser.specs.Tree.{Array, the_literal, type_of, literal_of, map_literals, values_of}
use Rattle.gq_parser.proofs.Views.{type_named, type_list, literal_list}
use Rattle.gq_schema.specs.declared.input.Input.{Input}
use Rattle.gq_schema.specs.Inputs.{input_of}
use Rattle.gq_schema.specs.Coercion.{all_items}
use Rattle.gq_schema.proofs.Walks.{drop-next}
use Rattle.gq_schema.proofs.InputLaws.{before-step, list_input-done}
use Rattle.gq_check.specs.Plans.{plan_of}
use Rattle.plan_program.specs.Arguments.{literal_value}
use Rattle.plan_program.proofs.arguments.+literal.Goals as goal

pub literal_value-returns-in_ok-name_value-in-Named : goal.literal_value-returns-in_ok-name_value-in-Named
literal_value-returns-in_ok-name_value-in-Named t c =
    let named = ap type_of c.in-Named.is ∙ type_named c.in-Named.place c.in-Named.name c.in-Named.non_null in
    rw named (c.in_ok-name_value-in-Named.ensures _ _ _ named)

pub literal_value-returns-in_ok-list_value-in-List-value : goal.literal_value-returns-in_ok-list_value-in-List-value
literal_value-returns-in_ok-list_value-in-List-value t c =
    let list = type_list c.in-List.place c.in-List.item c.in-List.non_null in
    let p = c.args.literal.now.place in
    let items : literal_of c.args.literal.now ≡ Array p (map_literals c.in-List-value.items.items) = ap (λ (v : Value). literal_of (the_literal p v)) c.in-List-value.is ∙ literal_list p c.in-List-value.items in
    rw c.in-List.is (rw (list, items) (rw (← c.deref.ensures, ← c.deref-in-List-value.ensures.value) c.in_ok-list_value-in-List-value.ensures))

pub list_value-loop-literal-preserved : goal.list_value-loop-literal-preserved
list_value-loop-literal-preserved t c =
    let i = c.loop-literal.literal-index in
    let literals = c.args.literals.now in
    let x = c.literal-item.result in
    let item = literal_value (plan_of c.args.plan.now) (type_of c.args.ty.now) in
    let here : item (literal_of x) ≡ Some (input_of c.in-Some.input) = sym c.in_ok-input.ensures ∙ ap (λ (o : Option Input). option_map input_of o) c.in-Some.is in
    rw c.in_ok-push-in-Some.ensures.items (before-step item c.loop-literal.inputs.items c.in-Some.input (literal_of x) (values_of (map literal_of (drop (i + 1) literals))) (all_items item (values_of (map literal_of literals))) here
    (rw (drop-next literals i x (omega arith) c.literal-item.is) at c.loop-literal.invariant))

pub list_value-returns : goal.list_value-returns
list_value-returns t c =
    let literals = c.args.literals.now in
    let item = literal_value (plan_of c.args.plan.now) (type_of c.args.ty.now) in
    let done : drop c.loop-literal.literal-index literals ≡ [] = drop_all c.loop-literal.literal-index literals c.loop-literal-test.false in
    list_input-done c.loop-literal.inputs (all_items item (values_of (map literal_of literals))) (rw done at c.loop-literal.invariant)
