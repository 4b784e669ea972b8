use Rattle.std.proofs.Common.{◌≡◌, ◌∙◌, ◌+◌, sym, ap, arith, drop, [], Some, Option}
use Rattle.std.specs.Option.{option_map}
use Rattle.std.proofs.lemmas.List.{drop_all}
use Rattle.serde_json.proofs.Views.{view-Array}
use Rattle.serde_json.specs.View.{view, items_view}
use Rattle.gq_parser.proofs.Views.{type_list}
use Rattle.gq_parser.specs.Tree.{type_of}
use Rattle.gq_schema.specs.declared.input.Input.{Input}
use Rattle.gq_schema.specs.Types.{tree_of}
use Rattle.gq_schema.specs.Inputs.{input_of}
use Rattle.gq_schema.proofs.Walks.{drop-next}
use Rattle.gq_schema.proofs.InputLaws.{list_input-done}
use Rattle.gq_variables.specs.JsonCoercion.{all_data, data_input}
use Rattle.gq_variables.proofs.ItemLaws.{before-data}
use Rattle.gq_variables.proofs.json.+coerce.Goals as goal

pub coerce_json-returns-in_ok-coerce_all-in-Array : goal.coerce_json-returns-in_ok-coerce_all-in-Array
coerce_json-returns-in_ok-coerce_all-in-Array t c =
    let list = type_list c.in-List.place c.in-List.item c.in-List.non_null in
    let items = ap view c.in-Array.is ∙ view-Array c.in-Array.values in
    rw c.in-List.is (rw (list, items) (rw (← c.deref.ensures, ← c.deref-in-Array.ensures.value) c.in_ok-coerce_all-in-Array.ensures))

pub coerce_all-loop-value-preserved : goal.coerce_all-loop-value-preserved
coerce_all-loop-value-preserved t c =
    let i = c.loop-value.value-index in
    let values = c.args.values.now in
    let x = c.value-item.result in
    let each = data_input (tree_of c.args.schema.now) (type_of c.args.ty.now) in
    let here : each (view x) ≡ Some (input_of c.in-Some.input) = sym c.in_ok-input.ensures ∙ ap (λ (o : Option Input). option_map input_of o) c.in-Some.is in
    rw c.in_ok-push-in-Some.ensures.items (before-data each c.loop-value.inputs.items c.in-Some.input (view x) (items_view (drop (i + 1) values)) (all_data each (items_view values)) here
    (rw (drop-next values i x (omega arith) c.value-item.is) at c.loop-value.invariant))

pub coerce_all-returns : goal.coerce_all-returns
coerce_all-returns t c =
    let values = c.args.values.now in
    let each = data_input (tree_of c.args.schema.now) (type_of c.args.ty.now) in
    let done : drop c.loop-value.value-index values ≡ [] = drop_all c.loop-value.value-index values c.loop-value-test.false in
    list_input-done c.loop-value.inputs (all_data each (items_view values)) (rw done at c.loop-value.invariant)
