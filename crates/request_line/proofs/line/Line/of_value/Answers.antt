use Rattle.std.proofs.Common.{◌∙◌, ap, sym, arith}
use Rattle.std.specs.Option.{option_map}
use Rattle.serde_json.specs.View.{view, items_view}
use Rattle.request_line.proofs.Lines.{array_reading, array_refused}
use Rattle.request_line.proofs.line.Line.of_value.Goals as goal
use Rattle.request_line.proofs.line.Line.of_value.Goals.{then-is_empty-via-then-is_empty, then-is_empty-via-else-is_empty+then-len-gt-MOST_REQUESTS}

pub returns-in_default : goal.returns-in_default
returns-in_default c = λ line is.
    c.of_request.ensures line (view c.args.value.now) is (sym c.as_array.ensures ∙ ap (option_map (λ v. items_view v.now.items)) c.in_default.is) c.of_value.ensures

pub returns-then-is_empty : goal.returns-then-is_empty
returns-then-is_empty c = λ line is.
    array_refused line (view c.args.value.now) c.in-Some.values.now.items is c.in-Some.ensures (λ some few. elim c.then-is_empty.branch [
      | then-is_empty-via-then-is_empty w ↦ grind arith
      | then-is_empty-via-else-is_empty+then-len-gt-MOST_REQUESTS w ↦ grind arith
    ])

pub returns : goal.returns
returns c = λ line is.
    array_reading line (view c.args.value.now) c.in-Some.values.now.items is c.in-Some.ensures c.in_ok-requests.field-0.items (grind arith) (grind arith) (grind arith)
