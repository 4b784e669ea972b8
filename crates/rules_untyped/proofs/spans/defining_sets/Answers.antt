use Rattle.std.proofs.Common.{◌≡◌, ◌+◌, ◌<◌, ap, sym, false, ℕ, List, Option, length, get_or, map, bytes_eq, arith}
use Rattle.std.specs.List.{list_any}
use Rattle.std.specs.Option.{option_map_or}
use Rattle.std.specs.HashMap.{get_by}
use Rattle.std.specs.Borrow.{Bor}
use Rattle.gq_parser.specs.Tree.{Operation, operation_of}
use Rattle.rules_spreads.specs.OperationSpans.{has, set_at}
use Rattle.rules_untyped.specs.VariableUseIndex.{is_numbered}
use Rattle.rules_untyped.specs.UseRows.{defines_at}
use Rattle.rules_untyped.proofs.SetLaws.{below_step, slice_get-seen}
use Rattle.rules_untyped.proofs.spans.defining_sets.Goals as goal

pub loop-number-preserved : goal.loop-number-preserved
loop-number-preserved c = λ n m.
    let number : List ℕ → Option ℕ = λ q. get_by (λ (p : Bor (List ℕ)). bytes_eq q p.now) c.args.names.now in
    let all = c.args.span.now.operations.now in
    let first = c.args.span.now.first in
    let i = c.loop-number.number in
    let item = get_or all (first + i) c.index-span-span.result in
    let at : item ≡ get_or all (first + i) item = ap (get_or all (first + i)) c.index-span-span.is in
    let within : first + i < length all = omega arith in
    let is = slice_get-seen operation_of all (first + i) item within at in
    let here = sym (ap (λ (p : Option Operation). option_map_or (λ (q : Operation). list_any (is_numbered number n) q.variables) p false) is) in
    below_step (λ k. defines_at number n (map operation_of all) (first + k)) m i _ (has (set_at c.loop-number.sets.items n) m) _ (c.in_ok-add_defined.ensures n m) here (c.loop-number.invariant n m)
