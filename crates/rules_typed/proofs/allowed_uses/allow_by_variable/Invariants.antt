use Rattle.std.proofs.Common.{◌≡◌, ◌<◌, ℕ, not, cond, eqb, drop, length, map, nat_eq}
use Rattle.std.specs.Prelude.{◌&&◌}
use Rattle.std.specs.List.{list_any}
use Rattle.gq_parser.specs.Tree.{variable_of}
use Rattle.rules_parts.specs.Parts.{use_of}
use Rattle.rules_spreads.specs.OperationSpans.{has, set_at}
use Rattle.rules_typed.specs.UseKinds.{use_at, is_forbidden_use}
use Rattle.rules_typed.proofs.allowed_uses.allow_by_variable.Given as goal

abbrev pub invariant-loop-place : goal.invariant-loop-place
invariant-loop-place l = (r m : ℕ) → r < length l.uses → m < 64 →
    let yes = not (is_forbidden_use (variable_of l.variable) (use_at (map use_of l.uses) r)) in
    cond (eqb m l.number && list_any (nat_eq r) (drop l.place-index l.place-items)) yes (has (set_at l.sets.items r) m)
    ≡ cond (eqb m l.number && list_any (nat_eq r) l.place-items) yes (has (set_at l.initial.sets.items r) m)
