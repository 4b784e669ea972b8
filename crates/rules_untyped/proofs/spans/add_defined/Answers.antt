use Rattle.std.proofs.Common.{◌≡◌, ◌∙◌, ◌+◌, ◌||◌, ap, sym, refl, eqb, ℕ, List, Option, Some, None, map, drop, bytes_eq}
use Rattle.std.specs.Option.{option_copied}
use Rattle.std.specs.HashMap.{get_by}
use Rattle.std.specs.Borrow.{Bor}
use Rattle.gq_parser.specs.Tree.{variable_of}
use Rattle.rules_spreads.specs.declared.operation_set.OperationSet.{OperationSet}
use Rattle.rules_spreads.specs.OperationSpans.{has, set_at}
use Rattle.rules_untyped.proofs.ScanLaws.{drop-next}
use Rattle.rules_untyped.proofs.SetLaws.{put_has, defined_more}
use Rattle.rules_untyped.proofs.spans.add_defined.Goals as goal
use Rattle.rules_untyped.proofs.spans.add_defined.Goals.{in-Some+in_ok-put, in_default}

pub loop-variable-preserved : goal.loop-variable-preserved
loop-variable-preserved c = λ n m.
    let all = c.deref-variable-items.result.now in
    let k = c.loop-variable.variable-index in
    let item = c.variable-item.result in
    let i = c.args.number in
    let number : List ℕ → Option ℕ = λ q. get_by (λ (p : Bor (List ℕ)). bytes_eq q p.now) c.args.names.now in
    let rest = map variable_of (drop (k + 1) all) in
    let old = c.loop-variable.sets.items in
    let found = rw c.as_str.ensures at c.get.ensures.value in
    let before = rw (drop-next all k item c.loop-variable-test.true c.variable-item.is) at (c.loop-variable.invariant n m) in
    elim c.match-get.branch [
      | in-Some+in_ok-put w ↦
          let at = w.in-Some.name.now in
          let set : w.set_of.result ≡ set_at old at = w.set_of.ensures ∙ ap (λ (ss : List OperationSet). set_at ss at) w.deref.ensures.value in
          let value : has w.with-set.result m ≡ (eqb m i || has (set_at old at) m) = w.with-set.ensures m ∙ ap (λ (t : OperationSet). eqb m i || has t m) set in
          let put = rw w.new.ensures at (w.in_ok-put.ensures n) in
          rw w.sets-is (defined_more number (variable_of item) rest i m n (has (set_at old n) m) _ (Some at) _ (sym found ∙ ap option_copied w.in-Some.is) (put_has old w.put.new.items.items w.with-set.result at n m (eqb m i) put value) before)
      | in_default w ↦
          rw w.sets-is (defined_more number (variable_of item) rest i m n (has (set_at old n) m) (has (set_at old n) m) None _ (sym found ∙ ap option_copied w.in_default.is) refl before)
    ]
