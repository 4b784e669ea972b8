use Rattle.std.proofs.Common.{◌∙◌, ◌+◌, ◌++◌, ◌∷◌, [], ap, ℕ, List, Option, map, drop, unwrap_or, bytes_eq, append_assoc}
use Rattle.std.specs.HashMap.{get_by}
use Rattle.std.specs.Borrow.{Bor}
use Rattle.rules_parts.specs.Parts.{use_of}
use Rattle.rules_untyped.specs.VariableUseIndex.{numbers_by}
use Rattle.rules_untyped.proofs.ScanLaws.{drop-next}
use Rattle.rules_untyped.proofs.variable_use_index.numbers_of.Goals as goal

pub loop-part-preserved : goal.loop-part-preserved
loop-part-preserved c =
    let all = c.args.uses.now in
    let i = c.loop-part.part-index in
    let item = c.part-item.result in
    let so_far = c.loop-part.numbers.items in
    let rest = numbers_by (λ (q : List ℕ). get_by (λ (k : Bor (List ℕ)). bytes_eq q k.now) c.args.names.now) (map use_of (drop (i + 1) all)) in
    let number = c.unwrap_or.ensures ∙ ap (λ (o : Option ℕ). unwrap_or o 0) (c.copied.ensures ∙ c.get.ensures.value) in
    rw c.in_ok-push.ensures.items (append_assoc so_far (c.unwrap_or.result ∷ []) rest ∙ (ap (λ x. so_far ++ (x ∷ rest)) number ∙ rw (drop-next all i item c.loop-part-test.true c.part-item.is) at c.loop-part.invariant))
