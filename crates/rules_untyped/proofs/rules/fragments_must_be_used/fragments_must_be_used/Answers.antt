use Rattle.std.proofs.Common.{◌≡◌, ◌∙◌, arith}
use Rattle.std.proofs.lemmas.Grind.{common_steps}
use Rattle.std.specs.List.{list_any}
use Rattle.rules_parts.specs.Parts.{parts_in}
use Rattle.rules_untyped.specs.FragmentsMustBeUsed.{spreads}
use Rattle.rules_untyped.proofs.rules.fragments_must_be_used.fragments_must_be_used.Goals as goal

pub loop-fragment-preserved : goal.loop-fragment-preserved
loop-fragment-preserved c =
    let named = rw c.as_str.ensures at (c.contains.ensures ∙ c.in_ok-names.ensures c.as_str.result.now) in
    let known : c.contains.result ≡ list_any (spreads c.fragment-item.result.name) (parts_in c.args.parts.now).spreads = named in
    grind (arith, common_steps, known)
