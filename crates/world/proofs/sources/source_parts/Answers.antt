use Rattle.std.proofs.Common.{arith}
use Rattle.std.proofs.lemmas.Map.Text.{text_keys}
use Rattle.world.proofs.sources.source_parts.Goals as goal

pub returns-clause-same : goal.returns-clause-same
returns-clause-same c = λ q. grind (arith, text_keys, c.source.ensures.same)

pub returns-clause-err : goal.returns-clause-err
returns-clause-err c =
    let found = rw c.as_str.ensures.value at c.in-Some.ensures.value in
    rw (← found) c.source.ensures.err
