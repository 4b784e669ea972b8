use Rattle.std.proofs.Common.{◌<◌, ◌∷◌, ◌∙◌, [], length, arith}
use Rattle.std.proofs.lemmas.List.{length-append}
use Rattle.load_memory.specs.declared.key.KeyMode.TheVariants.{Exact}
use Rattle.load_queue.proofs.WantLaws.{more-in}
use Rattle.load_queue.proofs.wants.reach.Goals as goal

pub loop-number-preserved : goal.loop-number-preserved
loop-number-preserved c =
    let ws = c.loop-number.lists.items in
    let was = c.loop-number.invariant in
    let lt : length ws < length c.args.modes.now = omega (arith, was.many, c.loop-number-test.true, c.requires) in
    record {
      same = rw (c.in_ok-push.ensures.items, c.new.ensures, was.many) (more-in ws c.args.modes.now Exact lt ∙ was.same);
      many = rw (c.in_ok-push.ensures.items, length-append ws (c.new.result ∷ [])) (omega (arith, was.many));
    }
