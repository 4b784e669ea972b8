use Rattle.std.proofs.Common.{[], ◌∷◌, arith, refl, length-append}
use Rattle.load_memory.proofs.LoaderMemoryLaws.{pairs-empty_more, HaveOwnKeys-more}
use Rattle.load_memory.proofs.memory.Memory.new.Goals as goal

pub loop-preserved : goal.loop-preserved
loop-preserved c =
    let was = c.loop.invariant in
    record {
      many = rw c.in_ok-push.ensures.items (omega (arith, was.many, length-append c.loop.parts.items (c.new.result ∷ [])));
      own_keys = rw c.in_ok-push.ensures.items (HaveOwnKeys-more c.loop.parts.items c.new.result was.own_keys c.new.ensures.unique);
      none = rw c.in_ok-push.ensures.items (pairs-empty_more 0 c.loop.parts.items c.new.result was.none c.new.ensures.empty);
    }

pub invariant_of-result : goal.invariant_of-result
invariant_of-result c =
    let kept = c.loop.invariant in
    record {
      lined_up = omega (arith, kept.many, c.loop-test.false, c.loop.auto.counter-end, c.len-end.ensures, c.args.modes.ok.0);
      own_keys = kept.own_keys;
      counted = rw kept.none refl;
      unfailed = λ e l q. rw kept.none refl;
    }
