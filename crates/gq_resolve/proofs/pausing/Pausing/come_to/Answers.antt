use Rattle.std.proofs.Common.{◌≡◌, ◌+◌, suc, length, arith}
use Rattle.load_memory.proofs.LoaderMemoryLaws.{SomeIff-at}
use Rattle.gq_resolve.proofs.Stopping.{set-more}
use Rattle.gq_resolve.proofs.pausing.Pausing.come_to.Goals as goal

pub returns-clause-path : goal.returns-clause-path
returns-clause-path g c =
    let more : c.in_ok-self.field-0 ≡ c.index.result.now + c.args.more = SomeIff-at c.checked_add.result _ _ _ c.in_ok-self.ensures.ok_part c.checked_add.ensures in
    let long : length c.args.self.now.path.items ≡ suc c.in-Some.last = omega (arith, c.in-Some.ensures, c.len.ensures) in
    set-more c.args.more c.args.self.now.path.items c.in-Some.last _ c.index.result.now long c.index.ensures more
