use Rattle.std.proofs.Common.{◌≡◌, ◌+◌, arith}
use Rattle.load_memory.proofs.LoaderMemoryLaws.{SomeIff-at}
use Rattle.gq_resolve.proofs.completed_text.item_after.Goals as goal

pub returns-in_ok-ok_or-in-Item : goal.returns-in_ok-ok_or-in-Item
returns-in_ok-ok_or-in-Item c =
    let more : c.in_ok-ok_or-in-Item.field-0 ≡ c.in-Item.number + 1 = SomeIff-at c.checked_add.result _ _ _ c.in_ok-ok_or-in-Item.ensures.ok_part c.checked_add.ensures in
    rw c.in-Item.is (omega (arith, more))
