use Rattle.std.proofs.Common.{sym}
use Rattle.merging_members.specs.Fragments.{target_at}
use Rattle.merging_members.specs.SetMembers.{renumbered}
use Rattle.merging_members.proofs.Entering.{known-here, known-nowhere, joined-members, no-members}
use Rattle.merging_members.proofs.set_members.add_fragment.Goals as goal

pub known_at-requires : goal.known_at-requires
known_at-requires c = record { there = c.args.walk.now.there c.args.name.now c.in-Some.target.now (sym c.in-Some.ensures.value) }

pub returns-in-Some : goal.returns-in-Some
returns-in-Some c = λ spread ms knows is.
    let rows = c.args.walk.now.rows.now in
    let numbers = c.args.walk.now.numbers.now in
    let name = c.args.name.now in
    let other = known-here rows numbers (spread name) c.args.walk.now.fragments.now (target_at c.args.walk.now.targets.now name) c.in-Some.target.now c.known_at.result.now knows (sym c.in-Some.ensures.value) c.known_at.ensures in
    joined-members rows numbers ms (spread name) c.add_all.new.self (c.add_all.ensures rows (renumbered numbers ms) (renumbered numbers (spread name)) is other)

pub returns-in-None : goal.returns-in-None
returns-in-None c = λ spread ms knows is.
    let rows = c.args.walk.now.rows.now in
    let numbers = c.args.walk.now.numbers.now in
    let name = c.args.name.now in
    let none = known-nowhere rows numbers (spread name) c.args.walk.now.fragments.now (target_at c.args.walk.now.targets.now name) knows (sym c.in-None.ensures.value) in
    no-members rows numbers ms (spread name) c.args.reached.now none is
