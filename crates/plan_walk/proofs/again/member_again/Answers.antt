use Rattle.plan_walk.proofs.again.member_again.Goals as goal

pub returns-in-Some : goal.returns-in-Some
returns-in-Some c = (rw c.in-Some.is at c.in_ok-member.ensures) c.args.groups.now.items
