use Rattle.std.proofs.Common.{refl, sym}
use Rattle.host_clients.specs.Known.{items_in}
use Rattle.host_clients.specs.Refused.{of_count}
use Rattle.host_clients.proofs.Replies.{reply-taken}
use Rattle.host_clients.proofs.client.HostClient.take_rows.Goals as goal

pub returns-clause-taken : goal.returns-clause-taken
returns-clause-taken c =
    reply-taken c.args.number c.args.self.now c.take.new.self c.take.result (items_in c.args.reply.now) c.in_ok-items.items c.in_ok-items.ensures.ok c.take.ensures.taken

pub returns-in-Some-clause-fault : goal.returns-in-Some-clause-fault
returns-in-Some-clause-fault c = of_count c.in-Some.count (sym c.in-Some.ensures) c.if-count-reply.true refl
