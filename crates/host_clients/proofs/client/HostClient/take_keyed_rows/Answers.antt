use Rattle.flat_rows.specs.Keyed.{laid_rows}
use Rattle.host_clients.proofs.ByKey.{refused-kept, refused-order, refused-stops, taken-by-key}
use Rattle.host_clients.proofs.client.HostClient.take_keyed_rows.Goals as goal

pub returns-clause-taken : goal.returns-clause-taken
returns-clause-taken c =
    taken-by-key c.args.number (laid_rows c.args.reply.now) c.args.self.now c.take.new.self c.in_ok-items.items c.in_ok-items.ensures.items c.in_ok-items.ensures.taken c.in_ok-take.ensures.taken

pub returns-in_err-take-clause-kept : goal.returns-in_err-take-clause-kept
returns-in_err-take-clause-kept c =
    refused-kept c.args.number (laid_rows c.args.reply.now) c.args.self.now c.take.new.self c.in_err-take.field-0.0 c.from_residual-in_err-take.result c.from_residual-in_err-take.ensures.1 c.in_err-take.ensures.kept

pub returns-in_err-take-clause-no_memory : goal.returns-in_err-take-clause-no_memory
returns-in_err-take-clause-no_memory c =
    refused-stops c.args.number (laid_rows c.args.reply.now) c.args.self.now c.take.new.self c.in_err-take.field-0.0 c.from_residual-in_err-take.result c.from_residual-in_err-take.ensures.1 c.in_err-take.ensures.stopped

pub returns-in_err-take-clause-fault : goal.returns-in_err-take-clause-fault
returns-in_err-take-clause-fault c =
    refused-order c.args.number (laid_rows c.args.reply.now) c.args.self.now c.take.new.self c.in_err-take.field-0.0 c.from_residual-in_err-take.result c.from_residual-in_err-take.ensures.1 c.in_err-take.ensures.fault
