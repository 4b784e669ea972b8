use Rattle.std.proofs.Common.{◌∙◌}
use Rattle.host_clients.proofs.Replies.{failure-taken}
use Rattle.host_clients.proofs.client.HostClient.take_failed.Goals as goal

pub returns-clause-taken : goal.returns-clause-taken
returns-clause-taken c =
    failure-taken c.args.number c.args.self.now c.take.new.self c.take.result c.args.text.now c.in_ok-text.text (c.in_ok-text.ensures.ok ∙ c.in-Ok.ensures.cases.0) c.take.ensures.taken
