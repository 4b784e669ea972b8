use Rattle.std.proofs.Common.{arith, ◌≡◌, ◌∙◌}
use Rattle.std.proofs.lemmas.List.{length-map}
use Rattle.gq_bindings.specs.Seen.{loader_of}
use Rattle.host_clients.proofs.client.HostClient.begin.Goals as goal

pub replace_with-requires : goal.replace_with-requires
replace_with-requires c = λ κs back held.
    let same = back.ensures.0 ∙ c.in_ok-client.ensures.client in let bindings = rw c.server.ensures at c.bindings.ensures in let read = rw bindings at c.deref.ensures in
    let lines = rw read at c.loaders-loaders.ensures in let own = rw c.session.ensures at c.loaders.ensures in (
      rw (same, c.in_ok-planned.ensures.loaders, ← lines, ← own) (omega (arith, length-map c.loaders-loaders.result.now loader_of, c.if-loaders.false)),
      rw (c.of-planned_by.ensures, c.plan.ensures.same, c.of-note.ensures, same, ← c.max_answer.ensures) c.in_ok-planned.ensures.planned,
    )
