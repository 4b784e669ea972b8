use Rattle.std.proofs.Common.{map, take, ap, arith}
use Rattle.load_queue.specs.Loaders.{stored_in}
use Rattle.load_queue.specs.Logs.{asked_of}
use Rattle.load_queue.proofs.MarkLaws.{earlier-other, is-loader-marked}
use Rattle.load_queue.proofs.loader.Loader.mark_stored.Goals as goal
use Rattle.load_queue.proofs.loader.Loader.mark_stored.Goals.{then-self-round, else-self-round}

pub mark-requires : goal.mark-requires
mark-requires g c =
    let log = map asked_of c.self.inside.log.items in
    elim c.if-self-round.branch [
      | then-self-round w ↦ rw w.first-is (earlier-other c.self.inside.latest c.args.round (take c.self.inside.earlier log) w.if-self-round.true c.self.invariant.before)
      | else-self-round w ↦ rw w.first-is (λ k d lt. absurd (omega (arith, lt)))
    ]

pub invariant_of-self : goal.invariant_of-self
invariant_of-self g c =
    rw c.mark.ensures (is-loader-marked c.self.inside.limit c.self.inside.latest c.self.inside.earlier c.args.round (map asked_of c.self.inside.log.items) c.self.invariant)

pub returns : goal.returns
returns g c = rw c.mark.ensures (ap (λ l. stored_in l c.args.round) c.self.view_is)
