use Rattle.std.proofs.Common.{◌≡◌, refl, sym, subst, arith}
use Rattle.world_answers.specs.Sessions.{IsOver}
use Rattle.world_answers.proofs.Loading.{enough}
use Rattle.world_answers.proofs.Restarting.{over-whichever}
use Rattle.world_answers.proofs.service.Service.client.Goals as goal

pub new-client-requires : goal.new-client-requires
new-client-requires c =
    let w = c.args.self.now.world.now in
    let over = over-whichever w c.in_ok-session.session c.in_ok-session.ensures.opened c.in_ok-session.ensures.each in
    let same : c.in_ok-server.server ≡ c.server.result.now = grind arith in
    rw (same, c.server.ensures) (enough w c.in_ok-session.session w.bindings refl over)

pub returns : goal.returns
returns c =
    let w = c.args.self.now.world.now in
    let over = over-whichever w c.in_ok-session.session c.in_ok-session.ensures.opened c.in_ok-session.ensures.each in
    let same : c.in_ok-server.server ≡ c.server.result.now = grind arith in
    rw (c.limit_work.ensures, c.limit_answers.ensures, c.new-client.ensures, same, c.server.ensures) (record { server = refl; most = refl; limits = refl; over = subst (IsOver w) (sym over.fresh) over })
