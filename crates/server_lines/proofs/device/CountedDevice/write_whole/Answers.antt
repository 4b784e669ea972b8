use Rattle.server_lines.proofs.Known.{appends_trans, wrote_more, steady_trans}
use Rattle.server_lines.proofs.device.CountedDevice.write_whole.Goals as goal

pub loop-rest-preserved : goal.loop-rest-preserved
loop-rest-preserved g c =
    let was = c.loop-rest.invariant.wrote in
    record {
      wrote = (_, wrote_more _ was.0 _ c.in_ok-n.n was.1, appends_trans _ _ _ _ _ was.2 c.in_ok-n.ensures.bytes);
      steady = steady_trans c.loop-rest.invariant.steady c.in_ok-n.ensures.faults;
    }
