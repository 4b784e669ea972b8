use Rattle.std.proofs.Common.{◌≡◌, ◌<◌, ◌+◌, length, arith, ◌∙◌, ap}
use Rattle.load_queue.specs.Loaders.{unasked}
use Rattle.load_rounds.proofs.Running.{replaced-more, length-replaced}
use Rattle.load_rounds.proofs.restart.restart_all.Goals as goal

pub loop-loader-preserved : goal.loop-loader-preserved
loop-loader-preserved g c =
    let i = c.loop-loader.loader in
    let cur = c.loop-loader.loaders.items in
    let size : length cur ≡ length c.args.loaders.now.items = ap length c.loop-loader.invariant ∙ length-replaced unasked i c.args.loaders.now.items in
    let lt : i < length cur = omega (arith, c.loop-loader-test.true, c.len-loader-end.ensures, c.args.loaders.now.ok.0, size) in
    replaced-more unasked i (i + 1) cur c.args.loaders.now.items c.index_mut.result.now c.restart.new.self (omega arith) lt c.index_mut.ensures.value c.restart.ensures c.loop-loader.invariant
