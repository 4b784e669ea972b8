use Rattle.std.proofs.Common.{◌≡◌, ◌<◌, ◌+◌, ◌++◌, length, take, drop, arith, true, map, refl, ◌∙◌, sym, ap}
use Rattle.std.proofs.lemmas.List.{take-append-drop, length-set}
use Rattle.load_queue.specs.Logs.{asked_of}
use Rattle.load_queue.specs.declared.loader.LogEntry.{LogEntry}
use Rattle.load_queue.proofs.MarkLaws.{mark-this, mark-none, none-marked, same-there}
use Rattle.load_queue.proofs.loader.mark.Goals as goal
use Rattle.load_queue.proofs.loader.mark.Goals.{then-index-round, else-index-round}

pub loop-index-init : goal.loop-index-init
loop-index-init c =
    let all = map asked_of c.args.log.now.items in
    (refl, sym (take-append-drop c.args.first all) ∙ ap (λ xs. xs ++ drop c.args.first all) (sym (none-marked c.args.round (take c.args.first all) c.requires)))

pub loop-index-preserved : goal.loop-index-preserved
loop-index-preserved c =
    let i = c.loop-index.index in
    let es = c.loop-index.log.items in
    let all = map asked_of c.args.log.now.items in
    let e = c.index.result.now in
    let lt : i < length es = omega (arith, c.loop-index-test.true, c.len-index-end.ensures, c.loop-index.invariant.0) in
    elim c.if-index-round.branch [
      | then-index-round w ↦
          let f = w.index_mut.result.now in
          let same : f ≡ e = w.index_mut.ensures.value ∙ same-there i es f e lt ∙ sym c.index.ensures in
          let own : f.round ≡ c.args.round = ap (λ (x : LogEntry). x.round) same ∙ w.if-index-round.true in
          rw w.log-is (length-set es i (record f { stored = true }) ∙ c.loop-index.invariant.0, mark-this c.args.round i (i + 1) es all f (record f { stored = true }) (omega arith) lt w.index_mut.ensures.value own refl c.loop-index.invariant.1)
      | else-index-round w ↦ rw w.log-is (c.loop-index.invariant.0, mark-none c.args.round i (i + 1) es all e (omega arith) lt c.index.ensures w.if-index-round.false c.loop-index.invariant.1)
    ]
