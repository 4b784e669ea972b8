use Rattle.load_rounds.specs.Sessions.{state_of}
use Rattle.load_rounds.proofs.Runs.{on-ok}
use Rattle.batch_workers.proofs.Receipts.{received}
use Rattle.batch_workers.proofs.answer.make_round.Goals as goal

pub run_round-requires-clause-loaders : goal.run_round-requires-clause-loaders
run_round-requires-clause-loaders g c = λ κs l. rw c.loaders.ensures c.requires.orders.cut

pub take-requires : goal.take-requires
take-requires g c =
    let may = g.S.Source.may_answer in
    let s = state_of c.args.session.now in
    let answered = rw c.loaders.ensures at c.in_ok-receipts.ensures.answered in
    let round = received may s.loaders c.in_ok-shelf.shelf c.args.orders.items c.in_ok-receipts.receipts.items answered in
    record {
      out = c.requires.out;
      round = record { on = rw c.as_slice.ensures.value c.in_ok-receipts.ensures.shelved; round = rw (c.as_slice.ensures.value, ← c.requires.orders.batches) round };
      holds = c.requires.holds;
    }

pub returns-clause-made : goal.returns-clause-made
returns-clause-made g c = on-ok c.take.result (λ took. took.ready) c.take.ensures.taken

pub returns-clause-plans : goal.returns-clause-plans
returns-clause-plans g c = c.take.ensures.kept.plans
