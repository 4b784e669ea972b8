use Rattle.load_rounds.proofs.Polls.{woken-covers}
use Rattle.server.proofs.future.ClientAnsweringFuture.TheImpl.Goals as goal

pub poll-tells : goal.poll-tells
poll-tells g x c = record {
  value = c.ensures.value;
  again = c.ensures.again;
  same = c.ensures.same;
  registered = woken-covers c.result _ c.ensures.yielded;
  kept = c.ensures.kept;
}
