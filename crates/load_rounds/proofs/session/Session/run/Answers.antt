use Rattle.load_rounds.proofs.Runs.{received-session, received-state}
use Rattle.load_rounds.proofs.session.Session.run.Goals as goal

pub invariant_of-self-2 : goal.invariant_of-self-2
invariant_of-self-2 g c = received-session c.self.inside.rounds c.self.inside.loaders.items c.mark_all.new.loaders.items c.self.inside.memory c.run_and_keep.new.memory c.self.invariant c.run_and_keep.ensures.modes c.mark_all.ensures

pub returns-clause-ran : goal.returns-clause-ran
returns-clause-ran g c =
    let kept = c.in_ok-run_and_keep.ensures.kept in
    rw (← c.self.view_is) (record {
      replies = kept.replies;
      answered = rw c.deref.ensures.value at kept.answered;
      stored = received-state c.self.inside.rounds c.self.inside.loaders.items c.mark_all.new.loaders.items c.self.inside.memory c.run_and_keep.new.memory kept.replies c.self.invariant kept.pairs c.mark_all.ensures;
    })
