use Rattle.std.proofs.Common.{map, ap, refl}
use Rattle.load_memory.specs.Replies.{reply_of}
use Rattle.execution.specs.Program.{Program}
use Rattle.load_rounds.specs.Histories.{any_tell}
use Rattle.load_rounds.specs.Sessions.{StateOf, state_of}
use Rattle.load_rounds.specs.Runs.{program_of}
use Rattle.rounds_by_hand.proofs.Far.{orders-have, received-in, received-kept, same-kept}
use Rattle.rounds_by_hand.proofs.steps.store.Goals as goal

pub replies_to-requires-clause-loaders : goal.replies_to-requires-clause-loaders
replies_to-requires-clause-loaders g c =
    let p : Program = program_of g.P.Execute.program g.P.Execute.text_of c.args.run.now in
    rw c.loaders.ensures (orders-have (state_of c.args.session.now) p c.args.pending.items c.requires.out.orders)

pub replies_to-requires-clause-own : goal.replies_to-requires-clause-own
replies_to-requires-clause-own g c = rw c.loaders.ensures c.requires.out.own

pub take_owned-requires : goal.take_owned-requires
take_owned-requires g c =
    let s = state_of c.args.session.now in
    let p : Program = program_of g.P.Execute.program g.P.Execute.text_of c.args.run.now in
    let fit = rw c.loaders.ensures at (c.in_ok-replies.ensures.any c.requires.out.replies) in
    record {
      out = record { out = c.requires.out.stage; latest = c.requires.out.latest };
      round = received-in any_tell s p c.args.pending.items (map reply_of c.in_ok-replies.replies.items) c.requires.out.orders fit;
      holds = c.requires.holds;
    }

pub returns-clause-ran : goal.returns-clause-ran
returns-clause-ran g c = λ told.
    let s = state_of c.args.session.now in
    let p : Program = program_of g.P.Execute.program g.P.Execute.text_of c.args.run.now in
    let own = rw (← c.loaders.ensures) at told in
    let fit = rw c.loaders.ensures at (c.in_ok-replies.ensures.told own) in
    let went = c.take_owned.ensures.run (received-in g.S.LocalSource.may_tell s p c.args.pending.items (map reply_of c.in_ok-replies.replies.items) c.requires.out.orders fit) in
    went

pub returns-clause-stored : goal.returns-clause-stored
returns-clause-stored g c = record {
  replies = map reply_of c.in_ok-replies.replies.items;
  replied = rw c.loaders.ensures at c.in_ok-replies.ensures.as_given;
  stored = ap (λ (s : StateOf g.row.S.Denot). s.memory) c.in_ok-take_owned.ensures.taken.stored;
}

-- ---- the loaders stay

pub returns-in_err-replies-clause-loaders : goal.returns-in_err-replies-clause-loaders
returns-in_err-replies-clause-loaders g c = same-kept (state_of c.args.session.now) (state_of c.args.session.now) refl

pub returns-in_err-take_owned-clause-loaders : goal.returns-in_err-take_owned-clause-loaders
returns-in_err-take_owned-clause-loaders g c = same-kept (state_of c.args.session.now) (state_of c.take_owned.new.session) c.in_err-take_owned.ensures.failed.same

pub returns-clause-loaders : goal.returns-clause-loaders
returns-clause-loaders g c = received-kept (state_of c.args.session.now) (state_of c.take_owned.new.session) (map reply_of c.in_ok-replies.replies.items) c.in_ok-take_owned.ensures.taken.stored
