use Rattle.std.proofs.Common.{◌<◌, ◌≤◌, length, map, refl, ap, arith}
use Rattle.std.proofs.lemmas.List.{length-map}
use Rattle.load_memory.specs.Replies.{ReplyOf, reply_of}
use Rattle.load_memory.proofs.ReplyPairs.{All-of_map}
use Rattle.execution.specs.Rounds.{rule_of, may_at}
use Rattle.load_rounds.specs.Sessions.{StateOf, state_of, rules_of}
use Rattle.load_rounds.specs.Histories.{any_tell}
use Rattle.load_rounds.specs.ByHand.{front_in}
use Rattle.load_rounds.specs.Runs.{RunOf, program_of}
use Rattle.load_rounds.proofs.Runs.{received-below, asked-ran}
use Rattle.load_rounds.proofs.Stages.{takes, loses, takes-holds, received-size}
use Rattle.load_rounds.proofs.rounds.Rounds.take_owned.Goals as goal

pub receive_owned-requires : goal.receive_owned-requires
receive_owned-requires g c =
    let s = state_of c.args.session.now in
    let p = program_of g.P.Execute.program g.P.Execute.text_of c.args.self.now in
    let most = length s.loaders in
    let size : length (rules_of s) ≤ most = omega (arith, length-map s.loaders rule_of) in
    All-of_map reply_of (λ (r : ReplyOf). r.loader < most) c.args.replies.items (received-below (may_at any_tell s.loaders) most (rules_of s) (front_in s p) (map reply_of c.args.replies.items) size c.requires.round)

pub returns-in_err-receive_owned-clause-run : goal.returns-in_err-receive_owned-clause-run
returns-in_err-receive_owned-clause-run g c =
    let run : RunOf _ _ = record { parts = c.self.inside.executions; rounds = c.self.inside.rounds; stage = c.self.inside.stage } in
    let out = rw (← c.self.view_is) at c.requires.out.out in
    λ round. loses g.P.Execute.program g.P.Execute.text_of g.P.Execute.loaders g.P.Execute.fits g.S.LocalSource.may_tell (state_of c.args.session.now) (state_of c.receive_owned.new.self) run c.args.self.now c.self.view_is c.in_err-receive_owned.ensures.kept out

pub returns-clause-ran : goal.returns-clause-ran
returns-clause-ran g c =
    let s = state_of c.args.session.now in
    let p = program_of g.P.Execute.program g.P.Execute.text_of c.args.self.now in
    λ round asked. rw c.in_ok-receive_owned.ensures.received (asked-ran g.S.LocalSource.may_tell p s asked (map reply_of c.args.replies.items) c.receive_owned.ensures.limited round)

pub returns-clause-holds : goal.returns-clause-holds
returns-clause-holds g c =
    let run : RunOf _ _ = record { parts = c.self.inside.executions; rounds = c.self.inside.rounds; stage = c.self.inside.stage } in
    let out = rw (← c.self.view_is) at c.requires.out.out in
    let holds = rw (← c.self.view_is) at c.requires.holds in
    takes-holds g.P.Execute.program g.P.Execute.text_of g.P.Execute.loaders g.P.Execute.fits c.args.session.now c.receive_owned.new.self run (map reply_of c.args.replies.items) out c.in_ok-receive_owned.ensures.received holds

pub returns-clause-run : goal.returns-clause-run
returns-clause-run g c =
    let run : RunOf _ _ = record { parts = c.self.inside.executions; rounds = c.self.inside.rounds; stage = c.self.inside.stage } in
    let out = rw (← c.self.view_is) at c.requires.out.out in
    λ round. takes g.P.Execute.program g.P.Execute.text_of g.P.Execute.loaders g.P.Execute.fits g.S.LocalSource.may_tell (state_of c.args.session.now) (state_of c.receive_owned.new.self) run c.args.self.now (map reply_of c.args.replies.items) c.self.view_is c.in_ok-receive_owned.ensures.received out c.receive_owned.ensures.limited (rw (← c.self.view_is) at round)

pub returns-clause-kept : goal.returns-clause-kept
returns-clause-kept g c =
    rw (← c.self.view_is) (record { plans = refl; loaders = received-size (state_of c.args.session.now) (state_of c.receive_owned.new.self) (map reply_of c.args.replies.items) c.in_ok-receive_owned.ensures.received; bounded = c.self.invariant })

pub returns-in_err-receive_owned-clause-kept : goal.returns-in_err-receive_owned-clause-kept
returns-in_err-receive_owned-clause-kept g c =
    rw (← c.self.view_is) (record { plans = refl; loaders = ap (λ (s : StateOf _). length s.loaders) c.in_err-receive_owned.ensures.kept; bounded = c.self.invariant })
