use Rattle.std.proofs.Common.{◌<◌, ◌≤◌, ◌∙◌, length, map, refl, ap, arith}
use Rattle.std.proofs.lemmas.List.{length-map}
use Rattle.load_memory.specs.Replies.{ReplyOf}
use Rattle.load_memory.specs.Shelves.{shown}
use Rattle.load_memory.proofs.ReplyPairs.{All-of_map}
use Rattle.execution.specs.Rounds.{rule_of, may_at}
use Rattle.load_rounds.specs.Sessions.{StateOf, state_of, rules_of}
use Rattle.load_rounds.specs.ByHand.{front_in}
use Rattle.load_rounds.specs.Runs.{RunOf, program_of}
use Rattle.load_rounds.proofs.Runs.{received-below, received-moved, asked-ran}
use Rattle.load_rounds.proofs.Stages.{takes, loses, takes-holds, received-size}
use Rattle.load_rounds.proofs.rounds.Rounds.take.Goals as goal

pub receive-requires-clause-loaders : goal.receive-requires-clause-loaders
receive-requires-clause-loaders g c =
    let s = state_of c.args.session.now in
    let p = program_of g.P.Execute.program g.P.Execute.text_of c.args.self.now in
    let most = length s.loaders in
    let size : length (rules_of s) ≤ most = omega (arith, length-map s.loaders rule_of) in
    All-of_map shown (λ (r : ReplyOf). r.loader < most) c.args.receipts.now (received-below (may_at g.S.LocalSource.may_tell s.loaders) most (rules_of s) (front_in s p) (map shown c.args.receipts.now) size c.requires.round.round)

pub returns-in_err-receive-clause-run : goal.returns-in_err-receive-clause-run
returns-in_err-receive-clause-run g c =
    let run : RunOf _ _ = record { parts = c.self.inside.executions; rounds = c.self.inside.rounds; stage = c.self.inside.stage } in
    let out = rw (← c.self.view_is) at c.requires.out.out in
    loses g.P.Execute.program g.P.Execute.text_of g.P.Execute.loaders g.P.Execute.fits g.S.LocalSource.may_tell (state_of c.args.session.now) (state_of c.receive.new.self) run c.args.self.now c.self.view_is c.in_err-receive.ensures.kept out

pub returns-clause-ran : goal.returns-clause-ran
returns-clause-ran g c =
    let s = state_of c.args.session.now in
    let p = program_of g.P.Execute.program g.P.Execute.text_of c.args.self.now in
    record {
      ran = λ asked. rw c.in_ok-receive.ensures.received (asked-ran g.S.LocalSource.may_tell p s asked (map shown c.args.receipts.now) c.receive.ensures.limited c.requires.round.round);
      ordered = λ replies fit moved. c.in_ok-receive.ensures.received ∙ received-moved (may_at g.S.LocalSource.may_tell s.loaders) s p replies (map shown c.args.receipts.now) c.receive.ensures.limited fit moved;
    }

pub returns-clause-holds : goal.returns-clause-holds
returns-clause-holds g c =
    let run : RunOf _ _ = record { parts = c.self.inside.executions; rounds = c.self.inside.rounds; stage = c.self.inside.stage } in
    let out = rw (← c.self.view_is) at c.requires.out.out in
    let holds = rw (← c.self.view_is) at c.requires.holds in
    takes-holds g.P.Execute.program g.P.Execute.text_of g.P.Execute.loaders g.P.Execute.fits c.args.session.now c.receive.new.self run (map shown c.args.receipts.now) out c.in_ok-receive.ensures.received holds

pub returns-clause-run : goal.returns-clause-run
returns-clause-run g c =
    let run : RunOf _ _ = record { parts = c.self.inside.executions; rounds = c.self.inside.rounds; stage = c.self.inside.stage } in
    let out = rw (← c.self.view_is) at c.requires.out.out in
    let round = rw (← c.self.view_is) at c.requires.round.round in
    takes g.P.Execute.program g.P.Execute.text_of g.P.Execute.loaders g.P.Execute.fits g.S.LocalSource.may_tell (state_of c.args.session.now) (state_of c.receive.new.self) run c.args.self.now (map shown c.args.receipts.now) c.self.view_is c.in_ok-receive.ensures.received out c.receive.ensures.limited round

pub returns-clause-kept : goal.returns-clause-kept
returns-clause-kept g c =
    rw (← c.self.view_is) (record { plans = refl; loaders = received-size (state_of c.args.session.now) (state_of c.receive.new.self) (map shown c.args.receipts.now) c.in_ok-receive.ensures.received; bounded = c.self.invariant })

pub returns-in_err-receive-clause-kept : goal.returns-in_err-receive-clause-kept
returns-in_err-receive-clause-kept g c =
    rw (← c.self.view_is) (record { plans = refl; loaders = ap (λ (s : StateOf _). length s.loaders) c.in_err-receive.ensures.kept; bounded = c.self.invariant })
