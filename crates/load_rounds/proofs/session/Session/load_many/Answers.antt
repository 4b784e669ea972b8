use Rattle.std.proofs.Common.{map, arith, inl, string_bytes}
use Rattle.load_memory.specs.Keys.{key_of}
use Rattle.load_rounds.specs.Reading.{CanLoad}
use Rattle.load_rounds.specs.Sessions.{state_of}
use Rattle.load_rounds.proofs.Reading.{read-complete, read-once, reading-stops}
use Rattle.load_rounds.proofs.Stepping.{record-many, record-same}
use Rattle.load_rounds.proofs.session.Session.load_many.Goals as goal

pub returns-then-loader-len-clause-recorded : goal.returns-then-loader-len-clause-recorded
returns-then-loader-len-clause-recorded g c = record-same c.args.self.now.loaders

pub returns-in_err-answer-clause-no_memory : goal.returns-in_err-answer-clause-no_memory
returns-in_err-answer-clause-no_memory g c = λ h.
    let can : CanLoad (state_of c.args.self.now) c.args.loader = rw (← c.self.view_is) (record { within = omega (arith, c.if-loader-len.false, c.len.ensures); limited = c.self.invariant.limited }) in
    reading-stops g.S.LocalSource.may_tell (state_of c.args.self.now) c.args.loader (map key_of c.args.keys.now) can (state_of c.answer.new.self) c.in_err-answer.ensures.stopped

pub known_outcomes-requires-clause-loader : goal.known_outcomes-requires-clause-loader
known_outcomes-requires-clause-loader g c =
    let can : CanLoad (state_of c.args.self.now) c.args.loader = rw (← c.self.view_is) (record { within = omega (arith, c.if-loader-len.false, c.len.ensures); limited = c.self.invariant.limited }) in
    let lt = can.within in
    omega (arith, lt, record-many c.args.self.now.loaders c.answer.new.self.loaders c.in_ok-answer.ensures.answer.0.recorded)

pub known_outcomes-requires-clause-known : goal.known_outcomes-requires-clause-known
known_outcomes-requires-clause-known g c =
    let a = c.in_ok-answer.field-0 in
    read-complete g.S.LocalSource.may_tell (state_of c.args.self.now) c.args.loader (map key_of c.args.keys.now) (state_of c.answer.new.self) (record { text = string_bytes a.text; rounds = a.rounds; headline = c.in_ok-answer.ensures.answer.0 })

pub returns-in_err-known_outcomes-clause-no_memory : goal.returns-in_err-known_outcomes-clause-no_memory
returns-in_err-known_outcomes-clause-no_memory g c = λ h.
    let a = c.in_ok-answer.field-0 in
    inl (read-once g.S.LocalSource.may_tell (state_of c.args.self.now) c.args.loader (map key_of c.args.keys.now) (state_of c.answer.new.self) (record { text = string_bytes a.text; rounds = a.rounds; headline = c.in_ok-answer.ensures.answer.0 }))

pub returns-clause-loaded : goal.returns-clause-loaded
returns-clause-loaded g c =
    let a = c.in_ok-answer.field-0 in
    record {
      round = read-once g.S.LocalSource.may_tell (state_of c.args.self.now) c.args.loader (map key_of c.args.keys.now) (state_of c.answer.new.self) (record { text = string_bytes a.text; rounds = a.rounds; headline = c.in_ok-answer.ensures.answer.0 });
      known = c.in_ok-known_outcomes.ensures;
    }
