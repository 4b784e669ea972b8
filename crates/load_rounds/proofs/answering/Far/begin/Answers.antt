use Rattle.std.proofs.Common.{Some, ap, sym, subst}
use Rattle.load_rounds.specs.Sessions.{state_of}
use Rattle.load_rounds.specs.Runs.{IsRun}
use Rattle.load_rounds.proofs.answering.Far.begin.Goals as goal

pub returns-in-Unpolled : goal.returns-in-Unpolled
returns-in-Unpolled g c =
    let begun = c.begin-rounds.ensures.begun in
    let now = state_of c.begin-rounds.new.self in
    rw c.in-Unpolled.is (record {
      can = record { plans = begun.same; ready = begun.ready; holds = begun.holds; old = state_of c.in-Unpolled.session; is = begun.is };
      begins = ap Some (sym c.begin-rounds.ensures.forgot);
      rounds = begun.rounds;
      since = λ old at. subst (λ s. IsRun g.P.Execute.program g.P.Execute.text_of g.S.LocalSource.may_tell s now c.begin-rounds.result) (sym at) begun.is;
    })
