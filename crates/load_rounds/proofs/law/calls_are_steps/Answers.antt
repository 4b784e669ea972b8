use Rattle.std.proofs.Common.{◌≡◌, Some, inl, inr}
use Rattle.load_rounds.specs.Sessions.{rules_of}
use Rattle.load_rounds.proofs.Histories.{memory_after, leads-memory, call-leads, calls-lead}
use Rattle.load_rounds.proofs.PairSources.{pair-from, calls-prime}
use Rattle.load_rounds.proofs.law.calls_are_steps.Goals as goal

pub returns-clause-one : goal.returns-clause-one
returns-clause-one g c = λ call old new h. call-leads g.S.LocalSource.may_tell call old new h

pub returns-clause-all : goal.returns-clause-all
returns-clause-all g c = λ calls old new h. calls-lead g.S.LocalSource.may_tell calls old new h

pub returns-clause-pairs : goal.returns-clause-pairs
returns-clause-pairs g c = λ calls old new pair h there.
    let made = calls-lead g.S.LocalSource.may_tell calls old new h in
    let memory = leads-memory g.S.LocalSource.may_tell old new made.0 made.1 in
    let seen : memory_after (rules_of old) old.memory made.0 pair.loader pair.key ≡ Some pair.outcome = rw memory at there in
    elim (pair-from (rules_of old) pair.loader pair.key pair.outcome old.memory made.0 seen) [
      | inl a ↦ inl a
      | inr b ↦ elim b [
        | inl i ↦ inr (inl (calls-prime pair calls made.0 made.2 i))
        | inr j ↦ inr (inr (made.0, made.1, made.2, j))
      ]
    ]
