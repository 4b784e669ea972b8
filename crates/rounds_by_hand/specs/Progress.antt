-- Definitions of what a call did that goes on with rounds by hand.
use Rattle.std.specs.Prelude.{Option, Some, None}
use Rattle.rounds_by_hand.specs.declared.progress.Progress.{Progress}
use Rattle.rounds_by_hand.specs.declared.progress.Progress.TheVariants.{Done, Round, Working, Waiting, Over}

module _ {T : Type 0} where
  -- what was asked for, if the call gave it
  abbrev pub done_in : Progress T → Option T
  done_in (Done done) = Some done
  done_in Round = None
  done_in Working = None
  done_in Waiting = None
  done_in Over = None

  -- a fact of each call that gave what was asked for, made a round or did steps; of one that did nothing it says nothing
  abbrev pub OnStep : Progress T → Type 0 → Type 0
  OnStep (Done done) fact = fact
  OnStep Round fact = fact
  OnStep Working fact = fact
  OnStep Waiting fact = Unit {0}
  OnStep Over fact = Unit {0}

  -- the same was done, and of what was asked for this was made
  abbrev pub Becomes : {U : Type 0} → (T → U → Type 0) → Progress T → Progress U → Type 0
  Becomes makes (Done done) (Done own) = makes done own
  Becomes makes Round Round = Unit {0}
  Becomes makes Working Working = Unit {0}
  Becomes makes Waiting Waiting = Unit {0}
  Becomes makes Over Over = Unit {0}
  Becomes makes did told = ⊥
