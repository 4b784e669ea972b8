-- The buffers of outcomes, by what they say.
use Rattle.std.specs.Prelude.{List}
use Rattle.load_memory.specs.Outcomes.{OutcomeOf}
use Rattle.flat_outcomes.specs.Said.{outcomes_said}
use Rattle.flat_outcomes.specs.Written.{AreWritten}
use Rattle.flat_outcomes.specs.declared.outcomes.Buffers.{Buffers}

-- the outcomes that the buffers say
abbrev pub said_by : Buffers → List OutcomeOf
said_by b = outcomes_said b.counts.items b.widths.items b.texts b.faults

-- the buffers are what they say, written
abbrev pub AreWhole : Buffers → Type 0
AreWhole b = AreWritten (said_by b) b.counts.items b.widths.items b.texts b.faults
