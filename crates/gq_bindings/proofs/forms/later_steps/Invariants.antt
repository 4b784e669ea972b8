use Rattle.std.proofs.Common.{◌≡◌, drop, map}
use Rattle.bindings_syntax.specs.Seen.{step_seen}
use Rattle.gq_bindings.specs.Seen.{step_of}
use Rattle.gq_bindings.specs.Forms.{later_steps}
use Rattle.gq_bindings.proofs.Steps.{joined}
use Rattle.gq_bindings.proofs.forms.later_steps.Given as goal

abbrev pub invariant-loop-words : goal.invariant-loop-words
invariant-loop-words l =
    later_steps l.loaders (map step_seen l.steps) ≡ joined (map step_of l.found.items) (later_steps l.loaders (map step_seen (drop l.words-index l.steps)))
