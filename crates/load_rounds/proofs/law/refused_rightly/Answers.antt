use Rattle.execution.specs.Loads.{read}
use Rattle.execution.proofs.Same.{reads-more}
use Rattle.load_rounds.proofs.Limiting.{work-of-all-grows}
use Rattle.load_rounds.proofs.law.refused_rightly.Goals as goal

pub returns : goal.returns
returns c = λ modes rs M N more. work-of-all-grows rs (read modes M) (read modes N) (reads-more modes M N more)
