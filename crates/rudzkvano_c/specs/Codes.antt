-- Definitions of what calls return.
use Rattle.std.specs.Prelude.{ℤ, pos, Result, Ok, Err}
use Rattle.host_clients.specs.Faults.{code_of}
use Rattle.host_clients.specs.declared.fault.Fault.{Fault}
use Rattle.host_clients.specs.declared.fault.Fault.TheVariants as fault
use Rattle.rounds_by_hand.specs.declared.progress.Progress.{Progress}
use Rattle.rounds_by_hand.specs.declared.progress.Progress.TheVariants.{Done, Round, Working, Waiting, Over}

abbrev pub code_in : Result (Unit {0}) Fault → ℤ
code_in (Ok done) = pos 0
code_in (Err fault) = code_of fault

abbrev pub progress_in : Result (Progress (Unit {0})) Fault → ℤ
progress_in (Ok (Done done)) = pos 0
progress_in (Ok Round) = pos 1
progress_in (Ok Waiting) = pos 2
progress_in (Ok Working) = pos 3
progress_in (Ok Over) = code_of fault.Stopped
progress_in (Err e) = code_of e
