use Rattle.std.proofs.Common.{map}
use Rattle.rules_parts.specs.Parts.{use_of}
use Rattle.rules_typed.proofs.KindLaws.{KindsUpTo}
use Rattle.rules_typed.proofs.use_kinds.UseKinds.new.Given as goal

abbrev pub invariant-loop-place : goal.invariant-loop-place
invariant-loop-place l = KindsUpTo l.known (map use_of l.uses) l.stand_ins.items l.place
