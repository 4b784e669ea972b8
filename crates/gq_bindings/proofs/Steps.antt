-- The loaders of `via` after its first, one more at a time.
use Rattle.std.proofs.Common.{List, ◌++◌, Option, Some, None}
use Rattle.gq_bindings.specs.Tree.{StepOf}

-- these loaders, and then those
abbrev pub joined : List StepOf → Option (List StepOf) → Option (List StepOf)
joined done None = None
joined done (Some rest) = Some (done ++ rest)
