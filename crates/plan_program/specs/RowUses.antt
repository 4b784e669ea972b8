-- Definitions of loads, and of what is done with the rows of a load, whatever its key is.
use Rattle.std.specs.Prelude.{ℕ, List, Option, Some, None}
use Rattle.gq_bindings.specs.Tree.{StepOf}
use Rattle.plan_program.specs.FieldValues.{ChildrenOf, KeyFrom, ValueFrom, known, cell, first_row, all_rows, each_row, joined_rows}

-- the first of them is taken, or all, or for each of them the first row of each later loader in
-- turn, by a column of the row before
pub data UseOf : Type 0 where
  First : UseOf
  Each : UseOf
  Joined : List StepOf → UseOf

-- what is done with the rows of a load, and what stands below them
pub record BelowOf : Type 0 where
  pub next : UseOf
  pub children : ChildrenOf

-- gives that of what a group asks for, where it loads
abbrev pub below_in : ValueFrom → Option BelowOf
below_in (known leaf_value) = None
below_in (cell column t) = None
below_in (first_row loader key children) = Some (record { next = First; children = children })
below_in (all_rows loader key children) = Some (record { next = Each; children = children })
below_in (each_row loader keys children) = Some (record { next = First; children = children })
below_in (joined_rows loader key steps children) =
    Some (record { next = Joined steps; children = children })

-- the loader of one key, and where that comes from
pub record LoadOf : Type 0 where
  pub loader : ℕ
  pub key : KeyFrom

-- gives that of what a group asks for, where it loads one key
abbrev pub load_in : ValueFrom → Option LoadOf
load_in (known leaf_value) = None
load_in (cell column t) = None
load_in (first_row loader key children) = Some (record { loader = loader; key = key })
load_in (all_rows loader key children) = Some (record { loader = loader; key = key })
load_in (each_row loader keys children) = None
load_in (joined_rows loader key steps children) = Some (record { loader = loader; key = key })
