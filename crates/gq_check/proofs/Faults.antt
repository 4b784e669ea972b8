-- First faults.
use Rattle.std.proofs.Common.{◌≡◌, sym, subst, Option, Some, None}
use Rattle.gq_schema.specs.Scan.{or_else}
use Rattle.gq_check.specs.declared.fault.CheckFault.{CheckFault}
use Rattle.gq_check.specs.declared.fault.CheckFault.TheVariants as check
use Rattle.gq_check.specs.Verdict.{FaultOf, fault_of, IsCheckFault}

-- the first of two answers isn't there where neither is
pub first-none : {A : Type 0} (a b : Option A) → or_else a b ≡ None → a ≡ None
first-none (Some x) b h = h
first-none None b h = λ i. None

-- nor the second
pub second-none : {A : Type 0} (a b : Option A) → or_else a b ≡ None → b ≡ None
second-none (Some x) b h = cc
second-none None b h = h

-- a fault that says the verdict is the one that is reported
pub tells : (verdict : Option FaultOf → Type 0) (e : CheckFault) (f : FaultOf) → fault_of e ≡ Some f → verdict (Some f) → IsCheckFault verdict e
tells verdict (check.Rule r name p) f says is = subst verdict (sym says) is
tells verdict check.TooComplex f says is = subst verdict (sym says) is
tells verdict (check.TooDeep p) f says is = subst verdict (sym says) is
tells verdict (check.NotServed name p) f says is = subst verdict (sym says) is
tells verdict check.NoMemory f says is = tt
