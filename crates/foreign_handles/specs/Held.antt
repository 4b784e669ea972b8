-- Definitions of what a slot owns: nothing at null, and else the box of its object.
use base.Fml.{Fml, ftrue, ffalse, fex}
use denote.RattleType.{RattleType}
use denote.RawPtr.{Ptr, block_ptr, null_ptr}
use Rattle.std.specs.Prelude.{Option, None, Some}
use Rattle.std.specs.Global.{Global}
use Rattle.std.specs.Box.Ownership.{box_owns}
use Rattle.std.specs.contracts.impls.GlobalAllocator.TheImpl.{ghosts}

abbrev pub owns_held : (R : RattleType) → Ptr → Option R.Denot → Fml
owns_held R null_ptr None = ftrue
owns_held R null_ptr (Some x) = ffalse
owns_held R (block_ptr b o) None = ffalse
owns_held R (block_ptr b o) (Some x) =
    fex Global (λ a. box_owns (ghosts.dealloc_token a) R (block_ptr b o) x)
