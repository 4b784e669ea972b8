-- Lemmas on what a slot or a handle owns is the same for every thread, where its object is. Assumes
-- nothing.
use Rattle.std.proofs.Common.{List}
use mir.Raw.{raw}
use mir.Val.{Val}
use base.Fml.{fsep}
use base.Fraction.{full_share}
use base.Shift.{Keyless}
use denote.Memory.{lone}
use denote.Param.Send.{IsSend, part_keyless}
use denote.RattleType.{RattleType}
use denote.RawPtr.{Ptr, block_ptr, null_ptr}
use Rattle.std.proofs.Crossing.{frees}
use Rattle.std.specs.Prelude.{Option, None, Some}
use Rattle.foreign_handles.proofs.Lone.{pointer}
use Rattle.foreign_handles.specs.Held.{owns_held}

held_keyless : (R : RattleType) → IsSend R → (p : Ptr) (h : Option R.Denot) → Keyless (owns_held R p h)
held_keyless R s null_ptr None = tt
held_keyless R s null_ptr (Some x) = tt
held_keyless R s (block_ptr b o) None = tt
held_keyless R s (block_ptr b o) (Some x) = λ a. (part_keyless R s full_share x b o, frees.frees a (raw (lone R.mir)) (block_ptr b o))

-- a struct of one raw pointer that owns what a slot owns
pub owned_keyless : (R : RattleType) → IsSend R → (p : Ptr) (h : Option R.Denot) (vs : List Val) → Keyless (fsep (pointer p vs) (owns_held R p h))
owned_keyless R s p h vs = ((λ vss. (tt, (tt, tt))), held_keyless R s p h)
