-- A struct whose one field of data is a raw pointer, as a slot and a handle are: its machine value, and what the field owns. Assumes
-- `Logic`.
use Rattle.std.proofs.Common.{List, [], ◌∷◌, refl, lit<}
use seplogic.Ra.Ura.{Ura}
use lib.Dec.{T}
use mathlib.Core.Bool.{true, ◌&&◌}
use mir.Syntax.{ty_ptr}
use mir.Val.{Val, vstruct, vcons, vnil, has_ty, WT}
use base.Fml.{Fml}
use types.Logic.{Logic}
use types.Kit.{Item, Goal, Step, step, ‵, ◌$◌, fjoin, fpack, feq_i}
use denote.RattleType.{Valss}
use denote.RawPtr.{Ptr, RawPtr, block_ptr, null_ptr, ptr_val}
use denote.Steps.{nothing}
use denote.Struct.Struct.{Shape, Struct, within}

-- a struct of one field, at that field's machine value
abbrev pub single : Val → Val
single v = vstruct (vcons v vnil)

abbrev shape : Shape
shape = record { name = []; args = []; types = []; fields = RawPtr ∷ [] }

-- gives what such a struct's field owns, which is nothing: it says the machine value
abbrev pub pointer : Ptr → List Val → Fml
pointer p = (Struct shape).own_val (p, tt)

pub pointer_fits : (p : Ptr) → T (has_ty ty_ptr (ptr_val p)) × WT (ptr_val p)
pointer_fits null_ptr = (tt, record { fits = lit< tt })
pointer_fits (block_ptr b o) = (tt, tt)

pub single_fits : (p : Ptr) → T (has_ty ty_ptr (ptr_val p) && true) × WT (single (ptr_val p))
single_fits null_ptr = (tt, (record { fits = lit< tt }, tt))
single_fits (block_ptr b o) = (tt, (tt, tt))

module _ {M : Type 1} {𝓤 : Ura M} {𝓛 : Logic 𝓤} {K : Type 0} {Γ : List (Item 𝓤)} {G : Goal 𝓤 𝓛.H} where
  pub pointer_in : K → (p : Ptr) → Step K 𝓛 (‵ (pointer p (single (ptr_val p) ∷ [])) ∷ Γ) G Γ G
  pointer_in t p = step (λ s. nothing t $ feq_i t (List Val) (ptr_val p ∷ []) (ptr_val p ∷ []) refl $ fjoin t $
      feq_i t (List Val) (single (ptr_val p) ∷ []) (single (ptr_val p) ∷ []) refl $ fjoin t $
      fpack t (Valss (RawPtr ∷ [])) (within shape (p, tt) (single (ptr_val p) ∷ [])) (ptr_val p ∷ [], tt) $ s)
