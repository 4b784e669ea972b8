-- Lemmas on what a slot owns, as the box that it was made of and is made into. Assumes `Logic`.
use Rattle.std.proofs.Common.{ℕ, List, ◌∷◌}
use seplogic.Ra.Ura.{Ura}
use mir.Raw.{raw}
use base.Fml.{Fml, ftrue}
use base.Logic.{ent, ex_i, fst∗, guard, guard_i, never, never_e, snd∗, via}
use contract.Monad.{fact_use}
use types.Logic.{Logic, sem}
use types.Kit.{Item, Goal, Seq, ‵, ◌$◌, given, learn, drop, fpick, use1}
use denote.Memory.{lone}
use denote.RattleType.{RattleType}
use denote.RawPtr.{Ptr, Testable, block_ptr, null_ptr}
use Rattle.std.specs.Global.{Global}
use Rattle.std.specs.Prelude.{Option, None, Some}
use Rattle.std.proofs.GlobalToken.{dealloc_token-Testable}
use Rattle.std.specs.Box.Ownership.{box_owns}
use Rattle.std.specs.Ptr.{points_to}
use Rattle.std.specs.contracts.impls.GlobalAllocator.TheImpl.{ghosts}
use Rattle.foreign_handles.specs.Held.{owns_held}

-- gives what a box of x owns, whose block this `Global` frees
abbrev pub boxed : Global → (R : RattleType) → Ptr → R.Denot → Fml
boxed a = box_owns (ghosts.dealloc_token a)

module _ {M : Type 1} {𝓤 : Ura M} (𝓛 : Logic 𝓤) (R : RattleType) where
  pub held_of : (a : Global) (p : Ptr) (x : R.Denot) → ent 𝓤 (sem 𝓛 (boxed a R p x)) (sem 𝓛 (owns_held R p (Some x)))
  held_of a null_ptr x = fst∗ 𝓤 (never 𝓤) (sem 𝓛 (ghosts.dealloc_token a (raw (lone R.mir)) null_ptr))
  held_of a (block_ptr b o) x = ex_i 𝓤 (λ (t : Global). sem 𝓛 (boxed t R (block_ptr b o) x)) a

  -- a block that a `Global` frees is nowhere null, so its pointer may be tested
  testable : (a : Global) (p : Ptr) (x : R.Denot) → ent 𝓤 (sem 𝓛 (boxed a R p x)) (guard 𝓤 (Testable p) (sem 𝓛 (boxed a R p x)))
  testable a p x = let Token = ghosts.dealloc_token a (raw (lone R.mir)) p in
      fact_use 𝓤 (Testable p) (via 𝓤 (sem 𝓛 Token) (snd∗ 𝓤 (sem 𝓛 (points_to R p x)) (sem 𝓛 Token)) (dealloc_token-Testable 𝓛 a (raw (lone R.mir)) p)) (guard_i 𝓤 (Testable p) (sem 𝓛 (boxed a R p x)))

module _ (R : RattleType) {M : Type 1} {𝓤 : Ura M} {𝓛 : Logic 𝓤} {K : Type 0} {Γ : List (Item 𝓤)} where
  -- cases of what a slot owns: nothing, or a box
  pub by_held : K → (C : Ptr → Option R.Denot → Goal 𝓤 𝓛.H) → Seq K 𝓛 Γ (C null_ptr None)
      → ((b o : ℕ) (x : R.Denot) (a : Global) → Testable (block_ptr b o) → Seq K 𝓛 (‵ (boxed a R (block_ptr b o) x) ∷ Γ) (C (block_ptr b o) (Some x)))
      → (p : Ptr) (h : Option R.Denot) → Seq K 𝓛 (‵ (owns_held R p h) ∷ Γ) (C p h)
  by_held t C empty full null_ptr None = drop t $ empty
  by_held t C empty full null_ptr (Some x) = use1 𝓛 (given ⊥ (‵ ftrue)) (never_e 𝓤 _) $ learn t (λ wrong. absurd wrong)
  by_held t C empty full (block_ptr b o) None = use1 𝓛 (given ⊥ (‵ ftrue)) (never_e 𝓤 _) $ learn t (λ wrong. absurd wrong)
  by_held t C empty full (block_ptr b o) (Some x) = fpick t (λ a.
      use1 𝓛 (given (Testable (block_ptr b o)) (‵ (boxed a R (block_ptr b o) x))) (testable 𝓛 R a (block_ptr b o) x) $ learn t (full b o x a))
