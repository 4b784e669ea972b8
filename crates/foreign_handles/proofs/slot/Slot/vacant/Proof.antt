-- `vacant` makes a slot at null, which owns nothing.
use Rattle.std.proofs.Common.{[], ◌∷◌, refl}
use Rattle.std.proofs.raw_atomic.Walks.{proved}
use mir.MapTy.{inst_fn}
use mir.Syntax.{a_type, dcons, dnil}
use mir.Val.{vnull}
use base.Fml.{ftrue}
use types.Kit.{‵, raw, ◌⊛◌, ◌$◌, ◌∵◌, !, qed, done, keep, split, fjoin, suffices}
use types.Run.{enter, lit, no_more, and_then, returns}
use types.ByLocal.{alloc_all, pass_all, free_all, look_at, sets}
use types.Part.{agg}
use denote.Param.{bounded}
use denote.RawPtr.{null_ptr}
use denote.Steps.{nothing}
use denote.Triple.Entry.{alive}
use denote.Triple.Walked.{walk_of, says, ends_at}
use Rattle.std.specs.Prelude.{None}
use Rattle.foreign_handles.proofs.Lone.{single, single_fits, pointer_in}
use Rattle.foreign_handles.specs.contracts.slot.Slot.vacant as f
use Rattle.foreign_handles.proofs.slot.Slot.vacant.Statement.{statement}
use Rattle.foreign_handles.proofs.slot.Slot.vacant.Code as code

pub vacant_spec : {M : Type 1} → statement M
vacant_spec 𝓤 𝓛 𝓜 𝓡 wired T L drops dropped =
    let E = f.ended T drops in let c = f.clauses T drops 𝓛 𝓜.mem 𝓡.returns in let W = walk_of 𝓛 E tt c in let args = bounded (a_type ∷ []) (T, tt) (dcons drops dnil) in
    proved 𝓛 E tt c 𝓜 𝓡 tt (f.Key.name args) (inst_fn args code.function) (code.unfolded 𝓤 𝓛.H 𝓜 𝓡 wired (T, tt) drops)
    (λ κs. tt) (λ κs. tt) (λ κs qs bounds a _ are.
    let y : W.Ghost = ((κs, qs, bounds, a, tt), tt) in
    qed 𝓛 ((raw (alive 𝓛 E.signature κs qs) ⊛ ‵ ftrue) ∷ raw ((c κs a).requires tt) ∷ []) ∵ split ! $
    enter ! _ _ _ _ _ $ alloc_all ! (λ l. pass_all ! refl tt $
    sets ! (agg ! (and_then ! (lit ! tt) (no_more !))) refl (single_fits null_ptr) $
    returns ! (look_at ! 0 refl) $ free_all ! refl $
    suffices ! _ (ends_at 𝓛 E tt c y (single vnull) (record { at = null_ptr; held = None }) tt tt) $ says ! refl $
    nothing ! $ pointer_in ! null_ptr $ fjoin ! $ nothing ! $ keep ! (2 ∷ 0 ∷ 1 ∷ []) $ done !))
