-- `of` takes the box's pointer, with what the box owned.
use Rattle.std.proofs.Common.{List, [], ◌∷◌, ◌++◌, refl, sym, ap, subst}
use Rattle.std.proofs.raw_atomic.Walks.{proved_at}
use Rattle.std.proofs.alloc.Calls.{Goes-blank}
use Rattle.std.proofs.cell.Inside.{one}
use mir.MapTy.{inst_fn}
use mir.Syntax.{Dict, a_type, dcons, dnil, impl, tcons, tnil}
use mir.Raw.{raw as raw_of}
use mir.Val.{Val}
use base.Fml.{ftrue, flft}
use base.Fraction.{full_share}
use base.Logic.{SProp, ent, id⊢, emp}
use contract.BorrowLft.{◌⊑◌, ⊑_static}
use contract.Monad.{fact, fact_i}
use contract.Running.{tables}
use prog.Wp.{WpFn}
use types.Kit.{‵, raw, ◌⊛◌, some, later, ◌$◌, ◌∵◌, !, qed, done, move, keep, drop, split, split3, join, fsplit, fjoin, feq_l, pick, await, rewrite, suffices, use0, use1}
use types.Run.{enter, of_opd, no_more, and_then, returns}
use types.Tokens.{lft_new}
use types.ByLocal.{alloc_all, pass_all, free_all, look_at, get, sets, lands_as}
use types.Part.{agg}
use denote.Exit.{no}
use denote.Param.{arg, bounded, layout, param}
use denote.Param.Laws.{arg_laws, param_laws}
use denote.Param.NoDrop.{glues}
use denote.RattleType.{RattleType, owns}
use denote.RawPtr.{Ptr, RawPtr, ptr_val}
use denote.Signature.{plain, types_at}
use denote.Steps.{nothing, heard, only}
use denote.Triple.Call.{calls_at}
use denote.Triple.Clauses.{Lasts, lasts}
use denote.Triple.Spec.{triple_of}
use denote.Triple.Table.{framed}
use denote.Triple.Walked.{Stays, stay_dropped, walk_of, says, ends_at}
use Rattle.std.specs.Prelude.{Some}
use Rattle.std.specs.contracts.alloc.Global as global
use Rattle.std.proofs.alloc.Global.TheLaws as global_laws
use Rattle.std.specs.contracts.impls.GlobalAllocator.TheImpl.{ghosts, dict}
use Rattle.std.proofs.impls.GlobalAllocator.TheImpl.Met.{passed}
use Rattle.std.specs.contracts.boxed.Box as box
use Rattle.std.proofs.boxed.Box.TheLaws as box_laws
use Rattle.std.specs.contracts.boxed.Box.into_raw as callee
use Rattle.std.proofs.boxed.Box.into_raw.Met.{met}
use Rattle.foreign_handles.proofs.Boxes.{boxed, held_of}
use Rattle.foreign_handles.proofs.Lone.{single, single_fits, pointer_fits, pointer_in}
use Rattle.foreign_handles.specs.Held.{owns_held}
use Rattle.foreign_handles.specs.contracts.slot.Slot.of as f
use Rattle.foreign_handles.proofs.slot.Slot.of.Statement.{statement}
use Rattle.foreign_handles.proofs.slot.Slot.of.Code as code

pub of_spec : {M : Type 1} → statement M
unfolding Rattle.foreign_handles.proofs.Destruct++none.drop.Code.code
of_spec {M} 𝓤 𝓛 𝓜 𝓡 wired T L drops dropped =
    let E = f.ended T drops in let c = f.clauses T drops 𝓛 𝓜.mem 𝓡.returns in let args = bounded (a_type ∷ []) (T, tt) (dcons drops dnil) in let fn = inst_fn args code.function in
    let R : RattleType = param 0 T in let A : RattleType = global.the_row in let LA = global_laws.the_row_laws in let Z : RattleType = arg (raw_of (layout A)) no A in let LZ = arg_laws (raw_of (layout A)) no A LA refl in let B : RattleType = box.the_row R A ghosts in
    let stayed : Stays E.signature.params E.kept = (stay_dropped (plain (λ _. B)) no, tt) in let 𝓣 = tables 𝓤 𝓛.H 𝓜 𝓡 𝓡.env in
    proved_at 𝓛 E stayed c 𝓜 𝓡 (Goes-blank 𝓛 1 (plain (λ _. B)) no (λ κs x w. tt), tt) (f.Key.name args) fn (code.unfolded 𝓤 𝓛.H 𝓜 𝓡 wired (T, tt) drops) (λ y are.
    let κ = y.0.0.0 in let q = y.0.1.0 in let v = y.0.3.0 in let Post : Val → SProp 𝓤 = (walk_of 𝓛 E stayed c).post y in let Run : List Val → SProp 𝓤 = λ us. WpFn 𝓤 𝓛.H 𝓣.C 𝓣.Λ fn us Post in
    let w = one (layout B) y.0.4.0 (((box_laws.the_field_loose R A ghosts (param_laws 0 T L) LA).lawful 𝓛).typed v y.0.4.0 are.0) in
    let frees : Dict = impl ("foreign_handles::Destruct++none::drop" ∷ []) (tcons (layout Z) tnil) dnil in
    let k = triple_of 𝓛 (callee.signature T Z ghosts dict frees drops) (callee.spec T Z ghosts dict frees drops 𝓛 𝓜.mem 𝓡.returns) in let Ended = callee.ended T Z ghosts dict frees drops in
    qed 𝓛 (((‵ (flft κ q) ⊛ ‵ ftrue) ⊛ ‵ (owns (types_at E.signature.params y.0.0) y.0.3 y.0.4)) ∷ (raw (fact 𝓤 (κ ⊑ T.lives)) ⊛ ‵ ftrue) ∷ []) ∵
    move ! (1 ∷ []) $ split ! $ heard ! (κ ⊑ T.lives) (λ lives. drop ! $ split ! $ split ! $ move ! (2 ∷ []) $ fsplit ! $ rewrite ! 0 (λ (us : List Val). ‵ (B.own_val v us)) w.1 refl $
    suffices ! (Run (w.0 ∷ [])) (subst (λ (us : List Val). ent 𝓤 (Run (w.0 ∷ [])) (Run us)) (sym (λ i. w.1 i ++ [])) (id⊢ 𝓤 (Run (w.0 ∷ [])))) $
    -- [the box; nothing; the token of κ; nothing]
    enter ! _ _ _ _ _ $ alloc_all ! (λ l. pass_all ! refl (w.2, tt) $
    sets ! (of_opd ! (get ! refl)) refl w.2 $
    lft_new ! tt (λ α. let in_a = (α ∷ []) ⊑ Z.lives in let z : k.Ghost = (((κ, (α ∷ [], tt)), (q, (full_share, tt)), tt, (v, tt), (w.0 ∷ [], tt)), tt) in
    move ! (0 ∷ 4 ∷ []) $ join ! $ move ! (3 ∷ 0 ∷ []) $ join ! $ move ! (1 ∷ 2 ∷ []) $ fjoin ! $ move ! (1 ∷ 0 ∷ []) $ join ! $
    nothing ! $ use0 𝓛 (raw (fact 𝓤 in_a)) (fact_i 𝓤 in_a (emp 𝓤) (⊑_static (α ∷ []))) $ join ! $ use0 𝓛 (raw (fact 𝓤 (κ ⊑ T.lives))) (fact_i 𝓤 (κ ⊑ T.lives) (emp 𝓤) lives) $ join ! $
    move ! (1 ∷ 0 ∷ []) $ join ! $ use1 𝓛 (raw (k.pre z)) (id⊢ 𝓤 _) $
    calls_at ! (framed 𝓤 𝓛.H 𝓜 𝓣) k (met 𝓤 𝓛 𝓜 𝓡 (code.calls-std_alloc::boxed::Box::into_raw 𝓡.env wired) T Z L LZ ghosts dict frees drops
    (passed 𝓡.env (code.calls-std_heap::GlobalAllocator::allocate 𝓡.env wired) (code.calls-std_heap::GlobalAllocator::deallocate 𝓡.env wired)
    (code.calls-std_heap::GlobalAllocator::grow 𝓡.env wired) (code.calls-std_heap::GlobalAllocator::shrink 𝓡.env wired) M 𝓤 𝓛 𝓜 𝓡)
    (glues "foreign_handles::Destruct++none::drop" 𝓡.env (code.calls-foreign_handles::Destruct++none::drop 𝓡.env wired) Z LZ M 𝓤 𝓛 𝓜 𝓡) dropped) z (and_then ! (get ! refl) (no_more !)) (λ u.
    use1 𝓛 (later (some (λ (r : Ptr). ((‵ (flft κ q) ⊛ ‵ (flft (α ∷ []) full_share) ⊛ ‵ ftrue) ⊛ ‵ (RawPtr.own_val r (u ∷ []))) ⊛
    some (λ (ls : Lasts Ended z.0.0 z.0.3). ‵ (lasts Ended z.0.0 z.0.3 ls) ⊛ ‵ (boxed v.alloc R r v.value))))) (id⊢ 𝓤 _) $
    await ! tt $ pick ! (λ r. split ! $ split ! $ move ! (1 ∷ []) $ feq_l ! (λ eu. move ! (1 ∷ []) $ pick ! (λ ls. split ! $ drop ! $
    -- [what the box owned; the tokens]
    lands_as ! (ap only eu) refl (pointer_fits r) $
    sets ! (agg ! (and_then ! (get ! refl) (no_more !))) refl (single_fits r) $
    returns ! (look_at ! 0 refl) $ free_all ! refl $
    suffices ! _ (ends_at 𝓛 E stayed c y (single (ptr_val r)) (record { at = r; held = Some v.value }) (tt, tt) (tt, tt)) $ says ! refl $
    use1 𝓛 (‵ (owns_held R r (Some v.value))) (held_of 𝓛 R v.alloc r v.value) $ pointer_in ! r $ fjoin ! $
    nothing ! $ nothing ! $ fjoin ! $ move ! (2 ∷ []) $ split3 ! $ move ! (0 ∷ 2 ∷ []) $ join ! $ keep ! (0 ∷ 2 ∷ 3 ∷ []) $ done !))))))))
