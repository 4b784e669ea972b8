-- `into_box` tests the pointer, and makes the box again.
use Rattle.std.proofs.Common.{◌≡◌, List, [], ◌∷◌, ◌++◌, refl, sym, ap, subst, lit<}
use Rattle.std.proofs.raw_atomic.Walks.{proved_at}
use Rattle.std.proofs.alloc.Calls.{Goes-blank}
use Rattle.std.proofs.alloc.Shapes.{after}
use Rattle.std.proofs.cell.Inside.{Good, one}
use Rattle.std.proofs.option.Made.{Some-of, none_of}
use mir.MapTy.{inst_fn}
use mir.Raw.{raw as raw_of}
use mir.Syntax.{Dict, a_type, dcons, dnil, impl, tcons, tnil}
use mir.Val.{Val, vptr, of_list}
use base.Fml.{ftrue, flft}
use base.Fraction.{full_share}
use base.Logic.{SProp, ent, id⊢, emp}
use contract.BorrowLft.{◌⊑◌, ⊑_static}
use contract.Monad.{fact, fact_i}
use contract.Running.{tables}
use prog.Wp.{WpFn}
use types.Kit.{Goal, ‵, raw, ◌⊛◌, some, later, prop, at_ret, ◌$◌, ◌∵◌, !, qed, done, move, keep, drop, split, split3, join, fsplit, fsplit3, fjoin, feq_i, pick, await, rewrite, suffices, use0, use1}
use types.Run.{stop, fld, enter, lit, bin, of_opd, no_more, and_then, first, blocks, branches, skips, exec, returns, returns_within}
use types.Match.{live}
use types.Tokens.{lft_new}
use types.ByLocal.{alloc_all, pass_all, free_all, look_at, get, get_in, sets, lands_last, env}
use types.Part.{agg, sub, whole}
use denote.Exit.{no, yes}
use denote.Laws.{Is, shows}
use denote.Param.{arg, bounded, layout, param}
use denote.Param.Laws.{arg_laws, param_laws}
use denote.Param.NoDrop.{glues}
use denote.RattleType.{RattleType, owns}
use denote.RawPtr.{Ptr, block_ptr, null_ptr, ptr_val, tests_null}
use denote.Signature.{plain, type_at, types_at}
use denote.Steps.{nothing, heard, peeks}
use denote.Triple.Call.{calls_at_last}
use denote.Triple.Clauses.{Lasts, lasts}
use denote.Triple.Spec.{triple_of}
use denote.Triple.Table.{framed}
use denote.Triple.Walked.{Stays, stay_dropped, Goes-dropped, walk_of, says, ends_at}
use Rattle.std.proofs.ResultValues.{and_tt}
use Rattle.std.specs.Prelude.{Option, None, Some}
use Rattle.std.specs.contracts.alloc.Global as global
use Rattle.std.proofs.alloc.Global.TheLaws as global_laws
use Rattle.std.specs.contracts.impls.GlobalAllocator.TheImpl.{ghosts, dict}
use Rattle.std.proofs.impls.GlobalAllocator.TheImpl.Met.{passed}
use Rattle.std.specs.contracts.boxed.Box as box
use Rattle.std.proofs.boxed.Box.TheLaws as box_laws
use Rattle.std.specs.contracts.boxed.Box.from_raw as callee
use Rattle.std.proofs.boxed.Box.from_raw.Met.{met}
use Rattle.foreign_handles.proofs.Boxes.{by_held}
use Rattle.foreign_handles.proofs.Lone.{single, single_fits, pointer_fits}
use Rattle.foreign_handles.specs.contracts.slot.Slot as slot
use Rattle.foreign_handles.proofs.slot.Slot.TheLaws as slot_laws
use Rattle.foreign_handles.specs.contracts.slot.Slot.into_box as f
use Rattle.foreign_handles.proofs.slot.Slot.into_box.Statement.{statement}
use Rattle.foreign_handles.proofs.slot.Slot.into_box.Code as code

pub into_box_spec : {M : Type 1} → statement M
unfolding Rattle.foreign_handles.proofs.Destruct++none.drop.Code.code
into_box_spec {M} 𝓤 𝓛 𝓜 𝓡 wired T L drops dropped =
    let E = f.ended T drops in let c = f.clauses T drops 𝓛 𝓜.mem 𝓡.returns in let args = bounded (a_type ∷ []) (T, tt) (dcons drops dnil) in let fn = inst_fn args code.function in let 𝓣 = tables 𝓤 𝓛.H 𝓜 𝓡 𝓡.env in
    let R : RattleType = param 0 T in let A : RattleType = global.the_row in let LA = global_laws.the_row_laws in let S : RattleType = slot.the_row R in let B : RattleType = box.the_row R A ghosts in
    let Z : RattleType = arg (raw_of (layout A)) no A in let LZ = arg_laws (raw_of (layout A)) no A LA refl in
    let frees : Dict = impl ("foreign_handles::Destruct++none::drop" ∷ []) (tcons (layout Z) tnil) dnil in let Ended = callee.ended T Z ghosts dict frees in
    let k = triple_of 𝓛 (callee.signature T Z ghosts dict frees) (callee.spec T Z ghosts dict frees 𝓛 𝓜.mem 𝓡.returns) in
    let stayed : Stays E.signature.params E.kept = (stay_dropped (plain (λ _. S)) no, (stay_dropped (plain (λ _. A)) yes, tt)) in let W = walk_of 𝓛 E stayed c in
    proved_at 𝓛 E stayed c 𝓜 𝓡 (Goes-blank 𝓛 1 (plain (λ _. S)) no (λ κs x w. tt), (Goes-dropped 𝓛 1 (plain (λ _. A)) yes (λ κs x w. refl), tt)) (f.Key.name args) fn (code.unfolded 𝓤 𝓛.H 𝓜 𝓡 wired (T, tt) drops) (λ y are.
    let κ = y.0.0.0 in let q = y.0.1.0 in let v = y.0.3.0 in let a = y.0.3.1.0 in
    let y' : Ptr → Option R.Denot → W.Ghost = λ p x. ((y.0.0, y.0.1, y.0.2, (record { at = p; held = x }, (a, tt)), y.0.4), y.1) in
    let h = one (layout A) y.0.4.1.0 ((LA.lawful 𝓛).typed a y.0.4.1.0 are.1.0) in let is = (slot_laws.lowers R (param_laws 0 T L)).val_is v y.0.4.0 are.0 in
    let Run : Ptr → Option R.Denot → List Val → SProp 𝓤 = λ p x us. WpFn 𝓤 𝓛.H 𝓣.C 𝓣.Λ fn us (W.post (y' p x)) in
    let Out : RattleType = type_at E.signature.result y.0.0 in let LB = (box_laws.the_field_loose R A ghosts (param_laws 0 T L) LA).lawful 𝓛 in
    let C : Ptr → Option R.Denot → Goal 𝓤 𝓛.H = λ p x. prop (Run p x (single (ptr_val p) ∷ h.0 ∷ [])) in
    qed 𝓛 (((‵ (flft κ q) ⊛ ‵ ftrue) ⊛ ‵ (owns (types_at E.signature.params y.0.0) y.0.3 y.0.4)) ∷ (raw (fact 𝓤 (κ ⊑ T.lives)) ⊛ ‵ ftrue) ∷ []) ∵
    move ! (1 ∷ []) $ split ! $ heard ! (κ ⊑ T.lives) (λ lives. drop ! $ split ! $ split ! $ move ! (2 ∷ []) $ fsplit3 ! $ move ! (1 ∷ []) $ rewrite ! 0 (λ (us : List Val). ‵ (A.own_val a us)) h.1 refl $ move ! (1 ∷ []) $ fsplit ! $ drop ! $
    suffices ! (Run v.at v.held (single (ptr_val v.at) ∷ h.0 ∷ [])) (subst (λ (us : List Val). ent 𝓤 (Run v.at v.held (single (ptr_val v.at) ∷ h.0 ∷ [])) (Run v.at v.held us)) (sym (λ i. is i ++ (h.1 i ++ []))) (id⊢ 𝓤 _)) $
    -- [what the slot owned; the allocator; nothing; the token of κ; nothing]
    by_held R ! C
    (enter ! _ _ _ _ _ $ alloc_all ! (λ l. pass_all ! refl (single_fits null_ptr, (h.2, tt)) $
    sets ! (of_opd ! (get_in ! (fld ! refl (stop !)) (sub ! 0 refl (whole !)))) refl (pointer_fits null_ptr) $ sets ! (of_opd ! (get ! refl)) refl (pointer_fits null_ptr) $
    sets ! (bin ! (get ! refl) (lit ! tt) tt) refl (tt, tt) $ first ! $ branches ! (get ! refl)
    (λ _. sets ! (agg ! (and_then ! (lit ! tt) (no_more !))) refl (tt, (record { fits = lit< tt }, tt)) $
    returns_within ! (W.post (y' null_ptr None)) refl (look_at ! 0 refl) $ free_all ! refl $
    suffices ! _ (ends_at 𝓛 E stayed c (y' null_ptr None) (live 0 (of_list [])) None (tt, (tt, tt)) (tt, (tt, tt))) $ says ! refl $
    use0 𝓛 (‵ (Out.own_val None (live 0 (of_list []) ∷ []))) (none_of 𝓛 B) $ nothing ! $ nothing ! $ fjoin ! $ nothing ! $ fjoin ! $
    move ! (4 ∷ 5 ∷ []) $ join ! $ keep ! (0 ∷ 1 ∷ 2 ∷ []) $ done !)
    (λ wrong. absurd wrong)))
    (λ b o x a' testable. let at = block_ptr b o in let y₁ = y' at (Some x) in let Post = W.post y₁ in
    enter ! _ _ _ _ _ $ alloc_all ! (λ l. pass_all ! refl (single_fits at, (h.2, tt)) $ let Ev = env fn.locals l in
    sets ! (of_opd ! (get_in ! (fld ! refl (stop !)) (sub ! 0 refl (whole !)))) refl (pointer_fits at) $ sets ! (of_opd ! (get ! refl)) refl (pointer_fits at) $
    sets ! (bin ! (get ! refl) (lit ! tt) (tests_null at testable)) refl (tt, tt) $ first ! $ branches ! (get ! refl) (λ wrong. absurd wrong)
    (λ _. skips ! $ exec ! 𝓣.C 𝓣.Λ Ev (after 4 fn.body) (at_ret Ev Post) $
    first ! $ blocks ! $ sets ! (of_opd ! (get ! refl)) refl h.2 $ sets ! (of_opd ! (get ! refl)) refl (pointer_fits at) $
    lft_new ! tt (λ α. let in_a = (α ∷ []) ⊑ Z.lives in let z : k.Ghost = (((κ, (α ∷ [], tt)), (q, (full_share, tt)), tt, (a, (at, tt)), (h.0 ∷ [], (vptr b o ∷ [], tt))), x) in
    move ! (0 ∷ 5 ∷ []) $ join ! $ move ! (4 ∷ 0 ∷ []) $ join ! $
    feq_i ! (List Val) (vptr b o ∷ []) (vptr b o ∷ []) refl $ move ! (0 ∷ 4 ∷ []) $ fjoin ! $ move ! (3 ∷ 0 ∷ []) $ fjoin ! $ move ! (1 ∷ 0 ∷ []) $ join ! $ move ! (1 ∷ []) $
    use0 𝓛 (raw (fact 𝓤 in_a)) (fact_i 𝓤 in_a (emp 𝓤) (⊑_static (α ∷ []))) $ join ! $ use0 𝓛 (raw (fact 𝓤 (κ ⊑ T.lives))) (fact_i 𝓤 (κ ⊑ T.lives) (emp 𝓤) lives) $ join ! $
    move ! (1 ∷ 0 ∷ []) $ join ! $ use1 𝓛 (raw (k.pre z)) (id⊢ 𝓤 _) $
    calls_at_last ! (framed 𝓤 𝓛.H 𝓜 𝓣) k (met 𝓤 𝓛 𝓜 𝓡 (code.calls-std_alloc::boxed::Box::from_raw 𝓡.env wired) T Z L LZ ghosts dict frees
    (passed 𝓡.env (code.calls-std_heap::GlobalAllocator::allocate 𝓡.env wired) (code.calls-std_heap::GlobalAllocator::deallocate 𝓡.env wired)
    (code.calls-std_heap::GlobalAllocator::grow 𝓡.env wired) (code.calls-std_heap::GlobalAllocator::shrink 𝓡.env wired) M 𝓤 𝓛 𝓜 𝓡)
    (glues "foreign_handles::Destruct++none::drop" 𝓡.env (code.calls-foreign_handles::Destruct++none::drop 𝓡.env wired) Z LZ M 𝓤 𝓛 𝓜 𝓡)) z (and_then ! (get ! refl) (and_then ! (get ! refl) (no_more !))) (λ u.
    use1 𝓛 (later (some (λ (r : B.Denot). ((‵ (flft κ q) ⊛ ‵ (flft (α ∷ []) full_share) ⊛ ‵ ftrue) ⊛ ‵ (B.own_val r (u ∷ []))) ⊛
    some (λ (ls : Lasts Ended z.0.0 z.0.3). ‵ (lasts Ended z.0.0 z.0.3 ls) ⊛ (raw (fact 𝓤 (r.value ≡ x)) ⊛ raw (fact 𝓤 (r.alloc ≡ a))))))) (id⊢ 𝓤 _) $
    await ! tt $ pick ! (λ r. split ! $ split ! $ move ! (2 ∷ []) $ pick ! (λ ls. split3 ! $ drop ! $ heard ! (r.value ≡ x) (λ same. drop ! $ move ! (1 ∷ []) $
    -- [the box; the tokens]
    peeks ! B (Is B) (shows 𝓛 B) r (u ∷ []) (λ told. let good = (LB.typed r (u ∷ []) told).0 in let made = live 1 (of_list (u ∷ [])) in let fits : Good (layout Out) made = (and_tt _ good.0, (record { fits = lit< tt }, (good.1, tt))) in
    lands_last ! refl good $ exec ! 𝓣.C 𝓣.Λ Ev (after 5 fn.body) (at_ret Ev Post) $ sets ! (of_opd ! (get ! refl)) refl good $
    sets ! (agg ! (and_then ! (lit ! tt) (and_then ! (get ! refl) (no_more !)))) refl fits $ returns ! (look_at ! 0 refl) $ free_all ! refl $
    suffices ! _ (ends_at 𝓛 E stayed c y₁ made (Some r) (tt, (tt, tt)) (tt, (tt, tt))) $ says ! (ap (λ (w : R.Denot). Some w) same) $
    use1 𝓛 (‵ (Out.own_val (Some r) (made ∷ []))) (Some-of 𝓛 B r u) $ nothing ! $ nothing ! $ fjoin ! $ nothing ! $ fjoin ! $
    move ! (2 ∷ []) $ split3 ! $ move ! (0 ∷ 2 ∷ []) $ join ! $ keep ! (0 ∷ 2 ∷ 3 ∷ []) $ done !)))))))))
    v.at v.held))
