-- `of` hands the pointer on, with what the slot owned.
use Rattle.std.proofs.Common.{List, [], ◌∷◌, ◌++◌, refl, sym, subst}
use Rattle.std.proofs.alloc.Calls.{Goes-blank}
use Rattle.std.proofs.raw_atomic.Walks.{proved_at}
use mir.Val.{Val}
use base.Logic.{SProp, ent, id⊢}
use contract.Running.{tables}
use prog.Wp.{WpFn}
use types.Kit.{‵, raw, ◌⊛◌, ◌$◌, ◌∵◌, !, qed, done, move, keep, drop, split, fsplit, fjoin, suffices}
use types.Run.{stop, fld, enter, of_opd, no_more, and_then, returns}
use types.ByLocal.{alloc_all, pass_all, free_all, look_at, get, get_in, sets}
use types.Part.{agg, sub, whole}
use denote.Exit.{yes}
use denote.RattleType.{RattleType, owns}
use denote.RawPtr.{ptr_val}
use denote.Signature.{plain, types_at}
use denote.Steps.{nothing}
use denote.Triple.Entry.{alive}
use denote.Triple.Walked.{Stays, stay_dropped, walk_of, says, ends_at}
use Rattle.host_clients.specs.contracts.object.Object as object
use Rattle.host_clients.proofs.object.Object.TheLaws as object_laws
use Rattle.foreign_handles.specs.contracts.slot.Slot as slot
use Rattle.foreign_handles.proofs.slot.Slot.TheLaws as slot_laws
use Rattle.foreign_handles.proofs.Lone.{single, single_fits, pointer_fits, pointer_in}
use Rattle.rudzkvano_c.specs.contracts.handle.Handle.of as f
use Rattle.rudzkvano_c.proofs.handle.Handle.of.Statement.{statement}
use Rattle.rudzkvano_c.proofs.handle.Handle.of.Code as code

pub of_spec : {M : Type 1} → statement M
of_spec 𝓤 𝓛 𝓜 𝓡 wired =
    let E = f.ended in let c = f.clauses 𝓛 𝓜.mem 𝓡.returns in let fn = code.function in let 𝓣 = tables 𝓤 𝓛.H 𝓜 𝓡 𝓡.env in
    let S : RattleType = slot.the_row object.the_row in
    let stayed : Stays E.signature.params E.kept = (stay_dropped (plain (λ _. S)) yes, tt) in
    proved_at 𝓛 E stayed c 𝓜 𝓡 (Goes-blank 𝓛 0 (plain (λ _. S)) yes (λ κs x w. tt), tt) f.Key.name fn (code.unfolded 𝓤 𝓛.H 𝓜 𝓡 wired) (λ y are.
    let v = y.0.3.0 in let w = single (ptr_val v.at) in let is = (slot_laws.lowers object.the_row object_laws.the_row_laws).val_is v y.0.4.0 are.0 in
    let Post : Val → SProp 𝓤 = (walk_of 𝓛 E stayed c).post y in let Run : List Val → SProp 𝓤 = λ us. WpFn 𝓤 𝓛.H 𝓣.C 𝓣.Λ fn us Post in
    qed 𝓛 ((raw (alive 𝓛 E.signature y.0.0 y.0.1) ⊛ ‵ (owns (types_at E.signature.params y.0.0) y.0.3 y.0.4)) ∷ raw ((c y.0.0 y.0.3).requires y.1) ∷ []) ∵
    split ! $ move ! (1 ∷ []) $ fsplit ! $ fsplit ! $ drop ! $
    suffices ! (Run (w ∷ [])) (subst (λ (us : List Val). ent 𝓤 (Run (w ∷ [])) (Run us)) (sym (λ i. is i ++ [])) (id⊢ 𝓤 _)) $
    -- [what the slot owned; nothing; the tokens; ..]
    enter ! _ _ _ _ _ $ alloc_all ! (λ l. pass_all ! refl (single_fits v.at, tt) $
    sets ! (of_opd ! (get_in ! (fld ! refl (stop !)) (sub ! 0 refl (whole !)))) refl (pointer_fits v.at) $
    sets ! (agg ! (and_then ! (get ! refl) (no_more !))) refl (single_fits v.at) $
    returns ! (look_at ! 0 refl) $ free_all ! refl $
    suffices ! _ (ends_at 𝓛 E stayed c y w (record { at = v.at; held = v.held }) (tt, tt) (tt, tt)) $ says ! refl $
    pointer_in ! v.at $ fjoin ! $ nothing ! $ nothing ! $ fjoin ! $ keep ! (2 ∷ 0 ∷ 1 ∷ []) $ done !))
