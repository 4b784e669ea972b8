-- `of` makes a value of no bytes, whose ghost field is what the reference shows.
use Rattle.std.proofs.Common.{List, [], ◌∷◌, ◌++◌, refl, sym, subst}
use Rattle.std.proofs.raw_atomic.Walks.{proved_at}
use mir.Val.{Val, vnil, vptr, vstruct}
use base.Fml.{Fml}
use base.Logic.{SProp, ent, id⊢}
use contract.Running.{tables}
use prog.Wp.{WpFn}
use types.Kit.{‵, raw, ◌⊛◌, ◌$◌, ◌∵◌, !, qed, done, move, keep, split, join, fjoin, suffices, use0}
use types.Run.{enter, no_more, returns}
use types.ByLocal.{alloc_all, pass_all, free_all, look_at, sets}
use types.Part.{agg}
use denote.Builtin.{RefOf}
use denote.Exit.{yes}
use denote.RattleType.{owns}
use denote.Shadow.{makes_shadow}
use denote.Signature.{named_lft, plain, type_at, types_at}
use denote.Steps.{nothing}
use denote.Triple.Entry.{Res, alive}
use denote.Triple.Walked.{Goes-dropped, Stays, ends_at, says, stay_dropped, walk_of}
use Rattle.host_clients.specs.Texts.{asked_in}
use Rattle.host_clients.specs.contracts.asked.FlatAsked as asked
use Rattle.host_clients.specs.contracts.note.AskedNote.of as f
use Rattle.host_clients.proofs.note.AskedNote.of.Statement.{statement}
use Rattle.host_clients.proofs.note.AskedNote.of.Code as code

pub of_spec : {M : Type 1} → statement M
of_spec 𝓤 𝓛 𝓜 𝓡 wired =
    let E = f.ended in let c = f.clauses 𝓛 𝓜.mem 𝓡.returns in let fn = code.function in let 𝓣 = tables 𝓤 𝓛.H 𝓜 𝓡 𝓡.env in
    let P = RefOf (0 ∷ []) tt (plain (λ κs. asked.the_row (named_lft 2 1 tt κs))) (λ _. tt) in
    let stayed : Stays E.signature.params E.kept = (stay_dropped P yes, tt) in
    proved_at 𝓛 E stayed c 𝓜 𝓡 (Goes-dropped 𝓛 2 P yes (λ κs x f. refl), tt) f.Key.name fn (code.unfolded 𝓤 𝓛.H 𝓜 𝓡 wired) (λ y are.
    let p : Val = vptr y.0.3.0.ref_ptr.0 y.0.3.0.ref_ptr.1 in let v : Val = vstruct vnil in
    let r : Res E.signature y.0.0 = record { asked = asked_in y.0.3.0.now } in
    let O : Fml = (type_at E.signature.result y.0.0).own_val r (v ∷ []) in
    let Post : Val → SProp 𝓤 = (walk_of 𝓛 E stayed c).post y in let Run : List Val → SProp 𝓤 = λ us. WpFn 𝓤 𝓛.H 𝓣.C 𝓣.Λ fn us Post in
    qed 𝓛 ((raw (alive 𝓛 E.signature y.0.0 y.0.1) ⊛ ‵ (owns (types_at E.signature.params y.0.0) y.0.3 y.0.4)) ∷ raw ((c y.0.0 y.0.3).requires y.1) ∷ []) ∵
    split ! $ keep ! (0 ∷ []) $
    suffices ! (Run (p ∷ [])) (subst (λ (us : List Val). ent 𝓤 (Run (p ∷ [])) (Run us)) (sym (λ i. are.0.0 i ++ [])) (id⊢ 𝓤 _)) $
    enter ! _ _ _ _ _ $ alloc_all ! (λ l. pass_all ! refl ((tt, tt), tt) $
    sets ! (agg ! (no_more !)) refl (tt, tt) $
    returns ! (look_at ! 0 refl) $ free_all ! refl $
    use0 𝓛 (‵ O) (makes_shadow 𝓛 O ((λ vss. (tt, tt)), tt) ((tt, (refl, tt)), tt)) $
    suffices ! _ (ends_at 𝓛 E stayed c y v r (tt, tt) (tt, tt)) $ says ! refl $
    nothing ! $ nothing ! $ fjoin ! $ join ! $ move ! (1 ∷ 0 ∷ []) $ join ! $ done !))
