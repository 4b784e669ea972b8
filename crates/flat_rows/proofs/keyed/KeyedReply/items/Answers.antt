use Rattle.std.proofs.Common.{◌≡◌, ◌-◌, ◌∙◌, ℕ, List, drop, length, map, ap, refl, subst, sym, arith}
use Rattle.std.specs.Prelude.{zip}
use Rattle.std.proofs.lemmas.Bool.{false≢true}
use Rattle.std.proofs.lemmas.List.{length-map}
use Rattle.std.proofs.lemmas.Result.{err_from_is_err_and}
use Rattle.load_memory.specs.Keys.{key_of}
use Rattle.load_memory.specs.Outcomes.{item_of}
use Rattle.load_memory.proofs.CellLaws.{length-cut}
use Rattle.flat_rows.specs.Keyed.{ArePlaces, bad_faults, by_of, cells_wanted, faults_laid, laid_rows, no_memory, of_rows, rows_laid, with_faults}
use Rattle.flat_rows.specs.declared.fault.FlatFault.TheVariants as flat
use Rattle.flat_rows.proofs.keyed.KeyedReply.items.Goals as goal

pub returns-then-not-are_places-clause-fault : goal.returns-then-not-are_places-clause-fault
returns-then-not-are_places-clause-fault c =
    let faults = c.args.self.now.faults.now in
    bad_faults (λ placed. false≢true (c.if-not-are_places.ensures.1 (subst (λ n. ArePlaces n faults) (length-map c.args.keys.now key_of) placed)))

pub returns-in_err-texts-clause-fault : goal.returns-in_err-texts-clause-fault
returns-in_err-texts-clause-fault c =
    let faults = c.args.self.now.faults.now in
    let placed = subst (λ n. ArePlaces n faults) (sym (length-map c.args.keys.now key_of)) (c.if-not-are_places.ensures.0 refl) in
    let p = err_from_is_err_and c.from_residual.result c.from_residual.ensures.1 in
    rw (p.1, p.2) (of_rows _ placed c.in_err-texts.ensures.fault)

pub overflow_sub-cells : goal.overflow_sub-cells
overflow_sub-cells c =
    let r = c.args.self.now in let many = ap length c.in_ok-texts.ensures.texts ∙ length-cut r.bytes.now 0 r.ends.now in
    omega (arith, c.len.ensures, many, c.in_ok-texts.ensures.formed.all)

pub put_faults-requires-clause-places : goal.put_faults-requires-clause-places
put_faults-requires-clause-places c =
    let ks = map key_of c.args.keys.now in let items = c.in_ok-items.items.items in let by = by_of c.args.by.now in let given = rows_laid (laid_rows c.args.self.now) in
    let many : length items ≡ length c.args.keys.now =
    sym (length-map items item_of) ∙ ap length c.in_ok-items.ensures.keyed ∙ length-map ks _ ∙ length-map c.args.keys.now key_of in
    subst (λ n. ArePlaces n c.args.self.now.faults.now) (sym many) (c.if-not-are_places.ensures.0 refl)

pub put_faults-requires-clause-texts : goal.put_faults-requires-clause-texts
put_faults-requires-clause-texts c =
    let r = c.args.self.now in let many = ap length c.in_ok-texts.ensures.texts ∙ length-cut r.bytes.now 0 r.ends.now in
    omega (arith, c.len.ensures, many, c.in_ok-texts.ensures.formed.all)

pub returns-in_err-put_faults-clause-fault : goal.returns-in_err-put_faults-clause-fault
returns-in_err-put_faults-clause-fault c =
    let faults = c.args.self.now.faults.now in
    let placed = subst (λ n. ArePlaces n faults) (sym (length-map c.args.keys.now key_of)) (c.if-not-are_places.ensures.0 refl) in
    let p = err_from_is_err_and c.from_residual-in_err-put_faults.result c.from_residual-in_err-put_faults.ensures.1 in
    rw (p.1, p.2) (of_rows flat.NoMemory placed no_memory)

pub returns-clause-items : goal.returns-clause-items
returns-clause-items c =
    let r = laid_rows c.args.self.now in let items = map item_of c.in_ok-items.items.items in
    let many = ap length c.in_ok-texts.ensures.texts ∙ length-cut r.bytes 0 r.ends in
    let cells : c.len.result - length r.faults ≡ cells_wanted r.columns r.count = omega (arith, c.len.ensures, many, c.in_ok-texts.ensures.formed.all) in
    let said : List ℕ → List (List ℕ) → List _ = λ fs ts. with_faults (zip fs ts) items in
    c.in_ok-put_faults.ensures ∙ ap (λ n. said r.faults (drop n c.in_ok-texts.texts)) cells ∙ ap (λ ts. said r.faults (drop (cells_wanted r.columns r.count) ts)) c.in_ok-texts.ensures.texts
    ∙ ap (with_faults (faults_laid r)) c.in_ok-items.ensures.keyed
