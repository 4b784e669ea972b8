use Rattle.std.proofs.Common.{◌≡◌, ◌∙◌, [], ◌∷◌, ◌++◌, true, false, cond, Some, None, sym, ap, refl, map, arith}
use Rattle.std.specs.Prelude.{bytes_eq, string_bytes, is_some}
use Rattle.std.specs.HashMap.{get_by_text}
use Rattle.std.specs.List.{list_any}
use Rattle.std.proofs.lemmas.List.{map-append, append_assoc}
use Rattle.std.specs.Prelude.{String}
use Rattle.std.specs.Global.{Global}
use Rattle.load_memory.specs.Rows.{SheetOf}
use Rattle.std.proofs.lemmas.Map.Text.{text_keys}
use Rattle.world.specs.Sources.{TableOf, table_of, names_of, sheet_named}
use Rattle.world.proofs.Names.{named-any, none-of, sheet-append, repeats-before, repeats-more}
use Rattle.world.proofs.tables.by_name.Goals as goal

pub returns-then-is_some-clause-err : goal.returns-then-is_some-clause-err
returns-then-is_some-clause-err c =
    let ts = map table_of c.loop-name.yielded in
    let name = string_bytes c.in-Some.name in
    let x : String Global × SheetOf = (c.in-Some.name, c.in-Some.table) in
    let rest = c.next.new.self.rest.items in
    let present : is_some (get_by_text c.loop-name.named name) ≡ true = grind (arith, text_keys) in
    let known : list_any (bytes_eq name) (names_of ts) ≡ true = sym (named-any ts name) ∙ rw (c.loop-name.invariant.found name) at present in
    let whole : c.args.tables.items ≡ c.loop-name.yielded ++ x ∷ rest = c.loop-name.invariant.whole ∙ ap (λ more. c.loop-name.yielded ++ more) c.in-Some.ensures.steps.0 in
    rw (whole, map-append table_of c.loop-name.yielded (x ∷ rest), map-append (λ (t : TableOf). t.name) ts (map table_of (x ∷ rest))) (repeats-before (names_of ts) name (names_of (map table_of rest)) known)

pub loop-name-preserved : goal.loop-name-preserved
loop-name-preserved c =
    let ts = map table_of c.loop-name.yielded in
    let name = string_bytes c.in-Some.name in
    let t = table_of (c.in-Some.name, c.in-Some.table) in
    let absent : is_some (get_by_text c.loop-name.named name) ≡ false = grind (arith, text_keys) in
    let unnamed : is_some (sheet_named ts name) ≡ false = rw (c.loop-name.invariant.found name) at absent in
    let none : sheet_named ts name ≡ None = none-of (sheet_named ts name) unnamed in
    let new : list_any (bytes_eq name) (names_of ts) ≡ false = sym (named-any ts name) ∙ unnamed in
    let more : map table_of (c.loop-name.yielded ++ (c.in-Some.name, c.in-Some.table) ∷ []) ≡ ts ++ t ∷ [] = map-append table_of c.loop-name.yielded ((c.in-Some.name, c.in-Some.table) ∷ []) in
    let whole = c.loop-name.invariant.whole ∙ (ap (λ more. c.loop-name.yielded ++ more) c.in-Some.ensures.steps.0 ∙ sym (append_assoc c.loop-name.yielded ((c.in-Some.name, c.in-Some.table) ∷ []) c.next.new.self.rest.items)) in
    record {
      whole = whole;
      found = λ q.
          let put : get_by_text c.insert.new.self q ≡ cond (bytes_eq q name) (Some c.in-Some.table) (get_by_text c.loop-name.named q) = grind (arith, text_keys) in
          put ∙ (rw (c.loop-name.invariant.found q) refl ∙ (sym (sheet-append ts t q none) ∙ ap (λ all. sheet_named all q) (sym more)));
      once = λ r. repeats-more (names_of ts) name new c.loop-name.invariant.once (rw (more, map-append (λ (t : TableOf). t.name) ts (t ∷ [])) at r);
    }
