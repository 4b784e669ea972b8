use Rattle.std.proofs.Common.{◌≡◌, ◌<◌, ◌∙◌, map, length, get_or, ap, sym, arith}
use Rattle.std.proofs.lemmas.List.{get_or-map, length-map}
use Rattle.load_memory.specs.Keys.{cache_of, key_of}
use Rattle.flat_rows.specs.Grouped.{first_place}
use Rattle.flat_rows.proofs.KeyedItems.{noted-more, place-more}
use Rattle.flat_rows.proofs.keyed.note_keys.Goals as goal

pub loop-place-preserved : goal.loop-place-preserved
loop-place-preserved c =
    let mode = c.args.mode in let ks = map key_of c.args.keys.now in let i = c.loop-place.place in let key = key_of c.index-keys-place.result in let cached = c.in_ok-cached.cached in
    let lt : i < length ks = omega (arith, c.loop-place-test.true, length-map c.args.keys.now key_of) in
    let at : key ≡ get_or ks i key = ap key_of c.index-keys-place.is ∙ sym (get_or-map key_of c.args.keys.now i c.index-keys-place.result key (omega (arith, c.loop-place-test.true))) in
    let first = noted-more mode ks i key lt at cached c.in_ok-cached.ensures c.loop-place.first.entries c.note_key.new.first.entries c.loop-place.invariant.first c.in_ok-note_key.ensures.noted in
    let here = ap (first_place mode _) (sym c.in_ok-cached.ensures) ∙ sym (first (cache_of cached)) ∙ c.in_ok-note_key.ensures.place in
    record {
      first = first;
      of_keys = rw c.in_ok-push.ensures.items (place-more mode ks i key lt at c.in_ok-note_key.field-0 c.loop-place.of_keys.items here c.loop-place.invariant.of_keys);
    }
