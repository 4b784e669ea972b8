use Rattle.std.proofs.Common.{◌≡◌, ◌<◌, ◌∙◌, ◌+◌, map, length, get_or, ap, refl, sym, arith}
use Rattle.std.proofs.lemmas.List.{get_or-map, length-map}
use Rattle.load_memory.specs.Keys.{key_of}
use Rattle.load_queue.proofs.SeenLaws.{saw-one, seen-kept}
use Rattle.load_queue.proofs.wants.see_rest.Goals as goal

pub returns-in_err-insert-clause-seen : goal.returns-in_err-insert-clause-seen
returns-in_err-insert-clause-seen c =
    seen-kept c.args.mode c.loop-number.seen _ (map key_of c.args.keys.now) c.loop-number.invariant.saw c.in_err-insert.ensures.err refl

pub loop-number-preserved : goal.loop-number-preserved
loop-number-preserved c =
    let ks = c.args.keys.now in
    let i = c.loop-number.number in
    let key = c.index-keys-number.result in
    let lt : i < length ks = omega (arith, c.loop-number-test.true) in
    let counted : c.loop-number.seen.count ≡ i = c.loop-number.invariant.at in
    let inside : c.loop-number.seen.count < length (map key_of ks) = omega (arith, lt, counted, length-map ks key_of) in
    let at : key_of key ≡ get_or (map key_of ks) c.loop-number.seen.count (key_of key) =
    ap key_of c.index-keys-number.is ∙ sym (get_or-map key_of ks i key (key_of key) lt) ∙ ap (λ n. get_or (map key_of ks) n (key_of key)) (sym counted) in
    record {
      saw = saw-one c.args.mode c.loop-number.seen _ (map key_of ks) c.in_ok-cached.cached (key_of key) c.loop-number.invariant.saw inside at c.in_ok-cached.ensures c.in_ok-insert.ensures.keys (ap (λ n. n + 1) (sym counted));
      at = refl;
    }
