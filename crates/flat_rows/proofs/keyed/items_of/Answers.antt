use Rattle.std.proofs.Common.{◌≡◌, ◌<◌, ◌∙◌, ◌+◌, [], map, length, ap, sym, arith}
use Rattle.std.specs.Prelude.{slice_index}
use Rattle.std.proofs.lemmas.List.{map_push, map_more, length_push}
use Rattle.load_memory.specs.Outcomes.{item_of}
use Rattle.flat_rows.proofs.KeyedItems.{item_at, next-is}
use Rattle.flat_rows.proofs.KeyedLaws.{drop-parts}
use Rattle.flat_rows.proofs.keyed.items_of.Goals as goal

pub loop-rows-preserved : goal.loop-rows-preserved
loop-rows-preserved c =
    let groups = c.args.groups.items in let of_keys = c.args.of_keys.now in let items = c.loop-rows.items.items in let i = length items in let item = c.in_ok-item.item in
    let parts = drop-parts groups i c.in-Some.rows [] c.next.new.self.rest.items (sym c.loop-rows.invariant.left ∙ c.in-Some.ensures.steps.0) in
    let place : c.len.result ≡ i = omega (arith, c.len.ensures, c.loop-rows.items.ok.0) in
    let lt : i < length of_keys = omega (arith, parts.0, c.requires.many) in
    let own = rw c.deref.ensures.value at c.in_ok-item.ensures.own in let other = rw c.deref.ensures.value at c.in_ok-item.ensures.other in
    let is = next-is groups of_keys i (slice_index of_keys c.len.result) (map item_of items) (item_of item) c.in-Some.rows c.requires.first lt (ap (λ n. slice_index of_keys n) place) parts.1 c.loop-rows.invariant.said own other in
    let many : length c.push.new.self.items ≡ i + 1 = ap length c.in_ok-push.ensures.items ∙ length_push items item in
    record {
      left = rw many parts.2;
      said = rw (many, c.in_ok-push.ensures.items, map_push item_of items item, c.loop-rows.invariant.said, is) (sym (map_more (item_at groups) of_keys i 0 lt));
    }
