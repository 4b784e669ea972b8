use Rattle.std.proofs.Common.{◌≡◌, ◌∙◌, ◌++◌, ◌∷◌, [], ap, length, map, sym}
use Rattle.std.proofs.lemmas.List.{length-map}
use Rattle.std.proofs.lemmas.Result.{on_ok_weaker}
use Rattle.load_memory.specs.Keys.{key_of}
use Rattle.flat_orders.proofs.lists.write_list.Goals as goal

pub returns-clause-counts : goal.returns-clause-counts
returns-clause-counts c =
    let count : c.in-Ok.count ≡ length (map key_of c.args.keys.now) = c.in-Ok.ensures.1 ∙ sym (length-map c.args.keys.now key_of) in
    on_ok_weaker c.write_keys.result (λ written. c.in_ok-push.ensures.items ∙ ap (λ n. c.args.counts.now.items ++ n ∷ []) count) c.write_keys.ensures.shapes
