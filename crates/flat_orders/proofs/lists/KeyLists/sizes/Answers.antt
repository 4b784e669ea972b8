use Rattle.std.proofs.Common.{length, ap, ◌∙◌}
use Rattle.std.proofs.lemmas.List.{length-map}
use Rattle.flat_orders.specs.Written.{lists_said, keys_in, shape_of, size_of}
use Rattle.flat_orders.proofs.lists.KeyLists.sizes.Goals as goal

pub returns-clause-lists : goal.returns-clause-lists
returns-clause-lists c =
    let i = c.self.inside in
    rw (← c.self.view_is) (c.len.ensures ∙ i.counts.ok.0 ∙ ap length c.self.invariant.counts_are ∙ length-map (lists_said i.counts.items i.shapes.items i.texts) length)

pub returns-clause-keys : goal.returns-clause-keys
returns-clause-keys c =
    let i = c.self.inside in
    rw (← c.self.view_is) (c.len-2.ensures ∙ i.shapes.ok.0 ∙ ap length c.self.invariant.shapes_are ∙ length-map (keys_in (lists_said i.counts.items i.shapes.items i.texts)) shape_of)

pub returns-clause-texts : goal.returns-clause-texts
returns-clause-texts c = rw (← c.self.view_is) (c.len-3.ensures ∙ ap length c.self.invariant.texts_are)

pub returns-clause-bytes : goal.returns-clause-bytes
returns-clause-bytes c = rw (← c.self.view_is) (c.byte_len.ensures ∙ ap size_of c.self.invariant.texts_are)
