use Rattle.std.proofs.Common.{◌<◌, ◌≤◌, ◌∙◌, ap, sym, length, arith}
use Rattle.std.specs.Prelude.{slice_set}
use Rattle.load_queue.specs.Wanted.{WantedOf, wanted_in}
use Rattle.load_queue.proofs.WantLaws.{keys-at, taken-at, keys-in, taken-in, past-keys, past-taken, length-in}
use Rattle.load_queue.proofs.wants.Wants.take_keys.Goals as goal

pub returns-then-loader-len-clause-keys : goal.returns-then-loader-len-clause-keys
returns-then-loader-len-clause-keys c =
    let ws = c.self.inside.lists.items in
    let ms = c.self.inside.modes.items in
    let i = c.args.loader in
    let lt : i < length ws = omega (arith, c.if-loader-len.true, c.len.ensures) in
    let asked : i < length (wanted_in ws ms) = rw (← c.self.view_is) at c.requires in
    let inside : i < length ms = omega (arith, asked, length-in ws ms) in
    rw (← c.self.view_is) (c.take_keys.ensures.keys ∙ sym (keys-in ws ms i lt inside ∙ keys-at ws i c.index_mut.result.now lt c.index_mut.ensures.value))

pub returns-then-loader-len-clause-after : goal.returns-then-loader-len-clause-after
returns-then-loader-len-clause-after c =
    let ws = c.self.inside.lists.items in
    let ms = c.self.inside.modes.items in
    let i = c.args.loader in
    let lt : i < length ws = omega (arith, c.if-loader-len.true, c.len.ensures) in
    let asked : i < length (wanted_in ws ms) = rw (← c.self.view_is) at c.requires in
    let inside : i < length ms = omega (arith, asked, length-in ws ms) in
    rw (← c.self.view_is) (ap (λ (w : WantedOf). wanted_in (slice_set ws i w) ms) c.take_keys.ensures.after
    ∙ sym (taken-in ws ms i lt inside ∙ ap (λ vs. wanted_in vs ms) (taken-at ws i c.index_mut.result.now lt c.index_mut.ensures.value)))

pub returns-clause-keys : goal.returns-clause-keys
returns-clause-keys c =
    let past : length c.self.inside.lists.items ≤ c.args.loader = omega (arith, c.if-loader-len.false, c.len.ensures) in
    rw (c.new.ensures.items, ← c.self.view_is) (sym (past-keys c.self.inside.lists.items c.self.inside.modes.items c.args.loader past))

pub returns-clause-after : goal.returns-clause-after
returns-clause-after c =
    let past : length c.self.inside.lists.items ≤ c.args.loader = omega (arith, c.if-loader-len.false, c.len.ensures) in
    rw (← c.self.view_is) (sym (past-taken c.self.inside.lists.items c.self.inside.modes.items c.args.loader past))
