use Rattle.std.proofs.Common.{◌<◌, ◌≤◌, ◌∙◌, sym, length, arith}
use Rattle.load_queue.specs.Wanted.{wanted_in}
use Rattle.load_queue.proofs.WantLaws.{keys-at, keys-in, past-keys, length-in}
use Rattle.load_queue.proofs.wants.Wants.keys.Goals as goal

pub returns-then-loader-len : goal.returns-then-loader-len
returns-then-loader-len c =
    let ws = c.self.inside.lists.items in
    let ms = c.self.inside.modes.items in
    let i = c.args.loader in
    let lt : i < length ws = omega (arith, c.if-loader-len.true, c.len.ensures) in
    let asked : i < length (wanted_in ws ms) = rw (← c.self.view_is) at c.requires in
    let inside : i < length ms = omega (arith, asked, length-in ws ms) in
    rw (← c.self.view_is) (c.keys.ensures ∙ sym (keys-in ws ms i lt inside ∙ keys-at ws i c.index.result.now lt c.index.ensures))

pub returns : goal.returns
returns c =
    let past : length c.self.inside.lists.items ≤ c.args.loader = omega (arith, c.if-loader-len.false, c.len.ensures) in
    rw (← c.self.view_is) (sym (past-keys c.self.inside.lists.items c.self.inside.modes.items c.args.loader past))
