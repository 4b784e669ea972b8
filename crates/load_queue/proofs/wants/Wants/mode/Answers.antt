use Rattle.std.proofs.Common.{◌<◌, ◌≤◌, ◌∙◌, sym, length, arith}
use Rattle.load_queue.specs.Wanted.{wanted_in}
use Rattle.load_queue.proofs.WantLaws.{mode-at, mode-in, past-mode, length-in}
use Rattle.load_queue.proofs.wants.Wants.mode.Goals as goal

pub returns-then-loader-len : goal.returns-then-loader-len
returns-then-loader-len c =
    let ws = c.self.inside.lists.items in
    let ms = c.self.inside.modes.items in
    let i = c.args.loader in
    let lt : i < length ws = omega (arith, c.if-loader-len.true, c.len.ensures) in
    let asked : i < length (wanted_in ws ms) = rw (← c.self.view_is) at c.requires in
    let inside : i < length ms = omega (arith, asked, length-in ws ms) in
    rw (← c.self.view_is) (c.mode.ensures ∙ sym (mode-in ws ms i lt inside ∙ mode-at ws i c.index.result.now lt c.index.ensures))

pub index-requires-2 : goal.index-requires-2
index-requires-2 c =
    let ws = c.self.inside.lists.items in
    let ms = c.self.inside.modes.items in
    let asked : c.args.loader < length (wanted_in ws ms) = rw (← c.self.view_is) at c.requires in
    omega (arith, asked, length-in ws ms)

pub returns : goal.returns
returns c =
    let ws = c.self.inside.lists.items in
    let ms = c.self.inside.modes.items in
    let i = c.args.loader in
    let asked : i < length (wanted_in ws ms) = rw (← c.self.view_is) at c.requires in
    let inside : i < length ms = omega (arith, asked, length-in ws ms) in
    let past : length ws ≤ i = omega (arith, c.if-loader-len.false, c.len.ensures) in
    rw (← c.self.view_is) (sym (past-mode ws ms i c.index-2.result.now past inside c.index-2.ensures))
