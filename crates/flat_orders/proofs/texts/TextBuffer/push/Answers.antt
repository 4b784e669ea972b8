use Rattle.std.proofs.Common.{◌≡◌, ◌++◌, ◌∙◌, length, ap, string_bytes, arith, length-append}
use Rattle.load_memory.proofs.CellLaws.{cut-push, IsCut-push}
use Rattle.flat_orders.proofs.texts.TextBuffer.push.Goals as goal

pub invariant_of-self-2 : goal.invariant_of-self-2
invariant_of-self-2 c =
    let text = string_bytes c.self.inside.text in
    let size : c.len.result ≡ length text = c.len.ensures ∙ c.reserve.new.self.bytes.ok.0 ∙ ap length c.in_ok-reserve.ensures.bytes in
    let end : c.in-Ok.end ≡ length (text ++ c.args.text.now) = omega (arith, size, c.in-Ok.ensures.1, length-append text c.args.text.now) in
    rw (c.in_ok-push.ensures.items, c.in_ok-push_str.ensures.bytes, c.in_ok-reserve.ensures.bytes) (IsCut-push _ _ 0 _ _ c.self.invariant c.utf8.text end)

pub returns-clause-ok : goal.returns-clause-ok
returns-clause-ok c =
    let text = string_bytes c.self.inside.text in
    let size : c.len.result ≡ length text = c.len.ensures ∙ c.reserve.new.self.bytes.ok.0 ∙ ap length c.in_ok-reserve.ensures.bytes in
    let end : c.in-Ok.end ≡ length (text ++ c.args.text.now) = omega (arith, size, c.in-Ok.ensures.1, length-append text c.args.text.now) in
    rw (c.in_ok-push.ensures.items, c.in_ok-push_str.ensures.bytes, c.in_ok-reserve.ensures.bytes, ← c.self.view_is) (cut-push _ _ 0 _ _ c.self.invariant end)
