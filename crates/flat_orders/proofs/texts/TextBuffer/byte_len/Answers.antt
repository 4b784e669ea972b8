use Rattle.std.proofs.Common.{◌≡◌, ◌∙◌, length, string_bytes, arith}
use Rattle.load_memory.specs.Cells.{cut}
use Rattle.flat_orders.specs.Written.{size_of}
use Rattle.flat_orders.proofs.Writing.{size-cut}
use Rattle.flat_orders.proofs.texts.TextBuffer.byte_len.Goals as goal

pub returns : goal.returns
returns c =
    let text = string_bytes c.self.inside.text in let ends = c.self.inside.ends.items in
    let size = size-cut text 0 ends c.self.invariant in
    let bytes : c.len.result ≡ length text = c.len.ensures ∙ c.self.inside.text.bytes.ok.0 in
    let same : c.len.result ≡ size_of (cut text 0 ends) = omega (arith, size, bytes) in
    rw (← c.self.view_is) same
