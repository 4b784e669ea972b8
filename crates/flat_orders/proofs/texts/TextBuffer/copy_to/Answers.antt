use Rattle.std.proofs.Common.{◌≡◌, length, refl, string_bytes, arith}
use Rattle.std.proofs.lemmas.Bool.{false≢true}
use Rattle.load_memory.proofs.CellLaws.{length-cut}
use Rattle.flat_orders.specs.Written.{size_of}
use Rattle.flat_orders.proofs.Writing.{size-cut}
use Rattle.flat_orders.proofs.texts.TextBuffer.copy_to.Goals as goal
use Rattle.flat_orders.proofs.texts.TextBuffer.copy_to.Goals.{then-ends-len-via-then-ends-len, then-ends-len-via-else-ends-len+then-bytes-len}

pub returns-then-ends-len-clause-sizes : goal.returns-then-ends-len-clause-sizes
returns-then-ends-len-clause-sizes c =
    let text = string_bytes c.self.inside.text in let ends = c.self.inside.ends.items in
    let texts : length c.args.self.now ≡ length ends = rw (← c.self.view_is) (length-cut text 0 ends) in
    let size = size-cut text 0 ends c.self.invariant in
    let bytes : size_of c.args.self.now ≡ length text = rw (← c.self.view_is) (omega (arith, size)) in
    elim c.then-ends-len.branch [
      | then-ends-len-via-then-ends-len w ↦ (λ wrong. absurd (false≢true wrong), λ h. absurd (omega (arith, w.if-ends-len.true, c.len.ensures, c.self.inside.ends.ok.0, texts, h.0)))
      | then-ends-len-via-else-ends-len+then-bytes-len w ↦ (
        λ wrong. absurd (false≢true wrong),
        λ h. absurd (omega (arith, w.if-bytes-len.true, w.len-else-ends-len.ensures, c.self.inside.text.bytes.ok.0, bytes, h.1)),
      )
    ]

pub returns-clause-sizes : goal.returns-clause-sizes
returns-clause-sizes c =
    let text = string_bytes c.self.inside.text in let ends = c.self.inside.ends.items in
    let texts : length c.args.self.now ≡ length ends = rw (← c.self.view_is) (length-cut text 0 ends) in
    let size = size-cut text 0 ends c.self.invariant in
    let bytes : size_of c.args.self.now ≡ length text = rw (← c.self.view_is) (omega (arith, size)) in
    (λ yes. (omega (arith, c.if-ends-len.false, c.len.ensures, c.self.inside.ends.ok.0, texts), omega (arith, c.if-bytes-len.false, c.len-else-ends-len.ensures, c.self.inside.text.bytes.ok.0, bytes)), λ h. refl)
