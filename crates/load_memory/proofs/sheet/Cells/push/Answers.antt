use Rattle.std.proofs.Common.{◌≡◌, ◌+◌, ◌++◌, ◌∙◌, ℕ, List, length, ap, sym}
use Rattle.std.proofs.lemmas.List.{length-append}
use Rattle.load_memory.proofs.CellLaws.{cut-push, IsCut-push}
use Rattle.load_memory.proofs.sheet.Cells.push.Goals as goal

size-more : (text more : List ℕ) (size : ℕ) → size ≡ length text → size + length more ≡ length (text ++ more)
size-more text more size is = rw is (sym (length-append text more))

pub invariant_of-self-2 : goal.invariant_of-self-2
invariant_of-self-2 c =
    let size = c.len.ensures ∙ c.reserve.new.self.bytes.ok.0 ∙ ap length c.in_ok-reserve.ensures.bytes in
    rw (c.in_ok-push.ensures.ok, c.in_ok-push_str.ensures.bytes, c.in_ok-reserve.ensures.bytes) (IsCut-push _ _ 0 _ _ c.self.invariant c.utf8.text (size-more _ _ c.len.result size))

pub returns-clause-ok : goal.returns-clause-ok
returns-clause-ok c =
    let size = c.len.ensures ∙ c.reserve.new.self.bytes.ok.0 ∙ ap length c.in_ok-reserve.ensures.bytes in
    rw (c.in_ok-push.ensures.ok, c.in_ok-push_str.ensures.bytes, c.in_ok-reserve.ensures.bytes, ← c.self.view_is) (cut-push _ _ 0 _ _ c.self.invariant (size-more _ _ c.len.result size))
