use Rattle.std.proofs.Common.{sym, ◌∙◌, string_bytes}
use Rattle.load_memory.proofs.CellLaws.{length-cut}
use Rattle.flat_orders.proofs.texts.TextBuffer.len.Goals as goal

pub returns : goal.returns
returns c = rw (← c.self.view_is) (c.len.ensures ∙ c.self.inside.ends.ok.0 ∙ sym (length-cut (string_bytes c.self.inside.text) 0 c.self.inside.ends.items))
