use Rattle.std.proofs.Common.{◌≡◌, ◌∙◌, length, map, sym}
use Rattle.std.proofs.lemmas.List.{length-map}
use Rattle.load_memory.specs.Keys.{key_of}
use Rattle.load_queue.proofs.order.Order.reply_with.Goals as goal

pub returns-clause-outcomes : goal.returns-clause-outcomes
returns-clause-outcomes c =
    let many : c.len.result ≡ length (map key_of c.self.inside.keys) = c.len.ensures ∙ sym (length-map c.self.inside.keys key_of) in
    rw (← c.self.view_is) (rw many at c.in_ok-outcomes.ensures)
