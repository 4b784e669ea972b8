use Rattle.std.proofs.Common.{◌<◌, ◌∙◌, sym, length}
use Rattle.std.proofs.lemmas.Result.{IfOk-weaker}
use Rattle.gq_resolve.proofs.Completing.{next-step}
use Rattle.gq_resolve.proofs.completed_text.CompletedText.next_item.Goals as goal

pub returns-in-Some : goal.returns-in-Some
returns-in-Some c =
    let there : c.args.depth < length c.args.self.now.path.items = rw c.deref.ensures.value at c.in-Some.ensures.lookup.3.0 in
    IfOk-weaker c.item_after.result _ _ (λ number is. is ∙ sym (next-step c.args.self.now.path.items c.args.depth _ there (rw c.deref.ensures.value at c.in-Some.ensures.lookup.1))) c.item_after.ensures
