use Rattle.std.proofs.Common.{◌≡◌, ◌∙◌, ap, length, Some, ℕ, cond}
use Rattle.std.specs.HashMap.{get_by_text}
use Rattle.gq_bindings.specs.Tree.{is_loader}
use Rattle.gq_bindings.specs.Seen.{loader_of}
use Rattle.gq_bindings.proofs.Places.{loader-push}
use Rattle.gq_bindings.proofs.loaders.Loaders.push.Goals as goal

pub invariant_of-self-2 : goal.invariant_of-self-2
invariant_of-self-2 c =
    let number : c.len-number.result ≡ length c.self.inside.lines.items = c.len-number.ensures ∙ c.self.inside.lines.ok.0 in
    rw (c.in_ok-push.ensures.items, c.in_ok-reserve.ensures.items)
    (loader-push loader_of c.self.inside.lines.items c.args.line (get_by_text c.self.inside.numbers) (get_by_text c.note.new.numbers) c.self.invariant
    (λ q. c.in_ok-note.ensures.ok q ∙ ap (λ (n : ℕ). cond (is_loader q (loader_of c.args.line)) (Some n) (get_by_text c.self.inside.numbers q)) number)
    (rw c.self.view_is c.requires))
