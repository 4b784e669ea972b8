use Rattle.std.proofs.Common.{◌≡◌, ◌∙◌, ap, length, Some, ℕ, cond, refl}
use Rattle.gq_bindings.specs.Tree.{binds}
use Rattle.gq_bindings.specs.Seen.{bound_of}
use Rattle.gq_bindings.specs.Places.{place_in}
use Rattle.gq_bindings.proofs.Places.{field-push}
use Rattle.gq_bindings.proofs.fields.BoundFields.push.Goals as goal

pub invariant_of-self-2 : goal.invariant_of-self-2
invariant_of-self-2 c =
    let place : c.len-place.result ≡ length c.self.inside.entries.items = c.len-place.ensures ∙ c.self.inside.entries.ok.0 in
    rw (c.in_ok-push.ensures.items, c.in_ok-reserve.ensures.items)
    (field-push bound_of c.self.inside.entries.items c.args.field _ _ (place_in c.self.inside.places) (place_in c.note.new.places) c.self.invariant
    (λ q r. c.in_ok-note.ensures.ok q r ∙ ap (λ (n : ℕ). cond (binds q r (bound_of c.args.field)) (Some n) (place_in c.self.inside.places q r)) place)
    refl refl (rw c.self.view_is c.requires))
