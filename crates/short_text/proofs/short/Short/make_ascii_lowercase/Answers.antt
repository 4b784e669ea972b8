use Rattle.std.proofs.Common.{◌≡◌, take, length, sym, ap, subst, ◌∙◌, arith, IsUtf8, length-take-le}
use Rattle.std.proofs.lemmas.List.{take_at, length-map}
use Rattle.std.proofs.lemmas.Str.{IsUtf8-had}
use Rattle.std.specs.Char.{to_ascii_lowercase}
use Rattle.short_text.proofs.Lowered.{IsUtf8-lowered}
use Rattle.short_text.proofs.short.Short.make_ascii_lowercase.Goals as goal

pub invariant_of-self : goal.invariant_of-self
invariant_of-self c =
    let inside = c.self.inside in
    let short = c.make_ascii_lowercase.new.self in
    let after = c.make_ascii_lowercase.ensures.after in
    let long : length short ≡ inside.len =
    ap length after ∙ length-map (take inside.len inside.bytes) to_ascii_lowercase ∙ length-take-le inside.len inside.bytes (omega (arith, c.self.invariant.0)) in
    let text = IsUtf8-lowered _ (IsUtf8-had _ c.self.invariant.1) in
    (c.self.invariant.0, ∣ subst IsUtf8 (sym (take_at short _ inside.len long ∙ after)) text ∣₁)
