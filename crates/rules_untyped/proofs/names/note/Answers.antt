use Rattle.std.proofs.Common.{◌≡◌, false, refl, arith}
use Rattle.rules_untyped.specs.Scans.{report, has_text}
use Rattle.rules_untyped.specs.Named.{named}
use Rattle.rules_untyped.proofs.ScanLaws.{noted-name, left-noted}
use Rattle.rules_untyped.proofs.names.note.Goals as goal

pub returns-else-not-first : goal.returns-else-not-first
returns-else-not-first c = λ rest.
    let stood : has_text c.args.names.now c.args.name.now ≡ false = grind (arith, c.in_ok-first.ensures.added) in
    left-noted (has_text c.insert.new.self) (has_text c.args.names.now) (report c.args.earliest.now) (named c.args.name.now c.args.place) rest false stood
    (λ q. noted-name (has_text c.insert.new.self q) (has_text c.args.names.now q) _ c.args.name.now q refl (c.in_ok-first.ensures.updates.0 (record { ref_ptr = (0, 0); now = q })))
