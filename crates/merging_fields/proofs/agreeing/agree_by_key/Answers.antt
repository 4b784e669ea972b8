use Rattle.std.proofs.Common.{◌≤◌, length, arith}
use Rattle.std.proofs.lemmas.List.{length-map}
use Rattle.merging_members.specs.Fragments.{target_at}
use Rattle.rules_parts.specs.Parts.{parts_in, field_part_of}
use Rattle.merging_fields.proofs.Seen.{seen-all}
use Rattle.merging_fields.proofs.agreeing.agree_by_key.Goals as goal

pub returns : goal.returns
returns c = λ _.
    let p = parts_in c.args.parts.now in
    let fields = c.args.parts.now.fields in
    let past = c.loop-number-test.false in
    let end = c.len-number-end.ensures in
    let many = length-map fields.items field_part_of in
    let own = fields.ok.0 in
    let le : length p.fields ≤ c.loop-number.number = omega (arith, past, end, many, own) in
    seen-all p (target_at c.loop-number.seen) c.loop-number.number le c.loop-number.invariant
