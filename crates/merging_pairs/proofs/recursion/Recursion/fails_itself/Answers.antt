use Rattle.std.proofs.Common.{◌≡◌, ◌∙◌, true, false, not, sym, ap, refl}
use Rattle.merging_pairs.specs.Numbered.{are_alike, may_meet, do_agree, test_at}
use Rattle.merging_pairs.specs.Table.{fail}
use Rattle.merging_pairs.proofs.TableLaws.{test_at-read}
use Rattle.merging_pairs.proofs.recursion.Recursion.fails_itself.Goals as goal

pub returns-in-Shape : goal.returns-in-Shape
returns-in-Shape c = rw c.in-Shape.is (ap not (c.is_alike.ensures ∙ test_at-read are_alike c.args.self.now.fields.now c.args.a c.args.b c.index-self-a.result c.index-self-b.result c.requires.a c.requires.b))

pub returns-then-may_meet : goal.returns-then-may_meet
returns-then-may_meet c =
    let meet = c.may_meet.ensures ∙ test_at-read may_meet c.args.self.now.fields.now c.args.a c.args.b c.index-self-a.result c.index-self-b.result c.requires.a c.requires.b in
    let agree = c.agrees.ensures ∙ test_at-read do_agree c.args.self.now.fields.now c.args.a c.args.b c.index-self-a.result c.index-self-b.result c.requires.a c.requires.b in
    let other : fail c.args.self.now.shapes.now c.args.a c.args.b ≡ false = sym c.is_failing.ensures ∙ c.if-is_failing.false in
    let met : test_at may_meet c.args.self.now.fields.now c.args.a c.args.b ≡ true = sym meet ∙ c.if-may_meet.true in
    rw (c.in-Merge.is, other, met, ← agree) refl

pub returns-else-may_meet : goal.returns-else-may_meet
returns-else-may_meet c =
    let meet = c.may_meet.ensures ∙ test_at-read may_meet c.args.self.now.fields.now c.args.a c.args.b c.index-self-a.result c.index-self-b.result c.requires.a c.requires.b in
    let other : fail c.args.self.now.shapes.now c.args.a c.args.b ≡ false = sym c.is_failing.ensures ∙ c.if-is_failing.false in
    rw (c.in-Merge.is, other, ← meet, c.if-may_meet.false) refl
