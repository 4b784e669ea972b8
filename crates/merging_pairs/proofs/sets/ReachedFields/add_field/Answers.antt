use Rattle.std.proofs.Common.{◌∙◌, ◌||◌, ◌==◌, Bool, [], ◌∷◌, ap, sym}
use Rattle.merging_pairs.specs.Numbered.{is_in}
use Rattle.merging_pairs.proofs.ReachLaws.{in-append, marks-joined, or-none}
use Rattle.merging_pairs.proofs.sets.ReachedFields.add_field.Goals as goal

pub returns : goal.returns
returns c = λ ms a. record {
  members = λ i. c.insert.ensures i ∙ ap (λ (b : Bool). b || (i == c.args.field)) (a.members i) ∙ ap (λ (b : Bool). is_in ms i || b) (sym (or-none (i == c.args.field))) ∙ sym (in-append ms (c.args.field ∷ []) i);
  marks = marks-joined c.args.rows.now ms (c.args.field ∷ []) c.args.self.now.marks c.marks_of_field.result c.add_all.new.self c.add_all.ensures a.marks c.marks_of_field.ensures;
}
