use Rattle.merging_pairs.proofs.ReachLaws.{members-joined, marks-joined}
use Rattle.merging_pairs.proofs.sets.ReachedFields.add_all.Goals as goal

pub returns : goal.returns
returns c = λ rows ms ns a b. record {
  members = members-joined ms ns c.args.self.now.members c.args.other.now.members c.add_all.new.self c.add_all.ensures a.members b.members;
  marks = marks-joined rows ms ns c.args.self.now.marks c.args.other.now.marks c.add_all-2.new.self c.add_all-2.ensures a.marks b.marks;
}
