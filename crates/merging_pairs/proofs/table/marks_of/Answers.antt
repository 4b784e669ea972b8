use Rattle.std.proofs.Common.{arith}
use Rattle.std.proofs.lemmas.Bool.{both_ways}
use Rattle.merging_pairs.specs.Sets.{has}
use Rattle.merging_pairs.proofs.TableLaws.{marks-all}
use Rattle.merging_pairs.proofs.table.marks_of.Goals as goal

pub returns-then-is_empty : goal.returns-then-is_empty
returns-then-is_empty c = record {
  only = λ k e. absurd (both_ways (has c.new-marks.result k) (c.new-marks.ensures k) e);
  all = λ k d m e. absurd (c.if-is_empty.ensures d m);
}

pub returns : goal.returns
returns c = record {
  only = c.loop-d.invariant.only;
  all = marks-all c.args.rows.now c.args.members.now c.loop-d.marks c.requires.members (λ k e h. c.loop-d.invariant.later k e (omega arith)) (λ k h. c.loop-d.invariant.earlier k (omega arith));
}
