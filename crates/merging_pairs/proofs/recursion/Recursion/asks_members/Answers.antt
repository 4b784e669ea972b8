use Rattle.std.proofs.Common.{◌∙◌}
use Rattle.merging_pairs.specs.Numbered.{may_meet}
use Rattle.merging_pairs.proofs.TableLaws.{test_at-read}
use Rattle.merging_pairs.proofs.recursion.Recursion.asks_members.Goals as goal

pub returns-in-Merge : goal.returns-in-Merge
returns-in-Merge c = rw c.in-Merge.is (c.may_meet.ensures ∙ test_at-read may_meet c.args.self.now.fields.now c.args.a c.args.b c.index-self-a.result c.index-self-b.result c.requires.a c.requires.b)
