use Rattle.std.proofs.Common.{◌∙◌, sym}
use Rattle.merging_pairs.specs.Numbered.{have_one_key}
use Rattle.merging_pairs.proofs.TableLaws.{test_at-get}
use Rattle.merging_pairs.proofs.table.is_one_key.Goals as goal

pub returns : goal.returns
returns c = c.has_one_key.ensures ∙ sym (test_at-get have_one_key c.args.fields.now c.args.a c.args.b c.index-fields-a.result c.index-fields-b.result c.requires.a c.requires.b c.index-fields-a.is c.index-fields-b.is)
