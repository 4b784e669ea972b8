use Rattle.std.proofs.Common.{◌∙◌, [], ap, sym}
use Rattle.merging_pairs.specs.declared.field.Field.{Field}
use Rattle.merging_pairs.proofs.TableLaws.{at-get}
use Rattle.merging_pairs.proofs.table.members_of.Goals as goal

pub returns : goal.returns
returns c = sym (at-get (λ f. f.members) [] c.args.fields.now c.args.a c.index-fields-a.result c.requires c.index-fields-a.is ∙ ap (λ (f : Field). f.members) c.index-fields-a.is)
