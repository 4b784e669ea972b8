use Rattle.rules_parts.specs.Parts.{parts_in}
use Rattle.gq_check.proofs.Validity.{before-merging}
use Rattle.gq_check.proofs.rules.merging_fault.Goals as goal

pub field_selection_merging-requires : goal.field_selection_merging-requires
field_selection_merging-requires c =
    let rests = before-merging (parts_in c.args.parts.now) c.requires.unreported in
    record { listed = c.requires.listed; graph = c.requires.graph; cycles = rests.0; few = rests.1 }
