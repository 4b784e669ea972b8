use Rattle.std.proofs.Common.{◌+◌, ◌∙◌, ap, sym, drop, take}
use Rattle.std.proofs.lemmas.List.{drop-drop}
use Rattle.std.proofs.lemmas.Slice.{between_is}
use Rattle.std.specs.Arc.{arc_value}
use Rattle.load_memory.proofs.keys.Keys.split_to.Goals as goal

pub returns-in-Range-clause-rest : goal.returns-in-Range-clause-rest
returns-in-Range-clause-rest c =
    let range = c.in-Range.range in
    let list = (arc_value range.list).items in
    let at = c.args.at in
    rw (← c.self.view_is, c.in-Range.is)
    (between_is list (range.from + at) range.to ∙ sym (drop-drop at range.from (take range.to list)) ∙ ap (drop at) (sym (between_is list range.from range.to)))
