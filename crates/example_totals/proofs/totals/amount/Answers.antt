use Rattle.std.proofs.Common.{ap, ◌∙◌, sym}
use Rattle.example_totals.specs.Totals.{number_in}
use Rattle.example_totals.proofs.Numbers.{parsed}
use Rattle.example_totals.proofs.totals.amount.Goals as goal

pub returns-in-Text : goal.returns-in-Text
returns-in-Text c =
    c.ok.ensures.value ∙ parsed c.in-Text.text.now c.parse.result c.parse.ensures.value.0 ∙ ap number_in (sym c.in-Text.ensures.0)
