use Rattle.std.proofs.Common.{◌∙◌, ℕ, List, ap, sym, string_bytes}
use Rattle.load_rounds.specs.SharedRounds.{ReportOf}
use Rattle.server.specs.Overruns.{overrun_text}
use Rattle.server.proofs.overruns.refusal.Goals as goal
use Rattle.server.proofs.overruns.refusal.Goals.{in-Work+in_ok-text-in-Work, in-Rounds+in_ok-text-in-Rounds}

pub returns : goal.returns
returns c =
    let made : List ℕ → ReportOf = λ text. record { text = text; rounds = c.args.overrun.rounds; loads = 0 } in
    elim c.match-overrun.branch [
      | in-Work+in_ok-text-in-Work w ↦ ap made (ap string_bytes w.text-is ∙ w.in_ok-text-in-Work.ensures.text ∙ ap overrun_text (sym w.in-Work.is))
      | in-Rounds+in_ok-text-in-Rounds w ↦ ap made (ap string_bytes w.text-is ∙ w.in_ok-text-in-Rounds.ensures.text ∙ ap overrun_text (sym w.in-Rounds.is))
    ]
