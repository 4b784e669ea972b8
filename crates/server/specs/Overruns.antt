-- Refusals of what is over a limit on its work or on its rounds.
use Rattle.std.specs.Prelude.{◌≡◌, ℕ, List, [], ◌∷◌, map, length, Option, Some, None, Result, Ok, Err, codes}
use Rattle.std.specs.Global.{Vec}
use Rattle.load_memory.specs.Keys.{KeyOf}
use Rattle.load_queue.specs.Answers.{AnswerOf}
use Rattle.load_rounds.specs.Limits.{AreRefused, AreWithin}
use Rattle.execution.specs.Loads.{read}
use Rattle.execution.specs.Reads.{all_read, counted}
use Rattle.load_rounds.specs.Sessions.{StateOf, session_modes}
use Rattle.load_rounds.specs.SharedRounds.{ReportOf, RequestOf, SharedHeadline, report_of}
use Rattle.load_rounds.specs.declared.answer.Answer.{Answer}
use Rattle.load_rounds.specs.declared.limits.Excess.{Excess}
use Rattle.load_rounds.specs.declared.limits.Excess.TheVariants.{Work, Rounds}
use Rattle.load_rounds.specs.declared.limits.Limits.{Limits}
use Rattle.load_rounds.specs.declared.limits.Overrun.{Overrun}
use Rattle.plan_requests.specs.Planning.{refusal_text}

-- *Overrun*, its text: which limit what is asked is over
abbrev pub overrun_text : Excess → List ℕ
overrun_text Work = refusal_text (codes "too much work") None
overrun_text Rounds = refusal_text (codes "too many rounds") None

-- with the rounds that had been made; nothing was read for it
abbrev pub overrun_report : Overrun → ReportOf
overrun_report o = record { text = overrun_text o.excess; rounds = o.rounds; loads = 0 }

-- one for each request that has no refusal of its own
abbrev pub overruns : Overrun → List (Option (List ℕ)) → List ReportOf
overruns o [] = []
overruns o (Some refusal ∷ refusals) = overruns o refusals
overruns o (None ∷ refusals) = overrun_report o ∷ overruns o refusals

-- what is given to the requests that have no refusal of their own: answers, or one for each
abbrev pub reports_given : List (Option (List ℕ)) → Result (Vec Answer) Overrun → List ReportOf
reports_given refusals (Ok answers) = map report_of answers.items
reports_given refusals (Err o) = overruns o refusals

module _ {S : Type 0} (may : S → List KeyOf → AnswerOf → Type 0) (limits : Limits)
    (old new : StateOf S) where
  -- These are given to requests that are asked together: answers with the headline of several, within the limits; or what is asked is over
  -- a limit, and each is refused.
  pub data AreGiven (rs : List RequestOf) (reports : List ReportOf) : Type 0 where
    answered : (headline : SharedHeadline may old new rs reports)
        → AreWithin limits rs new (length headline.log) → AreGiven rs reports
    overrun : {o : Overrun} → AreRefused may old new limits rs o
        → reports ≡ map (λ r. overrun_report o) rs → AreGiven rs reports

  -- gives how many loads they read together: those of all requests that were answered, each as often as it is read; refusals read none
  abbrev pub loads_given : {rs : List RequestOf} {reports : List ReportOf} → AreGiven rs reports → ℕ
  loads_given {rs} (answered headline within) = counted (all_read
      (map (λ (r : RequestOf). r.program) rs) (read (session_modes old) new.memory))
  loads_given (overrun gone same) = 0
