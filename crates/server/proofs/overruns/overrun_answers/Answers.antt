use Rattle.std.proofs.Common.{◌≡◌, ◌<◌, ◌∙◌, ◌++◌, ◌∷◌, [], ap, get_or, length, map, sym, add-one, string_bytes}
use Rattle.std.specs.Option.{is_some}
use Rattle.std.proofs.lemmas.List.{map-append}
use Rattle.load_rounds.specs.SharedRounds.{report_of}
use Rattle.server.specs.Overruns.{overrun_report}
use Rattle.server.proofs.Refusing.{next-overrun, next-refused}
use Rattle.server.proofs.overruns.overrun_answers.Goals as goal
use Rattle.server.proofs.overruns.overrun_answers.Goals.{then-is_none+in_ok-refusal+in_ok-push, else-is_none}

pub loop-own-preserved : goal.loop-own-preserved
loop-own-preserved c =
    let i = c.loop-own.own-index in
    let refusals = c.args.refusals.now in
    let own = c.own-item.result in
    let o = c.args.overrun in
    let lt : i < length refusals = c.loop-own-test.true in
    let at : is_some (get_or refusals i own) ≡ is_some own = ap is_some (sym c.own-item.is) in
    let done = map report_of c.loop-own.answers.items in
    elim c.if-is_none.branch [
      | then-is_none+in_ok-refusal+in_ok-push w ↦
          let put : map report_of c.if-is_none.answers.items ≡ done ++ overrun_report o ∷ [] =
          ap (λ v. map report_of v.items) w.answers-is ∙ ap (map report_of) w.in_ok-push.ensures.items ∙ map-append report_of c.loop-own.answers.items _ ∙ ap (λ t. done ++ t ∷ []) w.in_ok-refusal.ensures in
          rw (put, add-one) (next-overrun string_bytes o done refusals i own lt (at ∙ w.if-is_none.ensures) ∙ c.loop-own.invariant)
      | else-is_none w ↦ rw (w.answers-is, add-one) (ap (λ ts. done ++ ts) (next-refused string_bytes o refusals i own lt (at ∙ w.if-is_none.ensures)) ∙ c.loop-own.invariant)
    ]
