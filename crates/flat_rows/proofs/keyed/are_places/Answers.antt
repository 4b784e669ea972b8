use Rattle.std.proofs.Common.{false, IsTrue, refl}
use Rattle.std.proofs.lemmas.Bool.{false≢true}
use Rattle.flat_rows.proofs.PlaceLaws.{rise-all, rise-low, rise-past}
use Rattle.flat_rows.proofs.keyed.are_places.Goals as goal
use Rattle.flat_rows.proofs.keyed.are_places.Goals.{then-place-least-via-then-place-least, then-place-least-via-else-place-least+then-place-keys}

never : {P : Type 0} → ¬ P → (IsTrue false → P) × (P → IsTrue false)
never fails = (λ wrong. absurd (false≢true wrong), λ p. absurd (fails p))

pub returns-then-place-least : goal.returns-then-place-least
returns-then-place-least c =
    let keys = c.args.keys in let places = c.args.places.now in let i = c.loop-place.place-index in let lt = c.loop-place-test.true in
    elim c.then-place-least.branch [
      | then-place-least-via-then-place-least w ↦ never (rise-low keys places i c.loop-place.least c.loop-place.invariant lt w.if-place-least.true)
      | then-place-least-via-else-place-least+then-place-keys w ↦ never (rise-past keys places i lt w.if-place-keys.true)
    ]

pub returns : goal.returns
returns c = (λ _. rise-all c.args.keys c.args.places.now c.loop-place.place-index c.loop-place.least c.loop-place.invariant c.loop-place-test.false, λ _. refl)
