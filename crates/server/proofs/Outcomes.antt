-- Lemmas on what came of calls.
use Rattle.std.proofs.Common.{◌≡◌, ◌∙◌, List, ◌∷◌, map, length, sym, ap, refl, Result, Ok, Err}
use Rattle.std.specs.Prelude.{IfOk, OnErr, IsErrOf}
use Rattle.std.proofs.lemmas.List.{length-map}
use Rattle.load_memory.specs.Keys.{KeyOf}
use Rattle.load_queue.specs.Answers.{AnswerOf}
use Rattle.load_queue.specs.Loaders.{as_made}
use Rattle.execution.specs.Sessions.{Forgot}
use Rattle.load_rounds.specs.Histories.{Call, IsCallOf}
use Rattle.load_rounds.specs.Sessions.{SessionOf, StateOf, state_of}
use Rattle.load_rounds.specs.declared.fault.SessionFault.{SessionFault}
use Rattle.load_rounds.specs.declared.fault.SessionFault.TheVariants.{NoSuchLoader, NoMemory}
use Rattle.load_rounds.proofs.Histories.{call-leads}
use Rattle.load_rounds.proofs.Stepping.{steps-made}

-- a property that holds anyway holds of a failure
pub anyway : {T E P : Type 0} (r : Result T E) → P → OnErr r P
anyway (Ok x) p = tt
anyway (Err e) p = p

module _ {S : Type 0} (may : S → List KeyOf → AnswerOf → Type 0) (old new : SessionOf S) where
  call-many : (call : Call) → IsCallOf may call old new → length new.loaders ≡ length old.loaders
  call-many call h =
      let led = call-leads may call (state_of old) (state_of new) h in
      let made : map as_made new.loaders ≡ map as_made old.loaders = ap (λ (s : StateOf S). map as_made s.loaders) led.1.after ∙ steps-made (state_of old) (Forgot ∷ led.0) in
      sym (length-map new.loaders as_made) ∙ ap length made ∙ length-map old.loaders as_made

  -- a call keeps the loaders, whatever came of it
  pub called-many : {T : Type 0} (call : T → Call) (stop : Call) (r : Result T SessionFault) → (IsErrOf r NoSuchLoader → new ≡ old) → (IsErrOf r NoMemory → IsCallOf may stop old new)
      → IfOk r (λ x. IsCallOf may (call x) old new) → length new.loaders ≡ length old.loaders
  called-many call stop (Ok x) refused wanted done = call-many (call x) done
  called-many call stop (Err NoSuchLoader) refused wanted done = ap (λ (s : SessionOf S). length s.loaders) (refused refl)
  called-many call stop (Err NoMemory) refused wanted done = call-many stop (wanted refl)
