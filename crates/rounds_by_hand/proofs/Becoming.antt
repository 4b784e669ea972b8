-- Lemmas on what a call did.
use Rattle.std.proofs.Common.{Result, Ok, Err}
use Rattle.std.specs.Prelude.{IfOk, OnOk}
use Rattle.rounds_by_hand.specs.declared.progress.Progress.{Progress}
use Rattle.rounds_by_hand.specs.declared.progress.Progress.TheVariants.{Done, Round, Working, Waiting, Over}
use Rattle.rounds_by_hand.specs.Progress.{Becomes, OnStep}

-- a fact of each call is one of each step
pub if-step : {T E : Type 0} (X : Type 0) (r : Result (Progress T) E) → OnOk r X → IfOk r (λ did. OnStep did X)
if-step X (Ok (Done done)) x = x
if-step X (Ok Round) x = x
if-step X (Ok Working) x = x
if-step X (Ok Waiting) x = tt
if-step X (Ok Over) x = tt
if-step X (Err e) x = tt

module _ {T U : Type 0} (makes : T → U → Type 0) where
  -- both are of one kind
  pub each-becomes : (Q : Progress T → Progress U → Type 0) → ((done : T) (own : U) → makes done own → Q (Done done) (Done own)) → Q Round Round → Q Working Working → Q Waiting Waiting → Q Over Over → (did : Progress T) (told : Progress U) → Becomes makes did told → Q did told
  each-becomes Q done round working waiting over (Done x) (Done y) is = done x y is
  each-becomes Q done round working waiting over (Done x) Round is = absurd is
  each-becomes Q done round working waiting over (Done x) Working is = absurd is
  each-becomes Q done round working waiting over (Done x) Waiting is = absurd is
  each-becomes Q done round working waiting over (Done x) Over is = absurd is
  each-becomes Q done round working waiting over Round (Done y) is = absurd is
  each-becomes Q done round working waiting over Round Round is = round
  each-becomes Q done round working waiting over Round Working is = absurd is
  each-becomes Q done round working waiting over Round Waiting is = absurd is
  each-becomes Q done round working waiting over Round Over is = absurd is
  each-becomes Q done round working waiting over Working (Done y) is = absurd is
  each-becomes Q done round working waiting over Working Round is = absurd is
  each-becomes Q done round working waiting over Working Working is = working
  each-becomes Q done round working waiting over Working Waiting is = absurd is
  each-becomes Q done round working waiting over Working Over is = absurd is
  each-becomes Q done round working waiting over Waiting (Done y) is = absurd is
  each-becomes Q done round working waiting over Waiting Round is = absurd is
  each-becomes Q done round working waiting over Waiting Working is = absurd is
  each-becomes Q done round working waiting over Waiting Waiting is = waiting
  each-becomes Q done round working waiting over Waiting Over is = absurd is
  each-becomes Q done round working waiting over Over (Done y) is = absurd is
  each-becomes Q done round working waiting over Over Round is = absurd is
  each-becomes Q done round working waiting over Over Working is = absurd is
  each-becomes Q done round working waiting over Over Waiting is = absurd is
  each-becomes Q done round working waiting over Over Over is = over
