-- What a call makes of what a handle holds, from what its closure makes of that. Assumes nothing.
use Rattle.std.proofs.Common.{◌≡◌, Some, None, Err, ap, subst, refl}
use Rattle.std.specs.Prelude.{Option, Result}
use Rattle.std.specs.Fn.{Mut, Called, CalledAtMut}
use denote.Ref.{MutBor}
use Rattle.host_clients.specs.declared.client.HostClient.{HostClient}
use Rattle.host_clients.specs.declared.fault.Fault.{Fault}
use Rattle.host_clients.specs.declared.fault.Fault.TheVariants as fault
use Rattle.host_clients.specs.declared.object.Object.{Object}
use Rattle.host_clients.specs.declared.object.Object.TheVariants as object
use Rattle.rudzkvano_c.specs.Held.{IsMadeOf}
use Rattle.rudzkvano_c.specs.Made.{MakesClientHeld, MakesHeld}

-- `done` is what the closure returned, and `went` how the call went: a refusal of the handle stays one
abbrev pub Refuses : {T U : Type 0} → Result T Fault → Result U Fault → Type 0
Refuses done went = done ≡ Err fault.BadHandle → went ≡ Err fault.BadHandle

-- a call for the client that a handle holds
module _ {F T : Type 0} (g : Mut F (MutBor HostClient × Unit {0}) (Result T Fault × (MutBor HostClient × Unit {0}))) (f f' : F) (idle : Type 0) (done : Result T Fault) where
  abbrev Held : Option Object → Option Object → Type 0
  Held old new = MakesClientHeld (λ c d r. CalledAtMut g f c r f' d) idle old new done

  abbrev Each : (HostClient → HostClient → Type 0) → Type 0
  Each makes = (c d : MutBor HostClient) → Called g f (c, tt) (done, (d, tt)) f' → makes c.now d.now

  each_client : (makes : HostClient → HostClient → Type 0) → Each makes → (c d : HostClient) → CalledAtMut g f c done f' d → makes c d
  each_client makes each c d m =
      subst (λ x. makes x d) m.shows (subst (λ y. makes m.shown.now y) m.leaves (each m.shown m.left m.called))

  -- the closure makes it of the client
  pub makes_held : {U : Type 0} (makes : HostClient → HostClient → Result U Fault → Type 0) (went : Result U Fault) → Refuses done went → Each (λ c d. makes c d went)
      → (old new : Option Object) → Held old new → MakesClientHeld makes (Unit {0}) old new went
  makes_held makes went refuses each (Some (object.Client c)) (Some (object.Client d)) m = each_client (λ x y. makes x y went) each c d m
  makes_held makes went refuses each (Some (object.Client c)) (Some (object.Server s)) m = absurd m
  makes_held makes went refuses each (Some (object.Client c)) (Some (object.Queries s)) m = absurd m
  makes_held makes went refuses each (Some (object.Client c)) None m = absurd m
  makes_held makes went refuses each (Some (object.Server s)) new m = (m.0, refuses m.1, tt)
  makes_held makes went refuses each (Some (object.Queries s)) new m = (m.0, refuses m.1, tt)
  makes_held makes went refuses each None new m = (m.0, refuses m.1, tt)

  -- it is copied of the client
  pub copies_held : {U : Type 0} (copies : HostClient → Result U Fault → Type 0) (went : Result U Fault) → Refuses done went → Each (λ c d. copies c went)
      → (old new : Option Object) → Held old new → MakesClientHeld (λ c d. copies c) (Unit {0}) old old went
  copies_held copies went refuses each (Some (object.Client c)) (Some (object.Client d)) m = each_client (λ x y. copies x went) each c d m
  copies_held copies went refuses each (Some (object.Client c)) (Some (object.Server s)) m = absurd m
  copies_held copies went refuses each (Some (object.Client c)) (Some (object.Queries s)) m = absurd m
  copies_held copies went refuses each (Some (object.Client c)) None m = absurd m
  copies_held copies went refuses each (Some (object.Server s)) new m = (refl, refuses m.1, tt)
  copies_held copies went refuses each (Some (object.Queries s)) new m = (refl, refuses m.1, tt)
  copies_held copies went refuses each None new m = (refl, refuses m.1, tt)

  -- the closure leaves the client as it is
  pub keeps_held : Each (λ c d. d ≡ c) → (old new : Option Object) → Held old new → new ≡ old
  keeps_held each (Some (object.Client c)) (Some (object.Client d)) m =
      ap (λ (x : HostClient). Some (object.Client x)) (each_client (λ x y. y ≡ x) each c d m)
  keeps_held each (Some (object.Client c)) (Some (object.Server s)) m = absurd m
  keeps_held each (Some (object.Client c)) (Some (object.Queries s)) m = absurd m
  keeps_held each (Some (object.Client c)) None m = absurd m
  keeps_held each (Some (object.Server s)) new m = m.0
  keeps_held each (Some (object.Queries s)) new m = m.0
  keeps_held each None new m = m.0

-- a call for the object that a handle holds: the closure makes it of that
module _ {F T : Type 0} (g : Mut F (MutBor Object × Unit {0}) (Result T Fault × (MutBor Object × Unit {0}))) (f f' : F) (idle : Type 0) (done : Result T Fault) where
  pub made_held : (makes : Object → Result T Fault → Type 0) → ((o p : MutBor Object) → Called g f (o, tt) (done, (p, tt)) f' → makes o.now done)
      → (held new : Option Object) → MakesHeld (λ o p r. CalledAtMut g f o r f' p) idle held new done → IsMadeOf makes held done
  made_held makes each (Some o) (Some p) m = subst (λ x. makes x done) m.shows (each m.shown m.left m.called)
  made_held makes each (Some o) None m = absurd m
  made_held makes each None new m = m.1
