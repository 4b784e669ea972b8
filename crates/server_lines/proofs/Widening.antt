-- Laws of answers by one relation holds of them by each that it is within, where the states are seen by a function.
use Rattle.std.proofs.Common.{◌≡◌, ◌∙◌, refl, ap, subst, sym, inl, inr, ℕ, List, [], ◌∷◌}
use denote.Param.Members.{Mut}
use denote.Ref.{Bor, MutBor}
use Rattle.std.specs.declared.alloc.Global.{Global}
use Rattle.server_lines.specs.declared.fault.LineFault.{LineFault}
use Rattle.server_lines.specs.declared.fault.LineFault.TheVariants as at
use Rattle.std.specs.Prelude.{Option, Result, Ok, Err, IfOk, IfErr, String, string_bytes}
use Rattle.std.specs.Io.KnownBytes.{Appends}
use Rattle.server_lines.specs.Answering.{AnsweringOf, AreAnswers, FrontOf, Gives, IsStopped, MayStop, Stops, StopsNext, by_calls}
use Rattle.server_lines.specs.Devices.{DevicesOf}
use Rattle.server_lines.specs.Lines.{HasNoLineFeed, input_lines}
use Rattle.server_lines.specs.Output.{IsCut}
use Rattle.server_lines.specs.Serving.{AtFault, IsUnanswered, StartsLong, Stopped, IsAnswered, FailsAtEnd, Fails, Serves, ServesAll, StopsServing}
use Rattle.server_lines.specs.declared.fault.ServeFault.{ServeFault}
use Rattle.server_lines.specs.declared.fault.ServeFault.TheVariants as fault

module _ {F G : Type 0} (A : AnsweringOf F) (B : AnsweringOf G) (view : F → G) (Holds : F → Type 0)
    (gives : (f : F) (line text : List ℕ) (g : F) → Holds f → A.gives f line text g → B.gives (view f) line text (view g) × Holds g)
    (stops : (e : LineFault) (f : F) (line : List ℕ) (g : F) → Holds f → A.stops e f line g → B.stops e (view f) line (view g) × Holds g) where
  are_widened : (lines : List (List ℕ)) (f : F) (out : List ℕ) (g : F) → Holds f → AreAnswers A f lines out g → AreAnswers B (view f) lines out (view g) × Holds g
  are_widened [] f out g holds (e, s) = ((e, ap view s), subst Holds (sym s) holds)
  are_widened (l ∷ ls) f out g holds (t, m, s, a, is, e) =
      let one = gives f l t s holds a in
      let more = are_widened ls s m g one.1 is in
      ((t, m, view s, one.0, more.0, e), more.1)

  next_widened : (e : LineFault) (f : F) (rest : List ℕ) (AtEnd : Type 0) (g : F) → Holds f → StopsNext A e f rest AtEnd g → StopsNext B e (view f) rest AtEnd (view g) × Holds g
  next_widened e f rest AtEnd g holds (line, next, stop) = let last = stops e f line g holds stop in ((line, next, last.0), last.1)

  may_widened : (f : F) (rest : List ℕ) (AtEnd : Type 0) (g : F) → Holds f → MayStop A f rest AtEnd g → MayStop B (view f) rest AtEnd (view g) × Holds g
  may_widened f rest AtEnd g holds (inl same) = (inl (ap view same), subst Holds (sym same) holds)
  may_widened f rest AtEnd g holds (inr (e, next)) = let last = next_widened e f rest AtEnd g holds next in (inr (e, last.0), last.1)

  is_widened : (e : LineFault) (f : F) (rest : List ℕ) (AtEnd : Type 0) (g : F) → Holds f → IsStopped A e f rest AtEnd g → IsStopped B e (view f) rest AtEnd (view g) × Holds g
  is_widened at.NoMemory f rest AtEnd g holds (inl same) = (inl (ap view same), subst Holds (sym same) holds)
  is_widened at.NoMemory f rest AtEnd g holds (inr next) = let last = next_widened at.NoMemory f rest AtEnd g holds next in (inr last.0, last.1)
  is_widened at.TraceFault f rest AtEnd g holds next = next_widened at.TraceFault f rest AtEnd g holds next

  front_widened : (f : F) (text : List ℕ) → Holds f → (s : FrontOf A f text) → FrontOf B (view f) text
  front_widened f text holds s = record {
    lines = s.lines;
    rest = s.rest;
    output = s.output;
    state = view s.state;
    splits = s.splits;
    answers = (are_widened s.lines f s.output s.state holds s.answers).0;
  }

  answered_widened : (f g : F) (text : List ℕ) (n : ℕ) (Sent : List ℕ → Type 0) → Holds f → IsAnswered A f g text n Sent → IsAnswered B (view f) (view g) text n Sent × Holds g
  answered_widened f g text n Sent holds h =
      let are = are_widened (input_lines text) f h.output g holds h.answers in
      (record { each = h.each; count = h.count; output = h.output; answers = are.0; sent = h.sent }, are.1)

  stopped_widened : (e : ServeFault) (f g : F) (text : List ℕ) (Sent Cut Read : List ℕ → Type 0) (AtEnd : Type 0) → Holds f
      → Stopped A f g text Sent Cut Read AtEnd e → Stopped B (view f) (view g) text Sent Cut Read AtEnd e × Holds g
  stopped_widened e f g text Sent Cut Read AtEnd holds (s, h) = let both = cases e h in ((front, both.0), both.1)
    where
      kept : Holds s.state
      kept = (are_widened s.lines f s.output s.state holds s.answers).1

      front : FrontOf B (view f) text
      front = record {
        lines = s.lines;
        rest = s.rest;
        output = s.output;
        state = view s.state;
        splits = s.splits;
        answers = (are_widened s.lines f s.output s.state holds s.answers).0;
      }

      cases : (e : ServeFault)
          → AtFault e ((g ≡ s.state) × Sent s.output × StartsLong s.rest) ((g ≡ s.state) × Sent s.output × Read s.rest)
          (MayStop A s.state s.rest AtEnd g × Cut s.output) (λ e. IsStopped A e s.state s.rest AtEnd g × Sent s.output × IsUnanswered s.rest)
          → AtFault e ((view g ≡ view s.state) × Sent s.output × StartsLong s.rest) ((view g ≡ view s.state) × Sent s.output × Read s.rest)
          (MayStop B (view s.state) s.rest AtEnd (view g) × Cut s.output) (λ e. IsStopped B e (view s.state) s.rest AtEnd (view g) × Sent s.output × IsUnanswered s.rest)
          × Holds g
      cases fault.WriteFault k = let may = may_widened s.state s.rest AtEnd g kept k.0 in ((may.0, k.1), may.1)
      cases fault.NoMemory k = let is = is_widened at.NoMemory s.state s.rest AtEnd g kept k.0 in ((is.0, k.1, k.2), is.1)
      cases fault.BadCount k = absurd k
      cases fault.TraceFault k = let is = is_widened at.TraceFault s.state s.rest AtEnd g kept k.0 in ((is.0, k.1, k.2), is.1)
      cases e k = ((ap view k.0, k.1, k.2), subst Holds (sym k.0) kept)

  at_end_widened : (e : ServeFault) (f g : F) (text : List ℕ) (Cut : List ℕ → Type 0) (left : Option (List ℕ)) → Holds f
      → AtFault e ⊥ ⊥ (FailsAtEnd A f g text Cut left) (λ _. ⊥) → AtFault e ⊥ ⊥ (FailsAtEnd B (view f) (view g) text Cut left) (λ _. ⊥) × Holds g
  at_end_widened fault.WriteFault f g text Cut left holds h =
      let are = are_widened (input_lines text) f h.output g holds h.answers in
      (record { end = h.end; output = h.output; answers = are.0; cut = h.cut }, are.1)
  at_end_widened e f g text Cut left holds h = absurd h

  fails_widened : (e : ServeFault) (f g : F) (text : List ℕ) (Sent Cut : List ℕ → Type 0) (left : Option (List ℕ)) → Holds f
      → Fails A f g text Sent Cut left e → Fails B (view f) (view g) text Sent Cut left e × Holds g
  fails_widened e f g text Sent Cut left holds (inl h) = let k = stopped_widened e f g text Sent Cut HasNoLineFeed _ holds h in (inl k.0, k.1)
  fails_widened e f g text Sent Cut left holds (inr h) = let k = at_end_widened e f g text Cut left holds h in (inr k.0, k.1)

  served : (r : Result ℕ ServeFault) (f g : F) (d : DevicesOf) → Holds f → IfOk r (ServesAll A f g d) → IfErr r (StopsServing A f g d)
      → IfOk r (ServesAll B (view f) (view g) d) × IfErr r (StopsServing B (view f) (view g) d) × Holds g
  served (Ok n) f g d holds (text, read, end, all) h = let k = answered_widened f g text n (Appends d.old d.new) holds all in ((text, read, end, k.0), h, k.1)
  served (Err e) f g d holds h (text, read, fails) = let k = fails_widened e f g text (Appends d.old d.new) (IsCut d.old d.new) d.rest holds fails in (h, (text, read, k.0), k.1)

  -- a property of the first state that each call keeps is one of the last state
  pub serves_kept : (f g : F) (d : DevicesOf) (r : Result ℕ ServeFault) → Holds f → Serves A f g d r → Serves B (view f) (view g) d r × Holds g
  serves_kept f g d r holds h =
      let k = served r f g d holds h.all h.stopped in
      (record { all = k.0; stopped = k.1; reader = h.reader; writer = h.writer; flushed = h.flushed; bounded = h.bounded; grown = h.grown }, k.2)

-- shows the same, of all states
pub serves_widened : {F G : Type 0} (A : AnsweringOf F) (B : AnsweringOf G) (view : F → G)
    → ((f : F) (line text : List ℕ) (g : F) → A.gives f line text g → B.gives (view f) line text (view g))
    → ((e : LineFault) (f : F) (line : List ℕ) (g : F) → A.stops e f line g → B.stops e (view f) line (view g))
    → (f g : F) (d : DevicesOf) (r : Result ℕ ServeFault) → Serves A f g d r → Serves B (view f) (view g) d r
serves_widened A B view gives stops f g d r h =
    (serves_kept A B view (λ _. Unit {0}) (λ f line text g _ k. (gives f line text g k, tt)) (λ e f line g _ k. (stops e f line g k, tt)) f g d r tt h).0

-- the reference is the same, and what it points to keeps the invariant
abbrev Kept : {F T : Type 0} → (F → MutBor T) → (T → Type 0) → F → F → Type 0
Kept captured Holds f x = ((captured f).ghost_name ≡ (captured x).ghost_name) × Holds (captured x).now

-- A closure whose state is behind a reference that it captured: each call keeps that reference, and so does serving. `tie` is what the
-- caller knows of what is left behind it. The steps are the closure's own clauses.
module _ {F T : Type 0} (m : Mut F (Bor (List ℕ) × Unit {0}) (Result (String Global) LineFault)) (B : AnsweringOf T) (captured : F → MutBor T) (Holds : T → Type 0)
    (gives : (f : F) (line : Bor (List ℕ)) (text : String Global) (g : F) → Holds (captured f).now → m.steps f (line, tt) (Ok text) g
    → B.gives (captured f).now line.now (string_bytes text) (captured g).now × ((captured g).ghost_name ≡ (captured f).ghost_name) × Holds (captured g).now)
    (stops : (f : F) (line : Bor (List ℕ)) (g : F) → Holds (captured f).now → (e : LineFault) → m.steps f (line, tt) (Err e) g
    → B.stops e (captured f).now line.now (captured g).now × ((captured g).ghost_name ≡ (captured f).ghost_name) × Holds (captured g).now) where
  pub serves_behind : (f g : F) (last : T) (d : DevicesOf) (r : Result ℕ ServeFault) → Holds (captured f).now
      → (tie : (captured f).ghost_name ≡ (captured g).ghost_name → last ≡ (captured g).now)
      → Serves (by_calls m) f g d r → Serves B (captured f).now last d r × Holds last
  serves_behind f g last d r holds tie h = (subst (λ t. Serves B (captured f).now t d r) (sym at_last) both.0, subst Holds (sym at_last) both.1.1)
    where
      given : (x : F) (line text : List ℕ) (y : F) → Kept captured Holds f x → Gives m x line text y → B.gives (captured x).now line text (captured y).now × Kept captured Holds f y
      given x line text y kept k =
          let one = gives x k.called.shown k.given y kept.1 k.called.called.met in (
            subst (λ t. B.gives (captured x).now line t (captured y).now) k.bytes (subst (λ l. B.gives (captured x).now l (string_bytes k.given) (captured y).now) k.called.shows one.0),
            (kept.0 ∙ sym one.1, one.2),
          )

      stopped : (e : LineFault) (x : F) (line : List ℕ) (y : F) → Kept captured Holds f x → Stops m e x line y → B.stops e (captured x).now line (captured y).now × Kept captured Holds f y
      stopped e x line y kept k =
          let one = stops x k.shown y kept.1 e k.called.met in
          (subst (λ l. B.stops e (captured x).now l (captured y).now) k.shows one.0, (kept.0 ∙ sym one.1, one.2))

      both : Serves B (captured f).now (captured g).now d r × Kept captured Holds f g
      both = serves_kept (by_calls m) B (λ x. (captured x).now) (Kept captured Holds f) given stopped f g d r (refl, holds) h

      at_last : last ≡ (captured g).now
      at_last = tie both.1.0
