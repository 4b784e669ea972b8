-- Execution key by key makes a call for each load that the program reads.
use Rattle.std.proofs.Common.{◌≡◌, ℕ, Bool, true, false, ◌||◌, List, [], ◌∷◌, ◌++◌, length, refl, sym, ap, ◌∙◌, subst, Option, Some, None}
use Rattle.std.proofs.lemmas.List.{map-append, length-map}
use Rattle.load_memory.specs.Outcomes.{OutcomeOf}
use Rattle.execution.specs.Loads.{Load, Reader, AnswersMore}
use Rattle.execution.specs.Program.{Program, Is, Read, Under, Programs, End, With, Tree, Trees, Over, And, tree, trees, needs, all_needs}
use Rattle.execution.specs.Reads.{count_read}
use Rattle.execution.specs.Completion.{is_open, any_open}
use Rattle.execution.proofs.Monotone.{front-open}
use Rattle.load_memory.specs.Pairs.{MemoryOf, look}
use Rattle.gq_check.specs.Plans.{PlanOf}
use Rattle.plan_program.specs.PlanPrograms.{plan_program}
use Rattle.gq_resolve.specs.Evaluated.{front_over}
use Rattle.plan_walk.specs.Reading.{reader}
use Rattle.gq_resolve.specs.KeyByKey.{KeyCall, called_loads, IsKeyByKey, AreKeyByKey, AreGivenBy, MakesCalls}

given-parts : (R : Reader) (xs ys : List KeyCall) → AreGivenBy R (xs ++ ys) → AreGivenBy R xs × AreGivenBy R ys
given-parts R [] ys h = (tt, h)
given-parts R (x ∷ xs) ys h = let parts : AreGivenBy R xs × AreGivenBy R ys = given-parts R xs ys h.1 in ((h.0, parts.0), parts.1)

given-both : (R : Reader) (xs ys : List KeyCall) → AreGivenBy R xs → AreGivenBy R ys → AreGivenBy R (xs ++ ys)
given-both R [] ys g h = h
given-both R (x ∷ xs) ys g h = (g.0, given-both R xs ys g.1 h)

-- a reader that answers more gives the calls the same outcomes
given-more : (R Q : Reader) (cs : List KeyCall) → AnswersMore R Q → AreGivenBy R cs → AreGivenBy Q cs
given-more R Q [] more h = tt
given-more R Q (c ∷ cs) more h = (more c.load c.outcome h.0, given-more R Q cs more h.1)

mutual
  -- the calls, and the tree, are those of the loads that are read
  pub calls-read : (p : Program) (R : Reader) (calls : List KeyCall) (t : Tree) → IsKeyByKey p calls t → AreGivenBy R calls → (called_loads calls ≡ needs p R) × (t ≡ tree p R)
  calls-read (Is own) R calls t h g = (ap called_loads h.0, h.1)
  calls-read (Read load next) R calls t h g =
      let mine : AreGivenBy R (record { load = load; outcome = h.0 } ∷ h.1) = subst (AreGivenBy R) h.2 g in
      let later : (called_loads h.1 ≡ needs (next h.0) R) × (t ≡ tree (next h.0) R) = calls-read (next h.0) R h.1 t h.3 mine.1 in
      (ap called_loads h.2 ∙ rw mine.0 (ap (λ ls. load ∷ ls) later.0), rw mine.0 later.1)
  calls-read (Under kind below) R calls t h g =
      let all : (called_loads calls ≡ all_needs below R) × (h.0 ≡ trees below R) = all-calls-read below R calls h.0 h.2 g in
      (all.0, h.1 ∙ ap (λ ts. Over kind ts) all.1)

  all-calls-read : (ps : Programs) (R : Reader) (calls : List KeyCall) (ts : Trees) → AreKeyByKey ps calls ts → AreGivenBy R calls → (called_loads calls ≡ all_needs ps R) × (ts ≡ trees ps R)
  all-calls-read End R calls ts h g = (ap called_loads h.0, h.1)
  all-calls-read (With position p rest) R calls ts h g =
      let parts : AreGivenBy R h.0 × AreGivenBy R h.1 = given-parts R h.0 h.1 (subst (AreGivenBy R) h.4 g) in
      let here : (called_loads h.0 ≡ needs p R) × (h.2 ≡ tree p R) = calls-read p R h.0 h.2 h.6 parts.0 in
      let there : (called_loads h.1 ≡ all_needs rest R) × (h.3 ≡ trees rest R) = all-calls-read rest R h.1 h.3 h.7 parts.1 in (
        ap called_loads h.4 ∙ map-append (λ (c : KeyCall). c.load) h.0 h.1 ∙ ap (λ ls. ls ++ called_loads h.1) here.0 ∙ ap (λ ls. needs p R ++ ls) there.0,
        h.5 ∙ ap (λ x. And position x h.3) here.1 ∙ ap (λ xs. And position (tree p R) xs) there.1,
      )

or-false : (a b : Bool) → (a || b) ≡ false → (a ≡ false) × (b ≡ false)
or-false true b h = absurd (cc h)
or-false false b h = (refl, h)

mutual
  -- calls key by key exist where nothing is open
  pub some-calls : (p : Program) (R : Reader) → is_open (tree p R) ≡ false → (calls : List KeyCall) × IsKeyByKey p calls (tree p R) × AreGivenBy R calls
  some-calls (Is own) R whole = ([], (refl, refl), tt)
  some-calls (Read load next) R whole = go (R load) refl (λ o h. some-calls (next o) R h)
    where
      go : (r : Option OutcomeOf) → R load ≡ r
          → ((o : OutcomeOf) → is_open (tree (next o) R) ≡ false → (calls : List KeyCall) × IsKeyByKey (next o) calls (tree (next o) R) × AreGivenBy R calls)
          → (calls : List KeyCall) × IsKeyByKey (Read load next) calls (tree (Read load next) R) × AreGivenBy R calls
      go None e later = let wrong : true ≡ false = rw e at whole in absurd (cc wrong)
      go (Some o) e later =
          let rest : (calls : List KeyCall) × IsKeyByKey (next o) calls (tree (next o) R) × AreGivenBy R calls = later o (rw e at whole) in
          let same : tree (Read load next) R ≡ tree (next o) R = rw e refl in
          (record { load = load; outcome = o } ∷ rest.0, (o, rest.0, refl, rw same rest.1), (e, rest.2))
  some-calls (Under kind below) R whole =
      let all : (calls : List KeyCall) × AreKeyByKey below calls (trees below R) × AreGivenBy R calls = all-some-calls below R whole in
      (all.0, (trees below R, refl, all.1), all.2)

  all-some-calls : (ps : Programs) (R : Reader) → any_open (trees ps R) ≡ false → (calls : List KeyCall) × AreKeyByKey ps calls (trees ps R) × AreGivenBy R calls
  all-some-calls End R whole = ([], (refl, refl), tt)
  all-some-calls (With position p rest) R whole =
      let parts : (is_open (tree p R) ≡ false) × (any_open (trees rest R) ≡ false) = or-false (is_open (tree p R)) (any_open (trees rest R)) whole in
      let here : (calls : List KeyCall) × IsKeyByKey p calls (tree p R) × AreGivenBy R calls = some-calls p R parts.0 in
      let there : (calls : List KeyCall) × AreKeyByKey rest calls (trees rest R) × AreGivenBy R calls = all-some-calls rest R parts.1 in
      (here.0 ++ there.0, (here.0, there.0, tree p R, trees rest R, refl, refl, here.1, there.1), given-both R here.0 there.0 here.2 there.2)

read-so-often : (p : Program) (R : Reader) (calls : List KeyCall) → called_loads calls ≡ needs p R → length calls ≡ count_read p R
read-so-often p R calls same = sym (length-map calls (λ (c : KeyCall). c.load)) ∙ ap (λ (ls : List Load). length ls) same

-- execution key by key makes as many calls as loads are read, where nothing is open
pub makes-calls : (p : Program) (R : Reader) → is_open (tree p R) ≡ false → MakesCalls p R (count_read p R)
makes-calls p R whole =
    let some : (calls : List KeyCall) × IsKeyByKey p calls (tree p R) × AreGivenBy R calls = some-calls p R whole in
    record { calls = some.0; executed = some.1; given = some.2; many = read-so-often p R some.0 (calls-read p R some.0 (tree p R) some.1 some.2).0 }

-- and no other number
pub calls-counted : (p : Program) (R : Reader) (count : ℕ) → MakesCalls p R count → count ≡ count_read p R
calls-counted p R count made = sym made.many ∙ read-so-often p R made.calls (calls-read p R made.calls (tree p R) made.executed made.given).0

-- as many, whatever answers at least as much
pub as-many : (p : Program) (R Q : Reader) → AnswersMore R Q → is_open (tree p R) ≡ false → count_read p Q ≡ count_read p R
as-many p R Q more whole =
    let some : (calls : List KeyCall) × IsKeyByKey p calls (tree p R) × AreGivenBy R calls = some-calls p R whole in
    sym (read-so-often p Q some.0 (calls-read p Q some.0 (tree p R) some.1 (given-more R Q some.0 more some.2)).0)
    ∙ read-so-often p R some.0 (calls-read p R some.0 (tree p R) some.1 some.2).0

-- of a plan of which the memory lacks nothing
pub plan-makes-calls : (plan : PlanOf) (m : MemoryOf) → front_over m (plan_program plan) ≡ [] → MakesCalls (plan_program plan) (reader m) (count_read (plan_program plan) (reader m))
plan-makes-calls plan m none = makes-calls (plan_program plan) (reader m) ((front-open m.modes (plan_program plan) (look m.pairs)).0 none)
