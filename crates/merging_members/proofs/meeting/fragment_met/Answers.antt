use Rattle.std.proofs.Common.{sym, ap, refl, List, ℕ, find}
use Rattle.merging_members.specs.Fragments.{target_at}
use Rattle.merging_members.specs.SetMembers.{is_key}
use Rattle.merging_members.proofs.Entering.{known-here, known-nowhere}
use Rattle.merging_members.proofs.FirstLaws.{meets-some, meets-none}
use Rattle.merging_members.proofs.meeting.fragment_met.Goals as goal

pub known_at-requires : goal.known_at-requires
known_at-requires c = record { there = c.args.walk.now.there c.args.name.now c.in-Some.target.now (sym c.in-Some.ensures.value) }

pub returns-then-meets-clause-met : goal.returns-then-meets-clause-met
returns-then-meets-clause-met c = λ spread knows.
    let walk = c.args.walk.now in
    let name = c.args.name.now in
    let r = c.known_at.result.now in
    let other = known-here walk.rows.now walk.numbers.now (spread name) walk.fragments.now (target_at walk.targets.now name) c.in-Some.target.now r (knows name) (sym c.in-Some.ensures.value) c.known_at.ensures in
    record { name = name; at = sym c.in-Some.ensures.value; same = refl; some = meets-some walk.rows.now walk.numbers.now (spread name) r other c.args.keys.now (c.meets.ensures.found c.if-meets.true) }

pub returns-then-meets-clause-spread : goal.returns-then-meets-clause-spread
returns-then-meets-clause-spread c = λ test pass. (c.args.name.now, sym c.in-Some.ensures.value, pass)

pub returns-else-meets-clause-met : goal.returns-else-meets-clause-met
returns-else-meets-clause-met c = λ spread knows.
    let walk = c.args.walk.now in
    let name = c.args.name.now in
    let r = c.known_at.result.now in
    let other = known-here walk.rows.now walk.numbers.now (spread name) walk.fragments.now (target_at walk.targets.now name) c.in-Some.target.now r (knows name) (sym c.in-Some.ensures.value) c.known_at.ensures in
    meets-none walk.rows.now walk.numbers.now (spread name) r other c.args.keys.now (c.meets.ensures.none c.if-meets.false)

pub returns-in-None-clause-met : goal.returns-in-None-clause-met
returns-in-None-clause-met c = λ spread knows.
    let walk = c.args.walk.now in
    let name = c.args.name.now in
    ap (λ (ms : List ℕ). find (is_key c.args.keys.now walk.numbers.now) ms) (known-nowhere walk.rows.now walk.numbers.now (spread name) walk.fragments.now (target_at walk.targets.now name) (knows name) (sym c.in-None.ensures.value))
