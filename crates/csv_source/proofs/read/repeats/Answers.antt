use Rattle.std.proofs.Common.{◌≡◌, ◌≤◌, length, take, true, false, not, sym, ◌∙◌, refl, ap, arith, Bool}
use Rattle.std.specs.Prelude.{bytes_eq}
use Rattle.std.specs.List.{list_any}
use Rattle.csv.specs.Records.{fields_of}
use Rattle.csv_source.proofs.Fields.{field-within, field-here, fields-past}
use Rattle.csv_source.proofs.Names.{repeats-at, apart-more, known-more}
use Rattle.csv_source.proofs.read.repeats.Goals as goal

unnot : (b c : Bool) → b ≡ not c → c ≡ not b
unnot b true e = rw e refl
unnot b false e = rw e refl

pub returns-then-not-branch : goal.returns-then-not-branch
returns-then-not-branch c =
    let names = fields_of c.args.names.now in
    let i = c.loop-name.name-iterator.at in
    let at = rw c.loop-name.invariant.over at c.in-Some.ensures.steps.1 in
    let known : list_any (λ t. bytes_eq c.in-Some.name.now t) (take i names) ≡ true =
    sym (c.loop-name.invariant.known c.in-Some.name) ∙ unnot _ _ (c.in_ok-insert.ensures.added) ∙ ap not c.if-not-branch.true in
    (λ yes. repeats-at names i c.in-Some.name.now (field-within names i _ at) (field-here names i _ at) known, λ twice. refl)

pub loop-name-preserved : goal.loop-name-preserved
loop-name-preserved c =
    let names = fields_of c.args.names.now in
    let i = c.loop-name.name-iterator.at in
    let (over, here, next) = c.in-Some.ensures.steps in
    let at = rw c.loop-name.invariant.over at here in
    let lt = field-within names i c.in-Some.name.now at in
    let name = field-here names i c.in-Some.name.now at in
    let new : list_any (λ t. bytes_eq c.in-Some.name.now t) (take i names) ≡ false =
    sym (c.loop-name.invariant.known c.in-Some.name) ∙ unnot _ _ (c.in_ok-insert.ensures.added) ∙ ap not c.if-not-branch.false in
    let puts = rw c.if-not-branch.false at c.in_ok-insert.ensures.keys in
    rw (over, next) (record {
      over = c.loop-name.invariant.over;
      known = λ q. known-more (λ k. bytes_eq q.now k.now) (λ t. bytes_eq q.now t) c.in-Some.name _ _ names i lt (ap (λ t. bytes_eq q.now t) name) (c.loop-name.invariant.known q) puts;
      apart = apart-more names i c.in-Some.name.now lt name new c.loop-name.invariant.apart;
    })

pub returns : goal.returns
returns c =
    let names = fields_of c.args.names.now in
    let past : length names ≤ c.loop-name.name-iterator.at = fields-past names c.loop-name.name-iterator.at (rw c.loop-name.invariant.over at c.in-None.ensures.steps.1) in
    (λ no. absurd (cc no), λ twice. absurd (c.loop-name.invariant.apart twice.first twice.second twice.earlier (omega (arith, twice.within, past)) twice.same))
