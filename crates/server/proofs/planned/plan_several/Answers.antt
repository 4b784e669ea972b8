use Rattle.std.proofs.Common.{◌≡◌, ◌++◌, ◌∷◌, [], ◌+◌, ◌≤◌, ◌∙◌, add-one, ap, sym, subst, length, take, option_map, refl, true, arith}
use Rattle.std.proofs.lemmas.List.{length-map, take_all}
use Rattle.plan_requests.specs.Servers.{ServerOf}
use Rattle.plan_requests.proofs.Values.{taken-more}
use Rattle.request_line.specs.Seen.{request_of, requests_of}
use Rattle.server.specs.Planned.{PlannedOf, PlansEach}
use Rattle.server.proofs.Keeping.{each-more, none-planned, value-needs}
use Rattle.server.proofs.planned.plan_several.Goals as goal

pub loop-value-init : goal.loop-value-init
loop-value-init c =
    let s = c.args.kept.now.server in
    let size : c.loaders.result ≡ length s.bindings.loaders = c.loaders.ensures ∙ ap (λ (x : ServerOf). length x.bindings.loaders) c.server.ensures.server in
    record {
      same = refl;
      many = ap (λ (p : PlannedOf). p.many) c.new-planned.ensures;
      loaders = ap (λ (p : PlannedOf). p.loaders) c.new-planned.ensures ∙ size;
      each = subst (PlansEach s c.args.most []) (sym c.new-planned.ensures) (none-planned s c.args.most true c.loaders.result);
    }

pub push-requires : goal.push-requires
push-requires c =
    let was = c.loop-value.invariant in
    let s = c.args.kept.now.server in
    let prepared = rw was.same at c.in_ok-prepared.ensures.prepared in
    value-needs s (option_map request_of c.value-item.result) c.in_ok-prepared.prepared c.loop-value.planned.loaders was.loaders prepared

pub loop-value-preserved : goal.loop-value-preserved
loop-value-preserved c =
    let was = c.loop-value.invariant in
    let s = c.args.kept.now.server in
    let values = c.args.values.now in
    let i = c.loop-value.value-index in
    let value = c.value-item.result in
    let before = take i (requests_of values) in
    let next : take (i + 1) (requests_of values) ≡ before ++ option_map request_of value ∷ [] = rw add-one (taken-more (option_map request_of) values i value c.loop-value-test.true c.value-item.is) in
    let prepared = rw was.same at c.in_ok-prepared.ensures.prepared in
    let add = c.in_ok-push.ensures in
    record {
      same = c.prepare_value.ensures.server ∙ was.same;
      many = add.many ∙ was.many;
      loaders = add.loaders ∙ was.loaders;
      each = subst (λ vs. PlansEach s c.args.most vs c.push.new.self) (sym next) (each-more s c.args.most before (option_map request_of value) c.loop-value.planned c.push.new.self c.in_ok-prepared.prepared was.each prepared add);
    }

pub returns-clause-planned : goal.returns-clause-planned
returns-clause-planned c =
    let was = c.loop-value.invariant in
    let values = c.args.values.now in
    let i = c.loop-value.value-index in
    let most : length (requests_of values) ≤ i = omega (arith, length-map values (option_map request_of), c.loop-value-test.false) in
    record {
      each = subst (λ vs. PlansEach c.args.kept.now.server c.args.most vs c.loop-value.planned) (take_all i (requests_of values) most) was.each;
      many_is = was.many;
      loaders = was.loaders;
    }
