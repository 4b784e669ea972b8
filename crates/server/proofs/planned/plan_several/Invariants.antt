use Rattle.std.proofs.Common.{◌≡◌, true, length, take}
use Rattle.request_line.specs.Seen.{requests_of}
use Rattle.server.specs.Planned.{PlansEach}
use Rattle.server.proofs.planned.plan_several.Given as goal

abbrev pub invariant-loop-value : goal.invariant-loop-value
invariant-loop-value l = record {
  same : l.kept.server ≡ l.fn.kept.server;
  many : l.planned.many ≡ true;
  loaders : l.planned.loaders ≡ length l.fn.kept.server.bindings.loaders;
  each : PlansEach l.fn.kept.server l.most (take l.value-index (requests_of l.values)) l.planned;
}
