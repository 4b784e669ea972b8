use Rattle.std.proofs.Common.{◌≡◌, drop}
use Rattle.host_clients.proofs.NewLoaders.{SoFar}
use Rattle.host_clients.proofs.opening.new_loaders.Given as goal

abbrev pub invariant-loop-line : goal.invariant-loop-line
invariant-loop-line l = record {
  so : SoFar l.limits l.left l.lines l.line-index l.loaders.items;
  left : l.left ≡ drop l.line-index l.limits;
}
