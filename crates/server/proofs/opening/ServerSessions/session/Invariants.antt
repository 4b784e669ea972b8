use Rattle.std.proofs.Common.{◌≡◌, take, map}
use denote.Param.Always.{always_mut}
use Rattle.gq_bindings.specs.Seen.{loader_of}
use Rattle.server.proofs.Opened.{OpenedTo}
use Rattle.server.proofs.opening.ServerSessions.session.Given as goal

abbrev pub invariant-loop-line : goal.invariant-loop-line
invariant-loop-line g l = record {
  callable : always_mut g.F.FnMut l.source;
  lines : map loader_of l.lines ≡ l.self.bindings.loaders;
  opened : OpenedTo g.F.FnMut l.max_batch l.initial.source (take l.line-index (map loader_of l.lines)) l.loaders.items l.source;
}
