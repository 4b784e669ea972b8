use Rattle.std.proofs.Common.{◌≡◌, take, map}
use Rattle.gq_bindings.specs.Seen.{loader_of}
use Rattle.world_answers.specs.Sessions.{loaders_over, whichever}
use Rattle.world_answers.proofs.sessions.session_over_world.Given as goal

abbrev pub invariant-loop-number : goal.invariant-loop-number
invariant-loop-number l = record {
  lines : map loader_of l.line-items ≡ l.world.bindings.loaders;
  built : map whichever l.loaders.items ≡ take l.number (loaders_over l.world.limit l.world.bindings.loaders l.world.sources);
}
