use Rattle.std.proofs.Common.{◌≡◌, map, take}
use Rattle.std.specs.List.{flat_map}
use Rattle.gq_bindings.specs.Seen.{loader_of}
use Rattle.host_clients.specs.LoaderTexts.{kind_of, texts_of}
use Rattle.host_clients.proofs.loaders.LoaderTexts.of.Given as goal

abbrev pub invariant-loop-line : goal.invariant-loop-line
invariant-loop-line l = record {
  kinds : l.kinds.items ≡ map kind_of (map loader_of (take l.line-index l.lines));
  texts : l.texts ≡ flat_map texts_of (map loader_of (take l.line-index l.lines));
}
