use Rattle.std.proofs.Common.{◌≡◌, map, drop}
use Rattle.std.specs.List.{list_any}
use Rattle.bindings_syntax.specs.Seen.{numbered_seen}
use Rattle.fault_sentences.specs.Lines.{defines_before}
use Rattle.fault_sentences.proofs.looked_up.has_loader.Given as goal

abbrev pub invariant-loop-numbered : goal.invariant-loop-numbered
invariant-loop-numbered l =
    list_any (defines_before l.line l.loader) (map numbered_seen (drop l.numbered-index l.statements))
    ≡ list_any (defines_before l.line l.loader) (map numbered_seen l.statements)
