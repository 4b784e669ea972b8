use Rattle.std.proofs.Common.{◌≡◌, ◌++◌, map, drop, string_bytes}
use Rattle.std.specs.List.{concat}
use Rattle.fault_sentences.proofs.written.joined.Given as goal

abbrev pub invariant-loop-part : goal.invariant-loop-part
invariant-loop-part l =
    string_bytes l.text ++ concat (map (λ p. p.now) (drop l.part-index l.parts)) ≡ concat (map (λ p. p.now) l.parts)
