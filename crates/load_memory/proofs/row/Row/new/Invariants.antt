use Rattle.std.proofs.Common.{◌≡◌, [], map, take}
use Rattle.load_memory.proofs.row.Row.new.Given as goal

abbrev pub invariant-loop-name : goal.invariant-loop-name
invariant-loop-name l = l.builder ≡ record { names = map (λ p. p.0.now) (take l.name-index l.pairs); rows = []; begun = [] }

abbrev pub invariant-loop-text : goal.invariant-loop-text
invariant-loop-text l = l.builder ≡ record { names = map (λ p. p.0.now) l.pairs; rows = []; begun = map (λ p. p.1.now) (take l.text-index l.pairs) }
