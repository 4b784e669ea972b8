use Rattle.std.proofs.Common.{◌≡◌, drop, find, map}
use Rattle.schema_syntax.specs.Tree.{field_of}
use Rattle.fault_sentences.specs.Lines.{argument_names, is_arg, lacks}
use Rattle.fault_sentences.proofs.Following.{behind_from}
use Rattle.fault_sentences.proofs.line.missing_argument.Given as goal

abbrev pub invariant-loop-word : goal.invariant-loop-word
invariant-loop-word l =
    find (lacks (field_of l.field)) (behind_from is_arg l.is_name (map (λ w. w.now) (drop l.word-index l.words)))
    ≡ find (lacks (field_of l.field)) (argument_names (map (λ w. w.now) l.words))
