use Rattle.std.proofs.Common.{◌≡◌, ◌++◌, drop, map, option_map, string_bytes}
use Rattle.load_rounds.specs.declared.answer.Answer.{Answer}
use Rattle.server.specs.Arrays.{in_places}
use Rattle.server.proofs.arrays.texts.Given as goal

abbrev pub invariant-loop-refusal : goal.invariant-loop-refusal
invariant-loop-refusal l =
    map (λ text. text.now) l.texts.items ++ in_places (drop l.refusal-index (map (option_map string_bytes) l.refusals)) (map (λ (a : Answer). string_bytes a.text) l.left)
    ≡ in_places (map (option_map string_bytes) l.refusals) (map (λ (a : Answer). string_bytes a.text) l.answers)
