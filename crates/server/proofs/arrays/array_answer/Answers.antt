use Rattle.std.proofs.Common.{◌≡◌, ◌++◌, ◌∙◌, ap, codes, option_map, map, string_bytes, sym, List, ℕ, Bor, append_assoc}
use Rattle.std.specs.List.{join_by}
use Rattle.server.specs.Arrays.{array_text, in_places}
use Rattle.server.proofs.Values.{joined, texts-report}
use Rattle.server.proofs.arrays.array_answer.Goals as goal

pub returns : goal.returns
returns c =
    let seen = λ (s : Bor (List ℕ)). s.now in
    let texts = c.in_ok-texts.ensures ∙ ap (in_places (map (option_map string_bytes) c.args.refusals.now)) (sym (texts-report c.args.answers.now)) in
    let inside = c.in_ok-inside.ensures.ok ∙ ap (join_by seen (codes ",")) c.deref.ensures.value ∙ joined seen (codes ",") c.in_ok-texts.texts.items in
    let whole : string_bytes c.in_ok-format.field-0 ≡ codes "[" ++ string_bytes c.in_ok-inside.inside ++ codes "]" = simp append_assoc c.in_ok-format.ensures.ok in
    (whole ∙ ap (λ t. codes "[" ++ t ++ codes "]") inside ∙ ap array_text texts, c.most_rounds.ensures, c.all_loads.ensures)
