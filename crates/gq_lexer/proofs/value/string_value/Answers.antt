use Rattle.std.proofs.Common.{ℕ, List, String, drop, string_bytes, subst, sym, ap, ◌∙◌}
use Rattle.std.proofs.Common.{Global}
use Rattle.gq_lexer.specs.declared.quoted.Quotes.TheVariants as quotes
use Rattle.gq_lexer.specs.declared.scan.ScannedKind.TheVariants as shape
use Rattle.gq_lexer.specs.Grammar.{IsPart}
use Rattle.gq_lexer.specs.Tokens.{bytes_of}
use Rattle.gq_lexer.specs.Value.{IsSpelled}
use Rattle.gq_lexer.specs.StringOf.{between}
use Rattle.gq_lexer.proofs.Inside.{quoted_between}
use Rattle.gq_lexer.proofs.StringTokens.{single_cut, triple_cut, str_part, block_part, quoted_spelled, string_of_str, string_of_block}
use Rattle.gq_lexer.proofs.value.string_value.Goals as goal
use Rattle.gq_lexer.proofs.value.string_value.Goals.{in-BlockStr+in_ok-value-in-BlockStr, in_default+in_ok-value-in_default}

pub range-requires-clause-start_boundary : goal.range-requires-clause-start_boundary
range-requires-clause-start_boundary c =
    let bs = c.text-quoted.result.now in
    let rest = drop c.args.token.now.end c.args.text.now in
    let part = subst (λ (x : List ℕ). IsPart (shape.Token c.args.token.now.kind) x rest) (sym c.text-quoted.ensures) c.requires.token.part in
    λ _. (triple_cut bs c.text-quoted.utf8 (quoted_between quotes.Triple bs rest (block_part c.args.token.now.kind bs rest c.in-BlockStr.is part))).opens

pub range-requires-clause-end_boundary : goal.range-requires-clause-end_boundary
range-requires-clause-end_boundary c =
    let bs = c.text-quoted.result.now in
    let rest = drop c.args.token.now.end c.args.text.now in
    let part = subst (λ (x : List ℕ). IsPart (shape.Token c.args.token.now.kind) x rest) (sym c.text-quoted.ensures) c.requires.token.part in
    (triple_cut bs c.text-quoted.utf8 (quoted_between quotes.Triple bs rest (block_part c.args.token.now.kind bs rest c.in-BlockStr.is part))).closes

pub range-requires-in_default : goal.range-requires-in_default
range-requires-in_default c =
    let bs = c.text-quoted.result.now in
    let rest = drop c.args.token.now.end c.args.text.now in
    let part = subst (λ (x : List ℕ). IsPart (shape.Token c.args.token.now.kind) x rest) (sym c.text-quoted.ensures) c.requires.token.part in
    let cut = single_cut bs c.text-quoted.utf8 (quoted_between quotes.Single bs rest (str_part c.args.token.now.kind bs rest c.requires.string c.in_default.not-BlockStr part)) in
    record { start_le_end = cut.order; start_boundary = λ _. cut.opens; end_boundary = cut.closes }

pub replace_escapes-requires : goal.replace_escapes-requires
replace_escapes-requires c =
    let bs = c.text-quoted.result.now in
    let rest = drop c.args.token.now.end c.args.text.now in
    let part = subst (λ (x : List ℕ). IsPart (shape.Token c.args.token.now.kind) x rest) (sym c.text-quoted.ensures) c.requires.token.part in
    subst IsSpelled (sym c.range-in_default.ensures.value) (quoted_spelled bs rest c.text-quoted.utf8 (str_part c.args.token.now.kind bs rest c.requires.string c.in_default.not-BlockStr part))

pub returns-clause-value : goal.returns-clause-value
returns-clause-value c =
    elim c.match-token.branch [
      | in-BlockStr+in_ok-value-in-BlockStr w ↦
          ap (λ (v : String Global). string_bytes v) w.value-is
          ∙ string_of_block c.args.token.now.kind (bytes_of c.args.text.now c.args.token.now) (string_bytes w.in_ok-value-in-BlockStr.value) w.range.result.now w.in-BlockStr.is
          (w.range.ensures.value ∙ ap (between 3) c.text-quoted.ensures) w.in_ok-value-in-BlockStr.ensures
      | in_default+in_ok-value-in_default w ↦
          ap (λ (v : String Global). string_bytes v) w.value-is
          ∙ string_of_str c.args.token.now.kind (bytes_of c.args.text.now c.args.token.now) (string_bytes w.in_ok-value-in_default.value) w.range-in_default.result.now c.requires.string w.in_default.not-BlockStr
          (w.range-in_default.ensures.value ∙ ap (between 1) c.text-quoted.ensures) w.in_ok-value-in_default.ensures
    ]
