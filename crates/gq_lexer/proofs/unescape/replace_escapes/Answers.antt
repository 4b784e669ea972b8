use Rattle.std.proofs.Common.{ℕ, ◌+◌, ◌++◌, List, length, drop, is_ok, sym, ap, subst, ◌∙◌, arith, rules}
use Rattle.std.specs.Prelude.{is_some, encode_utf8}
use Rattle.std.specs.List.{prefix_len}
use Rattle.std.specs.Char.{IsScalar}
use Rattle.std.specs.Str.{IsCharBoundary}
use Rattle.std.specs.String.{string_bytes}
use Rattle.std.proofs.ResultArms.{chosen}
use Rattle.std.proofs.lemmas.Bool.{eqb-true}
use Rattle.gq_lexer.specs.declared.unescape.EscapeValue.{EscapeValue}
use Rattle.gq_lexer.specs.Unescape.{is_plain}
use Rattle.gq_lexer.proofs.Values.{IsUnescaped, run_boundary, after_of, escape_facts, same_escape, some_scalar, same_char, unescaped_all}
use Rattle.gq_lexer.proofs.unescape.replace_escapes.Goals as goal

pub split_at-requires : goal.split_at-requires
split_at-requires c =
    subst (IsCharBoundary c.loop-rest.rest.now) (sym (c.plain_len.ensures.value ∙ ap (prefix_len is_plain) c.as_bytes.ensures.value)) (run_boundary c.loop-rest.rest.now)

pub loop-rest-preserved-then-as_bytes-lt1 : goal.loop-rest-preserved-then-as_bytes-lt1
loop-rest-preserved-then-as_bytes-lt1 c =
    (after_of c.args.body.now c.loop-rest.rest.now _ (string_bytes c.loop-rest.value) _ c.split_at.result.0.now c.plain_len.result c.loop-rest.invariant (c.plain_len.ensures.value ∙ ap (prefix_len is_plain) c.as_bytes.ensures.value)
    c.split_at.ensures.front c.split_at.ensures.back (chosen _ _ _ _ c.push_str.ensures.bytes (ap is_ok c.in_ok-push_str.was))).so_far

pub unwrap-code-requires : goal.unwrap-code-requires
unwrap-code-requires c =
    let after = after_of c.args.body.now c.loop-rest.rest.now c.split_at.result.1.now (string_bytes c.loop-rest.value) (string_bytes c.push_str.new.self) c.split_at.result.0.now c.plain_len.result c.loop-rest.invariant (c.plain_len.ensures.value ∙ ap (prefix_len is_plain) c.as_bytes.ensures.value)
    c.split_at.ensures.front c.split_at.ensures.back (chosen _ _ _ _ c.push_str.ensures.bytes (ap is_ok c.in_ok-push_str.was)) in
    let facts = escape_facts c.args.body.now c.split_at.result.1.now (string_bytes c.push_str.new.self) c.as_bytes-in-loop-rest.result.now c.escape_value.result c.as_bytes-in-loop-rest.ensures.value after (omega arith) c.escape_value.ensures in
    ap is_some facts.1

pub unwrap-requires : goal.unwrap-requires
unwrap-requires c =
    let after = after_of c.args.body.now c.loop-rest.rest.now c.split_at.result.1.now (string_bytes c.loop-rest.value) (string_bytes c.push_str.new.self) c.split_at.result.0.now c.plain_len.result c.loop-rest.invariant (c.plain_len.ensures.value ∙ ap (prefix_len is_plain) c.as_bytes.ensures.value)
    c.split_at.ensures.front c.split_at.ensures.back (chosen _ _ _ _ c.push_str.ensures.bytes (ap is_ok c.in_ok-push_str.was)) in
    let facts = escape_facts c.args.body.now c.split_at.result.1.now (string_bytes c.push_str.new.self) c.as_bytes-in-loop-rest.result.now c.escape_value.result c.as_bytes-in-loop-rest.ensures.value after (omega arith) c.escape_value.ensures in
    let same = same_escape c.escape_value.result c.unwrap-code.result (record { code = facts.0.code; len = facts.0.len }) c.unwrap-code.ensures facts.1 in
    let scalar = subst IsScalar (ap (λ (e : EscapeValue). e.code) (sym same)) facts.0.scalar_is in
    ap is_some (some_scalar c.from_u32.result c.unwrap-code.result.code c.from_u32.ensures.value scalar)

pub overflow_add-len : goal.overflow_add-len
overflow_add-len c =
    let after = after_of c.args.body.now c.loop-rest.rest.now c.split_at.result.1.now (string_bytes c.loop-rest.value) (string_bytes c.push_str.new.self) c.split_at.result.0.now c.plain_len.result c.loop-rest.invariant (c.plain_len.ensures.value ∙ ap (prefix_len is_plain) c.as_bytes.ensures.value)
    c.split_at.ensures.front c.split_at.ensures.back (chosen _ _ _ _ c.push_str.ensures.bytes (ap is_ok c.in_ok-push_str.was)) in
    let facts = escape_facts c.args.body.now c.split_at.result.1.now (string_bytes c.push_str.new.self) c.as_bytes-in-loop-rest.result.now c.escape_value.result c.as_bytes-in-loop-rest.ensures.value after (omega arith) c.escape_value.ensures in
    let same = same_escape c.escape_value.result c.unwrap-code.result (record { code = facts.0.code; len = facts.0.len }) c.unwrap-code.ensures facts.1 in
    omega (arith, facts.0.boundary.0, ap (λ (e : EscapeValue). e.len) same)

pub split_at-requires-in-len1-up : goal.split_at-requires-in-len1-up
split_at-requires-in-len1-up c =
    let after = after_of c.args.body.now c.loop-rest.rest.now c.split_at.result.1.now (string_bytes c.loop-rest.value) (string_bytes c.push_str.new.self) c.split_at.result.0.now c.plain_len.result c.loop-rest.invariant (c.plain_len.ensures.value ∙ ap (prefix_len is_plain) c.as_bytes.ensures.value)
    c.split_at.ensures.front c.split_at.ensures.back (chosen _ _ _ _ c.push_str.ensures.bytes (ap is_ok c.in_ok-push_str.was)) in
    let facts = escape_facts c.args.body.now c.split_at.result.1.now (string_bytes c.push_str.new.self) c.as_bytes-in-loop-rest.result.now c.escape_value.result c.as_bytes-in-loop-rest.ensures.value after (omega arith) c.escape_value.ensures in
    let same = same_escape c.escape_value.result c.unwrap-code.result (record { code = facts.0.code; len = facts.0.len }) c.unwrap-code.ensures facts.1 in
    subst (λ (n : ℕ). IsCharBoundary c.split_at.result.1.now (1 + n)) (ap (λ (e : EscapeValue). e.len) (sym same)) facts.0.boundary

pub loop-rest-preserved : goal.loop-rest-preserved
loop-rest-preserved c =
    let after = after_of c.args.body.now c.loop-rest.rest.now c.split_at.result.1.now (string_bytes c.loop-rest.value) (string_bytes c.push_str.new.self) c.split_at.result.0.now c.plain_len.result c.loop-rest.invariant (c.plain_len.ensures.value ∙ ap (prefix_len is_plain) c.as_bytes.ensures.value)
    c.split_at.ensures.front c.split_at.ensures.back (chosen _ _ _ _ c.push_str.ensures.bytes (ap is_ok c.in_ok-push_str.was)) in
    let facts = escape_facts c.args.body.now c.split_at.result.1.now (string_bytes c.push_str.new.self) c.as_bytes-in-loop-rest.result.now c.escape_value.result c.as_bytes-in-loop-rest.ensures.value after (omega arith) c.escape_value.ensures in
    let same = same_escape c.escape_value.result c.unwrap-code.result (record { code = facts.0.code; len = facts.0.len }) c.unwrap-code.ensures facts.1 in
    let scalar = subst IsScalar (ap (λ (e : EscapeValue). e.code) (sym same)) facts.0.scalar_is in
    let char_is = same_char c.from_u32.result c.unwrap.result c.unwrap-code.result.code c.unwrap.ensures (some_scalar c.from_u32.result c.unwrap-code.result.code c.from_u32.ensures.value scalar) ∙ ap (λ (e : EscapeValue). e.code) same in
    let pushed = chosen _ _ _ _ c.push.ensures.bytes (ap is_ok c.in_ok-push.was) ∙ ap (λ (x : ℕ). string_bytes c.push_str.new.self ++ encode_utf8 x) char_is in
    let rest_is = c.split_at-in-len1-up.ensures.back ∙ ap (λ (e : EscapeValue). drop (1 + e.len) c.split_at.result.1.now) same in
    subst (λ (v : List ℕ). IsUnescaped c.args.body.now c.split_at-in-len1-up.result.1.now v) (sym pushed)
    (subst (λ (r : List ℕ). IsUnescaped c.args.body.now r (string_bytes c.push_str.new.self ++ encode_utf8 facts.0.code)) (sym rest_is) facts.0.more)

pub returns : goal.returns
returns c = unescaped_all c.args.body.now c.loop-rest.rest.now (string_bytes c.loop-rest.value) c.loop-rest.invariant (eqb-true (length c.loop-rest.rest.now) 0 (search rules))
