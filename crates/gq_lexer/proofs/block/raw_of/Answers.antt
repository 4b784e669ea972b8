use Rattle.std.proofs.Common.{◌≡◌, ◌-◌, ◌++◌, ◌∷◌, [], List, ℕ, String, Global, nat_eq, length, take, drop, string_bytes, is_ok, IsUtf8, sym, ap, subst, ◌∙◌, arith}
use Rattle.std.proofs.ResultArms.{chosen}
use Rattle.std.proofs.lemmas.List.{take_rest}
use Rattle.gq_lexer.specs.Block.{raw_of}
use Rattle.gq_lexer.proofs.block.raw_of.Goals.{then-not-starts_with+in_ok-push, else-not-starts_with}
use Rattle.std.specs.Str.{IsCharBoundary}
use Rattle.std.specs.List.{prefix_len, starts_with}
use Rattle.gq_lexer.specs.Unescape.{is_plain}
use Rattle.gq_lexer.proofs.Values.{run_boundary}
use Rattle.gq_lexer.proofs.Blocks.{raw_step, raw_end, raw_kept, kept, kept_quotes, kept_other}
use Rattle.gq_lexer.proofs.block.raw_of.Goals as goal

pub split_at-requires : goal.split_at-requires
split_at-requires c =
    subst (IsCharBoundary c.loop-raw.rest.now) (sym (c.plain_len.ensures.value ∙ ap (prefix_len is_plain) c.as_bytes.ensures.value)) (run_boundary c.loop-raw.rest.now)

pub returns-in_default : goal.returns-in_default
returns-in_default c =
    let pushed = chosen _ _ _ _ c.push_str.ensures.bytes (ap is_ok c.in_ok-push_str.was) in
    let end = raw_end c.loop-raw.rest.now c.split_at.result.1.now c.plain_len.result (c.plain_len.ensures.value ∙ ap (prefix_len is_plain) c.as_bytes.ensures.value) c.split_at.ensures.back (omega (arith, c.in_default.len_below, ap length c.as_bytes-in-loop-raw.ensures.value)) in
    pushed ∙ ap (λ (x : List ℕ). string_bytes c.loop-raw.raw ++ x) (c.split_at.ensures.front ∙ sym end) ∙ c.loop-raw.invariant.so_far

pub split_at-requires-in-loop-raw : goal.split_at-requires-in-loop-raw
split_at-requires-in-loop-raw c =
    let step = raw_step c.loop-raw.rest.now c.split_at.result.1.now c.plain_len.result c.loop-raw.invariant.utf8 (c.plain_len.ensures.value ∙ ap (prefix_len is_plain) c.as_bytes.ensures.value) c.split_at.ensures.back (omega (arith, c.in-len1-up.len_at_least, ap length c.as_bytes-in-loop-raw.ensures.value)) in
    step.backslash

pub loop-raw-preserved : goal.loop-raw-preserved
loop-raw-preserved c =
    let step = raw_step c.loop-raw.rest.now c.split_at.result.1.now c.plain_len.result c.loop-raw.invariant.utf8 (c.plain_len.ensures.value ∙ ap (prefix_len is_plain) c.as_bytes.ensures.value) c.split_at.ensures.back (omega (arith, c.in-len1-up.len_at_least, ap length c.as_bytes-in-loop-raw.ensures.value)) in
    let pushed = chosen _ _ _ _ c.push_str.ensures.bytes (ap is_ok c.in_ok-push_str.was) in
    let after = c.split_at.result.1.now in
    let behind_is : take (length c.as_bytes-in-loop-raw.result.now - 1) (drop 1 c.as_bytes-in-loop-raw.result.now) ≡ drop 1 after = take_rest c.as_bytes-in-loop-raw.result.now 1 ∙ ap (λ (x : List ℕ). drop 1 x) c.as_bytes-in-loop-raw.ensures.value in
    let test : c.starts_with.result ≡ starts_with nat_eq (drop 1 after) (34 ∷ 34 ∷ 34 ∷ []) = c.starts_with.ensures.value ∙ ap (λ (x : List ℕ). starts_with nat_eq x (34 ∷ 34 ∷ 34 ∷ [])) behind_is in
    let final : string_bytes c.if-not-starts_with.raw ≡ string_bytes c.push_str.new.self ++ kept (drop 1 after) =
    elim c.if-not-starts_with.branch [
      | then-not-starts_with+in_ok-push w ↦
          let backslash = chosen _ _ _ _ w.push.ensures.bytes (ap is_ok w.in_ok-push.was) ∙ ap (λ (x : List ℕ). string_bytes c.push_str.new.self ++ x) (w.push.ensures.ascii (omega arith)) in
          kept_other (drop 1 after) (string_bytes c.push_str.new.self) (string_bytes c.if-not-starts_with.raw) (sym test ∙ w.if-not-starts_with.true) (ap (λ (s : String Global). string_bytes s) w.raw-is ∙ backslash)
      | else-not-starts_with w ↦
          kept_quotes (drop 1 after) (string_bytes c.push_str.new.self) (string_bytes c.if-not-starts_with.raw) (sym test ∙ w.if-not-starts_with.false) (ap (λ (s : String Global). string_bytes s) w.raw-is)
    ] in
    record {
      so_far = ap (λ (x : List ℕ). string_bytes c.if-not-starts_with.raw ++ raw_of x) c.split_at-in-loop-raw.ensures.back
          ∙ raw_kept (string_bytes c.loop-raw.raw) (string_bytes c.push_str.new.self) (string_bytes c.if-not-starts_with.raw) c.split_at.result.0.now c.loop-raw.rest.now after _ c.plain_len.result pushed c.split_at.ensures.front step final c.loop-raw.invariant.so_far;
      utf8 = subst IsUtf8 (sym c.split_at-in-loop-raw.ensures.back) step.utf8;
    }
