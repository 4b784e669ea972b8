use Rattle.std.proofs.Common.{List, [], ℕ, Bor, ◌-◌, ◌++◌, length, get_or, take, drop, is_ok, string_bytes, ap, ◌∙◌, arith}
use Rattle.std.proofs.ResultArms.{chosen}
use Rattle.gq_lexer.proofs.Blocks.{joined_more}
use Rattle.gq_lexer.proofs.block.join_lines.Goals as goal

pub loop-line-preserved : goal.loop-line-preserved
loop-line-preserved c =
    let none : Bor (List ℕ) = record { ref_ptr = (0, 0); now = [] } in
    let line_feed = chosen _ _ _ _ c.push.ensures.bytes (ap is_ok c.in_ok-push.was) ∙ ap (λ (x : List ℕ). string_bytes c.loop-line.text ++ x) (c.push.ensures.ascii (omega arith)) in
    let pushed = chosen _ _ _ _ c.push_str.ensures.bytes (ap is_ok c.in_ok-push_str.was) in
    joined_more (λ (line : Bor (List ℕ)). line.now) c.args.lines.now c.loop-line.line-index none (string_bytes c.loop-line.text) (string_bytes c.push_str.new.self) c.loop-line-test.true
    (pushed ∙ ap (λ (x : List ℕ). x ++ (get_or (take (length c.args.lines.now - 1) (drop 1 c.args.lines.now)) c.loop-line.line-index none).now) line_feed) c.loop-line.invariant
