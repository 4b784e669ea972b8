use Rattle.std.proofs.Common.{List, [], ℕ, Bor, map, drop, is_ok, sym, ap, subst, ◌∙◌, IsUtf8}
use Rattle.std.proofs.lemmas.List.{append-nil}
use Rattle.std.specs.Str.{IsCharBoundary}
use Rattle.std.specs.List.{prefix_len}
use Rattle.std.proofs.ResultArms.{chosen}
use Rattle.gq_lexer.specs.Place.{ends_no_line}
use Rattle.gq_lexer.specs.Lines.{line_end_len}
use Rattle.gq_lexer.specs.Block.{lines_of}
use Rattle.gq_lexer.proofs.Blocks.{line_boundary, line_step, lines_last, lines_next, lines_kept}
use Rattle.gq_lexer.proofs.block.lines_of.Goals as goal

pub split_at-requires : goal.split_at-requires
split_at-requires c =
    subst (IsCharBoundary c.loop-lines.rest.now) (sym (c.line_len.ensures.value ∙ ap (prefix_len ends_no_line) c.as_bytes.ensures.value)) (line_boundary c.loop-lines.rest.now)

pub split_at-requires-in-loop-lines : goal.split_at-requires-in-loop-lines
split_at-requires-in-loop-lines c =
    let step = line_step c.loop-lines.rest.now c.split_at.result.1.now c.line_len.result c.loop-lines.invariant.utf8 (c.line_len.ensures.value ∙ ap (prefix_len ends_no_line) c.as_bytes.ensures.value) c.split_at.ensures.back in
    subst (IsCharBoundary c.split_at.result.1.now) (sym (c.line_end_len-end.ensures.value ∙ ap line_end_len c.as_bytes-in-loop-lines.ensures.value)) step.boundary

pub returns-then-end-eq0 : goal.returns-then-end-eq0
returns-then-end-eq0 c =
    let step = line_step c.loop-lines.rest.now c.split_at.result.1.now c.line_len.result c.loop-lines.invariant.utf8 (c.line_len.ensures.value ∙ ap (prefix_len ends_no_line) c.as_bytes.ensures.value) c.split_at.ensures.back in
    let now = λ (line : Bor (List ℕ)). line.now in
    let last = lines_last c.split_at.result.1.now (sym (c.line_end_len-end.ensures.value ∙ ap line_end_len c.as_bytes-in-loop-lines.ensures.value) ∙ c.if-end-eq0.true) in
    sym (append-nil (map now c.push.new.self.items))
    ∙ lines_kept now c.loop-lines.lines.items c.push.new.self.items c.split_at.result.0 c.loop-lines.rest.now c.split_at.result.1.now c.line_len.result [] _ (chosen _ _ _ _ c.push.ensures.items (ap is_ok c.in_ok-push.was)) c.split_at.ensures.front step last c.loop-lines.invariant.so_far

pub loop-lines-preserved : goal.loop-lines-preserved
loop-lines-preserved c =
    let step = line_step c.loop-lines.rest.now c.split_at.result.1.now c.line_len.result c.loop-lines.invariant.utf8 (c.line_len.ensures.value ∙ ap (prefix_len ends_no_line) c.as_bytes.ensures.value) c.split_at.ensures.back in
    let now = λ (line : Bor (List ℕ)). line.now in
    let end = c.line_end_len-end.ensures.value ∙ ap line_end_len c.as_bytes-in-loop-lines.ensures.value in
    let next = lines_next c.split_at.result.1.now c.line_end_len-end.result end c.if-end-eq0.false ∙ ap lines_of (sym c.split_at-in-loop-lines.ensures.back) in
    record {
      so_far = lines_kept now c.loop-lines.lines.items c.push.new.self.items c.split_at.result.0 c.loop-lines.rest.now c.split_at.result.1.now c.line_len.result (lines_of c.split_at-in-loop-lines.result.1.now) _ (chosen _ _ _ _ c.push.ensures.items (ap is_ok c.in_ok-push.was)) c.split_at.ensures.front step next c.loop-lines.invariant.so_far;
      utf8 = subst IsUtf8 (sym (c.split_at-in-loop-lines.ensures.back ∙ ap (λ (n : ℕ). drop n c.split_at.result.1.now) end)) step.utf8;
    }
