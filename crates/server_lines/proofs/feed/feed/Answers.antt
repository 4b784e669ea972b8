use Rattle.std.proofs.Common.{subst, ◌≡◌, ◌≢◌, ℕ, List, [], ◌∷◌, ◌++◌, length, inl, refl, sym, ap, ◌∙◌, append-nil, arith, length-append}
use denote.Param.Always.{mut_next}
use Rattle.std.specs.Fn.{CalledAt}
use Rattle.std.specs.List.{flat_map}
use Rattle.std.proofs.lemmas.Fn.{called_at}
use Rattle.std.proofs.lemmas.Result.{err_from_is_err_and}
use Rattle.std.proofs.lemmas.List.Elements.{All-nil, All-append, All-push}
use Rattle.server_lines.specs.Answering.{by_calls}
use Rattle.server_lines.specs.Devices.{device_of}
use Rattle.server_lines.specs.Lines.{IsLine, ended, line_feed}
use Rattle.server_lines.specs.Output.{SendsBy, CutsBy}
use Rattle.server_lines.proofs.Known.{sends_none, sends_trans, steady_same, steady_trans}
use Rattle.server_lines.proofs.Feeding.{are_more, one_more, is_line, behind, stopped_before, stopped_at, gives_called, fails_called, count_more, no_line}
use Rattle.server_lines.proofs.feed.feed.Goals as goal

pub loop-line-init : goal.loop-line-init
loop-line-init g c = record {
  answered = ([], [], refl, All-nil IsLine, refl, (refl, refl), sends_none _ _);
  callable = c.requires.callable;
  held = c.requires.block.line;
  count = omega arith;
  steady = steady_same _;
}

pub loop-line-preserved : goal.loop-line-preserved
loop-line-preserved g c =
    let inv = c.loop-line.invariant in
    let cut = c.in-Some.ensures in
    let whole = c.in_ok-whole.ensures.ok in
    let lines = inv.answered.0 in
    let line : List ℕ = c.loop-line.held.items ++ c.in-Some.line.now in
    let given = gives_called g.F.FnMut c.loop-line.answer c.answer.new.self line c.answer.result (SendsBy g.W.Write.contents c.loop-line.writer c.loop-line.pending c.put_answer.new.writer c.put_answer.new.pending) (subst (λ l. CalledAt g.F.FnMut c.loop-line.answer l c.answer.result c.answer.new.self) whole.0 (called_at g.F.FnMut c.answer.ensures refl)) c.in_ok-put_answer.ensures.ok in
    record {
      answered = (
        lines ++ line ∷ [],
        inv.answered.1 ++ ended given.0,
        one_more _ _ _ c.in-Some.after.now _ lines cut.0 inv.answered.2 ∙ ap (λ l. flat_map ended (lines ++ line ∷ []) ++ (l ++ c.in-Some.after.now)) (sym {A = List ℕ} c.clear.ensures.items),
        All-push IsLine lines line inv.answered.3 (is_line _ _ inv.held cut.1 whole.1),
        count_more _ lines line inv.answered.4,
        are_more (by_calls g.F.FnMut) _ c.loop-line.answer _ lines line inv.answered.1 given.0 inv.answered.5 given.1,
        sends_trans _ (g.W.Write.contents (device_of c.loop-line.writer)) _ _ c.loop-line.pending.items _ inv.answered.1 (ended given.0) inv.answered.6 given.2,
      );
      callable = mut_next g.F.FnMut c.loop-line.answer (_, tt) c.answer.result c.answer.new.self c.answer.new.self c.answer.ensures refl inv.callable;
      held = subst IsLine (sym {A = List ℕ} c.clear.ensures.items) no_line;
      count = (let e : length c.loop-line.rest.now ≡ length (c.in-Some.line.now ++ line_feed ∷ c.in-Some.after.now) = ap length cut.0 in omega (arith, length-append c.in-Some.line.now (line_feed ∷ c.in-Some.after.now), e, inv.count));
      steady = steady_trans inv.steady c.in_ok-put_answer.ensures.faults;
    }

pub returns-in_err-whole-clause-err : goal.returns-in_err-whole-clause-err
returns-in_err-whole-clause-err g c =
    let inv = c.loop-line.invariant in
    let cut = c.in-Some.ensures in
    let p = err_from_is_err_and c.from_residual.result c.from_residual.ensures.1 in
    rw (p.1, p.2) (stopped_before (by_calls g.F.FnMut) c.in_err-whole.field-0.0 _ c.loop-line.answer _ (g.W.Write.contents (device_of c.loop-line.writer)) _ c.loop-line.pending.items _ _ _ _ _ inv.answered.1 inv.answered.0 _ _ _
    (omega (arith, inv.count, c.requires.block.few)) cut.0 inv.answered.2 inv.answered.3 inv.held cut.1 inv.answered.5 inv.answered.6 c.in_err-whole.ensures.err)

pub returns-in_err-put_answer-clause-err : goal.returns-in_err-put_answer-clause-err
returns-in_err-put_answer-clause-err g c =
    let inv = c.loop-line.invariant in
    let cut = c.in-Some.ensures in
    let whole = c.in_ok-whole.ensures.ok in
    let line : List ℕ = c.loop-line.held.items ++ c.in-Some.line.now in
    let p = err_from_is_err_and c.from_residual-in_err-put_answer.result c.from_residual-in_err-put_answer.ensures.1 in
    rw (p.1, p.2) (stopped_at (by_calls g.F.FnMut) c.in_err-put_answer.field-0.0 _ c.loop-line.answer _ _ (g.W.Write.contents (device_of c.loop-line.writer)) _ _ c.loop-line.pending.items _ _ _ _ _ _ inv.answered.1 inv.answered.0 _ _
    (omega (arith, inv.count, c.requires.block.few)) cut.0 inv.answered.2 inv.answered.3 inv.held cut.1 inv.answered.5 inv.answered.6 whole.1
    (fails_called g.F.FnMut c.in_err-put_answer.field-0.0 c.loop-line.answer c.answer.new.self line c.answer.result (CutsBy g.W.Write.contents c.loop-line.writer c.loop-line.pending c.put_answer.new.writer) (SendsBy g.W.Write.contents c.loop-line.writer c.loop-line.pending c.put_answer.new.writer c.put_answer.new.pending [])
    (subst (λ l. CalledAt g.F.FnMut c.loop-line.answer l c.answer.result c.answer.new.self) whole.0 (called_at g.F.FnMut c.answer.ensures refl)) c.in_err-put_answer.ensures.err))

pub returns-then-rest-len-clause-err : goal.returns-then-rest-len-clause-err
returns-then-rest-len-clause-err g c =
    let inv = c.loop-line.invariant in (
      record {
        lines = inv.answered.0;
        rest = c.loop-line.held.items ++ c.loop-line.rest.now;
        output = inv.answered.1;
        state = c.loop-line.answer;
        splits = record { whole = inv.answered.2; each = inv.answered.3 };
        answers = inv.answered.5;
      },
      (
        refl,
        inv.answered.6,
        (
          c.loop-line.held.items ++ c.loop-line.rest.now,
          [],
          record {
            front = sym (append-nil (c.loop-line.held.items ++ c.loop-line.rest.now));
            one = All-append (λ b. b ≢ line_feed) c.loop-line.held.items c.loop-line.rest.now inv.held.one c.in_default.ensures;
            long = grind (arith, length-append c.loop-line.held.items c.loop-line.rest.now, c.if-rest-len.true, c.loop-line.held.ok.0, c.len.ensures);
          },
        ),
      ),
    )

pub returns-in-Err-clause-err : goal.returns-in-Err-clause-err
returns-in-Err-clause-err g c =
    let inv = c.loop-line.invariant in (
      record {
        lines = inv.answered.0;
        rest = c.loop-line.held.items ++ c.loop-line.rest.now;
        output = inv.answered.1;
        state = c.loop-line.answer;
        splits = record { whole = inv.answered.2; each = inv.answered.3 };
        answers = inv.answered.5;
      },
      (inl refl, inv.answered.6, behind c.loop-line.held.items c.loop-line.rest.now inv.held (omega (arith, inv.count, c.requires.block.few))),
    )
