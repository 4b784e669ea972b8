use Rattle.std.proofs.Common.{ap, subst, refl, rules, ◌+◌, []}
use Rattle.std.specs.Fn.{CalledAt}
use Rattle.std.proofs.lemmas.Fn.{called_at}
use Rattle.server_lines.specs.Answering.{by_calls}
use Rattle.server_lines.specs.Output.{SendsBy, CutsBy}
use Rattle.server_lines.proofs.Feeding.{gives_called, fails_called, one_last, last_gives, last_stops}
use Rattle.server_lines.proofs.feed.finish.Goals as goal

pub returns-in-Ok-clause-ok : goal.returns-in-Ok-clause-ok
returns-in-Ok-clause-ok g c =
    let called = subst (λ l. CalledAt g.F.FnMut c.args.answer.now l c.answer.result c.answer.new.self) c.deref.ensures.value (called_at g.F.FnMut c.answer.ensures refl) in (
      ap (λ n. c.args.count + n) (one_last c.args.held.now.items (search rules)),
      last_gives (by_calls g.F.FnMut) c.args.answer.now c.answer.new.self c.args.held.now.items (SendsBy g.W.Write.contents c.args.writer.now c.args.pending.now c.put_answer.new.writer c.put_answer.new.pending) (search rules)
          (gives_called g.F.FnMut c.args.answer.now c.answer.new.self c.args.held.now.items c.answer.result (SendsBy g.W.Write.contents c.args.writer.now c.args.pending.now c.put_answer.new.writer c.put_answer.new.pending) called c.in-Ok.ensures.ok),
    )

pub returns-in-Err-clause-err : goal.returns-in-Err-clause-err
returns-in-Err-clause-err g c =
    let called = subst (λ l. CalledAt g.F.FnMut c.args.answer.now l c.answer.result c.answer.new.self) c.deref.ensures.value (called_at g.F.FnMut c.answer.ensures refl) in
    last_stops (by_calls g.F.FnMut) c.in-Err.fault c.args.answer.now c.answer.new.self c.args.held.now.items (CutsBy g.W.Write.contents c.args.writer.now c.args.pending.now c.put_answer.new.writer) (SendsBy g.W.Write.contents c.args.writer.now c.args.pending.now c.put_answer.new.writer c.put_answer.new.pending []) (search rules)
    (fails_called g.F.FnMut c.in-Err.fault c.args.answer.now c.answer.new.self c.args.held.now.items c.answer.result (CutsBy g.W.Write.contents c.args.writer.now c.args.pending.now c.put_answer.new.writer) (SendsBy g.W.Write.contents c.args.writer.now c.args.pending.now c.put_answer.new.writer c.put_answer.new.pending []) called c.in-Err.ensures.err)
