use Rattle.std.proofs.lemmas.Result.{IfOk-weaker, on_err_weaker}
use Rattle.load_rounds.specs.SharedRounds.{report_of}
use Rattle.server.proofs.Outcomes.{anyway}
use Rattle.server.proofs.StartedLines.{serves-line, stops-line, unstarted-line}
use Rattle.server.proofs.client.ClientSession.answer_line_with.Goals as goal

pub returns-in_err-restart-clause-stopped : goal.returns-in_err-restart-clause-stopped
returns-in_err-restart-clause-stopped g c = anyway _ (unstarted-line g.S.Source.may_answer c.args.self.now c.restart.new.self c.args.line.now c.in_err-restart.ensures.kept)

pub returns-clause-served : goal.returns-clause-served
returns-clause-served g c =
    IfOk-weaker c.answer_with.result _ _ (λ answer is. serves-line g.S.Source.may_answer c.args.self.now c.restart.new.self c.answer_with.new.self c.args.line.now c.in_ok-restart.ensures.begun c.answer_with.ensures.same (report_of answer) is) c.answer_with.ensures.answered

pub returns-clause-stopped : goal.returns-clause-stopped
returns-clause-stopped g c =
    on_err_weaker c.answer_with.result (stops-line g.S.Source.may_answer c.args.self.now c.restart.new.self c.answer_with.new.self c.args.line.now c.in_ok-restart.ensures.begun c.answer_with.ensures.same) c.answer_with.ensures.stopped
