use Rattle.std.proofs.Common.{[], ◌∷◌}
use Rattle.server_lines.specs.Devices.{device_of}
use Rattle.server_lines.proofs.Known.{cut_first, cut_sends, sends_trans}
use Rattle.server_lines.proofs.output.put_line.Goals as goal

pub returns-in-Ok-put-clause-ok : goal.returns-in-Ok-put-clause-ok
returns-in-Ok-put-clause-ok g c =
    sends_trans _ (g.W.Write.contents (device_of c.put.new.writer)) _ _ c.put.new.pending.items _ c.args.text.now (10 ∷ []) c.in-Ok.ensures.ok c.in-Ok-put.ensures.ok

pub returns-in-Err-put-clause-err : goal.returns-in-Err-put-clause-err
returns-in-Err-put-clause-err g c =
    cut_sends _ (g.W.Write.contents (device_of c.put.new.writer)) _ _ c.put.new.pending.items c.args.text.now (10 ∷ []) c.in-Ok.ensures.ok c.in-Err-put.ensures.err

pub returns-in-Err-clause-err : goal.returns-in-Err-clause-err
returns-in-Err-clause-err g c = cut_first _ _ _ c.args.text.now (10 ∷ []) c.in-Err.ensures.err
