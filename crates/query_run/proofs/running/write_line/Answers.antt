use Rattle.std.proofs.Common.{rules, [], ◌∷◌}
use Rattle.server_lines.specs.Devices.{device_of}
use Rattle.server_lines.specs.Lines.{line_feed}
use Rattle.server_lines.proofs.Known.{cut_after, cut_before}
use Rattle.query_run.proofs.Written.{cut_at_flush}
use Rattle.query_run.proofs.running.write_line.Goals as goal

pub returns-in-Err-flush-clause-err : goal.returns-in-Err-flush-clause-err
returns-in-Err-flush-clause-err g c =
    cut_at_flush
    (g.W.Write.contents (device_of c.args.writer.now)) (g.W.Write.contents (device_of c.write_whole.new.self))
    (g.W.Write.contents (device_of c.write_whole-in-Ok.new.self)) (g.W.Write.contents (device_of c.flush.new.self))
    c.args.text.now (line_feed ∷ []) (search rules) (search rules) (search rules)

pub returns-in-Err-write_whole-clause-err : goal.returns-in-Err-write_whole-clause-err
returns-in-Err-write_whole-clause-err g c =
    cut_after
    (g.W.Write.contents (device_of c.args.writer.now)) (g.W.Write.contents (device_of c.write_whole.new.self))
    (g.W.Write.contents (device_of c.write_whole-in-Ok.new.self))
    c.args.text.now (line_feed ∷ []) (search rules) (search rules)

pub returns-in-Err-clause-err : goal.returns-in-Err-clause-err
returns-in-Err-clause-err g c =
    cut_before
    (g.W.Write.contents (device_of c.args.writer.now)) (g.W.Write.contents (device_of c.write_whole.new.self))
    c.args.text.now (line_feed ∷ []) (search rules)
