use Rattle.std.proofs.Common.{rules, sym, inl, inr, string_bytes}
use Rattle.std.proofs.KnownBytes.{Keeps-refl}
use Rattle.std.proofs.lemmas.Option.{IfSome_then}
use Rattle.server_lines.specs.Devices.{devices}
use Rattle.query_run.proofs.Choosing.{words-run}
use Rattle.query_run.proofs.running.run.Goals as goal

pub returns-in-Ok-clause-run : goal.returns-in-Ok-clause-run
returns-in-Ok-clause-run g c =
    rw c.of.ensures.stop (
    words-run string_bytes (g.D.Folder.holds c.args.folder.now) (g.D.Folder.written c.run_files-stop.new.folder) c.args.words.now (devices g.I.Read.remaining g.W.Write.contents c.args.reader.now c.args.reader.now c.args.writer.now c.run_files-stop.new.writer) c.run_files-stop.result.stop
    (search rules) (Keeps-refl _) (inl (c.in-Ok.words, c.in-Ok.ensures.ok, c.run_files-stop.ensures.run))
    )

pub returns-in-Ok-clause-explained : goal.returns-in-Ok-clause-explained
returns-in-Ok-clause-explained g c =
    IfSome_then c.of.result.explanation c.of.ensures.explanation
    (λ text says. (c.in-Ok.words, c.run_files-stop.result, c.in-Ok.ensures.ok, sym c.of.ensures.stop, c.run_files-stop.ensures.placed, says))

pub returns-in-Err-clause-run : goal.returns-in-Err-clause-run
returns-in-Err-clause-run g c =
    rw c.from-in-Err.ensures.0 (
    words-run string_bytes (g.D.Folder.holds c.args.folder.now) (g.D.Folder.written c.args.folder.now) c.args.words.now (devices g.I.Read.remaining g.W.Write.contents c.args.reader.now c.args.reader.now c.args.writer.now c.tell.new.writer) c.tell.result
    (search rules) (Keeps-refl _) (inr (c.in-Err.stop, c.in-Err.ensures.err, c.tell.ensures))
    )

pub returns-in-Ok-clause-written : goal.returns-in-Ok-clause-written
returns-in-Ok-clause-written g c = inr (c.in-Ok.words, c.in-Ok.ensures.ok, c.run_files-stop.ensures.written)
