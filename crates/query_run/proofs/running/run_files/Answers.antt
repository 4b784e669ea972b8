use Rattle.std.proofs.Common.{subst, inl, inr, refl}
use Rattle.std.proofs.KnownBytes.{Keeps-refl}
use Rattle.server_lines.specs.Devices.{devices}
use Rattle.world_files.specs.Folders.{IsAllOf}
use Rattle.query_run.proofs.Traced.{placed-files}
use Rattle.query_run.proofs.running.run_files.Goals as goal

pub returns-in-Ok-open_requests-clause-run : goal.returns-in-Ok-open_requests-clause-run
returns-in-Ok-open_requests-clause-run g c =
    let served = rw (c.limit_of-max_answer.ensures, c.limit_of-max_work.ensures) at c.serve_requests.ensures.run in
    inl (record {
      world = c.in-Ok.world;
      from = c.in-Ok.ensures.ok;
      devices = devices g.D.File.Read.remaining g.W.Write.contents c.new.result c.serve_requests.new.reader c.args.writer.now c.serve_requests.new.writer;
      requests = rw c.new.ensures.device
          (subst (λ path. IsAllOf (g.D.Folder.holds c.args.folder.now path) (g.D.File.Read.remaining c.in-Ok-open_requests.file)) c.as_str.ensures.value c.in-Ok-open_requests.ensures.ok);
      answers = (refl, refl);
      served = served;
    })

pub returns-in-Err-clause-run : goal.returns-in-Err-clause-run
returns-in-Err-clause-run g c = inr (record { fault = c.in-Err.fault; unmade = inl c.in-Err.ensures.err; told = c.from.ensures.0; kept = Keeps-refl _ })

pub returns-clause-run : goal.returns-clause-run
returns-clause-run g c =
    inr (record { fault = c.in-Err-open_requests.fault; unmade = inr c.in-Err-open_requests.ensures.err; told = c.from-in-Err-open_requests.ensures.0; kept = Keeps-refl _ })

pub returns-in-Ok-open_requests-clause-placed : goal.returns-in-Ok-open_requests-clause-placed
returns-in-Ok-open_requests-clause-placed g c = placed-files c.args.run.now.words.now c.serve_requests.result c.serve_requests.ensures.placed
