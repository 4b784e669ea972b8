use Rattle.load_trace.specs.Traces.{batch_json, round_batches}
use Rattle.load_trace.proofs.Tokens.{array-put}
use Rattle.load_trace.proofs.put.put_round.Goals as goal

pub returns-clause-ok : goal.returns-clause-ok
returns-clause-ok g c =
    array-put batch_json (round_batches c.args.round c.args.loaders.now) c.end_array.result c.args.writer.now.tokens _ _ c.end_array.new.self.tokens c.in_ok-begin_array.ensures.ok c.in_ok-put_batches.ensures.ok c.end_array.ensures.ok
