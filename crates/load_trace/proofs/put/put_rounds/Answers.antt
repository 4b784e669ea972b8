use Rattle.std.proofs.Common.{◌≡◌, ◌++◌, ap, arith, ◌∙◌}
use Rattle.std.specs.List.{flat_map}
use Rattle.json.specs.Tree.{json_tokens}
use Rattle.load_trace.specs.Traces.{round_json, rounds_upto}
use Rattle.load_trace.proofs.Tokens.{array-put}
use Rattle.load_trace.proofs.put.put_rounds.Goals as goal

pub returns-clause-ok : goal.returns-clause-ok
returns-clause-ok g c =
    let all : c.loop-round.round ≡ c.args.last = omega (arith, c.loop-round.invariant.within, c.loop-round-test.false) in
    let begun = c.begin_array.new.self.tokens in
    array-put round_json (rounds_upto c.args.last c.args.loaders.now) c.end_array.result c.args.writer.now.tokens begun _ c.end_array.new.self.tokens c.in_ok-begin_array.ensures.ok
    (c.loop-round.invariant.tokens ∙ ap (λ n. begun ++ flat_map (λ batches. json_tokens (round_json batches)) (rounds_upto n c.args.loaders.now)) all) c.end_array.ensures.ok
