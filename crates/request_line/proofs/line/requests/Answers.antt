use Rattle.std.proofs.Common.{◌≡◌, ◌∙◌, option_map, rules}
use Rattle.std.proofs.lemmas.Iterator.{YieldsList-from_slice, YieldsList-from_map_by}
use Rattle.std.proofs.lemmas.Result.{IfOk-weaker}
use Rattle.serde_json.specs.View.{view}
use Rattle.request_line.specs.Requests.{asked}
use Rattle.request_line.specs.Seen.{request_of}
use Rattle.request_line.proofs.Lines.{asked-items, seen-collected}
use Rattle.request_line.proofs.line.requests.Goals as goal

pub returns : goal.returns
returns c =
    let source : c.map.result.iter.rest.now ≡ c.args.values.now = cc in
    let callee : c.map.result.f ≡ record {} = cc in
    IfOk-weaker c.collect.result _ _ (λ found e. e ∙ asked-items c.args.values.now)
    (seen-collected (option_map request_of) c.collect.result c.collect.ensures.ran
    (YieldsList-from_map_by _ (option_map request_of) (λ v. asked (view v)) (YieldsList-from_slice c.args.values.now source) callee (λ x r q k. search rules)))
