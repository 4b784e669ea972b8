use Rattle.std.proofs.Common.{◌∙◌}
use Rattle.plan_requests.proofs.Keepings.{new-kept}
use Rattle.plan_requests.proofs.document_cache.new_document.Goals as goal

pub returns-in-Ok-of-clause-ok : goal.returns-in-Ok-of-clause-ok
returns-in-Ok-of-clause-ok c =
    new-kept c.args.server.now.definitions c.args.query.now c.in-Ok.checked.document c.in-Ok-of.kept (c.in-Ok-of.ensures.definitions ∙ c.in-Ok.ensures.definitions) c.in-Ok-of.ensures.operations c.in-Ok-of.ensures.fragments
    c.in-Ok.ensures.says c.in-Ok.ensures.valid
