use Rattle.server.proofs.Asking.{asks-none, asks-text, asks-texts}
use Rattle.server.proofs.queries.KeptQueries.plan_text.Goals as goal

pub returns-in_ok-plan_one-in-Ok-One-clause-planned : goal.returns-in_ok-plan_one-in-Ok-One-clause-planned
returns-in_ok-plan_one-in-Ok-One-clause-planned c =
    asks-text c.args.self.now.requests.server c.args.most c.in_ok-plan_one-in-Ok-One.field-0 c.args.text.now _ (rw c.in-Ok-One.field-0-is at c.in-Ok-One.ensures) c.in_ok-plan_one-in-Ok-One.ensures.planned

pub returns-in_ok-plan_several-in-Ok-Several-clause-planned : goal.returns-in_ok-plan_several-in-Ok-Several-clause-planned
returns-in_ok-plan_several-in-Ok-Several-clause-planned c =
    asks-texts c.args.self.now.requests.server c.args.most c.in_ok-plan_several-in-Ok-Several.field-0 c.args.text.now _ (rw c.in-Ok-Several.field-0-is at c.in-Ok-Several.ensures) (rw c.deref.ensures.value at c.in_ok-plan_several-in-Ok-Several.ensures.planned)

pub returns-in_ok-plan_none-in-Ok-NoRequest-clause-planned : goal.returns-in_ok-plan_none-in-Ok-NoRequest-clause-planned
returns-in_ok-plan_none-in-Ok-NoRequest-clause-planned c =
    asks-none c.args.self.now.requests.server c.args.most c.in_ok-plan_none-in-Ok-NoRequest.field-0 c.args.text.now (rw c.in-Ok-NoRequest.field-0-is at c.in-Ok-NoRequest.ensures) c.in_ok-plan_none-in-Ok-NoRequest.ensures
