use Rattle.load_queue.specs.Orders.{asks}
use Rattle.load_queue.proofs.IdentityLaws.{has-loader}
use Rattle.example_totals.proofs.Elsewhere.{replied}
use Rattle.example_totals.proofs.by_hand.reply_to.Goals as goal

pub returns-then-is_known_elsewhere : goal.returns-then-is_known_elsewhere
returns-then-is_known_elsewhere c =
    replied c.args.loaders.now (asks c.args.order) (has-loader c.args.loaders.now c.args.order c.requires) c.answer_of.result c.reply_with.result c.reply_with.ensures.loader c.reply_with.ensures.keys c.reply_with.ensures.outcomes
