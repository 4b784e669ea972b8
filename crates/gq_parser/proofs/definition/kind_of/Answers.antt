use Rattle.gq_parser.specs.Grammar.{query, mutation, subscription}
use Rattle.gq_parser.proofs.definition.kind_of.Goals as goal

pub returns-in-Query : goal.returns-in-Query
returns-in-Query c = rw c.in-Query.is query

pub returns-in-Mutation : goal.returns-in-Mutation
returns-in-Mutation c = rw c.in-Mutation.is mutation

pub returns-in-Subscription : goal.returns-in-Subscription
returns-in-Subscription c = rw c.in-Subscription.is subscription
