use Rattle.std.proofs.lemmas.Result.{IfOk-weaker}
use Rattle.load_memory.specs.Replies.{reply_of}
use Rattle.load_queue.specs.Orders.{asks}
use Rattle.execution.specs.Rounds.{may_at}
use Rattle.rounds_by_hand.proofs.Orders.{ran-is, ran-any, given-is, given-any}
use Rattle.rounds_by_hand.proofs.pending.reply_to.Goals as goal

pub returns-in-Out-clause-any : goal.returns-in-Out-clause-any
returns-in-Out-clause-any g c = λ _.
    let ls = c.args.loaders.now in
    let ran = IfOk-weaker c.run.result _ _ (λ r is. ran-any ls g.S.LocalSource.may_tell (asks c.in-Out.order) (reply_of r) is) c.run.ensures in
    rw c.in-Out.is ran

pub returns-in-Out-clause-told : goal.returns-in-Out-clause-told
returns-in-Out-clause-told g c = λ _.
    let ls = c.args.loaders.now in
    let ran = IfOk-weaker c.run.result _ _ (λ r is. ran-is ls g.S.LocalSource.may_tell (asks c.in-Out.order) (reply_of r) is) c.run.ensures in
    rw c.in-Out.is ran

pub returns-in-In-clause-any : goal.returns-in-In-clause-any
returns-in-In-clause-any g c = λ has.
    let own = rw c.in-In.is at has in
    let below = rw c.in-In.is at c.requires.loader in
    rw c.in-In.is (given-any c.args.loaders.now c.in-In.reply below own)

pub returns-in-In-clause-told : goal.returns-in-In-clause-told
returns-in-In-clause-told g c = λ has.
    let own = rw c.in-In.is at has in
    rw c.in-In.is (given-is c.args.loaders.now (may_at g.S.LocalSource.may_tell c.args.loaders.now) c.in-In.reply own)

pub returns-in-Out-clause-as_given : goal.returns-in-Out-clause-as_given
returns-in-Out-clause-as_given g c =
    let ls = c.args.loaders.now in
    let ran = IfOk-weaker c.run.result _ _ (λ r is. ran-is ls g.S.LocalSource.may_tell (asks c.in-Out.order) (reply_of r) is) c.run.ensures in
    rw c.in-Out.is ran

pub run-requires : goal.run-requires
run-requires g c = rw c.in-Out.is at c.requires.own
