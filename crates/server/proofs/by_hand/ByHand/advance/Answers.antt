use Rattle.std.proofs.Common.{◌≡◌, ◌∙◌, sym, true}
use Rattle.std.proofs.lemmas.Result.{on_ok_weaker}
use Rattle.std.specs.List.{list_all}
use Rattle.rounds_by_hand.specs.Hands.{pending_in}
use Rattle.rounds_by_hand.specs.Pending.{is_in}
use Rattle.rounds_by_hand.proofs.Becoming.{if-step}
use Rattle.server.proofs.Handing.{stores-replies}
use Rattle.server.specs.Hands.{StoresReplies}
use Rattle.server.proofs.by_hand.ByHand.advance.Goals as goal

pub returns-clause-stored : goal.returns-clause-stored
returns-clause-stored g c =
    let old = c.args.self.now in
    let new = c.ask_and_advance.new.self in
    let result = c.ask_and_advance.result in
    let each : list_all is_in (pending_in old.far) ≡ true = rw c.orders.ensures at (sym c.are_in.ensures ∙ c.if-not-are_in.false) in
    if-step (StoresReplies old new.client) result
    (on_ok_weaker result (stores-replies g.S.LocalSource.may_tell old new.client each) c.ask_and_advance.ensures.stored)
