use Rattle.std.proofs.Common.{◌≡◌, ◌∙◌, sym, true}
use Rattle.std.proofs.lemmas.Result.{on_ok_weaker}
use Rattle.std.specs.List.{list_all}
use Rattle.rounds_by_hand.specs.Hands.{pending_in}
use Rattle.rounds_by_hand.specs.Pending.{is_in}
use Rattle.rounds_by_hand.proofs.Becoming.{if-step}
use Rattle.rounds_by_hand.proofs.Storing.{stores-given}
use Rattle.server.specs.LoadsByHand.{ClientStores}
use Rattle.server.proofs.load_by_hand.LoadByHand.advance.Goals as goal

pub returns-clause-stored : goal.returns-clause-stored
returns-clause-stored g c =
    let old = c.args.self.now in
    let new = c.ask_and_advance.new.self in
    let result = c.ask_and_advance.result in
    let each : list_all is_in (pending_in old.far) ≡ true = rw c.orders.ensures at (sym c.are_in.ensures ∙ c.if-not-are_in.false) in
    if-step (ClientStores old new.client) result
    (on_ok_weaker result (stores-given g.S.LocalSource.may_tell old.far old.client.session new.client.session each) c.ask_and_advance.ensures.stored)
