use Rattle.std.proofs.Common.{◌≡◌, ◌∙◌, sym, true, refl}
use Rattle.std.proofs.lemmas.Result.{on_ok_weaker, IfErr-weaker}
use Rattle.std.specs.List.{list_all}
use Rattle.load_rounds.specs.Sessions.{state_of}
use Rattle.rounds_by_hand.specs.Hands.{pending_in, AsksAndOverruns, Overruns, StoresReplies}
use Rattle.rounds_by_hand.specs.Pending.{is_in}
use Rattle.rounds_by_hand.proofs.Far.{keeps-hand, same-kept}
use Rattle.rounds_by_hand.proofs.Becoming.{if-step}
use Rattle.rounds_by_hand.proofs.Storing.{overruns-given, stores-given}
use Rattle.rounds_by_hand.proofs.hand.Hand.advance.Goals as goal

pub returns-clause-stored : goal.returns-clause-stored
returns-clause-stored g c =
    let old = c.args.self.now in
    let new = c.ask_and_advance.new.self in
    let result = c.ask_and_advance.result in
    let each : list_all is_in (pending_in old.far) ≡ true = rw c.orders.ensures at (sym c.are_in.ensures ∙ c.if-not-are_in.false) in
    if-step (StoresReplies old new) result
    (on_ok_weaker result (stores-given g.S.LocalSource.may_tell old.far old.session new.session each) c.ask_and_advance.ensures.stored)

pub returns-then-not-are_in-clause-kept : goal.returns-then-not-are_in-clause-kept
returns-then-not-are_in-clause-kept g c =
    let X = g.P.Execute in
    let s = state_of c.args.self.now.session in
    keeps-hand X.program X.text_of X.loaders X.fits c.args.self.now c.args.self.now c.requires.enough (same-kept s s refl) refl refl c.requires.round c.requires.within

pub returns-clause-refused : goal.returns-clause-refused
returns-clause-refused g c =
    let X = g.P.Execute in
    let may = g.S.LocalSource.may_tell in
    let old = c.args.self.now in
    let new = c.ask_and_advance.new.self in
    let each : list_all is_in (pending_in old.far) ≡ true = rw c.orders.ensures at (sym c.are_in.ensures ∙ c.if-not-are_in.false) in
    IfErr-weaker c.ask_and_advance.result (AsksAndOverruns X.program X.text_of may old new) (Overruns X.program X.text_of may old new) (overruns-given X.program X.text_of may old new each) c.ask_and_advance.ensures.refused
