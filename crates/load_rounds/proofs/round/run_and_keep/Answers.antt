use Rattle.std.proofs.Common.{◌≡◌, ◌<◌, ℕ, [], ◌∷◌, map, length, arith, Result, Ok, Err}
use Rattle.std.proofs.lemmas.List.Elements.{All-map}
use Rattle.std.specs.Prelude.{All, OnOk}
use Rattle.load_memory.specs.Replies.{ReplyOf, reply_of}
use Rattle.load_memory.proofs.ReplyPairs.{All-of_map}
use Rattle.load_queue.specs.Orders.{OrderOf, CutOf, asks}
use Rattle.load_queue.proofs.IdentityLaws.{have-loaders}
use Rattle.execution.specs.Rounds.{may_at}
use Rattle.execution.proofs.StoreLaws.{reply-ran}
use Rattle.load_rounds.proofs.Numbering.{replies-below}
use Rattle.load_rounds.proofs.Running.{only}
use Rattle.load_rounds.proofs.round.run_and_keep.Goals as goal

on-ok : {T E P Q : Type 0} (r : Result T E) → (P → Q) → OnOk r P → OnOk r Q
on-ok (Ok x) f h = f h
on-ok (Err e) f h = tt

pub returns-then-len-eq1-clause-kept : goal.returns-then-len-eq1-clause-kept
returns-then-len-eq1-clause-kept g c =
    let orders = c.args.orders.items in
    let order = c.in-Some.order in
    let whole : orders ≡ order ∷ [] = only orders c.pop.new.self.items order c.in-Some.ensures.items (omega (arith, c.if-len-eq1.true, c.len.ensures, c.args.orders.ok.0)) in
    let fits = reply-ran g.S.LocalSource.may_tell c.args.loaders.now (asks order) (reply_of c.in_ok-reply.reply) c.in_ok-reply.ensures in
    on-ok c.keep_reply.result (λ pairs. record { replies = reply_of c.in_ok-reply.reply ∷ []; answered = rw whole (fits, tt); pairs = pairs }) c.keep_reply.ensures.pairs

pub keep_owned-requires : goal.keep_owned-requires
keep_owned-requires g c =
    let most : ℕ = length c.args.memory.now.modes in
    let have : All (λ (o : CutOf). o.loader < most) c.args.orders.items = rw c.requires.modes at (have-loaders c.args.loaders.now c.args.orders.items c.requires.loaders) in
    let below : All (λ (o : OrderOf). o.loader < most) (map asks c.args.orders.items) = All-map (λ (o : OrderOf). o.loader < most) asks c.args.orders.items have in
    let all = replies-below (may_at g.S.LocalSource.may_tell c.args.loaders.now) most (map asks c.args.orders.items) (map reply_of c.in_ok-replies.replies.items) c.in_ok-replies.ensures below in
    All-of_map reply_of (λ (r : ReplyOf). r.loader < most) c.in_ok-replies.replies.items all
