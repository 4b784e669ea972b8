use Rattle.std.proofs.Common.{◌≡◌, ◌∙◌, ap, map, refl, Some}
use Rattle.std.specs.Prelude.{slice_get}
use Rattle.flat_rows.specs.Keyed.{IsKeyedReply, KeyedReplyFault, laid_rows, replied_items}
use Rattle.flat_rows.specs.Keyed.{by_of as keyed_by_of}
use Rattle.load_memory.specs.Keys.{key_of}
use Rattle.load_memory.specs.Outcomes.{item_of}
use Rattle.rounds_by_hand.specs.Pending.{is_in_at}
use Rattle.rounds_by_hand.specs.declared.pending.Pending.TheVariants.{In}
use Rattle.host_clients.specs.Clients.{pending_of}
use Rattle.host_clients.specs.Keyed.{of_order}
use Rattle.host_clients.specs.Lines.{by_at, keyed_by}
use Rattle.host_clients.specs.declared.fault.Fault.TheVariants as fault
use Rattle.host_clients.proofs.ByKey.{of-read, refused-rows}
use Rattle.host_clients.proofs.client.HostClient.keyed_items.Goals as goal

pub returns-in_default-clause-fault : goal.returns-in_default-clause-fault
returns-in_default-clause-fault c = of_order fault.NoOrder c.in_default.ensures.none refl

pub returns-in-In-clause-fault : goal.returns-in-In-clause-fault
returns-in-In-clause-fault c =
    let at : slice_get (pending_of c.args.self.now) c.args.number ≡ Some (In c.in-In.field-0) = c.in-Some.ensures.some ∙ ap Some c.in-In.is in
    of_order fault.Replied (ap is_in_at at) refl

pub returns-in_ok-items-in-Out-clause-items : goal.returns-in_ok-items-in-Out-clause-items
returns-in_ok-items-in-Out-clause-items c =
    let order = c.in-Out.order in let r = laid_rows c.args.reply.now in let items = c.in_ok-items-in-Out.field-0 in
    of-read c.args.self.now c.args.number order (c.in-Some.ensures.some ∙ ap Some c.in-Out.is) (keyed_by_of c.keyed_by-by.result)
    (c.keyed_by-by.ensures ∙ ap (λ n. keyed_by (by_at c.server.result.now n)) c.loader.ensures ∙ ap (λ s. keyed_by (by_at s order.loader)) c.server.ensures) (map key_of c.keys.result.now) c.keys.ensures (λ by keys. map item_of items.items ≡ replied_items by keys r)
    c.in_ok-items-in-Out.ensures.items

pub returns-in_ok-items-in-Out-clause-taken : goal.returns-in_ok-items-in-Out-clause-taken
returns-in_ok-items-in-Out-clause-taken c =
    let order = c.in-Out.order in let r = laid_rows c.args.reply.now in
    of-read c.args.self.now c.args.number order (c.in-Some.ensures.some ∙ ap Some c.in-Out.is) (keyed_by_of c.keyed_by-by.result)
    (c.keyed_by-by.ensures ∙ ap (λ n. keyed_by (by_at c.server.result.now n)) c.loader.ensures ∙ ap (λ s. keyed_by (by_at s order.loader)) c.server.ensures) (map key_of c.keys.result.now) c.keys.ensures (λ by keys. IsKeyedReply by keys r)
    c.in_ok-items-in-Out.ensures.taken

pub returns-in_err-items-in-Out-clause-fault : goal.returns-in_err-items-in-Out-clause-fault
returns-in_err-items-in-Out-clause-fault c =
    let order = c.in-Out.order in let r = laid_rows c.args.reply.now in let found = c.in_err-items-in-Out.field-0.0 in
    refused-rows c.args.number r c.args.self.now found c.from_residual.result c.from_residual.ensures.1
    (of-read c.args.self.now c.args.number order (c.in-Some.ensures.some ∙ ap Some c.in-Out.is) (keyed_by_of c.keyed_by-by.result)
    (c.keyed_by-by.ensures ∙ ap (λ n. keyed_by (by_at c.server.result.now n)) c.loader.ensures ∙ ap (λ s. keyed_by (by_at s order.loader)) c.server.ensures) (map key_of c.keys.result.now) c.keys.ensures (λ by keys. KeyedReplyFault by keys r found)
    c.in_err-items-in-Out.ensures.fault)
