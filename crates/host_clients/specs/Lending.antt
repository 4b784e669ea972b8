-- The client that is lent out of what holds it.
use Rattle.std.specs.Prelude.{Result}
use Rattle.std.specs.Borrow.{LendsIfOk, MutBor, Fml}
use Rattle.rounds_by_hand.specs.declared.handed_in.HandedIn.{HandedIn}
use Rattle.rounds_by_hand.specs.contracts.handed_in.HandedIn as handed
use Rattle.server.specs.Clients.{ClientOf}
use Rattle.server.specs.contracts.client.ClientSession as session
use Rattle.host_clients.specs.contracts.client.HostClient.{the_row}
use Rattle.host_clients.specs.declared.client.HostClient.{HostClient}
use Rattle.host_clients.specs.declared.client.HostClient.TheVariants.{Idle}
use Rattle.host_clients.specs.declared.fault.Fault.{Fault}

-- an idle client is left, with what is written to its session
abbrev pub LendsClient : MutBor HostClient → Result (MutBor (ClientOf HandedIn)) Fault → Fml
LendsClient lender lent =
    LendsIfOk the_row (session.the_row handed.the_row) lender lent (λ c. Idle c) lender.now
