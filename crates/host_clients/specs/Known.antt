-- Definitions of what calls make of what a client knows. Each lets an answer go.
use Rattle.std.specs.Prelude.{ℕ, ◌≡◌, ◌⊎◌, Bool, List, [], ◌∷◌, Option, is_none, is_some}
use Rattle.load_memory.specs.Keys.{KeyOf}
use Rattle.load_memory.specs.Outcomes.{ItemOf}
use Rattle.load_memory.specs.Cells.{cut}
use Rattle.flat_orders.specs.Written.{key_said}
use Rattle.flat_rows.specs.Replies.{reply_items}
use Rattle.flat_rows.specs.declared.reply.FlatReply.{FlatReply}
use Rattle.load_rounds.specs.Histories.{Call, Priming, Clearing, Forgetting, any_tell}
use Rattle.server.specs.Clients.{ClientOf, IsClientCall, IsSameClient, client_cell, client_pair, client_of, known_of}
use Rattle.rounds_by_hand.specs.declared.handed_in.HandedIn.{HandedIn}
use Rattle.host_clients.specs.Clients.{client_in}
use Rattle.host_clients.specs.declared.client.HostClient.{HostClient}
use Rattle.host_clients.specs.declared.client.HostClient.TheVariants.{Idle}

-- the items of a reply, as a host laid it out
abbrev pub items_in : FlatReply → List ItemOf
items_in r = reply_items r.columns r.rows.now r.ends.now r.bytes.now

-- the key of a host's texts, which end at these places
abbrev pub key_in : List ℕ → List ℕ → KeyOf
key_in ends bytes = key_said (cut bytes 0 ends)

-- a client of which nothing is asked becomes another
abbrev pub OnClient : (ClientOf HandedIn → ClientOf HandedIn → Type 0)
    → HostClient → HostClient → Type 0
OnClient becomes old (Idle d) = becomes (client_in old) d
OnClient becomes old new = ⊥

-- a call is made in the client's session. The server answers it as before, and within the same limits.
abbrev pub Calls : Call → ClientOf HandedIn → ClientOf HandedIn → Type 0
Calls call c d = IsSameClient c d × IsClientCall any_tell call c d

-- failed batches are forgotten, and nothing else is done
abbrev pub Forgets : ClientOf HandedIn → ClientOf HandedIn → Type 0
Forgets c d = Calls Forgetting c d

-- after want of memory: nothing has changed, or failed batches are forgotten and an answer is let go
abbrev pub KeepsOrForgets : HostClient → HostClient → Type 0
KeepsOrForgets old new = (new ≡ old) ⊎ OnClient Forgets old new

-- an item is added for a key, unless the key is known
abbrev pub Primes : ℕ → KeyOf → ItemOf → Bool → ClientOf HandedIn → ClientOf HandedIn → Type 0
Primes loader key item added c d = (added ≡ is_none (known_of c loader key))
    × Calls (Priming (client_pair c loader key item)) c d

-- says the same of the one item that is said
abbrev pub PrimesSaid : ℕ → KeyOf → List ItemOf → Bool
    → ClientOf HandedIn → ClientOf HandedIn → Type 0
PrimesSaid loader key items added c d = (item : ItemOf)
    × (items ≡ item ∷ []) × Primes loader key item added c d

-- a key is forgotten
abbrev pub Clears : ℕ → KeyOf → Bool → ClientOf HandedIn → ClientOf HandedIn → Type 0
Clears loader key there c d = (there ≡ is_some (known_of c loader key))
    × Calls (Clearing (client_cell c loader key)) c d

-- an answer has at most `most` bytes from now on
abbrev pub LimitsAnswers : Option ℕ → ClientOf HandedIn → ClientOf HandedIn → Type 0
LimitsAnswers most c d = d ≡ client_of c.server most c.limits c.session

-- what is asked together may be at most `most` work from now on
abbrev pub LimitsWork : Option ℕ → ClientOf HandedIn → ClientOf HandedIn → Type 0
LimitsWork most c d = d ≡ client_of c.server c.most (record c.limits { work = most }) c.session

-- at most `most` rounds may be made for what is asked together from now on
abbrev pub LimitsRounds : Option ℕ → ClientOf HandedIn → ClientOf HandedIn → Type 0
LimitsRounds most c d = d ≡ client_of c.server c.most (record c.limits { rounds = most }) c.session

-- a call to go on takes at most `steps` steps from now on
abbrev pub LimitsSteps : Option ℕ → ClientOf HandedIn → ClientOf HandedIn → Type 0
LimitsSteps steps c d = d ≡ client_of c.server c.most (record c.limits { steps = steps }) c.session
