-- The sizes of what is copied of a client.
use Rattle.std.specs.Prelude.{◌≡◌, List, length, map, Result, Err, OnOk}
use Rattle.load_memory.specs.Outcomes.{OutcomeOf}
use Rattle.load_queue.specs.Orders.{OrderOf}
use Rattle.flat_orders.specs.Orders.{keys_of}
use Rattle.flat_orders.specs.Written.{all_texts, keys_in, size_of}
use Rattle.flat_outcomes.specs.Written.{all_faults, all_rows, row_texts}
use Rattle.host_clients.specs.Loads.{load_orders}
use Rattle.host_clients.specs.UnderWay.{orders_out}
use Rattle.host_clients.specs.declared.client.HostClient.{HostClient}
use Rattle.host_clients.specs.declared.client.HostClient.TheVariants.{Idle, Asked, Answered, Loading, Loaded}
use Rattle.host_clients.specs.declared.fault.Fault.{Fault}
use Rattle.host_clients.specs.declared.fault.Fault.TheVariants as fault
use Rattle.rudzkvano_c.specs.declared.loads.LoadSizes.{LoadSizes}
use Rattle.rudzkvano_c.specs.declared.requests.Sizes.{Sizes}

abbrev pub no_sizes : Sizes
no_sizes = record { orders = 0; keys = 0; texts = 0; bytes = 0; answer = 0; rounds = 0 }

abbrev pub sizes_of : List OrderOf → Sizes
sizes_of orders = let lists = map keys_of orders in
    record {
      orders = length orders;
      keys = length (keys_in lists);
      texts = length (all_texts lists);
      bytes = size_of (all_texts lists);
      answer = 0;
      rounds = 0;
    }

-- those of the orders of the round that is out, or those of the answer
abbrev pub sizes_in : HostClient → Sizes
sizes_in (Idle c) = no_sizes
sizes_in (Asked u) = sizes_of (orders_out u.hand)
sizes_in (Answered a) = record no_sizes { answer = length a.text; rounds = a.rounds }
sizes_in (Loading l) = sizes_of (load_orders l)
sizes_in (Loaded d) = no_sizes

abbrev pub TellsSizes : Sizes → HostClient → Result (Unit {0}) Fault → Type 0
TellsSizes sizes client done = OnOk done (sizes ≡ sizes_in client)

-- those of outcomes
abbrev pub load_sizes : List OutcomeOf → LoadSizes
load_sizes outcomes =
    record {
      keys = length outcomes;
      rows = length (all_rows outcomes);
      texts = length (row_texts outcomes);
      bytes = size_of (row_texts outcomes);
      faults = length (all_faults outcomes);
      fault_bytes = size_of (all_faults outcomes);
    }

abbrev pub TellsLoadSizes : LoadSizes → HostClient → Result (Unit {0}) Fault → Type 0
TellsLoadSizes sizes (Loaded d) done = OnOk done (sizes ≡ load_sizes d.outcomes)
TellsLoadSizes sizes client done = done ≡ Err fault.Idle
