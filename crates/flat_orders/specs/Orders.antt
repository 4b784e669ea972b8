-- Orders in flat buffers.
use Rattle.std.specs.Prelude.{ℕ, List, [], ◌∷◌}
use Rattle.load_memory.specs.Keys.{KeyOf}
use Rattle.load_queue.specs.Orders.{OrderOf, order_of}
use Rattle.flat_orders.specs.Written.{lists_said}

-- an order for each loader's number, with its list of keys
unfoldable pub paired_orders : List ℕ → List (List KeyOf) → List OrderOf
paired_orders [] lists = []
paired_orders (l ∷ ls) [] = []
paired_orders (l ∷ ls) (keys ∷ lists) = order_of l keys ∷ paired_orders ls lists

-- the orders that these numbers and texts say: the loader of each order and how many keys it has, how many texts each
-- key has, and the texts
abbrev pub orders_said : List ℕ → List ℕ → List ℕ → List (List ℕ) → List OrderOf
orders_said loaders counts shapes texts = paired_orders loaders (lists_said counts shapes texts)

-- the keys of each order
abbrev pub keys_of : OrderOf → List KeyOf
keys_of o = o.keys
