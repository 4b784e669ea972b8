-- Definitions of what contracts see of an order.
use Rattle.std.specs.Prelude.{◌≡◌, ℕ, List, Option, Some, All, map, slice_get}
use Rattle.load_memory.specs.Keys.{KeyOf}
use Rattle.load_queue.specs.Batches.{batches}
use Rattle.load_queue.specs.Loaders.{LoaderOf}

-- says what is asked: keys, of the loader of a number
pub record OrderOf : Type 0 where
  pub loader : ℕ
  pub keys : List KeyOf

abbrev pub order_of : ℕ → List KeyOf → OrderOf
order_of loader keys = record { loader = loader; keys = keys }

-- an order as it was cut: what it asks, and the identity of the loader that cut it
pub record CutOf : Type 0 where
  pub loader : ℕ
  pub keys : List KeyOf
  pub identity : ℕ

abbrev pub cut_of : ℕ → ℕ → List KeyOf → CutOf
cut_of identity loader keys = record { loader = loader; keys = keys; identity = identity }

-- gives what an order asks, whichever loader cut it
abbrev pub asks : CutOf → OrderOf
asks order = order_of order.loader order.keys

-- an order of each batch, all of which bear the identity of the loader that cuts them, and its number
abbrev pub orders_of : ℕ → ℕ → Option ℕ → List KeyOf → List CutOf
orders_of identity loader limit keys = map (cut_of identity loader) (batches limit keys)

-- which loaders these are
abbrev pub identities : {S : Type 0} → List (LoaderOf S) → List ℕ
identities loaders = map (λ l. l.identity) loaders

-- the loader of the order's number is the one that cut it
abbrev pub IsCutBy : {S : Type 0} → List (LoaderOf S) → CutOf → Type 0
IsCutBy loaders order = slice_get (identities loaders) order.loader ≡ Some order.identity

-- says the same of each of these orders
abbrev pub AreCutBy : {S : Type 0} → List (LoaderOf S) → List CutOf → Type 0
AreCutBy loaders orders = All (IsCutBy loaders) orders
