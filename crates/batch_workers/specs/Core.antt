-- The worker core: orders that wait, the order that each worker holds, and orders that are stored.
use Rattle.std.specs.Prelude.{◌≡◌, ℕ, List, [], ◌∷◌, ◌++◌, Option, Some, None, IsPermutation, map, if◌then◌else◌, ◌==◌}
use Rattle.load_queue.specs.Orders.{OrderOf}

pub data Event : Type 0 where
  take : ℕ → Event
  store : ℕ → Event

pub record Core : Type 0 where
  pub waiting : List OrderOf
  pub held : List (ℕ × OrderOf)
  pub stored : List OrderOf

abbrev pub core : List OrderOf → List (ℕ × OrderOf) → List OrderOf → Core
core waiting held stored = record { waiting = waiting; held = held; stored = stored }

-- gives what worker w holds
abbrev pub held_by : ℕ → List (ℕ × OrderOf) → Option OrderOf
held_by w [] = None
held_by w (h ∷ hs) = if h.0 == w then Some h.1 else held_by w hs

abbrev pub without : ℕ → List (ℕ × OrderOf) → List (ℕ × OrderOf)
without w [] = []
without w (h ∷ hs) = if h.0 == w then hs else h ∷ without w hs

abbrev pub taken_by : ℕ → Core → Option OrderOf → List OrderOf → Core
taken_by w s (Some x) waiting = s
taken_by w s None [] = s
taken_by w s None (x ∷ xs) = core xs ((w, x) ∷ s.held) s.stored

abbrev pub stored_by : ℕ → Core → Option OrderOf → Core
stored_by w s None = s
stored_by w s (Some x) = core s.waiting (without w s.held) (x ∷ s.stored)

-- an event that can't happen changes nothing
abbrev pub step : Core → Event → Core
step s (take w) = taken_by w s (held_by w s.held) s.waiting
step s (store w) = stored_by w s (held_by w s.held)

abbrev pub run : Core → List Event → Core
run s [] = s
run s (e ∷ es) = run (step s e) es

abbrev pub all_orders : Core → List OrderOf
all_orders s = s.waiting ++ (map (λ h. h.1) s.held ++ s.stored)

-- the orders waiting, held and stored are the round's, each once, and those waiting are a suffix of them
pub record IsOf (orders : List OrderOf) (s : Core) : Type 0 where
  pub each_once : IsPermutation orders (all_orders s)
  pub gone : List OrderOf
  pub suffix : orders ≡ gone ++ s.waiting

abbrev pub Conserved : Type 0
Conserved = (orders : List OrderOf) (events : List Event)
    → IsOf orders (run (core orders [] []) events)
