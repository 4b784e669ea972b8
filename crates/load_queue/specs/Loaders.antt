-- Definitions of what contracts see of a loader and of the entries of its log.
use Rattle.std.specs.Prelude.{◌≡◌, ◌==◌, ◌<◌, ◌⊎◌, ◌+◌, ◌++◌, ℕ, Bool, true, false, List, [], ◌∷◌, Option, Some, None, map, length, if◌then◌else◌}
use Rattle.load_memory.specs.Keys.{KeyOf}
use Rattle.load_memory.specs.declared.key.KeyMode.{KeyMode}
use Rattle.load_queue.specs.Batches.{batches}

-- says what was asked together in a round, and whether its outcomes were stored
pub record AskedOf : Type 0 where
  pub round : ℕ
  pub keys : List KeyOf
  pub stored : Bool

-- the entry of an order that is out
abbrev pub entered : ℕ → List KeyOf → AskedOf
entered round keys = record { round = round; keys = keys; stored = false }

pub record LoaderOf (S : Type 0) : Type 0 where
  pub name : List ℕ
  pub source : S
  pub mode : KeyMode
  pub limit : Option ℕ
  pub log : List AskedOf
  -- says how many orders were ever made of it, which nothing resets
  pub orders : ℕ
  -- says which loader it is: no call changes it, and no clause says that of two loaders it is the same
  pub identity : ℕ

-- the loader that is made of these: nothing was asked of it
abbrev pub made_of : {S : Type 0} → ℕ → List ℕ → S → KeyMode → Option ℕ → LoaderOf S
made_of identity name source mode limit = record {
  name = name;
  source = source;
  mode = mode;
  limit = limit;
  log = [];
  orders = 0;
  identity = identity;
}

-- the loader once these keys are asked in this round: its log has gained an entry for each batch, and each is counted
abbrev pub asked_in : {S : Type 0} → LoaderOf S → ℕ → List KeyOf → LoaderOf S
asked_in l round keys = record l {
  log = l.log ++ map (entered round) (batches l.limit keys);
  orders = l.orders + length (batches l.limit keys);
}

-- the entry, as stored if it is of this round
abbrev pub marked : ℕ → AskedOf → AskedOf
marked round entry = if entry.round == round then record entry { stored = true } else entry

-- the loader once the outcomes of this round are stored
abbrev pub stored_in : {S : Type 0} → LoaderOf S → ℕ → LoaderOf S
stored_in l round = record l { log = map (marked round) l.log }

-- the loader with nothing in its log
abbrev pub unasked : {S : Type 0} → LoaderOf S → LoaderOf S
unasked l = record l { log = [] }

-- the loader as it was made, whichever it is
abbrev pub as_made : {S : Type 0} → LoaderOf S → LoaderOf S
as_made l = record l { log = []; orders = 0; identity = 0 }

-- It is the same loader, and every order that it cut in between stands in its log: the count of its orders, which nothing resets, grew by
-- as many as the log did.
pub record IsOnRecord {S : Type 0} (old new : LoaderOf S) : Type 0 where
  pub same : new.identity ≡ old.identity
  pub made : ℕ
  pub orders : new.orders ≡ old.orders + made
  pub entries : length new.log ≡ length old.log + made

-- says the same of each loader of a list
abbrev pub AreOnRecord : {S : Type 0} → List (LoaderOf S) → List (LoaderOf S) → Type 0
AreOnRecord [] [] = Unit {0}
AreOnRecord [] (new ∷ later) = ⊥
AreOnRecord (old ∷ before) [] = ⊥
AreOnRecord (old ∷ before) (new ∷ later) = IsOnRecord old new × AreOnRecord before later

-- a limit that no loader may have
abbrev pub IsBadLimit : Option ℕ → Type 0
IsBadLimit None = ⊥
IsBadLimit (Some n) = (n ≡ 0) ⊎ (65535 < n)
