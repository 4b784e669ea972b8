-- Definitions of what workers are started with, and what a worker's call hands back.
use Rattle.std.specs.Prelude.{◌≡◌, ◌<◌, ◌≤◌, ℕ, List, ◌++◌, Option, Result, IfOk}
use Rattle.std.specs.Global.{Vec}
use Rattle.crossbeam_queue.specs.declared.array_queue.Doing.{Doing}
use Rattle.crossbeam_queue.specs.declared.array_queue.Slotted.{Slotted}
use Rattle.crossbeam_queue.specs.Passes.{Pass, view, IsPassOf}
use Rattle.load_memory.specs.Keys.{KeyOf}
use Rattle.load_memory.specs.declared.shelf.Shelf.{Shelf}
use Rattle.load_memory.specs.declared.shelf.Receipt.{Receipt}
use Rattle.load_queue.specs.Answers.{AnswerOf}
use Rattle.load_queue.specs.Orders.{CutOf, AreCutBy}
use Rattle.load_queue.specs.Loaders.{LoaderOf}
use Rattle.std.specs.declared.alloc.AllocError.{AllocError}
use Rattle.batch_workers.specs.declared.desk.Knowledge.{Knowledge}
use Rattle.batch_workers.specs.Round.{EachShown}

-- a part for each of the workers, of which there is one or more, and each order is one that its own loader cut
abbrev pub CanShare : {S : Type 0} → List (LoaderOf S) → Knowledge → ℕ → Type 0
CanShare loaders knowledge workers = (0 < workers)
    × (workers ≤ knowledge.parts) × AreCutBy loaders knowledge.all

-- more orders were taken, and at Ok the receipts show replies to these, in order
pub record Worked {S : Type 0} (may : S → List KeyOf → AnswerOf → Type 0)
    (loaders : List (LoaderOf S)) (shelf : Shelf) (old new : Knowledge)
    (result : Result (Vec Receipt) AllocError) : Type 0 where
  pub parts : new.parts ≡ old.parts
  pub all : new.all ≡ old.all
  pub more : List CutOf
  pub taken : new.taken ≡ old.taken ++ more
  pub fit : IfOk result (λ v. EachShown may loaders shelf more v.items)

-- says the same of the pass of a worker, which is one of this queue still
abbrev pub WorkedAt : {S T Q A : Type 0} → (S → List KeyOf → AnswerOf → Type 0) → List (LoaderOf S)
    → Shelf → Slotted (Option T) (Doing T Knowledge) Q A → Pass T Knowledge
    → Pass T Knowledge → Result (Vec Receipt) AllocError → Type 0
WorkedAt may loaders shelf queue old new result = IsPassOf queue new
    × Worked may loaders shelf (view old) (view new) result
