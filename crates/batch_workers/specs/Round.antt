-- Definitions of what a round of orders gives.
use Rattle.std.specs.Prelude.{List, [], ◌∷◌, IsPermutation, ⊤}
use Rattle.load_memory.specs.Keys.{KeyOf}
use Rattle.load_memory.specs.Shelves.{IsOn, shown}
use Rattle.load_memory.specs.declared.shelf.Shelf.{Shelf}
use Rattle.load_memory.specs.declared.shelf.Receipt.{Receipt}
use Rattle.load_queue.specs.Answers.{AnswerOf}
use Rattle.load_queue.specs.Orders.{CutOf, asks}
use Rattle.load_queue.specs.Runs.{IsReplyTo}
use Rattle.load_queue.specs.Loaders.{LoaderOf}

module _ {S : Type 0} (may : S → List KeyOf → AnswerOf → Type 0)
    (loaders : List (LoaderOf S)) (shelf : Shelf) where
  -- the receipt shows, on this shelf, a reply to the order
  abbrev pub Shows : CutOf → Receipt → Type 0
  Shows order receipt = IsOn shelf receipt × IsReplyTo may loaders (asks order) (shown receipt)

  -- in order, one for each
  abbrev pub EachShown : List CutOf → List Receipt → Type 0
  EachShown [] [] = ⊤
  EachShown [] (r ∷ rs) = ⊥
  EachShown (o ∷ os) [] = ⊥
  EachShown (o ∷ os) (r ∷ rs) = Shows o r × EachShown os rs

  -- the receipts show, one per order and in some order, replies to all orders
  pub record AllAnswered (orders : List CutOf) (receipts : List Receipt) : Type 0 where
    pub taken : List CutOf
    pub each_once : IsPermutation orders taken
    pub fit : EachShown taken receipts
