-- Lemmas on what the receipts of workers are to the run whose round is out.
use Rattle.std.proofs.Common.{List, [], ◌∷◌, map}
use Rattle.std.proofs.lemmas.List.Sorted.{IsPermutation-map, IsPermutation-sym}
use Rattle.load_memory.specs.Keys.{KeyOf}
use Rattle.load_memory.specs.Shelves.{shown}
use Rattle.load_memory.specs.declared.shelf.Shelf.{Shelf}
use Rattle.load_memory.specs.declared.shelf.Receipt.{Receipt}
use Rattle.load_queue.specs.Answers.{AnswerOf}
use Rattle.load_queue.specs.Loaders.{LoaderOf}
use Rattle.load_queue.specs.Orders.{CutOf, asks}
use Rattle.execution.specs.Program.{Program}
use Rattle.execution.specs.Rounds.{may_at, AreReplies}
use Rattle.execution.proofs.StoreLaws.{reply-ran}
use Rattle.batch_workers.specs.Round.{EachShown, AllAnswered}
use Rattle.batch_workers.proofs.Orders.{in_order}
use Rattle.load_rounds.specs.Sessions.{StateOf}
use Rattle.load_rounds.specs.Calls.{RoundRan}
use Rattle.load_rounds.specs.ByHand.{front_in, AreReceived, IsRound, RunsAsked}

module _ {S : Type 0} (may : S → List KeyOf → AnswerOf → Type 0) (loaders : List (LoaderOf S)) (shelf : Shelf) where
  replies-shown : (os : List CutOf) (rs : List Receipt) → EachShown may loaders shelf os rs → AreReplies (may_at may loaders) (map asks os) (map shown rs)
  replies-shown [] [] h = tt
  replies-shown [] (r ∷ rs) h = absurd h
  replies-shown (o ∷ os) [] h = absurd h
  replies-shown (o ∷ os) (r ∷ rs) h = (reply-ran may loaders (asks o) (shown r) h.0.1, replies-shown os rs h.1)

  -- one reply to each order, in the order in which the workers took them
  pub received : (orders : List CutOf) (receipts : List Receipt) → AllAnswered may loaders shelf orders receipts → AreReceived (may_at may loaders) (map asks orders) (map shown receipts)
  received orders receipts h =
      let rs = in_order may loaders shelf orders receipts h in
      record {
        replies = map shown rs.0;
        fit = replies-shown orders rs.0 rs.2;
        moved = IsPermutation-map shown rs.0 receipts (IsPermutation-sym receipts rs.0 rs.1);
      }

-- a round that was asked, once its receipts are taken, was run
pub asked-round : {S : Type 0} (may : S → List KeyOf → AnswerOf → Type 0) (p : Program) (old mid new : StateOf S) (orders : List CutOf) → IsRound p old mid orders → RunsAsked may p mid new → RoundRan may old new (front_in old p)
asked-round may p old mid new orders is ran = ran (record { before = old; lacks = is.lacks; entered = is.entered; counted = is.counted; numbered = is.numbered })
