-- Definitions of what a trace tells of a lawful log.
use Rattle.std.specs.Prelude.{◌≡◌, ℕ, List, [], length, map, slice_get}
use Rattle.std.specs.Option.{option_map_or}
use Rattle.load_memory.specs.Keys.{KeyOf}
use Rattle.load_memory.specs.Replies.{ReplyOf}
use Rattle.load_queue.specs.Answers.{AnswerOf}
use Rattle.load_queue.specs.Loaders.{LoaderOf}
use Rattle.execution.specs.Program.{Program}
use Rattle.execution.specs.Rounds.{HasLoaders}
use Rattle.load_rounds.specs.Headline.{MakesRounds}
use Rattle.load_rounds.specs.Sessions.{SessionOf, StateOf, restarted, state_of}
use Rattle.load_trace.specs.Traces.{BatchOf, batch_of, rounds_of}

module _ {S : Type 0} where
  -- the name of the loader of this number
  abbrev pub name_in : List (LoaderOf S) → ℕ → List ℕ
  name_in loaders n = option_map_or (λ l. l.name) (slice_get loaders n) []

  -- the batch that was answered by this reply
  abbrev pub answered_batch : List (LoaderOf S) → ReplyOf → BatchOf
  answered_batch loaders reply = batch_of (name_in loaders reply.loader) reply.keys

  -- the batches that were answered in each round of a log
  abbrev pub answered_rounds : List (LoaderOf S) → List (List ReplyOf) → List (List BatchOf)
  answered_rounds loaders log = map (map (answered_batch loaders)) log

  -- A session that starts again and makes the rounds of a log for a program has a trace of these
  -- rounds and nothing else.
  abbrev pub TellsLog : (S → List KeyOf → AnswerOf → Type 0)
      → SessionOf S → StateOf S → Program → List (List ReplyOf) → Type 0
  TellsLog may session new p log = HasLoaders (length session.loaders) p
      → MakesRounds may (state_of (restarted session)) new p log
      → rounds_of new.loaders ≡ answered_rounds session.loaders log
