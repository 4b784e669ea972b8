-- Definitions of what answers a request that is text, and the lines of an input.
use Rattle.std.specs.Prelude.{◌≡◌, ◌⊎◌, ℕ, List, Option}
use Rattle.load_memory.specs.Keys.{KeyOf}
use Rattle.load_queue.specs.Answers.{AnswerOf}
use Rattle.load_rounds.specs.Sessions.{SessionOf}
use Rattle.load_rounds.specs.SharedRounds.{ReportOf}
use Rattle.server_lines.specs.Answering.{AnsweringOf, at_memory}
use Rattle.request_line.specs.Requests.{RequestOf, IsRequest, AreRequests, IsNoRequest}
use Rattle.plan_requests.specs.Planning.{not_a_request}
use Rattle.server.specs.Clients.{ClientOf, IsSameClient, begun}
use Rattle.server.specs.Answers.{unasked, AnswersRequest, StopsRequest}
use Rattle.server.specs.Arrays.{AnswersArray, StopsArray}

-- From a state of a client a line is given a text, for which rounds were made and loads read, and leaves a state; or memory runs out at it.
pub record ReportingOf (S : Type 0) : Type 1 where
  pub gives : ClientOf S → List ℕ → ReportOf → ClientOf S → Type 0
  pub stops : ClientOf S → List ℕ → ClientOf S → Type 0

-- the same, with the text alone
abbrev pub with_text : {S : Type 0} → ReportingOf S → AnsweringOf (ClientOf S)
with_text R = record {
  gives = λ c line text later. (report : ReportOf) × (report.text ≡ text)
      × R.gives c line report later;
  stops = at_memory R.stops;
}

module _ {S : Type 0} (may : S → List KeyOf → AnswerOf → Type 0) where
  -- a text is answered in the client's session: it is no request, or one, or several
  pub data AnswersText (c : ClientOf S) (text : List ℕ) (report : ReportOf)
      (new : SessionOf S) : Type 0 where
    no_request : IsNoRequest text → report ≡ unasked not_a_request
        → new ≡ c.session → AnswersText c text report new
    request : {r : RequestOf} → IsRequest text r
        → AnswersRequest may c r report new → AnswersText c text report new
    several : {values : List (Option RequestOf)} → AreRequests text values
        → AnswersArray may c values report new → AnswersText c text report new

  -- memory ran out at it
  pub data StopsText (c : ClientOf S) (text : List ℕ) (new : SessionOf S) : Type 0 where
    unread : new ≡ c.session → StopsText c text new
    request : {r : RequestOf} → IsRequest text r → StopsRequest may c r new → StopsText c text new
    several : {values : List (Option RequestOf)} → AreRequests text values
        → StopsArray may c values new → StopsText c text new

  -- A line is served: the client's session starts again, so that the line sees nothing of what an earlier one loaded, and then the line is
  -- answered in it. So the loaders were asked exactly the batches of that answer's log, and nothing else.
  pub record ServesLine (c : ClientOf S) (line : List ℕ) (report : ReportOf)
      (later : ClientOf S) : Type 0 where
    pub same : IsSameClient c later
    pub answers : AnswersText (begun c) line report later.session

  -- Memory ran out at the line: the session is as it was, or it started again, and then stopped.
  pub record StopsLine (c : ClientOf S) (line : List ℕ) (later : ClientOf S) : Type 0 where
    pub same : IsSameClient c later
    pub stops : (later.session ≡ c.session) ⊎ StopsText (begun c) line later.session

  -- gives how lines are served, from one state of the client to the next
  abbrev pub reporting : ReportingOf S
  reporting = record { gives = ServesLine; stops = StopsLine }

  -- with their texts alone
  abbrev pub serving : AnsweringOf (ClientOf S)
  serving = with_text reporting
