-- Definitions of what a host asks: a request line, or a request by its parts; and what that asks of a server.
use Rattle.std.specs.Prelude.{ℕ, ◌≡◌, List, [], ◌∷◌, Option, None, Some, IsUtf8, MatchOption}
use Rattle.serde_json.specs.Data.{Data}
use Rattle.load_memory.specs.Keys.{KeyOf}
use Rattle.load_queue.specs.Answers.{AnswerOf}
use Rattle.load_rounds.specs.Sessions.{SessionOf}
use Rattle.load_rounds.specs.SharedRounds.{ReportOf}
use Rattle.request_line.specs.Requests.{RequestOf, IsValue}
use Rattle.plan_requests.specs.Servers.{ServerOf}
use Rattle.server.specs.Clients.{ClientOf}
use Rattle.server.specs.Planned.{AskedOf, one, PlannedOf, PlansFor, AnswersAsked, text as as_text}

-- the texts of a query, of the name of its operation and of its variables
pub record PartsOf : Type 0 where
  pub query : List ℕ
  pub operation_name : List ℕ
  pub variables : List ℕ

pub data HostAsked : Type 0 where
  line : List ℕ → HostAsked
  request : PartsOf → HostAsked

-- a request by these texts
abbrev pub parts_asked : List ℕ → List ℕ → List ℕ → HostAsked
parts_asked query operation_name variables =
    request (record { query = query; operation_name = operation_name; variables = variables })

-- ---- a request by its parts

-- an empty name is none
abbrev pub name_in : List ℕ → Option (List ℕ)
name_in [] = None
name_in (b ∷ bs) = Some (b ∷ bs)

-- an empty text is no variables; another is the JSON text of a value. Whether variables may be that value is the plan's affair.
abbrev pub AreVariables : List ℕ → Option Data → Type 0
AreVariables [] found = found ≡ None
AreVariables (b ∷ bs) found = MatchOption found ⊥ (IsValue (b ∷ bs))

-- the parts are those of this request
pub record IsRequestOf (parts : PartsOf) (r : RequestOf) : Type 0 where
  pub query_text : IsUtf8 parts.query
  pub name_text : IsUtf8 parts.operation_name
  pub query_is : r.query ≡ parts.query
  pub name_is : r.operation_name ≡ name_in parts.operation_name
  pub variables_are : AreVariables parts.variables r.variables

abbrev pub IsOfNoRequest : PartsOf → Type 0
IsOfNoRequest parts = (r : RequestOf) → IsRequestOf parts r → ⊥

-- ---- what is asked of a server

-- parts of no request ask what the empty text asks, which is no request
pub data ArePartsOf (parts : PartsOf) (asked : AskedOf) : Type 0 where
  of_request : {r : RequestOf} → IsRequestOf parts r → asked ≡ one r → ArePartsOf parts asked
  of_none : IsOfNoRequest parts → asked ≡ as_text [] → ArePartsOf parts asked

abbrev pub Asks : HostAsked → AskedOf → Type 0
Asks (line bytes) asked = asked ≡ as_text bytes
Asks (request parts) asked = ArePartsOf parts asked

-- says what a host asks of a server is planned, within a limit of the answer's bytes, as `server` says it
pub record PlansHost (s : ServerOf) (most : Option ℕ) (host : HostAsked)
    (planned : PlannedOf) : Type 0 where
  pub asked : AskedOf
  pub asks : Asks host asked
  pub plans : PlansFor s most asked planned

-- says what a host asks of a client is answered in its session, as `server` says it
pub record AnswersHost {S : Type 0} (may : S → List KeyOf → AnswerOf → Type 0) (c : ClientOf S)
    (host : HostAsked) (report : ReportOf) (later : SessionOf S) : Type 0 where
  pub asked : AskedOf
  pub asks : Asks host asked
  pub answers : AnswersAsked may c asked report later
