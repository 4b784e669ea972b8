-- Definitions of what answers an array of requests of a client: its answers in brackets, of which those of plans are given over the one
-- session.
use Rattle.std.specs.Prelude.{◌≡◌, ℕ, List, [], ◌∷◌, ◌++◌, map, option_map, Option, Some, None, codes, String, string_bytes}
use Rattle.std.specs.List.{All, AllZip, join_by}
use Rattle.std.specs.declared.alloc.Global.{Global}
use Rattle.load_memory.specs.Keys.{KeyOf}
use Rattle.load_queue.specs.Answers.{AnswerOf}
use Rattle.gq_check.specs.Plans.{PlanOf}
use Rattle.gq_check.specs.Planned.{IsPlan}
use Rattle.load_rounds.specs.declared.answer.Answer.{Answer}
use Rattle.load_rounds.specs.Headline.{StopsAnswering}
use Rattle.load_rounds.specs.Sessions.{SessionOf, state_of}
use Rattle.load_rounds.specs.SharedRounds.{ReportOf, together, greatest}
use Rattle.request_line.specs.Requests.{RequestOf}
use Rattle.plan_requests.specs.Servers.{ServerOf}
use Rattle.plan_requests.specs.Planning.{IsRefused, HasPlan, PlanValues}
use Rattle.server.specs.Clients.{ClientOf}
use Rattle.server.specs.Overruns.{AreGiven, loads_given}
use Rattle.server.specs.Plans.{requests_within}

-- says what stands in the place of a value: its refusal, or what was given to its plan
pub data PlaceOf : Type 0 where
  refused : List ℕ → PlaceOf
  answered : PlanOf → ReportOf → PlaceOf

-- says what stands in the place of a value is its own
abbrev pub IsInPlace : ServerOf → Option RequestOf → PlaceOf → Type 0
IsInPlace s value (refused text) = IsRefused s value text
IsInPlace s value (answered plan report) = HasPlan s value plan

abbrev pub text_in : PlaceOf → List ℕ
text_in (refused text) = text
text_in (answered plan report) = report.text

-- the plans that were answered, in order
abbrev pub plans_in : List PlaceOf → List PlanOf
plans_in [] = []
plans_in (refused text ∷ places) = plans_in places
plans_in (answered plan report ∷ places) = plan ∷ plans_in places

-- and their answers
abbrev pub reports_in : List PlaceOf → List ReportOf
reports_in [] = []
reports_in (refused text ∷ places) = reports_in places
reports_in (answered plan report ∷ places) = report ∷ reports_in places

-- the refusals, and in the other places these texts, in order
abbrev pub in_places : List (Option (List ℕ)) → List (List ℕ) → List (List ℕ)
in_places [] texts = []
in_places (Some refusal ∷ refusals) texts = refusal ∷ in_places refusals texts
in_places (None ∷ refusals) [] = in_places refusals []
in_places (None ∷ refusals) (text ∷ texts) = text ∷ in_places refusals texts

-- the texts of an array: its refusals, and in the other places these answers, in order
abbrev pub texts_of : List (Option (String Global)) → List Answer → List (List ℕ)
texts_of refusals answers = in_places (map (option_map string_bytes) refusals)
    (map (λ (a : Answer). string_bytes a.text) answers)

-- texts in brackets, with commas between them
abbrev pub array_text : List (List ℕ) → List ℕ
array_text texts = codes "[" ++ join_by (λ text. text) (codes ",") texts ++ codes "]"

module _ {S : Type 0} (may : S → List KeyOf → AnswerOf → Type 0) where
  -- The array of these values is answered: each value in its place. Its plans are of valid documents, and were all answered in the session
  -- that was given, with the headline of several requests and within the client's limits; or together they are over one, and each is refused.
  -- It took as many rounds as the answer with the most, and read the loads of all of them.
  pub record AnswersArray (c : ClientOf S) (values : List (Option RequestOf)) (report : ReportOf)
      (new : SessionOf S) : Type 0 where
    pub places : List PlaceOf
    pub each : AllZip (IsInPlace c.server) values places
    pub text : report.text ≡ array_text (map text_in places)
    pub rounds : report.rounds ≡ greatest (reports_in places)
    pub valid : All IsPlan (plans_in places)
    pub given : AreGiven may c.limits (state_of c.session) (state_of new)
        (requests_within c.most (plans_in places)) (reports_in places)
    pub loads : report.loads ≡ loads_given may c.limits (state_of c.session) (state_of new) given

  -- Memory ran out: the session is as it was, or the finished rounds of the plans stay, and perhaps one more was lost.
  pub data StopsArray (c : ClientOf S) (values : List (Option RequestOf))
      (new : SessionOf S) : Type 0 where
    unplanned : new ≡ c.session → StopsArray c values new
    stopped : (refusals : List (Option (List ℕ))) (plans : List PlanOf)
        → PlanValues c.server values refusals plans
        → StopsAnswering may (state_of c.session) (state_of new)
        (together (requests_within c.most plans)) → StopsArray c values new
