-- The values of an array over a world: the texts of direct execution in their places.
use Rattle.std.proofs.Common.{◌≡◌, ◌∙◌, ℕ, List, [], ◌∷◌, map, Option, All, sym, ap, subst}
use Rattle.std.specs.List.{AllZip}
use Rattle.csv_source.specs.Tables.{SourceOf}
use Rattle.gq_check.specs.Planned.{IsPlan}
use Rattle.gq_check.specs.Plans.{PlanOf}
use Rattle.load_rounds.specs.Sessions.{StateOf}
use Rattle.load_rounds.specs.SharedRounds.{ReportOf}
use Rattle.request_line.specs.Requests.{RequestOf}
use Rattle.plan_requests.specs.Planning.{PlanValues}
use Rattle.server.specs.Arrays as server
use Rattle.server.specs.Arrays.{PlaceOf, refused, answered, plans_in, reports_in, in_places, array_text}
use Rattle.plan_requests.proofs.Values.{plans-valid}
use Rattle.server.proofs.Values.{filled, given-many}
use Rattle.load_rounds.specs.Sessions.{state_of}
use Rattle.world_answers.specs.Answers.{may_tell, IsDirectText}
use Rattle.world_answers.specs.Arrays.{IsInPlace, AnswersTogether, AnswersArray}
use Rattle.world_answers.specs.Services.{ServiceOf, server_in, limits_in}
use Rattle.world_answers.proofs.Together.{direct-each}

module _ (s : ServiceOf) where
  -- each value in its place, with the text of direct execution
  pub places-direct : (all : List PlanOf) (values : List (Option RequestOf)) (places : List PlaceOf) → AllZip (server.IsInPlace (server_in s)) values places
      → AllZip (λ (p : PlanOf) (t : ReportOf). IsDirectText s all p t.text) (plans_in places) (reports_in places) → AllZip (IsInPlace s all) values places
  places-direct all [] [] h d = tt
  places-direct all (v ∷ vs) (refused text ∷ ps) h d = (h.0, places-direct all vs ps h.1 d)
  places-direct all (v ∷ vs) (answered p t ∷ ps) h d = ((h.0, d.0), places-direct all vs ps h.1 d.1)
  places-direct all values places h d = absurd h

  -- what the plans were given over a session of the world stands in their places
  pub array-answered : (values : List (Option RequestOf)) (refusals : List (Option (List ℕ))) (plans : List PlanOf) (reports : List ReportOf) (after : StateOf SourceOf) (text : List ℕ)
      → PlanValues (server_in s) values refusals plans → AnswersTogether s plans after reports → text ≡ array_text (in_places refusals (map (λ (t : ReportOf). t.text) reports)) → AnswersArray s values text
  array-answered values refusals plans reports after text h shared e =
      let f = filled (server_in s) values refusals plans reports h (given-many may_tell (limits_in s) (state_of shared.begun) after s.most plans reports shared.given) in
      let together = subst (λ ps. AnswersTogether s ps after (reports_in f.places)) (sym f.plans_are) (subst (AnswersTogether s plans after) (sym f.reports_are) shared) in
      record {
        places = f.places;
        each = places-direct (plans_in f.places) values f.places f.each (direct-each s after (plans_in f.places) (reports_in f.places) together);
        report = e ∙ ap array_text (sym f.texts_are);
        valid = subst (All IsPlan) (sym f.plans_are) (plans-valid (server_in s) values refusals plans h);
        after = after;
        together = together;
      }
