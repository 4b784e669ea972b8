-- A line is answered in a session that has started again.
use Rattle.std.proofs.Common.{◌≡◌, ◌∙◌, ℕ, List, refl, sym, ap, subst, inl, inr}
use Rattle.load_memory.specs.Keys.{KeyOf}
use Rattle.load_queue.specs.Answers.{AnswerOf}
use Rattle.load_rounds.specs.SharedRounds.{ReportOf}
use Rattle.server.specs.Clients.{ClientOf, IsSameClient, begun}
use Rattle.server.specs.Lines.{AnswersText, ServesLine, StopsLine, StopsText}

module _ {S : Type 0} (may : S → List KeyOf → AnswerOf → Type 0) (c mid later : ClientOf S) (line : List ℕ) (starts : mid ≡ begun c) (same : IsSameClient mid later) where
  same-client : IsSameClient c later
  same-client = record {
    server = same.server ∙ ap (λ (x : ClientOf S). x.server) starts;
    most = same.most ∙ ap (λ (x : ClientOf S). x.most) starts;
    limits = same.limits ∙ ap (λ (x : ClientOf S). x.limits) starts;
  }

  pub serves-line : (report : ReportOf) → AnswersText may mid line report later.session → ServesLine may c line report later
  serves-line report h = record {
    same = same-client;
    answers = subst (λ (x : ClientOf S). AnswersText may x line report later.session) starts h;
  }

  -- memory ran out at it
  pub stops-line : StopsText may mid line later.session → StopsLine may c line later
  stops-line h = record { same = same-client; stops = inr (subst (λ (x : ClientOf S). StopsText may x line later.session) starts h) }

-- memory ran out before the session started again
pub unstarted-line : {S : Type 0} (may : S → List KeyOf → AnswerOf → Type 0) (c later : ClientOf S) (line : List ℕ) → later ≡ c → StopsLine may c line later
unstarted-line {S} may c later line is =
    subst (λ (x : ClientOf S). StopsLine may c line x) (sym is) (record { same = record { server = refl; most = refl; limits = refl }; stops = inl refl })
