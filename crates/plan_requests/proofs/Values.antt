-- Lemmas on what the values of an array ask, one by one.
use Rattle.std.proofs.Common.{◌≡◌, ◌<◌, ℕ, zero, suc, List, [], ◌∷◌, ◌++◌, map, length, get_or, take, Option, Some, None, All, sym, ap, arith}
use Rattle.std.proofs.lemmas.List.Elements.{All-nil, All-cons}
use Rattle.gq_check.specs.Planned.{IsPlan}
use Rattle.gq_check.specs.Plans.{PlanOf}
use Rattle.request_line.specs.Requests.{RequestOf}
use Rattle.plan_requests.specs.Planning.{IsRefused, HasPlan, PlanValues}
use Rattle.plan_requests.specs.Servers.{ServerOf}
use Rattle.plan_requests.proofs.Requests.{planned-valid}

-- ---- one value more

module _ (s : ServerOf) (value : Option RequestOf) where
  pub refused-more : (values : List (Option RequestOf)) (refusals : List (Option (List ℕ))) (plans : List PlanOf) (text : List ℕ) → PlanValues s values refusals plans → IsRefused s value text
      → PlanValues s (values ++ value ∷ []) (refusals ++ Some text ∷ []) plans
  refused-more [] [] [] text h k = (k, tt)
  refused-more [] [] (p ∷ ps) text h k = absurd h
  refused-more [] (r ∷ rs) ps text h k = absurd h
  refused-more (v ∷ vs) [] ps text h k = absurd h
  refused-more (v ∷ vs) (Some t ∷ rs) ps text h k = (h.0, refused-more vs rs ps text h.1 k)
  refused-more (v ∷ vs) (None ∷ rs) [] text h k = absurd h
  refused-more (v ∷ vs) (None ∷ rs) (p ∷ ps) text h k = (h.0, refused-more vs rs ps text h.1 k)

  pub planned-more : (values : List (Option RequestOf)) (refusals : List (Option (List ℕ))) (plans : List PlanOf) (plan : PlanOf) → PlanValues s values refusals plans → HasPlan s value plan
      → PlanValues s (values ++ value ∷ []) (refusals ++ None ∷ []) (plans ++ plan ∷ [])
  planned-more [] [] [] plan h k = (k, tt)
  planned-more [] [] (p ∷ ps) plan h k = absurd h
  planned-more [] (r ∷ rs) ps plan h k = absurd h
  planned-more (v ∷ vs) [] ps plan h k = absurd h
  planned-more (v ∷ vs) (Some t ∷ rs) ps plan h k = (h.0, planned-more vs rs ps plan h.1 k)
  planned-more (v ∷ vs) (None ∷ rs) [] plan h k = absurd h
  planned-more (v ∷ vs) (None ∷ rs) (p ∷ ps) plan h k = (h.0, planned-more vs rs ps plan h.1 k)

-- one of the seen more
pub taken-more : {X Y : Type 0} (f : X → Y) (xs : List X) (i : ℕ) (x : X) → i < length xs → x ≡ get_or xs i x → take (suc i) (map f xs) ≡ take i (map f xs) ++ f x ∷ []
taken-more f [] i x lt is = absurd (omega arith)
taken-more f (y ∷ ys) zero x lt is = ap (λ z. f z ∷ []) (sym is)
taken-more f (y ∷ ys) (suc i) x lt is = ap (λ zs. f y ∷ zs) (taken-more f ys i x (omega (arith, lt)) is)

-- ---- the plans are over the server's bindings, and of valid documents

module _ (s : ServerOf) where
  plan-bound : (value : Option RequestOf) (p : PlanOf) → HasPlan s value p → p.bindings ≡ s.bindings
  plan-bound None p h = absurd h
  plan-bound (Some r) p h = h.bindings

  plan-valid : (value : Option RequestOf) (p : PlanOf) → HasPlan s value p → IsPlan p
  plan-valid None p h = absurd h
  plan-valid (Some r) p h = planned-valid s r p h

  module _ (P : PlanOf → Type 0) (each : (value : Option RequestOf) (p : PlanOf) → HasPlan s value p → P p) where
    pub plans-all : (values : List (Option RequestOf)) (refusals : List (Option (List ℕ))) (plans : List PlanOf) → PlanValues s values refusals plans → All P plans
    plans-all [] [] [] h = All-nil P
    plans-all [] [] (p ∷ ps) h = absurd h
    plans-all [] (r ∷ rs) ps h = absurd h
    plans-all (v ∷ vs) [] ps h = absurd h
    plans-all (v ∷ vs) (Some t ∷ rs) ps h = plans-all vs rs ps h.1
    plans-all (v ∷ vs) (None ∷ rs) [] h = absurd h
    plans-all (v ∷ vs) (None ∷ rs) (p ∷ ps) h = All-cons P p ps (each v p h.0) (plans-all vs rs ps h.1)

  pub plans-bound : (values : List (Option RequestOf)) (refusals : List (Option (List ℕ))) (plans : List PlanOf) → PlanValues s values refusals plans → All (λ (p : PlanOf). p.bindings ≡ s.bindings) plans
  plans-bound values refusals plans h = plans-all (λ (p : PlanOf). p.bindings ≡ s.bindings) plan-bound values refusals plans h

  pub plans-valid : (values : List (Option RequestOf)) (refusals : List (Option (List ℕ))) (plans : List PlanOf) → PlanValues s values refusals plans → All IsPlan plans
  plans-valid values refusals plans h = plans-all IsPlan plan-valid values refusals plans h
