-- Lemmas on what a host asks, planned.
use Rattle.std.proofs.Common.{◌≡◌, ℕ, refl, Ok, Err, Some, None, ap, sym}
use Rattle.std.specs.Prelude.{Result, IfOk, Option, option_map}
use Rattle.std.specs.Option.{option_copied}
use Rattle.std.specs.Borrow.{Bor}
use Rattle.serde_json.specs.View.{view}
use Rattle.serde_json.specs.declared.value.Value.{Value}
use Rattle.request_line.specs.Requests.{RequestOf}
use Rattle.plan_requests.specs.Servers.{ServerOf}
use Rattle.server.specs.Planned.{PlannedOf, PlansFor, one}
use Rattle.host_clients.specs.Asked.{PartsOf, IsRequestOf, PlansHost, request, of_request}

-- says what may have been planned for a request by its parts
pub request-planned : {E : Type 0} (s : ServerOf) (most : Option ℕ) (r : Result PlannedOf E) (parts : PartsOf) (q : RequestOf) → IsRequestOf parts q → IfOk r (PlansFor s most (one q))
    → IfOk r (PlansHost s most (request parts))
request-planned s most (Ok planned) parts q is plans = record { asked = one q; asks = of_request is refl; plans = plans }
request-planned s most (Err e) parts q is plans = tt

-- variables that are lent are those that were read
pub seen-copied : (lent : Option (Bor Value)) (own : Option Value) → option_copied lent ≡ own → option_map view own ≡ option_map (λ (v : Bor Value). view v.now) lent
seen-copied None own is = ap (option_map view) (sym is)
seen-copied (Some v) own is = ap (option_map view) (sym is)
