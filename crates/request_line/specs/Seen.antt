-- Definitions of what is seen of a request, and of what is read of a line.
use Rattle.std.specs.Prelude.{ℕ, List, map, Option, option_map}
use Rattle.serde_json.specs.View.{view}
use Rattle.request_line.specs.declared.request.Request.{Request}
use Rattle.request_line.specs.declared.line.Line.{Line}
use Rattle.request_line.specs.declared.line.Line.TheVariants as line
use Rattle.request_line.specs.Requests.{RequestOf, IsRequest, AreRequests, IsNoRequest}

abbrev pub request_of : Request → RequestOf
request_of r = record {
  query = r.query.now;
  operation_name = option_map (λ s. s.now) r.operation_name;
  variables = option_map (λ v. view v.now) r.variables;
}

abbrev pub requests_of : List (Option Request) → List (Option RequestOf)
requests_of rs = map (option_map request_of) rs

-- the line is just what was read of it: one request, several, or none
abbrev pub IsReading : List ℕ → Line → Type 0
IsReading text (line.One r) = IsRequest text (request_of r)
IsReading text (line.Several rs) = AreRequests text (requests_of rs.items)
IsReading text line.NoRequest = IsNoRequest text
