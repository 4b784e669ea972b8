-- What a host asks, from its texts.
use Rattle.std.specs.Prelude.{Option}
use Rattle.serde_json.specs.Data.{Data}
use Rattle.request_line.specs.Seen.{request_of}
use Rattle.request_line.specs.declared.request.Request.{Request}
use Rattle.host_clients.specs.Asked.{HostAsked, PartsOf, line, request, AreVariables, IsRequestOf}
use Rattle.host_clients.specs.declared.asked.FlatAsked.{FlatAsked}
use Rattle.host_clients.specs.declared.asked.FlatAsked.TheVariants as asked
use Rattle.host_clients.specs.declared.asked.FlatRequest.{FlatRequest}

abbrev pub flat_parts : FlatRequest → PartsOf
flat_parts r = record {
  query = r.query.now;
  operation_name = r.operation_name.now;
  variables = r.variables.now;
}

abbrev pub asked_in : FlatAsked → HostAsked
asked_in (asked.Line bytes) = line bytes.now
asked_in (asked.Request r) = request (flat_parts r)

-- the request is that of these texts, if those are its variables
abbrev pub IsRequestWith : PartsOf → Option Data → Request → Type 0
IsRequestWith parts found r = AreVariables parts.variables found → IsRequestOf parts (request_of r)
