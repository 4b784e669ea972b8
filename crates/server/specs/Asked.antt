-- What a client is asked, as a contract sees it.
use Rattle.request_line.specs.Seen.{request_of, requests_of}
use Rattle.server.specs.declared.client.RequestInput.{RequestInput}
use Rattle.server.specs.declared.client.RequestInput.TheVariants.{One, Several, Text}
use Rattle.server.specs.Planned.{AskedOf, one, several, text as asked_text}

abbrev pub asked_of : RequestInput → AskedOf
asked_of (One request) = one (request_of request.now)
asked_of (Several values) = several (requests_of values.now)
asked_of (Text text) = asked_text text.now
