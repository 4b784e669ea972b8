-- A note owns nothing, so it may go to any thread.
use denote.Param.Send.{IsSend}
use Rattle.host_clients.specs.contracts.note.AskedNote.{the_row}

pub send : IsSend the_row
send = record { owned = λ d vs. ((λ vss. (tt, tt)), tt); leaving = λ k d w. tt }
