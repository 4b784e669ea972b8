use denote.Param.Send.{IsSend}
use Rattle.foreign_handles.proofs.Crossing.{owned_keyless}
use Rattle.host_clients.specs.contracts.object.Object as object
use Rattle.host_clients.proofs.Crossing.{object_send}
use Rattle.rudzkvano_c.specs.contracts.handle.Handle.{the_row}

pub send : IsSend the_row
send = record { owned = λ d vs. owned_keyless object.the_row object_send d.at d.held vs; leaving = λ k d w. tt }
