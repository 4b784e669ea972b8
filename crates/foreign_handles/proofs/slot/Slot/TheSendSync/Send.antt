use denote.Param.Send.{IsSend}
use denote.RattleType.{RattleType}
use Rattle.foreign_handles.proofs.Crossing.{owned_keyless}
use Rattle.foreign_handles.specs.contracts.slot.Slot.{the_row}

pub send : (T : RattleType) → IsSend T → IsSend (the_row T)
send T s = record { owned = λ d vs. owned_keyless T s d.at d.held vs; leaving = λ k d w. tt }
