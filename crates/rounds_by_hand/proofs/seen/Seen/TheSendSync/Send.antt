-- It owns nothing, so it may go to another thread.
use denote.Param.Send.{IsSend, owning_send, sendable}
use denote.RattleType.{RattleType}
use Rattle.rounds_by_hand.specs.contracts.seen.Seen.{the_row, the_type}

pub send : (T : RattleType) → IsSend T → IsSend (the_row T)
send T s = owning_send (the_type T) (search sendable, tt) (λ d. tt) (λ k x w. tt)
