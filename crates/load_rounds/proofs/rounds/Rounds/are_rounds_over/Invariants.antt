use Rattle.std.proofs.Common.{◌≡◌, length, map, take, []}
use Rattle.load_queue.specs.Wanted.{nothing_wanted}
use Rattle.load_rounds.specs.Sessions.{state_of, session_modes}
use Rattle.load_rounds.specs.SharedRounds.{requests, together}
use Rattle.load_rounds.specs.Executions.{plans_in}
use Rattle.load_rounds.specs.ByHand.{front_in}
use Rattle.load_rounds.proofs.rounds.Rounds.are_rounds_over.Given as goal

abbrev pub invariant-loop-at : goal.invariant-loop-at
invariant-loop-at g l = record {
  complete : front_in (state_of l.session) (together (requests g.P.Execute.program g.P.Execute.text_of (take l.at (plans_in l.self.parts)))) ≡ [];
  wants : l.wants ≡ map nothing_wanted (session_modes (state_of l.session));
  ends : l.at-end ≡ length l.self.parts;
}
