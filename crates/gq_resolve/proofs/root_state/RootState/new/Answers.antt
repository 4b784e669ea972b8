use Rattle.gq_resolve.proofs.root_state.RootState.new.Goals as goal

pub returns : goal.returns
returns c = λ m. record { stopped = tt; ahead = tt; count = tt }
