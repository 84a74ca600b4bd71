use Rattle.raft_log.proofs.laws.a_stored_state_is_storable.Goals as goal

pub returns : goal.returns
returns c = λ image state stands. stands.stores.storable
