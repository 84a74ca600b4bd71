use Rattle.kv_store.specs.Image.{value_in}
use Rattle.raft_log.proofs.States.{damaged_once, same_state, whole_or_damaged}
use Rattle.raft_log.proofs.laws.an_image_stands_for_one_state.Goals as goal

pub returns-clause-damaged : goal.returns-clause-damaged
returns-clause-damaged c = damaged_once

pub returns-clause-either : goal.returns-clause-either
returns-clause-either c = whole_or_damaged

pub returns-clause-state : goal.returns-clause-state
returns-clause-state c = λ image a b first second. same_state (value_in image) a b first.stores second.stores
