use Rattle.kv_store.specs.StoreViews.{store_map}
use Rattle.raft_log.specs.DurableViews.{durable_state}
use Rattle.raft_log.proofs.States.{image_stands}
use Rattle.raft_log.proofs.laws.a_state_is_durable.Goals as goal

pub returns : goal.returns
returns g c = λ durable works told image left.
    image_stands image (store_map durable.store) (durable_state durable) (c.a_store_is_durable.ensures durable.store works told image left) (durable.stored works)
