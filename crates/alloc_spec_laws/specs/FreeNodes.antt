-- Which node IDs a step may give to a device that asks, in words of the bus.
use Rattle.std.specs.Prelude.{◌≡◌, ◌⊎◌, ℕ, ◌-◌, ◌<◌, ◌≤◌, List, Some}
use Rattle.can_frame.specs.declared.entry.Entry.{Entry}
use Rattle.can_frame.specs.declared.identifier.Kind.TheVariants.{Message as Broadcast}
use Rattle.can_frame.specs.DataTypes.{node_status}
use Rattle.can_frame.specs.Log.{HasNodeId, blank}
use Rattle.dsdl_codec.specs.declared.node_status.NodeStatus.{NodeStatus}
use Rattle.dsdl_codec.specs.NodeStatus.{node_status_of}
use Rattle.node_discovery.specs.History.{last_status, unique_id}
use Rattle.node_discovery.specs.Watch.{history}
use Rattle.raft_model.specs.Lists.{In}
use Rattle.raft_model.specs.Server.{RaftServer}
use Rattle.raft_model.specs.Server.Role.{Leader}
use Rattle.transfer_rx.specs.Reassembly.{Delivery}
use Rattle.alloc_spec.specs.AllocatorState.{AllocatorState, members_of}

-- the last NodeStatus of the node was heard at that moment
abbrev pub WasHeardAt : AllocatorState → ℕ → ℕ → Type 0
WasHeardAt t node moment = last_status (history node t.watch) ≡ Some moment

-- a delivered transfer is a NodeStatus
pub record IsStatus (d : Delivery) : Type 0 where
  pub kind : d.ident.kind ≡ Broadcast
  pub number : d.ident.number ≡ node_status.number
  pub status : NodeStatus
  pub says : node_status_of d.payload ≡ Some status

-- the node ID is none of a member, stands in no entry of the log, and no NodeStatus of it was heard within 3,000 ms
pub record IsFreeToGive (t : AllocatorState) (now node : ℕ) : Type 0 where
  pub least : 1 ≤ node
  pub most : node ≤ 125
  pub no_member : In node (members_of t) → ⊥
  pub not_recorded : HasNodeId t.raft_server.store.log node → ⊥
  pub not_heard : (moment : ℕ) → WasHeardAt t node moment → 3000 < now - moment

-- the node is a member, stands in the log, or told its unique ID since it is online
abbrev pub IsIdentified : AllocatorState → ℕ → Type 0
IsIdentified t node = In node (members_of t)
    ⊎ (HasNodeId t.raft_server.store.log node ⊎ ((uid : List ℕ) × (unique_id (history node t.watch) ≡ Some uid)))

-- each node of which a NodeStatus was heard within 3,000 ms is identified
abbrev pub AllAreIdentified : AllocatorState → ℕ → Type 0
AllAreIdentified t now = (node moment : ℕ) → 1 ≤ node → node ≤ 125 → WasHeardAt t node moment → now - moment ≤ 3000
    → IsIdentified t node

-- a leader's blank, which gives no node ID to anyone
pub record IsBlankOf (server : RaftServer) (entry : Entry) : Type 0 where
  pub leads : server.memory.role ≡ Leader
  pub is : entry ≡ blank server.store.term

-- any other entry that a step records when it takes a frame: its node ID is free at that moment, and all are identified
pub record GivesFreeNode (t : AllocatorState) (now : ℕ) (entry : Entry) : Type 0 where
  pub free : IsFreeToGive t now entry.node
  pub identified : AllAreIdentified t now
