-- What a server does when it reads its clock, in order: Discovery where it is due, NodeStatus where it is due, the tick
-- of Raft, the record of a node that told its unique ID or stays silent, a query to one that did not tell it.
use Rattle.std.specs.Prelude.{ℕ, ◌-◌, Bool, not, ◌&&◌, ◌||◌, nat_le, List, [], ◌∷◌, Option, None, Some, find, is_some, if◌then◌else◌}
use Rattle.can_frame.specs.declared.entry.Entry.{Entry}
use Rattle.can_frame.specs.declared.step.What.TheVariants.{Disc, InfoQ, Stat}
use Rattle.can_frame.specs.Timing.{status_interval}
use Rattle.can_frame.specs.Zeros.{zeros}
use Rattle.cluster_discovery.specs.Members.{is_due, Sent as SentAt}
use Rattle.dsdl_codec.specs.declared.discovery.Discovery.{Discovery}
use Rattle.dsdl_codec.specs.Discovery.{discovery_bytes}
use Rattle.dsdl_codec.specs.NodeStatus.{node_status_bytes}
use Rattle.node_discovery.specs.History.{Asked, identity, is_silent}
use Rattle.node_discovery.specs.Watch.{devices, history, next_query, of_node}
use Rattle.raft_core.specs.Handled.{moves_of_tick}
use Rattle.raft_core.specs.Taken.{proposal}
use Rattle.raft_core.specs.Times.{given_proposal, given_tick}
use Rattle.raft_model.specs.Moves.{Move}
use Rattle.raft_model.specs.Moves.Elections.{is_leader}
use Rattle.raft_model.specs.Moves.Move.{ProposeEntry}
use Rattle.alloc_spec.specs.Transfers.{has_room, id_of}
use Rattle.alloc_spec.specs.AllocatorState.{AllocatorState, is_known, is_zero, known, knows_all, may_propose, members_of, recorded_at, start_of, status_of}
use Rattle.alloc_spec.specs.StepState.{StepState, with_transfer, with_moves}

-- ---- Discovery: one that finds no room counts as sent

abbrev pub discovery_of : AllocatorState → Discovery
discovery_of t = record { size = t.size; known = record { items = members_of t } }

abbrev pub with_discovery : StepState → StepState
with_discovery g = record g { allocator = record g.allocator { heard = SentAt g.allocator.now ∷ g.allocator.heard } }

abbrev pub tells_members : ℕ → StepState → StepState
tells_members step g = with_discovery (with_transfer step Disc 0 (discovery_bytes (discovery_of g.allocator)) None g)

abbrev pub discovery_phase : ℕ → StepState → StepState
discovery_phase step g =
    if is_due (start_of g.allocator) g.allocator.heard g.allocator.now then tells_members step g else g

-- ---- NodeStatus: an interval after the last one or the opening, whether that one fitted or not

abbrev pub with_status : StepState → StepState
with_status g = record g { allocator = record g.allocator { status_at = g.allocator.now } }

abbrev pub tells_status : ℕ → StepState → StepState
tells_status step g = with_status (with_transfer step Stat 0 (node_status_bytes (status_of g.allocator)) None g)

abbrev pub status_phase : ℕ → StepState → StepState
status_phase step g =
    if nat_le status_interval (g.allocator.now - g.allocator.status_at) then tells_status step g else g

-- ---- the tick of Raft

abbrev pub election_moves : ℕ → AllocatorState → List Move
election_moves step t = moves_of_tick (members_of t) t.me step (knows_all t) t.now t.raft_server t.times

abbrev pub election_phase : ℕ → ℕ → StepState → StepState
election_phase step word g = with_moves step (given_tick g.allocator.now word) (election_moves step g.allocator) g

-- ---- the log: a leader records a pair, or keeps back a node ID

-- the origin says how it got the pair: 1 by the exchange, 2 by GetNodeInfo, 3 a reservation
abbrev pub proposes : ℕ → ℕ → List ℕ → ℕ → StepState → StepState
proposes step origin uid node g =
    with_moves step (given_proposal g.allocator.now origin)
    (ProposeEntry (proposal g.allocator.raft_server.store.term uid node) ∷ []) g

abbrev pub reserves : ℕ → ℕ → StepState → StepState
reserves step node g = proposes step 3 zeros node g

-- a node that told its unique ID, or stays silent; and that is online, and not known
abbrev pub is_candidate : AllocatorState → ℕ → Bool
is_candidate t node =
    not (is_known t node)
    && (is_some (identity (history node t.watch) t.now) || is_silent t.counting (history node t.watch) t.now)

-- the least such node
abbrev pub candidate : AllocatorState → Option ℕ
candidate t = find (is_candidate t) devices

-- a unique ID that was told, where it is some device's and does not stand in the log
abbrev pub if_new : List Entry → Option (List ℕ) → Option (List ℕ)
if_new log None = None
if_new log (Some uid) = if is_zero uid || is_some (recorded_at log uid) then None else Some uid

abbrev pub new_uid : AllocatorState → ℕ → Option (List ℕ)
new_uid t node = if_new t.raft_server.store.log (identity (history node t.watch) t.now)

-- a node is proposed with a new unique ID, and else reserved
abbrev pub records_as : ℕ → ℕ → Option (List ℕ) → StepState → StepState
records_as step node None g = reserves step node g
records_as step node (Some uid) g = proposes step 2 uid node g

abbrev pub records_node : ℕ → Option ℕ → StepState → StepState
records_node step None g = g
records_node step (Some node) g = records_as step node (new_uid g.allocator node) g

abbrev pub record_phase : ℕ → StepState → StepState
record_phase step g = if may_propose g.allocator then records_node step (candidate g.allocator) g else g

-- ---- a query for a unique ID, to the least node that is due; the request of GetNodeInfo is empty

abbrev pub with_query : ℕ → ℕ → StepState → StepState
with_query node id g =
    let t = g.allocator in record g { allocator = record t { watch = of_node node (Asked id t.now) ∷ t.watch } }

-- a query that fitted is noted; any other is owed again
abbrev pub with_query_if : Bool → ℕ → ℕ → StepState → StepState
with_query_if fitted node id g = if fitted then with_query node id g else g

abbrev pub asks : ℕ → Option ℕ → StepState → StepState
asks step None g = g
asks step (Some node) g =
    with_query_if (has_room g.allocator.queue []) node (id_of g.allocator.ids InfoQ node)
    (with_transfer step InfoQ node [] None g)

abbrev pub query_phase : ℕ → StepState → StepState
query_phase step g =
    if is_leader g.allocator.raft_server.memory.role
    then asks step (next_query g.allocator.watch (known g.allocator) g.allocator.now) g else g

-- ---- in order

abbrev pub clock_phase : ℕ → ℕ → StepState → StepState
clock_phase step word g =
    query_phase step (record_phase step (election_phase step word (status_phase step (discovery_phase step g))))
