-- The parts of a tick only add puts.
use Rattle.std.proofs.Common.{◌-◌, ℕ, List, [], ◌∷◌, Option, Some, None, refl}
use Rattle.std.specs.Prelude.{nat_le}
use Rattle.can_frame.specs.Zeros.{zeros}
use Rattle.cluster_discovery.specs.Members.{is_due}
use Rattle.node_discovery.specs.Watch.{next_query}
use Rattle.raft_core.specs.Taken.{proposal}
use Rattle.raft_core.specs.Times.{given_proposal, given_tick}
use Rattle.raft_model.specs.Moves.Move.{ProposeEntry}
use Rattle.raft_model.specs.Moves.Elections.{is_leader}
use Rattle.can_frame.specs.declared.step.What.TheVariants.{InfoQ}
use Rattle.alloc_spec.specs.Transfers.{has_room, id_of}
use Rattle.alloc_spec.specs.AllocatorState.{known, may_propose, start_of}
use Rattle.alloc_spec.specs.StepState.{StepState, with_transfer}
use Rattle.alloc_spec.specs.Tick.{asks, candidate, discovery_phase, election_moves, election_phase, new_uid, proposes, query_phase, record_phase, records_as, records_node, status_phase, tells_members, tells_status, clock_phase, with_query}
use Rattle.alloc_spec.specs.Extends.{Extends}
use Rattle.alloc_spec.proofs.Extends.{and_more, either_more, itself, no_more, takes_more}

pub proposes_more : (step origin : ℕ) (uid : List ℕ) (node : ℕ) (g : StepState) → Extends g (proposes step origin uid node g)
proposes_more step origin uid node g = takes_more step (given_proposal g.allocator.now origin) (ProposeEntry (proposal g.allocator.raft_server.store.term uid node) ∷ []) g

records_as_more : (step node : ℕ) (uid : Option (List ℕ)) (g : StepState) → Extends g (records_as step node uid g)
records_as_more step node None g = proposes_more step _ zeros node g
records_as_more step node (Some uid) g = proposes_more step _ uid node g

records_node_more : (step : ℕ) (node : Option ℕ) (g : StepState) → Extends g (records_node step node g)
records_node_more step None g = itself g
records_node_more step (Some node) g = records_as_more step node (new_uid g.allocator node) g

pub record_more : (step : ℕ) (g : StepState) → Extends g (record_phase step g)
record_more step g = either_more (may_propose g.allocator) g (records_node step (candidate g.allocator) g) g (records_node_more step (candidate g.allocator) g) (itself g)

asks_more : (step : ℕ) (node : Option ℕ) (g : StepState) → Extends g (asks step node g)
asks_more step None g = itself g
asks_more step (Some node) g = either_more (has_room g.allocator.queue []) g _ _ (no_more g (with_query node (id_of g.allocator.ids InfoQ node) (with_transfer step InfoQ node [] None g)) refl refl refl) (no_more g (with_transfer step InfoQ node [] None g) refl refl refl)

pub query_more : (step : ℕ) (g : StepState) → Extends g (query_phase step g)
query_more step g = either_more (is_leader g.allocator.raft_server.memory.role) g (asks step (next_query g.allocator.watch (known g.allocator) g.allocator.now) g) g (asks_more step (next_query g.allocator.watch (known g.allocator) g.allocator.now) g) (itself g)

discovery_more : (step : ℕ) (g : StepState) → Extends g (discovery_phase step g)
discovery_more step g = either_more (is_due (start_of g.allocator) g.allocator.heard g.allocator.now) g (tells_members step g) g (no_more g (tells_members step g) refl refl refl) (itself g)

status_more : (step : ℕ) (g : StepState) → Extends g (status_phase step g)
status_more step g = either_more (nat_le 1000 (g.allocator.now - g.allocator.status_at)) g (tells_status step g) g (no_more g (tells_status step g) refl refl refl) (itself g)

pub election_more : (step word : ℕ) (g : StepState) → Extends g (election_phase step word g)
election_more step word g = takes_more step (given_tick g.allocator.now word) (election_moves step g.allocator) g

pub ticks_more : (step word : ℕ) (g : StepState) → Extends g (clock_phase step word g)
ticks_more step word g =
    let g1 : StepState = discovery_phase step g in
    let g2 : StepState = status_phase step g1 in
    let g3 : StepState = election_phase step word g2 in
    let g4 : StepState = record_phase step g3 in
    and_more g g4 (query_phase step g4) (and_more g g3 g4 (and_more g g2 g3 (and_more g g1 g2 (discovery_more step g) (status_more step g1)) (election_more step word g2)) (record_more step g3)) (query_more step g4)
