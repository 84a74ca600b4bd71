-- What a tick and a delivered transfer offer.
use Rattle.std.proofs.Common.{ℕ, ◌+◌, ◌<◌, ◌≤◌, List, [], arith, Option, Some, None}
use Rattle.std.specs.Prelude.{◌-◌, nat_le}
use Rattle.can_frame.specs.declared.step.What.{What}
use Rattle.can_frame.specs.declared.step.What.TheVariants.{Disc, Stat, InfoQ}
use Rattle.cluster_discovery.specs.Members.{is_due}
use Rattle.node_discovery.specs.Watch.{next_query}
use Rattle.raft_model.specs.Messages.{Message}
use Rattle.raft_model.specs.Moves.Elections.{is_leader}
use Rattle.alloc_spec.specs.StepState.{StepState, with_transfer}
use Rattle.alloc_spec.specs.AllocatorState.{known, may_propose, start_of}
use Rattle.alloc_spec.specs.Tick.{asks, candidate, discovery_phase, election_phase, new_uid, query_phase, record_phase, records_as, records_node, status_phase, tells_members, tells_status, clock_phase, with_query}
use Rattle.alloc_spec.specs.Transfers.{Offer, has_room, id_of}
use Rattle.alloc_spec_laws.proofs.Choices.{either}
use Rattle.alloc_spec_laws.proofs.DistinctTransfers.{Listed, apart_below, no_more, one_more, rank, sent}

abbrev Below : ℕ → Offer → Type 0
Below low offer = rank offer.what < low

-- so many were offered, all of a lower rank
abbrev pub Upto : ℕ → ℕ → StepState → Type 0
Upto most low g = Listed most (Below low) g.offers

below : (most low step to : ℕ) (what : What) (payload : List ℕ) (says : Option Message) (g : StepState) → Upto most low g → low ≤ rank what
    → Upto (most + 1) (rank what + 1) (with_transfer step what to payload says g)
below most low step to what payload says g h n =
    one_more most (Below low) (Below (rank what + 1)) g.offers
    (sent what to payload says g)
    h (λ offer b. apart_below low offer (sent what to payload says g) b n) (λ offer b. omega (arith, b, n)) (omega arith)

waits : (most low more high : ℕ) (g : StepState) → Upto most low g → most ≤ more → low ≤ high → Upto more high g
waits most low more high g h m n = no_more most more (Below low) (Below high) g.offers h m (λ offer b. omega (arith, b, n))

discovery_offers : (step : ℕ) (g : StepState) → Upto 0 1 g → Upto 1 2 (discovery_phase step g)
discovery_offers step g h =
    either (λ (k : StepState). Upto 1 2 k) (is_due (start_of g.allocator) g.allocator.heard g.allocator.now) (tells_members step g) g
    (λ e. below 0 1 step 0 Disc _ None g h (omega arith)) (λ e. waits 0 1 1 2 g h (omega arith) (omega arith))

status_offers : (step : ℕ) (g : StepState) → Upto 1 2 g → Upto 2 3 (status_phase step g)
status_offers step g h =
    either (λ (k : StepState). Upto 2 3 k) (nat_le 1000 (g.allocator.now - g.allocator.status_at)) (tells_status step g) g
    (λ e. below 1 2 step 0 Stat _ None g h (omega arith)) (λ e. waits 1 2 2 3 g h (omega arith) (omega arith))

record_offers : (step : ℕ) (g : StepState) → Upto 2 3 g → Upto 2 3 (record_phase step g)
record_offers step g h =
    either (λ (k : StepState). Upto 2 3 k) (may_propose g.allocator) (records_node step (candidate g.allocator) g) g
    (λ e. go (candidate g.allocator)) (λ e. h)
  where
    recorded : (node : ℕ) (uid : Option (List ℕ)) → Upto 2 3 (records_as step node uid g)
    recorded node None = h
    recorded node (Some uid) = h

    go : (node : Option ℕ) → Upto 2 3 (records_node step node g)
    go None = h
    go (Some node) = recorded node (new_uid g.allocator node)

query_offers : (step : ℕ) (g : StepState) → Upto 2 3 g → Upto 3 4 (query_phase step g)
query_offers step g h =
    either (λ (k : StepState). Upto 3 4 k) (is_leader g.allocator.raft_server.memory.role) (asks step (next_query g.allocator.watch (known g.allocator) g.allocator.now) g) g
    (λ e. go (next_query g.allocator.watch (known g.allocator) g.allocator.now)) (λ e. stays)
  where
    stays : Upto 3 4 g
    stays = waits 2 3 3 4 g h (omega arith) (omega arith)

    go : (node : Option ℕ) → Upto 3 4 (asks step node g)
    go None = stays
    go (Some node) =
        either (λ (k : StepState). Upto 3 4 k) (has_room g.allocator.queue [])
        (with_query node (id_of g.allocator.ids InfoQ node) (with_transfer step InfoQ node [] None g)) (with_transfer step InfoQ node [] None g)
        (λ e. below 2 3 step node InfoQ [] None g h (omega arith)) (λ e. below 2 3 step node InfoQ [] None g h (omega arith))

election_offers : (step word : ℕ) (g : StepState) → Upto 2 3 g → Upto 2 3 (election_phase step word g)
election_offers step word g h = h

pub ticks_offer : (step word : ℕ) (g : StepState) → Upto 0 1 g → Upto 3 4 (clock_phase step word g)
ticks_offer step word g h =
    query_offers step (record_phase step (election_phase step word (status_phase step (discovery_phase step g))))
    (record_offers step (election_phase step word (status_phase step (discovery_phase step g)))
    (election_offers step word (status_phase step (discovery_phase step g))
    (status_offers step (discovery_phase step g) (discovery_offers step g h))))
