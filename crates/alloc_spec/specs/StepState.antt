-- A step as it goes: the server by then, and what the step has done so far, in order. Moves and messages change in two
-- ways alone: a step takes moves, and it offers transfers.
use Rattle.std.specs.Prelude.{ℕ, Bool, List, [], ◌∷◌, ◌++◌, Option, None, Some, map, filter_map, if◌then◌else◌}
use Rattle.can_frame.specs.declared.step.Sent.{Sent}
use Rattle.can_frame.specs.declared.step.What.{What}
use Rattle.raft_core.specs.Handled.{puts_with_origins}
use Rattle.raft_core.specs.StoredPuts.{PutWithOrigin}
use Rattle.raft_core.specs.Times.{HandedIn, times_after_all}
use Rattle.raft_model.specs.Handlers.{server_after_all}
use Rattle.raft_model.specs.Messages.{Message}
use Rattle.raft_model.specs.Moves.{Move}
use Rattle.transfer_rx.specs.Reassembly.{Delivery}
use Rattle.alloc_spec.specs.Transfers.{GivenPair, Offer, frames_of, has_room, id_of, message_of, pair_in, sent_of}
use Rattle.alloc_spec.specs.Outbox.{counted_if, queued_if}
use Rattle.alloc_spec.specs.AllocatorState.{AllocatorState, members_of}

pub record StepState : Type 0 where
  pub allocator : AllocatorState
  pub moves : List Move
  -- the puts of the moves, each with the origin that its entry gets
  pub puts : List PutWithOrigin
  pub offers : List Offer

-- a step that has done nothing yet
abbrev pub initial_state : AllocatorState → StepState
initial_state t = record { allocator = t; moves = []; puts = []; offers = [] }

-- the server with something of it changed
abbrev pub with_allocator : AllocatorState → StepState → StepState
with_allocator t g = record g { allocator = t }

-- ---- moves: the one way in which the server of the Raft model changes

abbrev pub allocator_after : ℕ → HandedIn → List Move → AllocatorState → AllocatorState
allocator_after step given moves t = record t {
  raft_server = server_after_all (members_of t) t.me step t.raft_server moves;
  times = times_after_all (members_of t) t.me step given t.raft_server moves t.times;
}

abbrev pub with_moves : ℕ → HandedIn → List Move → StepState → StepState
with_moves step given moves g = record g {
  allocator = allocator_after step given moves g.allocator;
  moves = g.moves ++ moves;
  puts = g.puts ++ puts_with_origins (members_of g.allocator) g.allocator.me step given g.allocator.raft_server moves;
}

-- a move that goes with a transfer is made where that fitted: else nothing is noted
abbrev pub with_move_if : Bool → ℕ → HandedIn → Move → StepState → StepState
with_move_if fitted step given move g = if fitted then with_moves step given (move ∷ []) g else g

-- ---- transfers

-- a step offers a transfer: all its frames go into the queue where there is room, and it is listed either way
abbrev pub with_offer : ℕ → Offer → StepState → StepState
with_offer step offer g = record g {
  allocator = record g.allocator {
    queue = queued_if offer.fitted g.allocator.queue
        (frames_of (record { step = step; by = g.allocator.me; offer = offer }));
  };
  offers = g.offers ++ (offer ∷ []);
}

-- its counter goes on where it fitted
abbrev pub with_counter : Bool → What → ℕ → StepState → StepState
with_counter fitted what to g =
    record g { allocator = record g.allocator { ids = counted_if fitted what to g.allocator.ids } }

-- a message, or a request to a node, under the next transfer ID
abbrev pub with_transfer : ℕ → What → ℕ → List ℕ → Option Message → StepState → StepState
with_transfer step what to payload says g =
    let fitted : Bool = has_room g.allocator.queue payload in with_counter fitted what to
    (with_offer step
    (record {
      what = what;
      to = to;
      id = id_of g.allocator.ids what to;
      payload = payload;
      re = 0;
      says = says;
      fitted = fitted;
    }) g)

-- a response, to a node, under the transfer ID of its request, which the step `re` made
abbrev pub with_response : ℕ → What → ℕ → ℕ → List ℕ → ℕ → Option Message → StepState → StepState
with_response step what to id payload re says g = with_offer step (record {
  what = what;
  to = to;
  id = id;
  payload = payload;
  re = re;
  says = says;
  fitted = has_room g.allocator.queue payload;
}) g

-- the response to a request that was delivered
abbrev pub with_response_to : ℕ → What → Delivery → List ℕ → Option Message → StepState → StepState
with_response_to step what d payload says g = with_response step what d.ident.source d.id payload d.mark.step says g

-- ---- what is told of a step

abbrev pub listing_of : StepState → List Sent
listing_of g = map sent_of g.offers

abbrev pub pair_of_offer : Offer → Option GivenPair
pair_of_offer offer = if offer.fitted then pair_in offer.what offer.payload else None

-- the pairs of the Allocations that fitted
abbrev pub pairs : StepState → List GivenPair
pairs g = filter_map pair_of_offer g.offers

-- the pair of one transfer, or none, as a list
abbrev pub pair_list : Option GivenPair → List GivenPair
pair_list None = []
pair_list (Some given) = given ∷ []

abbrev pub pairs_if_fitted : Bool → What → List ℕ → List GivenPair
pairs_if_fitted fitted what payload = pair_list (if fitted then pair_in what payload else None)

-- the messages of the transfers that fitted
abbrev pub message_made : ℕ → ℕ → Offer → Option Message
message_made step me offer = if offer.fitted then message_of step me offer else None

abbrev pub messages : ℕ → StepState → List Message
messages step g = filter_map (message_made step g.allocator.me) g.offers
