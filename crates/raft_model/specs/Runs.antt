-- Runs: openings, steps and stops of the members, in any order.
use Rattle.std.specs.Prelude.{⊤, ◌≡◌, ℕ, ◌<◌, true, false, List, [], ◌∷◌}
use Rattle.raft_model.specs.Lists.{In, at}
use Rattle.raft_model.specs.Messages.{Message}
use Rattle.raft_model.specs.Server.{RaftServer, empty_store, memory_when_down, memory_when_opened}
use Rattle.raft_model.specs.History.{History, no_history}
use Rattle.raft_model.specs.Ledger.{Ledger, empty_ledger}
use Rattle.raft_model.specs.Moves.{Move, IsEnabled}
use Rattle.raft_model.specs.Stops.{LocalState, state_after_stop_within, state_after_stop, state_after_moves, AllEnabled}

-- the whole: the members, their servers, the bag of messages, what the model remembers, and the number of the latest
-- step
pub record World : Type 0 where
  pub members : List ℕ
  pub server : ℕ → RaftServer
  pub bag : List Message
  pub history : History
  pub ledger : Ledger
  pub steps : ℕ

pub data Event : Type 0 where
  -- the member opens
  Opens : (member : ℕ) → Event
  -- the member takes a step: these moves; of the messages that they offer these fitted into the queue
  Steps : (member step : ℕ) (moves : List Move) (fitted : List Message) → Event
  -- the member stops in a step, after these moves; without moves, it stops between two steps
  Stops : (member step : ℕ) (moves : List Move) → Event
  -- the member stops in a step, after these moves and so many first puts of the next one
  StopsWithin : (member step : ℕ) (moves : List Move) (next : Move) (count : ℕ) → Event

-- all members down, with empty stores, and an empty bag
abbrev pub initial_world : List ℕ → World
initial_world members = record {
  members = members;
  server = λ other. record { store = empty_store; memory = memory_when_down };
  bag = [];
  history = no_history;
  ledger = empty_ledger;
  steps = 0;
}

-- the server of a member at the beginning of its step
abbrev pub local_state_of : World → ℕ → LocalState
local_state_of world member = record
    { raft_server = world.server member; history = world.history; ledger = world.ledger; offered = []; called = [] }

-- the server of a member after these moves of its step
abbrev pub local_state_after : World → ℕ → ℕ → List Move → LocalState
local_state_after world member step moves =
    state_after_moves world.members member step (local_state_of world member) moves

-- the world with this at the member's server
abbrev pub with_local_state : World → ℕ → LocalState → World
with_local_state world member local_state = record world {
  server = at world.server member local_state.raft_server;
  history = local_state.history;
  ledger = local_state.ledger;
}

-- the bag with these messages too
abbrev pub bag_with : List Message → List Message → List Message
bag_with [] bag = bag
bag_with (message ∷ messages) bag = bag_with messages (message ∷ bag)

abbrev pub after : World → Event → World
after world (Opens member) = record world
    { server = at world.server member (record { store = (world.server member).store; memory = memory_when_opened }) }
after world (Steps member step moves fitted) =
    record (with_local_state world member (local_state_after world member step moves))
    { bag = bag_with fitted world.bag; steps = step }
after world (Stops member step moves) =
    with_local_state world member (state_after_stop (local_state_after world member step moves))
after world (StopsWithin member step moves next count) = with_local_state world member
    (state_after_stop_within world.members member count (local_state_after world member step moves) next)

-- when an event may come: a member that is down opens; a server that is up takes a step, with a number above all
-- before; one that is up stops
abbrev pub MayOccur : World → Event → Type 0
MayOccur world (Opens member) = In member world.members × ((world.server member).memory.up ≡ false)
MayOccur world (Steps member step moves fitted) = ((world.server member).memory.up ≡ true) × (world.steps < step)
    × AllEnabled world.members member step world.bag (local_state_of world member) moves
    × ((message : Message) → In message fitted → In message (local_state_after world member step moves).offered)
MayOccur world (Stops member step moves) = ((world.server member).memory.up ≡ true)
    × AllEnabled world.members member step world.bag (local_state_of world member) moves
MayOccur world (StopsWithin member step moves next count) = ((world.server member).memory.up ≡ true)
    × AllEnabled world.members member step world.bag (local_state_of world member) moves
    × IsEnabled world.members member world.bag (local_state_after world member step moves).called
    (local_state_after world member step moves).raft_server
    next

-- the world after these events
abbrev pub run : World → List Event → World
run world [] = world
run world (event ∷ events) = run (after world event) events

-- each event may come when its turn is there
abbrev pub Lawful : World → List Event → Type 0
Lawful world [] = ⊤
Lawful world (event ∷ events) = MayOccur world event × Lawful (after world event) events

-- a fact of the world holds at each moment of every run
abbrev pub InEveryRun : (World → Type 0) → Type 0
InEveryRun fact = (members : List ℕ) (events : List Event) → Lawful (initial_world members) events →
    fact (run (initial_world members) events)

-- a fact of two moments holds of each moment of every run and each later one
abbrev pub FromEachMoment : (World → World → Type 0) → Type 0
FromEachMoment fact = (members : List ℕ) (early late : List Event) → Lawful (initial_world members) early
    → Lawful (run (initial_world members) early) late →
    fact (run (initial_world members) early) (run (run (initial_world members) early) late)
