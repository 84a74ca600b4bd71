-- What the steps of a turn put, in order.
use Rattle.std.specs.Prelude.{◌≡◌, ◌⊎◌, ℕ, suc, List, [], ◌++◌, length, Option, Some, None}
use Rattle.outside.specs.declared.received.Received.{Received}
use Rattle.outside.specs.Traffic.{items_behind, next_item}
use Rattle.cmd_node.specs.Words.{next_words, word_of}
use Rattle.raft_core.specs.StoredPuts.{PutWithOrigin}
use Rattle.alloc_spec.specs.Step.{Event, Tick, step}
use Rattle.cmd_node.specs.Frames.{event_in}
use Rattle.cmd_node.specs.Turn.{Turning, turn_after_tick}

-- the next step
abbrev pub step_puts : Event → Turning → List PutWithOrigin
step_puts event t = (step t.running.allocator (suc (length t.lines)) event).step_state.puts

-- the step at its clock
abbrev pub tick_puts : ℕ → Turning → List PutWithOrigin
tick_puts moment t = step_puts (Tick moment (word_of (next_words t.running.words))) t

abbrev pub taken_puts : Option Event → Turning → List PutWithOrigin
taken_puts None t = []
taken_puts (Some event) t = step_puts event t

-- the step of the next item of its link, if it makes one
abbrev pub heard_puts : ℕ → Turning → List PutWithOrigin
heard_puts moment t = taken_puts (event_in moment (next_item t.running.coming)) t

-- the two steps of a turn
unfoldable pub turn_puts : ℕ → Turning → List PutWithOrigin
turn_puts moment t = tick_puts moment t ++ heard_puts moment (turn_after_tick moment t)

-- ---- a turn that was cut off, when these items are left of its link: what holds of the puts up to there

-- the next item was not taken, and this holds of the few puts up to there; or it was taken, and this holds of all
abbrev pub HoldsOfPuts : Turning → Option (List Received) → (few all : List PutWithOrigin) →
    (List PutWithOrigin → Type 0) → Type 0
HoldsOfPuts t left few all Holds = ((left ≡ Some t.running.coming) × Holds few)
    ⊎ ((left ≡ Some (items_behind t.running.coming)) × Holds all)

-- in the step of the next item
abbrev pub IsHeardIn : ℕ → Turning → Option (List Received) → (List PutWithOrigin → Type 0) → Type 0
IsHeardIn moment t left Holds = HoldsOfPuts t left [] (heard_puts moment t) Holds

-- in the turn: without that item only the step at its clock has put
abbrev pub IsCutIn : ℕ → Turning → Option (List Received) → (List PutWithOrigin → Type 0) → Type 0
IsCutIn moment t left Holds = HoldsOfPuts t left (tick_puts moment t) (turn_puts moment t) Holds
