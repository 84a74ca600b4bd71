-- The turns of all allocators that run, over one clock.
use Rattle.std.specs.Prelude.{◌≡◌, ℕ, zero, suc, ◌<◌, List}
use Rattle.outside.specs.Readings.{next_reading, readings_behind}
use Rattle.raft_core.specs.StoredPuts.{store_of}
use Rattle.raft_model.specs.Lists.{at}
use Rattle.cmd_node.specs.Turn.{Running, Turning, turn}

-- the allocator at each place, the readings still to come, and the lines of all steps so far, in order
pub record Together : Type 0 where
  pub running : ℕ → Running
  pub readings : List ℕ
  pub lines : List (List ℕ)

-- what each of so many has stored is what its allocator has, and the origins of entries besides
abbrev pub AreStored : ℕ → Together → Type 0
AreStored count all =
    (i : ℕ) → i < count → store_of (all.running i).stored ≡ (all.running i).allocator.raft_server.store

-- the allocator at a place, whose turn it is
abbrev pub turning_at : ℕ → Together → Turning
turning_at place all = record { running = all.running place; lines = all.lines }

-- the allocator at a place takes its turn, at the next reading
abbrev pub turning_after : ℕ → Together → Turning
turning_after place all = turn (next_reading all.readings) (turning_at place all)

abbrev pub after_turn : ℕ → Turning → Together → Together
after_turn place done all = record {
  running = at all.running place done.running;
  readings = readings_behind all.readings;
  lines = done.lines;
}

-- the first of them take a turn each, in order
abbrev pub first_turns : ℕ → Together → Together
first_turns zero all = all
first_turns (suc n) all = let before = first_turns n all in after_turn n (turning_after n before) before

-- so many allocators take so many turns each
abbrev pub all_turns : ℕ → ℕ → Together → Together
all_turns count zero all = all
all_turns count (suc turns) all = first_turns count (all_turns count turns all)
