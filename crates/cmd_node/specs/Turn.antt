-- One turn of an allocator on its link: a step at its clock, the next item of its link, and the next frame of its
-- queue.
use Rattle.std.specs.Prelude.{ℕ, suc, List, [], ◌∷◌, ◌++◌, length, Option, Some, None}
use Rattle.outside.specs.declared.received.RawFrame.{RawFrame}
use Rattle.outside.specs.declared.received.Received.{Received}
use Rattle.outside.specs.Traffic.{items_behind, next_item}
use Rattle.cmd_node.specs.Words.{next_words, word_of}
use Rattle.raft_core.specs.StoredPuts.{stored_puts}
use Rattle.raft_log.specs.Stored.{Stored, after_puts}
use Rattle.alloc_spec.specs.Delivered.{StepResult}
use Rattle.alloc_spec.specs.Step.{Event, Tick, after_pop, step}
use Rattle.alloc_spec.specs.AllocatorState.{AllocatorState, view_of}
use Rattle.transfer_tx.specs.Queue.{Queued, next_out}
use Rattle.bus_spec.specs.Report.{line_of_view}
use Rattle.replay_text.specs.ReportText.{text_of_line}
use Rattle.cmd_node.specs.Frames.{event_in, raw_of}
use Rattle.cmd_node.specs.declared.words.Words.{Words}

-- an allocator that runs: its server, what its disk has stored, its words, the items that its link still has for it, and
-- the frames that were sent there
pub record Running : Type 0 where
  pub id : ℕ
  pub allocator : AllocatorState
  pub stored : Stored
  pub words : Words
  pub coming : List Received
  pub sent : List RawFrame

-- the one whose turn it is, and the lines of the steps that all have made so far, in order
pub record Turning : Type 0 where
  pub running : Running
  pub lines : List (List ℕ)

-- the line of a step: the numbers are those after the step, before a frame goes out
abbrev pub step_line : ℕ → ℕ → StepResult → List ℕ
step_line number id step_result =
    text_of_line number (line_of_view id (view_of step_result.step_state.allocator) step_result)

-- what a step came to: its puts are stored, and its line stands behind all others
abbrev pub after_step : ℕ → StepResult → Turning → Turning
after_step number step_result t = record {
  running = record t.running {
    allocator = step_result.step_state.allocator;
    stored = after_puts (stored_puts step_result.step_state.puts t.running.stored) t.running.stored;
  };
  lines = t.lines ++ step_line number t.running.id step_result ∷ [];
}

-- the next step: they are numbered from 1, over all allocators
abbrev pub turn_after_step : Event → Turning → Turning
turn_after_step event t =
    let number = suc (length t.lines) in after_step number (step t.running.allocator number event) t

-- the allocator reads its clock, with the next word
abbrev pub turn_after_tick : ℕ → Turning → Turning
turn_after_tick moment t = let words = next_words t.running.words in
    turn_after_step (Tick moment (word_of words)) (record t { running = record t.running { words = words } })

abbrev pub turn_after_taking : Option Event → Turning → Turning
turn_after_taking None t = t
turn_after_taking (Some event) t = turn_after_step event t

-- the next item of its link is taken, and a step is made of it where it is a frame
abbrev pub turn_after_hearing : ℕ → Turning → Turning
turn_after_hearing moment t = turn_after_taking (event_in moment (next_item t.running.coming))
    (record t { running = record t.running { coming = items_behind t.running.coming } })

abbrev pub turn_after_frame : Option Queued → Turning → Turning
turn_after_frame None t = t
turn_after_frame (Some frame) t = record t {
  running = record t.running {
    allocator = after_pop t.running.allocator;
    sent = t.running.sent ++ raw_of frame ∷ [];
  };
}

-- the next frame of its queue is sent, if there is one
abbrev pub turn_after_sending : Turning → Turning
turn_after_sending t = turn_after_frame (next_out t.running.allocator.queue) t

-- a turn, all of it at one reading of the clock
unfoldable pub turn : ℕ → Turning → Turning
turn moment t = turn_after_sending (turn_after_hearing moment (turn_after_tick moment t))
