use Rattle.std.proofs.Common.{◌≡◌, ◌<◌, ◌||◌, ℕ, Bool, length, take, get_or}
use Rattle.alloc_handlers.proofs.Words.{is_recorded}
use Rattle.alloc_handlers.proofs.known.mark_recorded.Given as goal

-- the node IDs of the entries so far are marked
abbrev pub invariant-loop-entry : goal.invariant-loop-entry
invariant-loop-entry l = record {
  size : length l.marked ≡ 128;
  marked : (node : ℕ) (d : Bool) → node < 128 → get_or l.marked node d ≡ (is_recorded (take l.entry-index l.log) node || get_or l.fn.marked node d);
}
