use Rattle.std.proofs.Common.{◌≡◌, ◌<◌, ◌||◌, ℕ, Bool, length, take, get_or}
use Rattle.alloc_handlers.proofs.Words.{is_on_list}
use Rattle.alloc_handlers.proofs.known.mark_listed.Given as goal

-- the members so far are marked
abbrev pub invariant-loop-member : goal.invariant-loop-member
invariant-loop-member l = record {
  size : length l.marked ≡ 128;
  marked : (node : ℕ) (d : Bool) → node < 128 → get_or l.marked node d ≡ (is_on_list (take l.member-index l.members) node || get_or l.fn.marked node d);
}
