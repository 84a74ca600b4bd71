use Rattle.std.proofs.Common.{◌<◌, ℕ, get_or}
use Rattle.can_frame.specs.Log.{AreDistinct, blank}
use Rattle.raft_log.proofs.follow.is_distinct_from_all.Given as goal

abbrev pub invariant-loop-earlier : goal.invariant-loop-earlier
invariant-loop-earlier l = (i : ℕ) → i < l.earlier-index → AreDistinct (get_or l.log i (blank 0)) l.entry
