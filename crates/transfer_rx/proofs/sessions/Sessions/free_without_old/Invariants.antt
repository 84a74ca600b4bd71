use Rattle.std.proofs.Common.{◌≡◌, ◌+◌, ◌*◌, ◌≤◌, take}
use Rattle.std.specs.List.{sum_by}
use Rattle.transfer_rx.specs.Places.{Places, KeepPlaces, blocks_at, left}
use Rattle.transfer_rx.proofs.sessions.Sessions.free_without_old.Given as goal

-- what was added is what old sessions at the places before this one use
abbrev pub invariant-loop-place : goal.invariant-loop-place
invariant-loop-place g l = record {
  few : l.free ≤ 1024 + 14 * l.place;
  old : (places : Places) → KeepPlaces l.self.progress l.self.pool places →
      l.free + sum_by blocks_at places + sum_by blocks_at (take l.place (left l.now places)) ≡ g.row.N + sum_by blocks_at (take l.place places);
}
