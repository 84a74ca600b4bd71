use Rattle.std.proofs.Common.{◌≡◌, ◌≢◌, ℕ, ◌<◌, ◌≤◌, get_or, true}
use Rattle.std.specs.Prelude.{None}
use Rattle.raft_log.specs.Calls.{FaultIsSticky, WritesInOrder}
use Rattle.raft_log.specs.DurableViews.{durable_state}
use Rattle.raft_log.proofs.Migrating.{puts_before}
use Rattle.raft_log.proofs.durable.Durable.put_origins.Given as goal

abbrev pub invariant-loop-place : goal.invariant-loop-place
invariant-loop-place g l = record {
  log : (durable_state l.self).log ≡ (durable_state l.fn.self).log;
  later : (i : ℕ) → l.place ≤ i → get_or (durable_state l.self).origins i None ≡ get_or (durable_state l.fn.self).origins i None;
  have : (i : ℕ) → i < l.place → get_or (durable_state l.self).origins i None ≢ None;
  puts : WritesInOrder (puts_before l.place (durable_state l.fn.self)) l.fn.self l.self true;
  fault : FaultIsSticky l.fn.self l.self None;
}
