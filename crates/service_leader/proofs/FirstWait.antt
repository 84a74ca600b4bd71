-- The first wait in a calm: it began before, or a frame begins it anew.
use Rattle.std.proofs.Common.{◌≡◌, ℕ, ◌+◌, ◌<◌, ◌≤◌, arith, inl, inr}
use Rattle.can_frame.specs.Timing.{election_wait}
use Rattle.raft_model.specs.Server.Role.{Follower}
use Rattle.alloc_spec.specs.AllocatorState.{AllocatorState}
use Rattle.alloc_spec.specs.Step.{Event, moment_of, step}
use Rattle.service_steps.specs.InTime.{FramesLeaveFollowers, StaysFollower}
use Rattle.service_calm.proofs.CallsKept.{IsKept}
use Rattle.service_calm.proofs.Counting.{now_after}

-- the server follows, and its least wait is not over by this moment, which its clock has not passed
pub record FollowsUntil (last : ℕ) (t : AllocatorState) : Type 0 where
  pub follows : t.raft_server.memory.role ≡ Follower
  pub waits : last < t.times.since + election_wait
  pub reads : t.now ≤ last

abbrev pub IsBetween : ℕ → ℕ → ℕ → Type 0
IsBetween base last moment = (base ≤ moment) × (moment ≤ last)

module _ (ticks : StaysFollower) (frames : FramesLeaveFollowers) (base last : ℕ) (short : last < base + election_wait) where
  until : (t : AllocatorState) (number : ℕ) (e : Event) → IsBetween base last (moment_of e) → FollowsUntil last t
      → FollowsUntil last (step t number e).step_state.allocator
  until t number (Event.Tick now word) may is =
      let after = now_after t number (Event.Tick now word) in
      let stays = ticks t number now word is.follows (omega (arith, may.1, is.waits, is.reads)) in
      record { follows = stays.1; waits = omega (arith, stays.0, is.waits); reads = omega (arith, after, is.reads, may.1) }
  until t number (Event.Rx arrival) may is =
      let after = now_after t number (Event.Rx arrival) in
      let stays = frames t number arrival is.follows in
      record {
        follows = stays.0;
        waits = elim stays.1 [ inl same ↦ omega (arith, same, is.waits) | inr anew ↦ omega (arith, anew, may.0, short) ];
        reads = omega (arith, after, is.reads, may.1);
      }

  -- whatever comes between these moments leaves it so
  pub first_wait : IsKept (IsBetween base last) (FollowsUntil last)
  first_wait = record { stepped = until; popped = λ t is. record { follows = is.follows; waits = is.waits; reads = is.reads } }
