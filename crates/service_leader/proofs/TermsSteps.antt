-- A leader leads on, and a follower follows on, through a step: at a tick, and at a frame that tells no higher term.
use Rattle.std.proofs.Common.{◌≡◌, ◌≢◌, ℕ, ◌+◌, ◌-◌, ◌<◌, Bool, true, false, [], inl, inr, refl, ap, arith, max}
use Rattle.std.specs.Prelude.{◌⊎◌, ◌%◌, ◌&&◌}
use Rattle.std.proofs.lemmas.Bool.Decides.{leb_tells}
use Rattle.can_frame.specs.Timing.{election_spread, election_wait}
use Rattle.raft_core.specs.Times.{Times, given_at, has_waited, overdue}
use Rattle.raft_model.specs.Duty.{tick_phase}
use Rattle.raft_model.specs.Server.{RaftServer}
use Rattle.transfer_rx.specs.Reassembly.{Arrival, Delivery, Gives, answer}
use Rattle.alloc_spec.specs.Accepted.{setting_for}
use Rattle.alloc_spec.specs.AllocatorState.{AllocatorState, members_of}
use Rattle.alloc_spec.specs.Step.{all_nodes, at_moment, begin_phase, step}
use Rattle.alloc_spec.specs.Step.Event.{Rx, Tick}
use Rattle.service_steps.specs.Requests.{moment_at}
use Rattle.service_steps.proofs.LeadsOn.{no_election}
use Rattle.service_steps.proofs.StaysFollower.{since_stays}
use Rattle.service_leader.proofs.TermsKept.{IsKeptByMoves, TellsWithin, begins, kept_at_frame, kept_at_tick}
use Rattle.service_leader.proofs.TermsRoles.{FollowsTo, LeadsAt, follows_through, leads_through}

-- whose wait began then has not waited before the least wait is over
not_waited : (times : Times) (since now : ℕ) → times.since ≡ since → now < since + election_wait → has_waited times now ≡ false
not_waited times since now e soon = elim (leb_tells (election_wait + times.word % election_spread) (now - times.since)) [
  | inl z ↦ absurd (omega (arith, e, soon, z.1))
  | inr z ↦ z.0
]

and_false : (a b : Bool) → b ≡ false → (a && b) ≡ false
and_false true b e = e
and_false false b e = refl

module _ (n term m : ℕ) where
  -- member m leads in this term, where it is n, and else follows in no higher term
  abbrev pub Plays : RaftServer → Type 0
  Plays server = ((m ≡ n) × LeadsAt term server) ⊎ ((m ≢ n) × FollowsTo term server)

  plays_through : IsKeptByMoves term Plays
  plays_through members me number server move is (inl leads) = inl (leads.0, leads_through term members me number server move is leads.1)
  plays_through members me number server move is (inr follows) = inr (follows.0, follows_through term members me number server move is follows.1)

  -- neither stands for election at a tick, where who follows has waited for less than the least wait
  stands_not : (number : ℕ) (t : AllocatorState) (now : ℕ) → (m ≢ n → max t.now now < t.times.since + election_wait) → Plays
      (begin_phase number now t).allocator.raft_server
      → (complete : Bool)
      → tick_phase (complete && has_waited (begin_phase number now t).allocator.times (max t.now now)) (begin_phase number now t).allocator.raft_server ≡ []
  stands_not number t now soon (inl leads) complete =
      no_election (complete && has_waited (begin_phase number now t).allocator.times (max t.now now)) (begin_phase number now t).allocator.raft_server leads.1.0
  stands_not number t now soon (inr follows) complete =
      ap (λ (b : Bool). tick_phase b (begin_phase number now t).allocator.raft_server)
      (and_false complete (has_waited (begin_phase number now t).allocator.times (max t.now now))
      (not_waited (begin_phase number now t).allocator.times t.times.since (max t.now now)
      (since_stays (members_of (at_moment now t)) t.me number (given_at (max t.now now)) (overdue t.times
      (max t.now now) all_nodes) t.raft_server t.times) (soon follows.0)))

  -- a tick
  pub plays_at_tick : (number : ℕ) (t : AllocatorState) (now word : ℕ) → Plays t.raft_server → (m ≢ n → max t.now now < t.times.since + election_wait)
      → Plays (step t number (Tick now word)).step_state.allocator.raft_server
  plays_at_tick number t now word is soon = kept_at_tick number term Plays plays_through t now word is
      (stands_not number t now soon (begins number term Plays plays_through t now is))

  -- a frame that completes no message with a higher term
  pub plays_at_frame : (number : ℕ) (t : AllocatorState) (arrival : Arrival) → Plays t.raft_server
      → ((d : Delivery) → answer (setting_for t.me) t.sessions (record arrival { moment = moment_at t arrival }) ≡ Gives d → TellsWithin term d)
      → Plays (step t number (Rx arrival)).step_state.allocator.raft_server
  plays_at_frame number t arrival is within = kept_at_frame number term Plays plays_through t arrival is within
