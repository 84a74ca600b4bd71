-- A follower does not stand before the least wait is over.
use Rattle.std.proofs.Common.{◌≡◌, ℕ, ◌+◌, ◌-◌, ◌<◌, Bool, true, false, List, [], ◌∷◌, inl, inr, refl, sym, ◌∙◌, subst, arith, max, Option, Some, None}
use Rattle.std.specs.Prelude.{◌%◌, ◌&&◌, nat_le}
use Rattle.std.proofs.lemmas.Bool.Decides.{leb_tells}
use Rattle.can_frame.specs.declared.step.What.TheVariants.{InfoQ}
use Rattle.can_frame.specs.Timing.{election_spread, election_wait, status_interval}
use Rattle.cluster_discovery.specs.Members.{is_due}
use Rattle.node_discovery.specs.Watch.{next_query}
use Rattle.raft_core.specs.Handled.{moves_of_expire}
use Rattle.raft_core.specs.Times.{HandedIn, Times, given_at, given_tick, has_waited, overdue, times_after_all}
use Rattle.raft_model.specs.Duty.{tick_phase}
use Rattle.raft_model.specs.Handlers.{server_after}
use Rattle.raft_model.specs.Moves.Elections.{is_leader}
use Rattle.raft_model.specs.Moves.Move.{GiveUp}
use Rattle.raft_model.specs.Lists.{at}
use Rattle.raft_model.specs.Server.{RaftServer}
use Rattle.raft_model.specs.Server.Role.{Follower}
use Rattle.alloc_spec.specs.AllocatorState.{AllocatorState, known, knows_all, may_propose, members_of, start_of}
use Rattle.alloc_spec.specs.Step.{all_nodes, at_moment, begin_phase, step}
use Rattle.alloc_spec.specs.Step.Event.{Tick}
use Rattle.alloc_spec.specs.StepState.{StepState, with_transfer}
use Rattle.alloc_spec.specs.Tick.{asks, candidate, clock_phase, discovery_phase, election_phase, new_uid, query_phase, record_phase, records_as, records_node, status_phase, tells_members, tells_status, with_query_if}
use Rattle.alloc_spec.specs.Transfers.{has_room, id_of}
use Rattle.alloc_spec_laws.proofs.Choices.{either}
use Rattle.alloc_spec.proofs.Blanks.{moves_and_blank}
use Rattle.service_steps.proofs.Begins.{IsAsBefore, expired}
use Rattle.service_steps.proofs.WaitsAnew.{IsAnew, follows}

-- giving up leaves the wait
pub since_stays : (members : List ℕ) (me number : ℕ) (given : HandedIn) (qs : List ℕ) (server : RaftServer) (times : Times)
    → (times_after_all members me number given server (moves_of_expire qs) times).since ≡ times.since
since_stays members me number given [] server times = refl
since_stays members me number given (node ∷ qs) server times =
    since_stays members me number given qs (server_after members me number server (GiveUp node)) (record times { sending = at times.sending node None })

not_waited : (times : Times) (since now : ℕ) → times.since ≡ since → now < since + election_wait → has_waited times now ≡ false
not_waited times since now e soon = elim (leb_tells (election_wait + times.word % election_spread) (now - times.since)) [
  | inl z ↦ absurd (omega (arith, e, soon, z.1))
  | inr z ↦ z.0
]

and_false : (a b : Bool) → b ≡ false → (a && b) ≡ false
and_false true b e = e
and_false false b e = refl

module _ (number since : ℕ) where
  elects : (word : ℕ) (g : StepState) → g.allocator.now < since + election_wait → IsAnew since g → IsAnew since (election_phase number word g)
  elects word g soon h = subst (λ (b : Bool). IsAnew since (moves_and_blank number (given_tick g.allocator.now word) (tick_phase b g.allocator.raft_server) g))
      (sym (and_false (knows_all g.allocator) (has_waited g.allocator.times g.allocator.now) (not_waited g.allocator.times since g.allocator.now h.0 soon))) h

  recorded_as : (node : ℕ) (uid : Option (List ℕ)) (g : StepState) → IsAnew since g → IsAnew since (records_as number node uid g)
  recorded_as node None g h = h
  recorded_as node (Some uid) g h = h

  recorded_node : (node : Option ℕ) (g : StepState) → IsAnew since g → IsAnew since (records_node number node g)
  recorded_node None g h = h
  recorded_node (Some node) g h = recorded_as node (new_uid g.allocator node) g h

  asked_if : (fits : Bool) (node id : ℕ) (g : StepState) → IsAnew since g → IsAnew since (with_query_if fits node id g)
  asked_if true node id g h = h
  asked_if false node id g h = h

  asked : (node : Option ℕ) (g : StepState) → IsAnew since g → IsAnew since (asks number node g)
  asked None g h = h
  asked (Some node) g h = asked_if (has_room g.allocator.queue []) node (id_of g.allocator.ids InfoQ node) (with_transfer number InfoQ node [] None g) h

  ticks : (word : ℕ) (g : StepState) → g.allocator.now < since + election_wait → IsAnew since g → IsAnew since (clock_phase number word g)
  ticks word g soon h = queries (record_phase number elected) (records elected (elects word stated (stated_soon) (states found (finds g h))))
    where
      found : StepState
      found = discovery_phase number g

      stated : StepState
      stated = status_phase number found

      elected : StepState
      elected = election_phase number word stated

      finds : (x : StepState) → IsAnew since x → IsAnew since (discovery_phase number x)
      finds x i = either (IsAnew since) (is_due (start_of x.allocator) x.allocator.heard x.allocator.now) (tells_members number x) x (λ e. i) (λ e. i)

      states : (x : StepState) → IsAnew since x → IsAnew since (status_phase number x)
      states x i = either (IsAnew since) (nat_le status_interval (x.allocator.now - x.allocator.status_at)) (tells_status number x) x (λ e. i) (λ e. i)

      same_now : (x : StepState) → (status_phase number (discovery_phase number x)).allocator.now ≡ x.allocator.now
      same_now x = states_now (discovery_phase number x)
          ∙ either (λ (y : StepState). y.allocator.now ≡ x.allocator.now) (is_due (start_of x.allocator) x.allocator.heard x.allocator.now) (tells_members number x) x (λ e. refl) (λ e. refl)
        where
          states_now : (y : StepState) → (status_phase number y).allocator.now ≡ y.allocator.now
          states_now y = either (λ (z : StepState). z.allocator.now ≡ y.allocator.now) (nat_le status_interval (y.allocator.now - y.allocator.status_at)) (tells_status number y) y (λ e. refl) (λ e. refl)

      stated_soon : stated.allocator.now < since + election_wait
      stated_soon = subst (λ (n : ℕ). n < since + election_wait) (sym (same_now g)) soon

      records : (x : StepState) → IsAnew since x → IsAnew since (record_phase number x)
      records x i = either (IsAnew since) (may_propose x.allocator) (records_node number (candidate x.allocator) x) x (λ e. recorded_node (candidate x.allocator) x i) (λ e. i)

      queries : (x : StepState) → IsAnew since x → IsAnew since (query_phase number x)
      queries x i = either (IsAnew since) (is_leader x.allocator.raft_server.memory.role) (asks number (next_query x.allocator.watch (known x.allocator) x.allocator.now) x) x
          (λ e. asked (next_query x.allocator.watch (known x.allocator) x.allocator.now) x i) (λ e. i)

pub stays_follower : (t : AllocatorState) (number now word : ℕ) → t.raft_server.memory.role ≡ Follower → max t.now now < t.times.since + election_wait
    → IsAnew t.times.since (step t number (Tick now word)).step_state
unfolding step
stays_follower t number now word role soon =
    follows number t.times.since (clock_phase number word (begin_phase number now t)) (ticks number t.times.since word (begin_phase number now t) soon begun)
  where
    begun : IsAnew t.times.since (begin_phase number now t)
    begun = (
      since_stays (members_of (at_moment now t)) t.me number (given_at (max t.now now)) (overdue t.times (max t.now now) all_nodes) t.raft_server t.times,
      before.role ∙ role,
    )
      where
        before : IsAsBefore t.raft_server (begin_phase number now t).allocator.raft_server
        before = expired (members_of (at_moment now t)) t.me number (overdue t.times (max t.now now) all_nodes) t.raft_server
