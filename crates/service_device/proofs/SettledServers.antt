-- A member in office, by its server: between the steps, and later.
use Rattle.std.proofs.Common.{◌≡◌, ℕ, ◌≤◌, Bool, false, List, [], sym, subst, arith}
use Rattle.std.specs.Prelude.{◌&&◌}
use Rattle.alloc_exchange.specs.Exchange.{Accepted, after, answer, last_moment, after_message, has_length, is_expected, is_whole, left_over, recent_requests}
use Rattle.alloc_exchange.specs.Exchange as exchange
use Rattle.can_frame.specs.declared.entry.Entry.{Entry}
use Rattle.cluster_discovery.specs.Members.{owes}
use Rattle.dsdl_codec.specs.declared.allocation.Allocation.{Allocation}
use Rattle.alloc_spec.specs.AllocatorState.{AllocatorState, members_of, start_of}
use Rattle.alloc_spec_laws.proofs.Choices.{either}
use Rattle.service_alone.proofs.Members.{IsUp}
use Rattle.service_device.proofs.SettledSteps.{NoStranger, RestsAt}
use Rattle.bus_spec.specs.Members.{Member}
use Rattle.raft_model.specs.Server.{RaftServer}
use Rattle.service_device.proofs.SettledRaft.{IsOffice}
use Rattle.std.specs.Prelude.{if◌then◌else◌}

-- ---- the requests that are accepted

-- the last one is no later than the message, or than those before it
abbrev EndsBy : ℕ → List Accepted → Type 0
EndsBy now accepted = last_moment accepted ≤ now

-- so it is when a request was taken
pub after_ends : (accepted : List Accepted) (message : Allocation) (moment now : ℕ) (follows : Bool) → EndsBy now accepted → moment ≤ now
    → EndsBy now (after accepted message moment follows)
unfolding after
after_ends accepted message moment now follows ends early =
    either (EndsBy now) (has_length message && is_expected recent message) (left_over (exchange.with_request recent message moment) follows) recent
    (λ e. either (EndsBy now) (is_whole (exchange.with_request recent message moment)) []
    (if follows then exchange.with_request recent message moment else []) (λ f. omega arith)
    (λ f. either (EndsBy now) follows (exchange.with_request recent message moment) [] (λ k. early) (λ k. omega arith))) (λ e. recent_ends)
  where
    recent : List Accepted
    recent = recent_requests accepted moment

    recent_ends : EndsBy now recent
    recent_ends = either (EndsBy now) _ [] accepted (λ e. omega arith) (λ e. ends)

-- ---- a member in office, by its server

-- The member runs, and this holds of its leader. It has accepted these requests, its clock has not fallen, no node is
-- online that it does not know by its list and this log, and it owes no Discovery.
pub record Settles (Holds : RaftServer → Type 0) (log : List Entry) (accepted : List Accepted) (now : ℕ) (x : Member) (t : AllocatorState) : Type 0 where
  pub up : IsUp t x
  pub done : Holds t.raft_server
  pub clock : t.now ≤ now
  pub status : t.status_at ≤ now
  pub accepts : t.accepted ≡ accepted
  pub requests : last_moment accepted ≤ now
  pub offline : NoStranger log (members_of t) t.watch t.now
  pub discovery : owes (start_of t) t.heard ≡ false

-- what rests in a step is in office behind it
pub rested : (number top : ℕ) (log : List Entry) (now : ℕ) (Holds : RaftServer → Type 0) (Sees : List ℕ → ℕ → Bool → Type 0) (office : IsOffice top log Holds Sees) (accepted : List Accepted) (x : Member)
    (t : AllocatorState) → RestsAt number top log now Holds Sees office accepted t → IsUp t x → last_moment accepted ≤ now → Settles Holds log accepted now x t
rested number top log now Holds Sees office accepted x t r up requests = record {
  up = up;
  done = r.done;
  clock = let c = r.clock in omega (arith, c);
  status = r.status_at;
  accepts = r.accepts;
  requests = requests;
  offline = subst (NoStranger log (members_of t) t.watch) (sym r.clock) r.offline;
  discovery = r.discovery;
}

-- it is in office later, at the same server
pub later_on : (Holds : RaftServer → Type 0) (log : List Entry) (accepted : List Accepted) (now later : ℕ) (x y : Member) (t : AllocatorState) → now ≤ later → y ≡ x → Settles Holds log accepted now x t
    → Settles Holds log accepted later y t
later_on Holds log accepted now later x y t after_it same h = record {
  up = subst (IsUp t) (sym same) h.up;
  done = h.done;
  clock = omega (arith, h.clock, after_it);
  status = omega (arith, h.status, after_it);
  accepts = h.accepts;
  requests = omega (arith, h.requests, after_it);
  offline = h.offline;
  discovery = h.discovery;
}
