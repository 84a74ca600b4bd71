-- What it is that a leader calls each member often enough.
use Rattle.std.specs.Prelude.{◌≡◌, ◌≢◌, ℕ, ◌+◌, ◌<◌, ◌≤◌, List, ◌∷◌, ◌++◌, Some}
use Rattle.can_frame.specs.declared.step.What.TheVariants.{AppQ}
use Rattle.can_frame.specs.Timing.{call_timeout}
use Rattle.raft_core.specs.Times.{Sending}
use Rattle.raft_model.specs.Lists.{In}
use Rattle.raft_model.specs.Messages.{Request}
use Rattle.raft_model.specs.Server.Role.{Leader}
use Rattle.bus_rows.specs.declared.row.Row.{Row}
use Rattle.alloc_spec.specs.AllocatorState.{AllocatorState, members_of}
use Rattle.alloc_spec.specs.Step.{Event, step}
use Rattle.alloc_spec.specs.Transfers.{Offer}
use Rattle.bus_rows.specs.Timed.{Timed, rows_in}
use Rattle.service_alone.specs.Calm.{Pace, end_of}
use Rattle.service_calm.specs.Calm.{AreCalm, IsRunning, Member, Party, Traffic}
use Rattle.service_calm.specs.Comes.{Throughout}
use Rattle.bus_spec.specs.Cluster.{Cluster, after_rows, step_of}
use Rattle.bus_spec.specs.Members.MemberStatus.{Up}

-- in this row member n offers an append request to member m, whether or not its queue has room for it
pub record OffersCall (n m : ℕ) (w : Cluster) (row : Row) : Type 0 where
  pub server : AllocatorState
  pub runs : (w.member n).status ≡ Up server
  pub event : Event
  pub in_step : step_of w row ≡ Some (n, event)
  pub offer : Offer
  pub offered : In offer (step server (w.rows + 1) event).step_state.offers
  pub what : offer.what ≡ AppQ
  pub to : offer.to ≡ m

-- member n offers member m an append request in one of these rows, by this moment
pub record OffersCallBy (n m last : ℕ) (w : Cluster) (whole : List Timed) : Type 0 where
  pub front : List Timed
  pub timed : Timed
  pub rest : List Timed
  pub split : whole ≡ front ++ timed ∷ rest
  pub soon : timed.at ≤ last
  pub offers : OffersCall n m (after_rows w (rows_in front)) timed.row

-- member n leads, if it runs
abbrev pub Leads : ℕ → Cluster → Type 0
Leads n w = (server : AllocatorState) → (w.member n).status ≡ Up server → server.raft_server.memory.role ≡ Leader

-- What the server keeps of its calls to this peer is no later than this moment: that of the call that is pending, an
-- append request or a vote request, and that of the last append request since it won.
pub record CalledUntil (moment peer : ℕ) (t : AllocatorState) : Type 0 where
  pub pending : (request : Request) → t.raft_server.memory.pending peer ≡ Some request →
      (call : Sending) × (t.times.sending peer ≡ Some call) × (call.moment ≤ moment)
  pub appended : (sent : ℕ) → t.times.appended peer ≡ Some sent → sent ≤ moment

-- In calm rows, from whatever moment on, in which a member of the group leads: it offers an append request to each
-- other member of its list by a period behind the moment `due`, or the rows are over by then. At `due` its clock, which
-- by `clocks` is ahead of the moments, reads the call timeout more than at its last call, or later; and `due` is no
-- earlier than the row before these, and than the member's last tick.
abbrev pub LeadersCallInTime : Type 0
LeadersCallInTime = (group : List Party) (clocks : Party → ℕ) (pace : Pace) (traffic : Traffic) (n m moment due : ℕ)
    (whole : List Timed) (w : Cluster) → (running : IsRunning n w) → In (Member n) group →
    In m (members_of running.server) → m ≢ running.server.me → CalledUntil moment m running.server →
    AreCalm group clocks pace traffic w whole → Throughout (Leads n) w whole →
    moment + call_timeout ≤ due + clocks (Member n) → traffic.at ≤ due → traffic.ticked (Member n) ≤ due →
    due + pace.period < end_of traffic.at whole →
    OffersCallBy n m (due + pace.period) w whole
