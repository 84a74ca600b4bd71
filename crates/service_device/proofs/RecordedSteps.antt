-- A leader in office that proposes what a request made whole leads with the longer log, and adds no blank.
use Rattle.std.proofs.Common.{◌≡◌, ℕ, Bool, List, [], ◌∷◌, ◌++◌}
use Rattle.alloc_exchange.specs.Exchange.{Accepted, after}
use Rattle.can_frame.specs.declared.entry.Entry.{Entry}
use Rattle.cluster_discovery.specs.Members.{is_on_list}
use Rattle.dsdl_codec.specs.declared.allocation.Allocation.{Allocation}
use Rattle.node_discovery.specs.Watch.{Watched}
use Rattle.raft_core.specs.Taken.{proposal}
use Rattle.raft_model.specs.Server.{RaftServer}
use Rattle.alloc_spec.specs.AllocatorState.{is_recorded, members_of}
use Rattle.alloc_spec.specs.Delivered.{took}
use Rattle.alloc_spec.specs.Exchange.{may_follow, with_request}
use Rattle.alloc_spec.specs.Step.{with_end_phase}
use Rattle.alloc_spec.specs.StepState.{StepState}
use Rattle.alloc_spec.specs.Tick.{proposes}
use Rattle.service_device.proofs.RecordedRaft.{LeadsOnLog, leads_longer, log_office}
use Rattle.service_device.proofs.SettledRaft.{Anyone, IsOffice}
use Rattle.service_device.proofs.SettledSteps.{Keeps, NoStranger, ends, or_less_right, still_recorded}

pub no_stranger_longer : (log more : List Entry) (list : List ℕ) (watch : List Watched) (now : ℕ) → NoStranger log list watch now
    → NoStranger (log ++ more) list watch now
no_stranger_longer log more list watch now off other e =
    off other (or_less_right (is_on_list list other) (is_recorded log other) (is_recorded (log ++ more) other) (still_recorded log more other) e)

module _ (number top : ℕ) (log : List Entry) (now : ℕ) (Holds : RaftServer → Type 0) (Sees : List ℕ → ℕ → Bool → Type 0) (office : IsOffice top log Holds Sees)
    (accepted : List Accepted) (message : Allocation) (g : StepState) (h : Keeps number top log now Holds Sees office accepted g)
    (log_is : g.allocator.raft_server.store.log ≡ log) (uid : List ℕ) (node : ℕ) where
  abbrev longer : List Entry
  longer = log ++ proposal top uid node ∷ []

  abbrev taken : List Accepted
  taken = after accepted message now (may_follow g.allocator)

  proposed : Keeps number top longer now (LeadsOnLog top longer) Anyone (log_office top longer) taken (proposes number 1 uid node (with_request message g))
  proposed = record {
    done = leads_longer top log (members_of g.allocator) g.allocator.me number g.allocator.raft_server uid node (office.leads g.allocator.raft_server h.done) log_is;
    clock = h.clock;
    status_at = h.status_at;
    accepts = λ i. after (h.accepts i) message (h.clock i) (may_follow g.allocator);
    offline = no_stranger_longer log (proposal top uid node ∷ []) (members_of g.allocator) g.allocator.watch now h.offline;
    discovery = h.discovery;
  }

  -- so it is behind the step
  pub grown_rests : Keeps number top longer now (LeadsOnLog top longer) Anyone (log_office top longer) taken
      (with_end_phase number (took (proposes number 1 uid node (with_request message g)))).step_state
  grown_rests = ends number top longer now (LeadsOnLog top longer) Anyone (log_office top longer) taken (proposes number 1 uid node (with_request message g)) proposed
