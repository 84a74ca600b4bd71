-- A leader's log stays in a calm, row by row, until a request makes it grow.
use Rattle.std.proofs.Common.{◌≡◌, ◌≢◌, ℕ, Bool, ◌+◌, ◌≤◌, List, [], ◌∷◌, ◌++◌, sym, ◌∙◌, ap, subst, arith, inl, inr}
use Rattle.std.specs.Prelude.{◌||◌, max}
use Rattle.alloc_exchange.specs.Exchange.{Accepted, after, answer, last_moment}
use Rattle.can_frame.specs.declared.entry.Entry.{Entry}
use Rattle.cluster_discovery.specs.Members.{is_on_list}
use Rattle.dsdl_codec.specs.declared.allocation.Allocation.{Allocation}
use Rattle.raft_core.specs.Taken.{proposal}
use Rattle.raft_model.specs.Lists.{In}
use Rattle.raft_model.specs.Server.{RaftServer, Store}
use Rattle.bus_rows.specs.declared.row.Row.{Row}
use Rattle.bus_rows.specs.declared.row.Row.TheVariants.{Rx}
use Rattle.transfer_rx.specs.Reassembly.{Delivery, Gives, answer as received}
use Rattle.alloc_spec.specs.Accepted.{setting_for}
use Rattle.alloc_spec.specs.AllocatorState.{AllocatorState, is_recorded, members_of}
use Rattle.alloc_spec.specs.Delivered.{StepResult}
use Rattle.alloc_spec.specs.Exchange.{may_follow}
use Rattle.alloc_spec.specs.Step.{step}
use Rattle.alloc_spec.specs.StepState.{StepState}
use Rattle.bus_agreement.specs.LawsBelow.{FrameLaws}
use Rattle.service_steps.proofs.Begins.{IsAsBefore}
use Rattle.service_steps.proofs.FollowUps.{begun, same_follow, when_come}
use Rattle.service_alone.specs.Calm.{Pace}
use Rattle.service_calm.specs.Calm.{IsCalmRow, Member as OfMember, Party, Traffic}
use Rattle.service_calm.specs.Calls.{Lists}
use Rattle.service_leader.specs.LeadsOn.{LeadsIn}
use Rattle.service_device.specs.Recorded.{Grows, KeepsLog, LeaderSettles, LeadsWith, SettledLeads}
use Rattle.service_device.specs.Settled.{IsAsked, MissesNobody}
use Rattle.service_leader.proofs.LeadsOnWays.{AreOfGroup}
use Rattle.service_calm.proofs.Pair.{same_server}
use Rattle.service_device.proofs.RecordedRaft.{LeadsOnLog, log_office}
use Rattle.service_device.proofs.RecordedSteps.{grown_rests}
use Rattle.service_device.proofs.SettledAsked.{may_record}
use Rattle.service_device.proofs.SettledRaft.{Anyone, IsOffice}
use Rattle.service_device.proofs.SettledRows.{Grew, Leaves, asked_row, unasked_in}
use Rattle.service_device.proofs.SettledServers.{Settles, after_ends, rested}
use Rattle.service_device.proofs.SettledSteps.{Keeps}
use Rattle.service_leader.proofs.TermsKept.{TellsWithin}
use Rattle.bus_spec.specs.Cluster.{Cluster, after_row, arrival_at, frame_at, receipt_of}

-- ---- who leads with a log, by its server

-- who leads with it is in office
pub in_office : (n top : ℕ) (log : List Entry) (accepted : List Accepted) (now : ℕ) (w : Cluster) (h : LeadsWith n log accepted now w) → LeadsIn n top w
    → Settles (LeadsOnLog top log) log accepted now (w.member n) h.server
in_office n top log accepted now w h leads = record {
  up = record { status = h.runs; quiet = record { faults = h.faults; calls = h.disk } };
  done = record {
    leads = (h.leads, its_term);
    log_is = h.log_is;
    no_blank = elim h.no_blank [ inl z ↦ inl z | inr z ↦ inr (z ∙ its_term) ];
  };
  clock = h.clock;
  status = h.status;
  accepts = h.requests;
  requests = h.last_request;
  offline = λ other e. h.known other (ap (λ (l : List Entry). is_on_list (members_of h.server) other || is_recorded l other) h.log_is ∙ e);
  discovery = h.discovery;
}
  where
    its_term : h.server.raft_server.store.term ≡ top
    its_term = ap (λ (t : AllocatorState). t.raft_server.store.term) (same_server h.server leads.server (sym h.runs ∙ leads.runs)) ∙ leads.its_term

-- and who is in office leads with it
pub leads_with : (n top : ℕ) (log : List Entry) (accepted : List Accepted) (now : ℕ) (w : Cluster) (t : AllocatorState)
    → Settles (LeadsOnLog top log) log accepted now (w.member n) t → LeadsWith n log accepted now w
leads_with n top log accepted now w t h = record {
  server = t;
  runs = h.up.status;
  faults = h.up.quiet.faults;
  disk = h.up.quiet.calls;
  leads = h.done.leads.0;
  log_is = h.done.log_is;
  no_blank = elim h.done.no_blank [ inl z ↦ inl z | inr z ↦ inr (z ∙ sym h.done.leads.1) ];
  requests = h.accepts;
  clock = h.clock;
  status = h.status;
  last_request = h.requests;
  known = λ other e. h.offline other (ap (λ (l : List Entry). is_on_list (members_of t) other || is_recorded l other) (sym h.done.log_is) ∙ e);
  discovery = h.discovery;
}

pub settled_leads : SettledLeads
settled_leads n now log accepted w is = let h = is.settled in record {
  server = h.server;
  runs = h.runs;
  faults = h.faults;
  disk = h.disk;
  leads = h.leads;
  log_is = h.log_is;
  no_blank = inl h.committed;
  requests = is.requests;
  clock = h.clock;
  status = h.status;
  last_request = let e = ap (λ (l : List Accepted). last_moment l) is.requests in let r = h.requests in omega (arith, e, r);
  known = h.known;
  discovery = h.discovery;
}

pub leader_settles : LeaderSettles
leader_settles n now log accepted w h committed told = record {
  settled = record {
    server = h.server;
    runs = h.runs;
    faults = h.faults;
    disk = h.disk;
    leads = h.leads;
    log_is = h.log_is;
    committed = committed;
    told = told;
    clock = h.clock;
    status = h.status;
    requests = let e = ap (λ (l : List Accepted). last_moment l) h.requests in let r = h.last_request in omega (arith, e, r);
    known = h.known;
    discovery = h.discovery;
  };
  requests = h.requests;
}

-- ---- a request makes the log grow

-- Who is in office leads with the log that has grown, and adds no blank.
module _ (frame : FrameLaws) (group : List Party) (clocks : Party → ℕ) (pace : Pace) (n top : ℕ) (log : List Entry) (Holds : RaftServer → Type 0)
    (Sees : List ℕ → ℕ → Bool → Type 0) (office : IsOffice top log Holds Sees) (accepted : List Accepted) (before moment : ℕ)
    (traffic : Traffic) (w : Cluster) (nodes : (p : ℕ) → In (OfMember p) group → (1 ≤ p) × (p ≤ 125)) (member : In (OfMember n) group)
    (flies : (party : Party) → AreOfGroup group w.frames (traffic.to party)) (lists : (p : ℕ) → In (OfMember p) group → p ≢ n → Lists n p w)
    (later : before ≤ moment + clocks (OfMember n)) (row : Row) (message : Allocation) (is : IsAsked n message w row)
    (g : Grew frame group clocks pace n top log Holds Sees office accepted before moment traffic w nodes member flies lists later row message is)
    (log_is : is.comes.server.raft_server.store.log ≡ log) where
  abbrev by_then : ℕ
  by_then = moment + clocks (OfMember n)

  abbrev come : StepState
  come = when_come is.comes.server (w.rows + 1) (arrival_at (frame_at w.frames is.comes.k) is.comes.ms)

  abbrev then_accepted : List Accepted
  then_accepted = after is.comes.server.accepted message (max is.comes.server.now is.comes.ms) (may_follow is.comes.server)

  abbrev longer : List Entry
  longer = log ++ proposal top g.growth.uid g.growth.node ∷ []

  abbrev then_server : AllocatorState
  then_server = (step is.comes.server (w.rows + 1) (receipt_of w is.comes.k is.comes.ms)).step_state.allocator

  begins : IsAsBefore is.comes.server.raft_server come.allocator.raft_server
  begins = begun is.comes.server (w.rows + 1) (arrival_at (frame_at w.frames is.comes.k) is.comes.ms)

  same_may : may_follow come.allocator ≡ may_follow is.comes.server
  same_may = same_follow is.comes.server come.allocator.raft_server begins.store begins.role

  taken_as : after accepted message by_then (may_follow come.allocator) ≡ then_accepted
  taken_as = λ i. after (sym g.had.accepts i) message (sym g.now_is i) (same_may i)

  rests : Keeps (w.rows + 1) top longer by_then (LeadsOnLog top longer) Anyone (log_office top longer) then_accepted
      (step is.comes.server (w.rows + 1) (receipt_of w is.comes.k is.comes.ms)).step_state
  rests = subst (λ (l : List Accepted). Keeps (w.rows + 1) top longer by_then (LeadsOnLog top longer) Anyone (log_office top longer) l
      (step is.comes.server (w.rows + 1) (receipt_of w is.comes.k is.comes.ms)).step_state) taken_as
      (subst (λ (r : StepResult). Keeps (w.rows + 1) top longer by_then (LeadsOnLog top longer) Anyone (log_office top longer)
      (after accepted message by_then (may_follow come.allocator)) r.step_state) (sym g.stepped)
      (grown_rests (w.rows + 1) top log by_then Holds Sees office accepted message come g.come (ap (λ (s : Store). s.log) begins.store ∙ log_is)
      g.growth.uid g.growth.node))

  ends_by : last_moment then_accepted ≤ by_then
  ends_by = after_ends is.comes.server.accepted message (max is.comes.server.now is.comes.ms) by_then (may_follow is.comes.server)
      (let e = ap (λ (l : List Accepted). last_moment l) g.had.accepts in let r = g.had.requests in omega (arith, e, r, later))
      (let e = g.now_is in omega (arith, e))

  longer_leads : LeadsWith n longer then_accepted by_then (after_row w row)
  longer_leads = leads_with n top longer then_accepted by_then (after_row w row) then_server
      (rested (w.rows + 1) top longer by_then (LeadsOnLog top longer) Anyone (log_office top longer) then_accepted ((after_row w row).member n) then_server rests g.up ends_by)

  pub grows_by : Grows n log by_then message w row is
  grows_by = record {
    uid = g.growth.uid;
    preferred = g.growth.preferred;
    node = g.growth.node;
    whole = (λ i. answer (g.had.accepts i) message (g.now_is i) (may_follow is.comes.server)) ∙ g.growth.whole;
    may = may_record (w.rows + 1) is.comes.server (arrival_at (frame_at w.frames is.comes.k) is.comes.ms) message _ g.growth;
    leads = subst (λ (term : ℕ). LeadsWith n (log ++ proposal term g.growth.uid g.growth.node ∷ []) then_accepted by_then (after_row w row))
        (sym (office.leads is.comes.server.raft_server g.had.done).1) longer_leads;
  }

-- ---- a row

module _ (frame : FrameLaws) (group : List Party) (clocks : Party → ℕ) (pace : Pace) (n top : ℕ) (log : List Entry) (accepted : List Accepted) (before moment : ℕ)
    (traffic : Traffic) (w : Cluster) (nodes : (p : ℕ) → In (OfMember p) group → (1 ≤ p) × (p ≤ 125)) (member : In (OfMember n) group)
    (flies : (party : Party) → AreOfGroup group w.frames (traffic.to party)) (lists : (p : ℕ) → In (OfMember p) group → p ≢ n → Lists n p w)
    (later : before ≤ moment + clocks (OfMember n)) (t : AllocatorState) (h : Settles (LeadsOnLog top log) log accepted before (w.member n) t) (me : t.me ≡ n)
    (row : Row) (calm : IsCalmRow group clocks pace traffic w moment row) where
  abbrev now : ℕ
  now = moment + clocks (OfMember n)

  abbrev LeavesIt : List Accepted → Type 0
  LeavesIt then_accepted = Leaves frame group clocks pace n top log (LeadsOnLog top log) Anyone (log_office top log) accepted before moment traffic w nodes member flies lists
      later then_accepted row

  leads_on : (then_accepted : List Accepted) → LeavesIt then_accepted → LeadsWith n log then_accepted now (after_row w row)
  leads_on then_accepted leaves = leads_with n top log then_accepted now (after_row w row) leaves.0 leaves.1

  -- each calm row leaves it with its log, unless a request makes it grow
  pub keeps_log : ((k ms : ℕ) → row ≡ Rx n k ms → (d : Delivery) → received (setting_for t.me) t.sessions (arrival_at (frame_at w.frames k) (max t.now ms)) ≡ Gives d
      → TellsWithin top d) → MissesNobody n w row → KeepsLog n log accepted now w row
  keeps_log within missed = record {
    unasked = λ not_asked. leads_on accepted (unasked_in frame group clocks pace n top log (LeadsOnLog top log) Anyone (log_office top log) accepted before moment traffic w
        nodes member flies lists later t h me row tt calm within missed not_asked);
    asked = λ message is. elim (asked_row frame group clocks pace n top log (LeadsOnLog top log) Anyone (log_office top log) accepted before moment traffic w nodes member flies
        lists later t h me row calm message is) [
          | inl g ↦ inl (grows_by frame group clocks pace n top log (LeadsOnLog top log) Anyone (log_office top log) accepted before moment traffic w nodes member flies lists
              later row message is g g.had.done.log_is)
          | inr leaves ↦ inr (leads_on _ leaves)
        ];
  }
