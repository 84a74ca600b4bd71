-- What it is that members which were just opened stay fit to serve in a calm, with devices or without, whoever leads;
-- and that no Discovery misses anybody in a calm in which none is due.
use Rattle.std.specs.Prelude.{◌≡◌, ◌≢◌, ◌⊎◌, ℕ, ◌+◌, ◌<◌, ◌≤◌, false, true, List, [], ◌++◌, length}
use Rattle.alloc_exchange.specs.Exchange.{Accepted, last_moment}
use Rattle.can_frame.specs.declared.entry.Entry.{Entry}
use Rattle.can_frame.specs.declared.step.What.TheVariants.{Disc}
use Rattle.can_frame.specs.Identifier.{identifier_number}
use Rattle.can_frame.specs.Log.{last_term, log_limit}
use Rattle.cluster_discovery.specs.Members.{is_on_list, owes}
use Rattle.disk_model.specs.Memory.{nothing_set}
use Rattle.node_discovery.specs.History.{is_online}
use Rattle.node_discovery.specs.Watch.{history}
use Rattle.raft_model.specs.Lists.{In}
use Rattle.raft_model.specs.Server.{Store}
use Rattle.raft_model.specs.Server.Role.{Leader}
use Rattle.bus_rows.specs.declared.row.Row.{Row}
use Rattle.transfer_tx.specs.Run.{of_identifier}
use Rattle.alloc_spec.specs.AllocatorState.{AllocatorState, knows_all, members_of, start_of}
use Rattle.alloc_spec.specs.Rules.{opening_by}
use Rattle.alloc_spec.specs.Transfers.{ident_of}
use Rattle.bus_rows.specs.Timed.{Timed, rows_in}
use Rattle.service_alone.specs.Calm.{Pace, end_of}
use Rattle.service_calm.specs.Calm.{AreCalm, Device, IsRunning, Member, Party, no_traffic}
use Rattle.service_calm.specs.Calls.{Lists}
use Rattle.service_device.specs.Recorded.{LeadsWith}
use Rattle.service_device.specs.Settled.{NobodyAsks, NobodyIsMissed}
use Rattle.service_device.specs.Settles.{HasComeToLead, WaitsWithBlank}
use Rattle.bus_spec.specs.Cluster.{Cluster, after_rows, rules_of, world_of}
use Rattle.bus_spec.specs.Lawful.{DoNoHarm}
use Rattle.bus_spec.specs.Members.MemberStatus.{Up}

-- ---- Discoveries

-- Member n runs, and no call of its disk is set to fail. It knows all members, and owes no Discovery: so none of its
-- own is due.
pub record NeedsNoDiscovery (n : ℕ) (w : Cluster) : Type 0 where
  pub running : IsRunning n w
  pub complete : knows_all running.server ≡ true
  pub discovery : owes (start_of running.server) running.server.heard ≡ false

-- where member n runs, no frame of a Discovery waits in its queue
abbrev pub HasNoneWaiting : ℕ → Cluster → Type 0
HasNoneWaiting n w = (server : AllocatorState) → (w.member n).status ≡ Up server →
    of_identifier (identifier_number (ident_of n Disc 0)) server.queue ≡ []

-- so it is of each member of the group
abbrev pub NoDiscoveryWaits : List Party → Cluster → Type 0
NoDiscoveryWaits group w = (p : ℕ) → In (Member p) group → HasNoneWaiting p w

-- In each calm from the world of these rows on, with devices or without: where each member of the group needs no
-- Discovery when the calm begins, and no frame of one waits, each Discovery that comes to any member misses nobody. In
-- fact none comes.
abbrev pub DiscoveriesMissNobody : List ℕ → List Row → Type 0
DiscoveriesMissNobody ids rows = (group : List Party) (clocks : Party → ℕ) (pace : Pace) (start m : ℕ)
    (front rest : List Timed) → let w = world_of ids rows in
    ((p : ℕ) → In (Member p) group → In p ids) →
    AreCalm group clocks pace (no_traffic start) w (front ++ rest) →
    ((p : ℕ) → In (Member p) group → NeedsNoDiscovery p w) → NoDiscoveryWaits group w → NobodyIsMissed m w front

-- ---- members that are tidy

-- Member n runs, and nothing that came by now keeps it from serving once it leads: no call of its disk is set to fail,
-- its clock has not fallen, it has accepted no request, no node is online that it does not list, it owes no Discovery,
-- and it knows all members. Its role is not asked, nor its log: a node that stands in its log alone is not online.
pub record IsTidy (n now : ℕ) (w : Cluster) : Type 0 where
  pub server : AllocatorState
  pub runs : (w.member n).status ≡ Up server
  pub faults : ℕ
  pub disk : (w.member n).disk.calls ≡ nothing_set faults
  pub clock : server.now ≤ now
  pub status : server.status_at ≤ now
  pub requests : server.accepted ≡ []
  pub listed : (other : ℕ) → is_on_list (members_of server) other ≡ false →
      is_online (history other server.watch) server.now ≡ false
  pub discovery : owes (start_of server) server.heard ≡ false
  pub complete : knows_all server ≡ true

-- the group has no device
abbrev pub AreMembersOnly : List Party → Type 0
AreMembersOnly group = (a : ℕ) → In (Device a) group → ⊥

-- In each calm from the world of these rows on, of members only, in which each of them needs no Discovery when it
-- begins, and no frame of one waits: no request comes to any member.
abbrev pub MembersAskNobody : List ℕ → List Row → Type 0
MembersAskNobody ids rows = (group : List Party) (clocks : Party → ℕ) (pace : Pace) (start m : ℕ)
    (front rest : List Timed) → let w = world_of ids rows in
    ((p : ℕ) → In (Member p) group → In p ids) → AreMembersOnly group →
    AreCalm group clocks pace (no_traffic start) w (front ++ rest) →
    ((p : ℕ) → In (Member p) group → NeedsNoDiscovery p w) → NoDiscoveryWaits group w → NobodyAsks m w front

-- In each calm from the world of these rows on, of members only: where each member of the group is tidy when the calm
-- begins, and lists each other one, and no frame of a Discovery waits, each stays tidy behind each front of the rows.
abbrev pub MembersStayTidy : List ℕ → List Row → Type 0
MembersStayTidy ids rows = (group : List Party) (clocks : Party → ℕ) (pace : Pace) (start m : ℕ)
    (front rest : List Timed) → let w = world_of ids rows in
    ((p : ℕ) → In (Member p) group → In p ids) → AreMembersOnly group →
    AreCalm group clocks pace (no_traffic start) w (front ++ rest) →
    ((p : ℕ) → In (Member p) group → IsTidy p (start + clocks (Member p)) w) →
    ((p q : ℕ) → In (Member p) group → In (Member q) group → p ≢ q → Lists p q w) →
    NoDiscoveryWaits group w → In (Member m) group →
    IsTidy m (end_of start front + clocks (Member m)) (after_rows w (rows_in front))

-- ---- members that stay fit beside devices

-- Member n is fit as a tidy one is, but it may have accepted requests of devices: the last one not after this moment of
-- its clock.
pub record IsFit (n now : ℕ) (w : Cluster) : Type 0 where
  pub server : AllocatorState
  pub runs : (w.member n).status ≡ Up server
  pub faults : ℕ
  pub disk : (w.member n).disk.calls ≡ nothing_set faults
  pub clock : server.now ≤ now
  pub status : server.status_at ≤ now
  pub last_request : last_moment server.accepted ≤ now
  pub listed : (other : ℕ) → is_on_list (members_of server) other ≡ false →
      is_online (history other server.watch) server.now ≡ false
  pub discovery : owes (start_of server) server.heard ≡ false
  pub complete : knows_all server ≡ true

-- a tidy member is fit
abbrev pub TidyMembersAreFit : Type 0
TidyMembersAreFit = (n now : ℕ) (w : Cluster) → IsTidy n now w → IsFit n now w

-- In each calm from the world of these rows on, with devices or without: where each member of the group is fit when the
-- calm begins, and lists each other one, and no frame of a Discovery waits, each stays fit behind each front of the
-- rows, whatever the devices of the group ask, whoever leads, and whatever is recorded.
abbrev pub MembersStayFit : List ℕ → List Row → Type 0
MembersStayFit ids rows = (group : List Party) (clocks : Party → ℕ) (pace : Pace) (start m : ℕ)
    (front rest : List Timed) → let w = world_of ids rows in
    ((p : ℕ) → In (Member p) group → In p ids) →
    AreCalm group clocks pace (no_traffic start) w (front ++ rest) →
    ((p : ℕ) → In (Member p) group → IsFit p (start + clocks (Member p)) w) →
    ((p q : ℕ) → In (Member p) group → In (Member q) group → p ≢ q → Lists p q w) →
    NoDiscoveryWaits group w → In (Member m) group →
    IsFit m (end_of start front + clocks (Member m)) (after_rows w (rows_in front))

-- In a calm in which each member is tidy when it begins no Discovery misses anybody. That the group has no device is
-- not asked for it, nor who lists whom.
abbrev pub TidyMembersMissNobody : List ℕ → List Row → Type 0
TidyMembersMissNobody ids rows = (group : List Party) (clocks : Party → ℕ) (pace : Pace) (start m : ℕ)
    (front rest : List Timed) → let w = world_of ids rows in
    ((p : ℕ) → In (Member p) group → In p ids) →
    AreCalm group clocks pace (no_traffic start) w (front ++ rest) →
    ((p : ℕ) → In (Member p) group → IsTidy p (start + clocks (Member p)) w) → NoDiscoveryWaits group w →
    NobodyIsMissed m w front

-- ---- where members become tidy, and what they may then become

-- Member n is tidy, lists each member, and has no frame of a Discovery waiting: so such a calm may begin.
pub record IsReady (ids : List ℕ) (n now : ℕ) (w : Cluster) : Type 0 where
  pub tidy : IsTidy n now w
  pub lists : (m : ℕ) → In m ids → Lists n m w
  pub none_waits : HasNoneWaiting n w

-- A member that was opened at a moment, and was told the members, is ready as long as it has taken no step, where no
-- call of its disk is set to fail, and the moment is not above the one that is given now.
abbrev pub OpenedMembersAreReady : List ℕ → Type 0
OpenedMembersAreReady ids = (n now moment word faults : ℕ) (store : Store) (w : Cluster) → In n ids →
    (w.member n).status ≡ Up (opening_by n (rules_of ids true) store moment word) →
    (w.member n).disk.calls ≡ nothing_set faults → moment ≤ now → IsReady ids n now w

-- A tidy member that leads, and adds no blank, leads as `LeadsWith` says it, with no request accepted.
abbrev pub TidyMembersLead : Type 0
TidyMembersLead = (n now : ℕ) (log : List Entry) (w : Cluster) (h : IsTidy n now w) →
    h.server.raft_server.memory.role ≡ Leader → h.server.raft_server.store.log ≡ log →
    (h.server.raft_server.store.commit ≡ length log) ⊎ (last_term log ≡ h.server.raft_server.store.term) →
    LeadsWith n log [] now w

-- A tidy member that leads, has told no more than it has committed, and waits with its blank where that is not all, or
-- has added it, has come to lead as `HasComeToLead` says it.
abbrev pub TidyMembersComeToLead : Type 0
TidyMembersComeToLead = (ids : List ℕ) (n now : ℕ) (log : List Entry) (w : Cluster) (h : IsTidy n now w) →
    h.server.raft_server.memory.role ≡ Leader → h.server.raft_server.store.log ≡ log →
    h.server.raft_server.memory.told ≤ h.server.raft_server.store.commit →
    (h.server.raft_server.store.commit < length log →
    WaitsWithBlank ids n log h.server ⊎ (last_term log ≡ h.server.raft_server.store.term)) →
    HasComeToLead ids n log now w

-- More rows do no harm behind these ones. Whoever leads in the world behind them, and is fit, has come to lead as
-- `HasComeToLead` says it, however long it has led. Its log has room, where something of it is not committed.
abbrev pub WhoLeadsHasComeToLead : List ℕ → List Row → Type 0
WhoLeadsHasComeToLead ids rows = (more : List Row) (n now : ℕ) → DoNoHarm (world_of ids rows) more →
    let w = after_rows (world_of ids rows) more in In n ids → (h : IsFit n now w) →
    h.server.raft_server.memory.role ≡ Leader →
    (h.server.raft_server.store.commit < length h.server.raft_server.store.log →
    length h.server.raft_server.store.log < log_limit) →
    HasComeToLead ids n h.server.raft_server.store.log now w

-- A member that is fit and leads, and adds no blank, leads so with the requests that it has accepted.
abbrev pub FitMembersLead : Type 0
FitMembersLead = (n now : ℕ) (log : List Entry) (accepted : List Accepted) (w : Cluster) (h : IsFit n now w) →
    h.server.raft_server.memory.role ≡ Leader → h.server.raft_server.store.log ≡ log →
    (h.server.raft_server.store.commit ≡ length log) ⊎ (last_term log ≡ h.server.raft_server.store.term) →
    h.server.accepted ≡ accepted →
    LeadsWith n log accepted now w
