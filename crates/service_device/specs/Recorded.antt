-- What it is that a leader's log stays as it is in a calm, whether the whole of it is committed or not, until a
-- device's request makes it grow.
use Rattle.std.specs.Prelude.{◌≡◌, ◌⊎◌, ℕ, ◌+◌, ◌<◌, ◌≤◌, max, false, List, [], ◌∷◌, ◌++◌, length}
use Rattle.alloc_exchange.specs.declared.heard.Heard.TheVariants.{Whole}
use Rattle.alloc_exchange.specs.Exchange.{Accepted, after, answer, last_moment}
use Rattle.can_frame.specs.declared.entry.Entry.{Entry}
use Rattle.can_frame.specs.Log.{last_term, log_limit}
use Rattle.cluster_discovery.specs.Members.{owes}
use Rattle.disk_model.specs.Memory.{nothing_set}
use Rattle.dsdl_codec.specs.declared.allocation.Allocation.{Allocation}
use Rattle.node_discovery.specs.History.{is_online}
use Rattle.node_discovery.specs.Watch.{history}
use Rattle.raft_core.specs.Taken.{proposal}
use Rattle.raft_model.specs.Server.Role.{Leader}
use Rattle.bus_rows.specs.declared.row.Row.{Row}
use Rattle.alloc_spec.specs.AllocatorState.{AllocatorState, is_known, start_of}
use Rattle.alloc_spec.specs.Exchange.{may_follow}
use Rattle.service_steps.specs.Serving.{MayRecord}
use Rattle.bus_rows.specs.Timed.{Timed, rows_in}
use Rattle.service_alone.specs.Calm.{Pace, end_of}
use Rattle.service_calm.specs.Calm.{Member, Party}
use Rattle.service_calm.specs.Comes.{Throughout}
use Rattle.service_device.specs.Settled.{IsAsked, IsCalmUnder, IsNotAsked, IsSettled, NobodyAsks}
use Rattle.bus_spec.specs.Cluster.{Cluster, after_row, after_rows, world_of}
use Rattle.bus_spec.specs.Members.MemberStatus.{Up}

-- Member n leads, with this log, and has accepted these requests of the exchange since the last clearing. It adds no
-- blank: it has committed its whole log, or the last entry is of its own term. All else is as of one that has settled:
-- no call of its disk is set to fail, its clock has not fallen, no node is online that it does not know, and it owes no
-- Discovery. How much it has committed and told is not asked.
pub record LeadsWith (n : ℕ) (log : List Entry) (accepted : List Accepted) (now : ℕ) (w : Cluster) : Type 0 where
  pub server : AllocatorState
  pub runs : (w.member n).status ≡ Up server
  pub faults : ℕ
  pub disk : (w.member n).disk.calls ≡ nothing_set faults
  pub leads : server.raft_server.memory.role ≡ Leader
  pub log_is : server.raft_server.store.log ≡ log
  pub no_blank : (server.raft_server.store.commit ≡ length log) ⊎ (last_term log ≡ server.raft_server.store.term)
  pub requests : server.accepted ≡ accepted
  pub clock : server.now ≤ now
  pub status : server.status_at ≤ now
  pub last_request : last_moment accepted ≤ now
  pub known : (other : ℕ) → is_known server other ≡ false → is_online (history other server.watch) server.now ≡ false
  pub discovery : owes (start_of server) server.heard ≡ false

-- who has settled leads with its log
abbrev pub SettledLeads : Type 0
SettledLeads = (n now : ℕ) (log : List Entry) (accepted : List Accepted) (w : Cluster) →
    IsSettled n log accepted now w →
    LeadsWith n log accepted now w

-- Who leads with a log has settled with it, once it has committed and told the whole of it.
abbrev pub LeaderSettles : Type 0
LeaderSettles = (n now : ℕ) (log : List Entry) (accepted : List Accepted) (w : Cluster)
    (h : LeadsWith n log accepted now w) →
    h.server.raft_server.store.commit ≡ length log → h.server.raft_server.memory.told ≡ length log →
    IsSettled n log accepted now w

-- ---- what a row leaves

-- The request that comes makes a unique ID whole that the log lacks, and that may be recorded with a node ID. The
-- member leads with a log that has grown by the two.
pub record Grows (n : ℕ) (log : List Entry) (now : ℕ) (message : Allocation) (w : Cluster) (row : Row)
    (asked : IsAsked n message w row) : Type 0 where
  pub uid : List ℕ
  pub preferred : ℕ
  pub node : ℕ
  pub whole : answer asked.comes.server.accepted message (max asked.comes.server.now asked.comes.ms)
      (may_follow asked.comes.server) ≡ Whole uid preferred
  pub may : MayRecord asked.comes.server (max asked.comes.server.now asked.comes.ms) preferred uid node
  pub leads : LeadsWith n (log ++ proposal asked.comes.server.raft_server.store.term uid node ∷ [])
      (after asked.comes.server.accepted message (max asked.comes.server.now asked.comes.ms)
      (may_follow asked.comes.server))
      now (after_row w row)

-- Where no request comes in this row, the member leads with its log as before. Where one comes, the log grows by what
-- it makes whole; or the request is taken as the exchange takes it.
pub record KeepsLog (n : ℕ) (log : List Entry) (accepted : List Accepted) (now : ℕ) (w : Cluster)
    (row : Row) : Type 0 where
  pub unasked : IsNotAsked n w row → LeadsWith n log accepted now (after_row w row)
  pub asked : (message : Allocation) (is : IsAsked n message w row) → Grows n log now message w row is
      ⊎ LeadsWith n log (after accepted message (max is.comes.server.now is.comes.ms) (may_follow is.comes.server)) now
      (after_row w row)

-- each row leaves it so, from which on n leads in a calm and the others follow
abbrev pub EachRowKeepsTheLog : List ℕ → List Row → Type 0
EachRowKeepsTheLog ids rows = (group : List Party) (clocks : Party → ℕ) (pace : Pace) (start n term : ℕ)
    (log : List Entry) (accepted : List Accepted) (first front rest : List Timed) (timed : Timed) →
    IsCalmUnder ids rows group clocks pace start n term first (front ++ timed ∷ rest) →
    let there = after_rows (after_rows (world_of ids rows) (rows_in first)) (rows_in front) in
    LeadsWith n log accepted (end_of (end_of start first) front + clocks (Member n)) there →
    KeepsLog n log accepted (timed.at + clocks (Member n)) there timed.row

-- ---- while something is to be committed

-- member n has not committed its whole log
abbrev pub IsUncommitted : ℕ → Cluster → Type 0
IsUncommitted n w = (server : AllocatorState) → (w.member n).status ≡ Up server →
    server.raft_server.store.commit < length server.raft_server.store.log

-- In such a calm: as long as n has not committed its whole log, it leads with that log, whatever devices ask meanwhile;
-- where none of their requests is accepted at the beginning, none is accepted, since it gives no follow-up. The log is
-- not full. It is said from any moment on from which n leads: `early` are the rows before.
abbrev pub LogStaysUncommitted : List ℕ → List Row → Type 0
LogStaysUncommitted ids rows = (group : List Party) (clocks : Party → ℕ) (pace : Pace) (start n term : ℕ)
    (log : List Entry) (first early front rest : List Timed) →
    IsCalmUnder ids rows group clocks pace start n term first (early ++ (front ++ rest)) →
    let there = after_rows (after_rows (world_of ids rows) (rows_in first)) (rows_in early) in
    let moment = end_of (end_of start first) early in length log < log_limit →
    LeadsWith n log [] (moment + clocks (Member n)) there → Throughout (IsUncommitted n) there front →
    LeadsWith n log [] (end_of moment front + clocks (Member n)) (after_rows there (rows_in front))

-- In such a calm, where nobody asks: member n leads with its log, and has accepted no more requests, whatever it has
-- committed.
abbrev pub LogStaysUnasked : List ℕ → List Row → Type 0
LogStaysUnasked ids rows = (group : List Party) (clocks : Party → ℕ) (pace : Pace) (start n term : ℕ)
    (log : List Entry) (accepted : List Accepted) (first early front rest : List Timed) →
    IsCalmUnder ids rows group clocks pace start n term first (early ++ (front ++ rest)) →
    let there = after_rows (after_rows (world_of ids rows) (rows_in first)) (rows_in early) in
    let moment = end_of (end_of start first) early in
    LeadsWith n log accepted (moment + clocks (Member n)) there → NobodyAsks n there front →
    LeadsWith n log accepted (end_of moment front + clocks (Member n)) (after_rows there (rows_in front))
