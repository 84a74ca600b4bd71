-- What it is that a leader which has settled stays settled in a calm, until a device's request makes its log grow.
use Rattle.std.specs.Prelude.{⊤, ◌≡◌, ◌≢◌, ◌⊎◌, ℕ, ◌+◌, ◌≤◌, max, true, List, [], ◌∷◌, ◌++◌, length, Some}
use Rattle.alloc_exchange.specs.declared.heard.Heard.TheVariants.{Whole}
use Rattle.alloc_exchange.specs.Exchange.{Accepted, after, answer}
use Rattle.can_frame.specs.declared.entry.Entry.{Entry}
use Rattle.can_frame.specs.declared.identifier.Kind.TheVariants.{Anonymous, Message}
use Rattle.can_frame.specs.DataTypes.{discovery}
use Rattle.dsdl_codec.specs.declared.allocation.Allocation.{Allocation}
use Rattle.dsdl_codec.specs.declared.discovery.Discovery.{Discovery}
use Rattle.dsdl_codec.specs.Allocation.{allocation_of}
use Rattle.dsdl_codec.specs.Discovery.{discovery_of}
use Rattle.raft_model.specs.Lists.{In}
use Rattle.bus_rows.specs.declared.row.Row.{Row}
use Rattle.bus_rows.specs.declared.row.Row.TheVariants.{Rx}
use Rattle.transfer_rx.specs.Reassembly.{Delivery, Gives, answer as received}
use Rattle.alloc_spec.specs.Accepted.{setting_for}
use Rattle.alloc_spec.specs.AllocatorState.{AllocatorState}
use Rattle.alloc_spec.specs.Step.{step}
use Rattle.service_steps.specs.Serving.{MayRecord, Records}
use Rattle.bus_rows.specs.Timed.{Timed, rows_in}
use Rattle.service_alone.specs.Calm.{HasSettled, Pace, end_of}
use Rattle.service_calm.specs.Calm.{AreCalm, AreRunning, Member, Party, no_traffic}
use Rattle.service_calm.specs.Calls.{Lists}
use Rattle.service_leader.specs.LeadsOn.{IsLedThroughout}
use Rattle.bus_spec.specs.Cluster.{Cluster, after_row, after_rows, arrival_at, frame_at, receipt_of, world_of}
use Rattle.bus_spec.specs.Lawful.{DoNoHarm}
use Rattle.bus_spec.specs.Members.MemberStatus.{Up}

-- ---- what comes to the leader

-- in this row a frame comes to member n, whose receiver delivers this
pub record IsDelivered (n : ℕ) (d : Delivery) (w : Cluster) (row : Row) : Type 0 where
  pub k : ℕ
  pub ms : ℕ
  pub comes : row ≡ Rx n k ms
  pub server : AllocatorState
  pub runs : (w.member n).status ≡ Up server
  pub gives : received (setting_for n) server.sessions (arrival_at (frame_at w.frames k) (max server.now ms)) ≡ Gives d

-- In this row a request of a device comes to member n, and says this. Whether the exchange accepts it is not asked.
pub record IsAsked (n : ℕ) (message : Allocation) (w : Cluster) (row : Row) : Type 0 where
  pub request : Delivery
  pub comes : IsDelivered n request w row
  pub anonymous : request.ident.kind ≡ Anonymous
  pub says : allocation_of request.payload ≡ Some message

-- in this row no request comes to member n
abbrev pub IsNotAsked : ℕ → Cluster → Row → Type 0
IsNotAsked n w row = (message : Allocation) → IsAsked n message w row → ⊥

-- A Discovery that comes to member n in this row names as many nodes as the cluster of n has members: its sender misses
-- nobody, so n owes it no answer. It is not asked that one comes.
abbrev pub MissesNobody : ℕ → Cluster → Row → Type 0
MissesNobody n w row = (d : Delivery) (message : Discovery) (comes : IsDelivered n d w row) →
    d.ident.kind ≡ Message → d.ident.number ≡ discovery.number → discovery_of d.payload ≡ Some message →
    comes.server.size ≤ length message.known.items

-- ---- what a row leaves

-- member n has settled with this log, and has accepted these requests of the exchange since the last clearing
pub record IsSettled (n : ℕ) (log : List Entry) (accepted : List Accepted) (now : ℕ) (w : Cluster) : Type 0 where
  pub settled : HasSettled n log now w
  pub requests : settled.server.accepted ≡ accepted

-- The request that comes makes a unique ID whole that the log lacks, and that may be recorded with a node ID. The log
-- has grown by the two. Whether they are committed is not asked, nor whom they were told.
pub record IsRecorded (n : ℕ) (message : Allocation) (w : Cluster) (row : Row)
    (asked : IsAsked n message w row) : Type 0 where
  pub uid : List ℕ
  pub preferred : ℕ
  pub node : ℕ
  pub whole : answer asked.comes.server.accepted message (max asked.comes.server.now asked.comes.ms) true
      ≡ Whole uid preferred
  pub may : MayRecord asked.comes.server (max asked.comes.server.now asked.comes.ms) preferred uid node
  pub records : Records asked.comes.server uid node
      (step asked.comes.server (w.rows + 1) (receipt_of w asked.comes.k asked.comes.ms))
  pub runs : ((after_row w row).member n).status
      ≡ Up (step asked.comes.server (w.rows + 1) (receipt_of w asked.comes.k asked.comes.ms)).step_state.allocator

-- Where no request comes in this row, member n is settled behind it as it was, at this moment of its clock. Where one
-- comes, its log has grown by what the request makes whole; or it is settled behind the row, with the same log, and has
-- taken the request as an exchange does in which follow-ups may be given.
pub record StaysSettled (n : ℕ) (log : List Entry) (accepted : List Accepted) (now : ℕ) (w : Cluster)
    (row : Row) : Type 0 where
  pub unasked : IsNotAsked n w row → IsSettled n log accepted now (after_row w row)
  pub asked : (message : Allocation) (is : IsAsked n message w row) → IsRecorded n message w row is
      ⊎ IsSettled n log (after accepted message (max is.comes.server.now is.comes.ms) true) now (after_row w row)

-- ---- in all rows

-- in each of these rows a Discovery that comes to member n misses nobody
abbrev pub NobodyIsMissed : ℕ → Cluster → List Timed → Type 0
NobodyIsMissed n w [] = ⊤
NobodyIsMissed n w (timed ∷ rest) = MissesNobody n w timed.row × NobodyIsMissed n (after_row w timed.row) rest

-- in none of these rows a request comes to member n
abbrev pub NobodyAsks : ℕ → Cluster → List Timed → Type 0
NobodyAsks n w [] = ⊤
NobodyAsks n w (timed ∷ rest) = IsNotAsked n w timed.row × NobodyAsks n (after_row w timed.row) rest

-- in none of these rows the log of member n grows by what a request makes whole
abbrev pub NothingIsRecorded : ℕ → Cluster → List Timed → Type 0
NothingIsRecorded n w [] = ⊤
NothingIsRecorded n w (timed ∷ rest) =
    ((message : Allocation) (asked : IsAsked n message w timed.row) → IsRecorded n message w timed.row asked → ⊥)
    × NothingIsRecorded n (after_row w timed.row) rest

-- In each calm from the world of these rows on: behind its first rows member n of the group leads throughout, and the
-- others follow. The rows do no harm, n lists each other member when the calm begins, and behind the first rows who
-- sends it a Discovery misses nobody. Who leads in the first rows is not asked.
pub record IsCalmUnder (ids : List ℕ) (rows : List Row) (group : List Party) (clocks : Party → ℕ) (pace : Pace)
    (start n term : ℕ) (first later : List Timed) : Type 0 where
  pub listed : (p : ℕ) → In (Member p) group → In p ids
  pub running : AreRunning group (world_of ids rows)
  pub member : In (Member n) group
  pub calm : AreCalm group clocks pace (no_traffic start) (world_of ids rows) (first ++ later)
  pub harmless : DoNoHarm (world_of ids rows) (rows_in (first ++ later))
  pub led : IsLedThroughout group n term (after_rows (world_of ids rows) (rows_in first)) later
  pub lists : (m : ℕ) → In (Member m) group → m ≢ n → Lists n m (world_of ids rows)
  pub missed : NobodyIsMissed n (after_rows (world_of ids rows) (rows_in first)) later

-- Each row leaves n settled, where it has settled before the row: unless a request makes its log grow. It is said of
-- each row from which on n leads.
abbrev pub EachRowLeavesItSettled : List ℕ → List Row → Type 0
EachRowLeavesItSettled ids rows = (group : List Party) (clocks : Party → ℕ) (pace : Pace) (start n term : ℕ)
    (log : List Entry) (accepted : List Accepted) (first front rest : List Timed) (timed : Timed) →
    IsCalmUnder ids rows group clocks pace start n term first (front ++ timed ∷ rest) →
    let there = after_rows (after_rows (world_of ids rows) (rows_in first)) (rows_in front) in
    IsSettled n log accepted (end_of (end_of start first) front + clocks (Member n)) there →
    StaysSettled n log accepted (timed.at + clocks (Member n)) there timed.row

-- So it is settled behind each front of rows in which nothing is recorded; and it has accepted no more requests, where
-- none came. More rows may be there between the moment from which on n leads and that at which it has settled: these
-- are `early`.
abbrev pub AllRowsLeaveItSettled : List ℕ → List Row → Type 0
AllRowsLeaveItSettled ids rows = (group : List Party) (clocks : Party → ℕ) (pace : Pace) (start n term : ℕ)
    (log : List Entry) (first early front rest : List Timed) →
    IsCalmUnder ids rows group clocks pace start n term first (early ++ (front ++ rest)) →
    let there = after_rows (after_rows (world_of ids rows) (rows_in first)) (rows_in early) in
    let moment = end_of (end_of start first) early in
    let then = end_of moment front + clocks (Member n) in
    let later = after_rows there (rows_in front) in
    (HasSettled n log (moment + clocks (Member n)) there → NothingIsRecorded n there front →
    HasSettled n log then later)
    × ((accepted : List Accepted) → IsSettled n log accepted (moment + clocks (Member n)) there →
    NobodyAsks n there front → IsSettled n log accepted then later)
