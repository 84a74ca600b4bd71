-- What it is that a leader's call is heard in time, and that who hears it follows on.
use Rattle.std.specs.Prelude.{◌≡◌, ◌≢◌, ◌⊎◌, ℕ, ◌+◌, ◌*◌, ◌<◌, ◌≤◌, max, List, ◌∷◌, ◌++◌, Some}
use Rattle.can_frame.specs.declared.step.What.TheVariants.{AppQ}
use Rattle.can_frame.specs.Timing.{election_wait, transfer_timeout}
use Rattle.dsdl_codec.specs.declared.append_request.AppendRequest.{AppendRequest}
use Rattle.dsdl_codec.specs.AppendRequest.{append_request_of}
use Rattle.raft_core.specs.Handled as handled
use Rattle.raft_model.specs.Lists.{In}
use Rattle.raft_model.specs.Messages.Message.{Requests}
use Rattle.raft_model.specs.Server.Role.{Follower, Leader}
use Rattle.bus_rows.specs.declared.row.Row.{Row}
use Rattle.alloc_spec.specs.AllocatorState.{AllocatorState, members_of}
use Rattle.alloc_spec.specs.Transfers.{Offer, SentTransfer, id_of}
use Rattle.service_steps.specs.InTime.{HearsLeader}
use Rattle.bus_rows.specs.Timed.{Timed, rows_in}
use Rattle.service_alone.specs.Calm.{Pace, end_of}
use Rattle.service_calm.specs.Calm.{AreCalm, AreRunning, IsRunning, Member, Party, Traffic, no_traffic}
use Rattle.service_calm.specs.Comes.{AreReady, Delivers, HasMemory, MayComeFirst, Sends, Throughout, delivery_of, sent_by}
use Rattle.bus_spec.specs.Cluster.{Cluster, after_row, after_rows, arrival_at, frame_at, world_of}
use Rattle.bus_spec.specs.Lawful.{DoesNoHarm}
use Rattle.bus_spec.specs.Members.MemberStatus.{Up}

-- ---- a call

-- in this row member n calls member m: it offers an append request, for which its queue has room, and its bytes say
-- this
pub record Calls (n m : ℕ) (w : Cluster) (row : Row) (offer : Offer) (request : AppendRequest) : Type 0 where
  pub sends : Sends n w row offer
  pub what : offer.what ≡ AppQ
  pub to : offer.to ≡ m
  pub says : append_request_of offer.payload ≡ Some request

-- a server that may follow who calls so: it lists the caller, and its term is below the call's, or the same while it
-- does not lead
pub record MayFollow (caller : ℕ) (request : AppendRequest) (server : AllocatorState) : Type 0 where
  pub listed : In caller (members_of server)
  pub current : (server.raft_server.store.term < request.term)
      ⊎ ((request.term ≡ server.raft_server.store.term) × (server.raft_server.memory.role ≢ Leader))

-- The bytes of a call read as a request, and the call says this request in the Raft model.
pub record ReadsAsSaid (x : SentTransfer) : Type 0 where
  pub request : AppendRequest
  pub read : append_request_of x.offer.payload ≡ Some request
  pub said : x.offer.says ≡ Some (Requests (handled.append_request_of request x.step x.by x.offer.to))

-- each call of a member reads so, in a row that does no harm behind these rows
abbrev pub CallsReadAsSaid : List ℕ → List Row → Type 0
CallsReadAsSaid ids rows = (n : ℕ) (row : Row) (offer : Offer) → let w = world_of ids rows in DoesNoHarm w row →
    IsRunning n w → Sends n w row offer → offer.what ≡ AppQ → ReadsAsSaid (sent_by n w offer)

-- ---- a call that is heard

-- the member runs and follows, and its wait for an election begins at this moment, the last that it was given
pub record FollowsSince (m moment : ℕ) (w : Cluster) : Type 0 where
  pub running : IsRunning m w
  pub follows : running.server.raft_server.memory.role ≡ Follower
  pub waits : running.server.times.since ≡ moment
  pub reads : running.server.now ≡ moment

-- In this row the call is delivered to member m, whose clock is ahead by `ahead`. Where the member may follow the
-- caller, it hears a leader, and follows when the row is over, and its wait begins anew.
pub record HearsCall (m ahead : ℕ) (x : SentTransfer) (request : AppendRequest) (w : Cluster)
    (timed : Timed) : Type 0 where
  pub delivers : Delivers m x w timed.row
  pub clock : delivers.ms ≡ timed.at + ahead
  pub hears : MayFollow x.by request delivers.server →
      HearsLeader delivers.server (arrival_at (frame_at w.frames delivers.k) delivers.ms) (delivery_of x) request
  pub anew : MayFollow x.by request delivers.server →
      FollowsSince m (max delivers.server.now delivers.ms) (after_row w timed.row)

-- the call is delivered to member m in one of these rows, by this moment
pub record HearsCallBy (m ahead : ℕ) (x : SentTransfer) (request : AppendRequest) (last : ℕ) (w : Cluster)
    (whole : List Timed) : Type 0 where
  pub front : List Timed
  pub timed : Timed
  pub rest : List Timed
  pub split : whole ≡ front ++ timed ∷ rest
  pub soon : timed.at ≤ last
  pub call : HearsCall m ahead x request (after_rows w (rows_in front)) timed

-- In each calm from the world of these rows on, in which twice the delay is no longer than a transfer is remembered:
-- where a member of the group calls another member, the other hears the call within two delays, or the calm is over by
-- then.
abbrev pub CallsAreHeard : List ℕ → List Row → Type 0
CallsAreHeard ids rows = (group : List Party) (clocks : Party → ℕ) (pace : Pace) (start n m : ℕ)
    (front rest : List Timed) (timed : Timed) (offer : Offer) (request : AppendRequest) → let w = world_of ids rows in
    let whole = front ++ timed ∷ rest in ((p : ℕ) → In (Member p) group → In p ids) → AreRunning group w →
    In (Member n) group → In (Member m) group → n ≢ m → 2 * pace.delay ≤ transfer_timeout → (ready : AreReady n m AppQ m w) →
    MayComeFirst n AppQ m ready.receiver (id_of ready.sender.ids AppQ m) →
    AreCalm group clocks pace (no_traffic start) w whole → Throughout (HasMemory m) w whole →
    Calls n m (after_rows w (rows_in front)) timed.row offer request →
    timed.at + 2 * pace.delay < end_of timed.at rest →
    let x = sent_by n (after_rows w (rows_in front)) offer in
    HearsCallBy m (clocks (Member m)) x request (timed.at + 2 * pace.delay) (after_rows w (rows_in front))
    (timed ∷ rest)

-- ---- who is listed

-- where member m runs, its list has the node
abbrev pub Lists : (m node : ℕ) → Cluster → Type 0
Lists m node w = (server : AllocatorState) → (w.member m).status ≡ Up server → In node (members_of server)

-- In calm rows, from whatever moment on: who is on the list of a member that runs stays there.
abbrev pub ListsStay : Type 0
ListsStay = (group : List Party) (clocks : Party → ℕ) (pace : Pace) (traffic : Traffic) (m node : ℕ)
    (front rest : List Timed) (w : Cluster) → IsRunning m w → AreCalm group clocks pace traffic w (front ++ rest) →
    Lists m node w → Lists m node (after_rows w (rows_in front))

-- ---- who follows

-- the member follows, and waits for an election since this moment or a later one
pub record FollowsFrom (m moment : ℕ) (w : Cluster) : Type 0 where
  pub server : AllocatorState
  pub runs : (w.member m).status ≡ Up server
  pub follows : server.raft_server.memory.role ≡ Follower
  pub waits : moment ≤ server.times.since

-- In calm rows, from whatever moment on: a member whose wait begins then follows on as long as its clock reads less
-- than the least wait more.
abbrev pub CalmLeavesFollowers : Type 0
CalmLeavesFollowers = (group : List Party) (clocks : Party → ℕ) (pace : Pace) (traffic : Traffic) (m moment : ℕ)
    (front rest : List Timed) (w : Cluster) → FollowsSince m moment w →
    AreCalm group clocks pace traffic w (front ++ rest) →
    ((timed : Timed) → In timed front → timed.at + clocks (Member m) < moment + election_wait) →
    FollowsFrom m moment (after_rows w (rows_in front))
