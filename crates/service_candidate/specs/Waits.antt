-- What it is that a member which hears no leader stands for election in time, in a calm.
use Rattle.std.specs.Prelude.{◌≡◌, ◌≢◌, ◌⊎◌, ℕ, ◌+◌, ◌<◌, ◌≤◌, true, max, List, ◌∷◌, ◌++◌, length, Some}
use Rattle.can_frame.specs.declared.identifier.Kind.TheVariants.{Request}
use Rattle.can_frame.specs.DataTypes.{request_vote}
use Rattle.can_frame.specs.Timing.{election_wait}
use Rattle.dsdl_codec.specs.declared.vote_request.VoteRequest.{VoteRequest}
use Rattle.dsdl_codec.specs.VoteRequest.{vote_request_of}
use Rattle.raft_core.specs.Times.{wait}
use Rattle.raft_core.specs.Handled as handled
use Rattle.raft_model.specs.Decisions.{grants}
use Rattle.raft_model.specs.Lists.{In}
use Rattle.raft_model.specs.Moves.Elections.{term_limit, with_term}
use Rattle.raft_model.specs.Server.Role.{Follower, Leader}
use Rattle.bus_rows.specs.declared.row.Row.{Row}
use Rattle.bus_rows.specs.declared.row.Row.TheVariants.{Rx}
use Rattle.alloc_spec.specs.AllocatorState.{AllocatorState, knows_all}
use Rattle.transfer_rx.specs.Reassembly.{Delivery, Gives, answer}
use Rattle.alloc_spec.specs.Accepted.{setting_for}
use Rattle.bus_rows.specs.Timed.{Timed, rows_in}
use Rattle.service_alone.specs.Calm.{Pace, end_of}
use Rattle.service_candidate.specs.Votes.{HearsAppend, Stands}
use Rattle.service_leader.specs.CallsComeBack.{LeadsNotIfUp}
use Rattle.service_calm.specs.Comes.{Throughout}
use Rattle.service_calm.specs.Calm.{AreCalm, IsRunning, Member, Party, Traffic}
use Rattle.bus_spec.specs.Cluster.{Cluster, after_row, after_rows, arrival_at, frame_at, world_of}
use Rattle.bus_spec.specs.Lawful.{DoesNoHarm}
use Rattle.bus_spec.specs.Members.MemberStatus.{Up}

-- ---- the wait begins anew

-- In this row, in which it does not stand for election, the wait of member m for an election begins anew.
pub record WaitsAnew (m : ℕ) (w : Cluster) (row : Row) : Type 0 where
  pub before : AllocatorState
  pub runs : (w.member m).status ≡ Up before
  pub after : AllocatorState
  pub runs_then : ((after_row w row).member m).status ≡ Up after
  pub anew : after.times.since ≢ before.times.since
  pub stands_not : (term : ℕ) → Stands m term w row → ⊥

-- in this row member m is delivered a vote request, and gives its vote
pub record GivesVote (m : ℕ) (w : Cluster) (row : Row) : Type 0 where
  pub k : ℕ
  pub ms : ℕ
  pub comes : row ≡ Rx m k ms
  pub server : AllocatorState
  pub runs : (w.member m).status ≡ Up server
  pub delivery : Delivery
  pub gives : answer (setting_for m) server.sessions (arrival_at (frame_at w.frames k) (max server.now ms))
      ≡ Gives delivery
  pub kind : delivery.ident.kind ≡ Request
  pub number : delivery.ident.number ≡ request_vote.number
  pub request : VoteRequest
  pub read : vote_request_of delivery.payload ≡ Some request
  pub grants_it : let asked = handled.vote_request_of request delivery.mark.step delivery.ident.source m in
      grants (with_term server.raft_server.store request.term) asked ≡ true

-- Why it does: an append request came; or the member was a candidate or led, and follows behind the row; or it gave its
-- vote to another one. So it is behind these rows, in a row that does no harm, where the cluster has two members or
-- more: one that is alone leads at once when its wait is over.
abbrev pub WaitsHaveReasons : List ℕ → List Row → Type 0
WaitsHaveReasons ids rows = (m : ℕ) (row : Row) → let w = world_of ids rows in In m ids → 2 ≤ length ids →
    DoesNoHarm w row →
    (anew : WaitsAnew m w row) →
    HearsAppend m w row
    ⊎ (((anew.before.raft_server.memory.role ≢ Follower) × (anew.after.raft_server.memory.role ≡ Follower))
    ⊎ GivesVote m w row)

-- A wait that begins anew in such a row begins at the moment of the step; and who stands has waited for the least wait
-- at least.
abbrev pub WaitsBeginThen : List ℕ → List Row → Type 0
WaitsBeginThen ids rows = (m : ℕ) (row : Row) → let w = world_of ids rows in In m ids → DoesNoHarm w row →
    ((anew : WaitsAnew m w row) → anew.after.times.since ≡ anew.after.now)
    × ((term : ℕ) (s : Stands m term w row) → s.before.times.since + election_wait ≤ max s.before.now s.ms)

-- ---- a member that waits stands in time

-- In one of these rows, by this moment, member m stands for election, or its wait begins anew, or it leads before the
-- row.
pub record StandsBy (m last : ℕ) (w : Cluster) (whole : List Timed) : Type 0 where
  pub front : List Timed
  pub timed : Timed
  pub rest : List Timed
  pub split : whole ≡ front ++ timed ∷ rest
  pub soon : timed.at ≤ last
  pub stands : ((term : ℕ) × Stands m term (after_rows w (rows_in front)) timed.row)
      ⊎ (WaitsAnew m (after_rows w (rows_in front)) timed.row ⊎ (LeadsNotIfUp m (after_rows w (rows_in front)) → ⊥))

-- a term is left for member m, if it runs
abbrev pub HasTermLeft : ℕ → Cluster → Type 0
HasTermLeft m w = (server : AllocatorState) → (w.member m).status ≡ Up server →
    server.raft_server.store.term < term_limit

-- In calm rows, from whatever moment on: a member of the group that does not lead knows all members of the cluster, and
-- a term is left for it before each row. By a period behind the moment `due` it stands for election, or its wait began
-- anew by then, or it leads, or the rows are over. At `due` its wait is over by its clock, which by `clocks` is ahead
-- of the moments; and `due` is no earlier than the row before these, and than the member's last tick.
abbrev pub WhoWaitsStands : List ℕ → List Row → Type 0
WhoWaitsStands ids rows = (group : List Party) (clocks : Party → ℕ) (pace : Pace) (traffic : Traffic) (m due : ℕ)
    (whole : List Timed) → let w = world_of ids rows in (running : IsRunning m w) → In m ids → In (Member m) group →
    2 ≤ length ids → knows_all running.server ≡ true → running.server.raft_server.memory.role ≢ Leader →
    Throughout (HasTermLeft m) w whole → AreCalm group clocks pace traffic w whole →
    running.server.times.since + wait running.server.times.word ≤ due + clocks (Member m) →
    traffic.at ≤ due → traffic.ticked (Member m) ≤ due → due + pace.period < end_of traffic.at whole →
    StandsBy m (due + pace.period) w whole
