-- What a call of a member does: it makes moves of the Raft model.
use Rattle.std.specs.Prelude.{◌≡◌, ℕ, Bool, true, false, not, ◌&&◌, if◌then◌else◌, List, [], ◌∷◌, ◌++◌, Option, None, IfNone}
use Rattle.disk_model.specs.declared.disk.Disk.{Ghosts}
use Rattle.kv_store.specs.declared.fault.Fault.{Fault}
use Rattle.dsdl_codec.specs.declared.append_request.AppendRequest.{AppendRequest}
use Rattle.dsdl_codec.specs.declared.vote_request.VoteRequest.{VoteRequest}
use Rattle.raft_log.specs.declared.origin.TheConstants.{LEADER}
use Rattle.raft_log.specs.declared.durable.Durable.{Durable}
use Rattle.raft_log.specs.DurableViews.{durable_state}
use Rattle.raft_model.specs.Handlers.{server_after, server_after_all, puts_of_all}
use Rattle.raft_model.specs.Messages.{Answer, Request}
use Rattle.raft_model.specs.Duty.{blank_moves, is_heard, tick_phase}
use Rattle.raft_model.specs.Moves.{Move, puts}
use Rattle.raft_model.specs.Moves.Elections.{is_leader}
use Rattle.raft_model.specs.Moves.Move.{ProposeEntry, GiveUp}
use Rattle.raft_model.specs.Server.{RaftServer}
use Rattle.raft_core.specs.declared.raft.Raft.{Raft}
use Rattle.raft_core.specs.Stands.{StandsFor}
use Rattle.raft_core.specs.StoredPuts.{CallWrites, PutWithOrigin, with_origin, puts_alone}
use Rattle.raft_core.specs.Times.{HandedIn, Times, has_waited, times_after_all}

-- the origin of the entry that a move puts: an entry that is proposed with the origin that was given, and what a leader
-- sent
abbrev pub origin_of : HandedIn → Move → ℕ
origin_of given (ProposeEntry entry) = given.origin
origin_of given move = LEADER

-- the puts of these moves, which are given this, each with its origin
abbrev pub puts_with_origins : List ℕ → ℕ → ℕ → HandedIn → RaftServer → List Move → List PutWithOrigin
puts_with_origins members member step given server [] = []
puts_with_origins members member step given server (move ∷ moves) =
    with_origin (origin_of given move) (puts members member server move)
    ++ puts_with_origins members member step given (server_after members member step server move) moves

-- the member makes these moves in a step: their puts with these origins in order, up to the first that fails; and
-- where none does, it stands for the server after them, and for these times
pub record LeavesMoves {D : Type 0} {disk : Ghosts D} (members : List ℕ) (member step : ℕ) (moves : List Move)
    (server : RaftServer) (with_origin : List PutWithOrigin) (times_then : Times)
    (old new : Durable D disk) (raft : Raft) (failed : Option Fault) : Type 0 where
  pub raft_server : puts_alone with_origin ≡ puts_of_all members member step server moves
  pub puts : CallWrites with_origin old new failed
  pub after : IfNone failed
      (StandsFor raft members (durable_state new) (server_after_all members member step server moves) times_then)

-- they are given this: the origins are as it says, and they leave the times after them
abbrev pub MakesMoves : {D : Type 0} {disk : Ghosts D} → List ℕ → ℕ → ℕ → HandedIn → List Move →
    RaftServer → Times → Durable D disk → Durable D disk → Raft → Option Fault → Type 0
MakesMoves members member step given moves server times =
    LeavesMoves members member step moves server (puts_with_origins members member step given server moves)
    (times_after_all members member step given server moves times)

-- the request of the Raft model that a vote request carries, which the node `from` made in a step for the node `to`
abbrev pub vote_request_of : VoteRequest → ℕ → ℕ → ℕ → Request
vote_request_of request step from to =
    (record {
      step = step;
      from = from;
      to = to;
      append = false;
      term = request.term;
      previous = request.last_index;
      previous_term = request.last_term;
      commit = 0;
      entry = None;
    })

-- and the one that an append request carries
abbrev pub append_request_of : AppendRequest → ℕ → ℕ → ℕ → Request
append_request_of request step from to =
    (record {
      step = step;
      from = from;
      to = to;
      append = true;
      term = request.term;
      previous = request.prev_index;
      previous_term = request.prev_term;
      commit = request.commit;
      entry = request.entry;
    })

-- the answer of the Raft model that the node `from` made in a step to this request
abbrev pub answer_of : ℕ → ℕ → Request → ℕ → Bool → Answer
answer_of step from request term success =
    record { step = step; from = from; request = request; term = term; success = success }

-- whether a leader proposes its blank now, where moves led from one server to another: a member that waits with its
-- blank proposes it once a quorum has the leader's log, any other member as soon as it leads
abbrev pub is_moment : List ℕ → ℕ → Times → RaftServer → RaftServer → Bool
is_moment members member times before after =
    if times.waits then is_heard members member after else not (is_leader before.memory.role)

abbrev pub blank_behind : Bool → RaftServer → List Move
blank_behind moment server = if moment then blank_moves server else []

-- moves of a step, and behind them a blank where its moment has come; no moves make no moment
abbrev pub with_blank : List ℕ → ℕ → ℕ → Times → RaftServer → List Move → List Move
with_blank members member step times server [] = []
with_blank members member step times server (move ∷ moves) =
    let after = server_after_all members member step server (move ∷ moves) in (move ∷ moves)
    ++ blank_behind (is_moment members member times server after) after

-- a tick: whoever has waited, and knows all members, stands for election, if there is a next term and it does not lead
abbrev pub moves_of_tick : List ℕ → ℕ → ℕ → Bool → ℕ → RaftServer → Times → List Move
moves_of_tick members member step complete now server times =
    with_blank members member step times server (tick_phase (complete && has_waited times now) server)

-- the members that a tick counts: those of the election that it begins, else those of the last one
abbrev pub counted_at : List Move → List ℕ → List ℕ → List ℕ
counted_at [] last now = last
counted_at (move ∷ moves) last now = now

-- the calls to these nodes are given up
abbrev pub moves_of_expire : List ℕ → List Move
moves_of_expire [] = []
moves_of_expire (node ∷ nodes) = GiveUp node ∷ moves_of_expire nodes
