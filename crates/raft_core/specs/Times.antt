-- What a member keeps beside the Raft model: when it began to wait, and what it knows of its calls.
-- A move changes it as it changes the memory of the Raft model (`raft_model`, `memory_after`).
use Rattle.std.specs.Prelude.{ℕ, ◌+◌, ◌-◌, ◌%◌, ◌&&◌, ◌==◌, Bool, true, false, not, if◌then◌else◌, nat_lt, nat_le, List, [], ◌∷◌, Option, Some, None}
use Rattle.can_frame.specs.Timing.{call_timeout, election_spread, election_wait, heartbeat_interval}
use Rattle.raft_log.specs.declared.origin.TheConstants.{WIN}
use Rattle.raft_model.specs.Lists.{at}
use Rattle.raft_model.specs.Messages.{Request}
use Rattle.raft_model.specs.Server.{RaftServer, Role}
use Rattle.raft_model.specs.Server.Role.{Follower, Candidate, Leader}
use Rattle.raft_model.specs.Handlers.{server_after}
use Rattle.raft_model.specs.Moves.{Move}
use Rattle.raft_model.specs.Moves.Elections.{votes_with, counts, has_quorum, own_vote}
use Rattle.raft_model.specs.Moves.Move.{TimeOut, TakeVoteRequest, TakeVoteAnswer, TakeAppendRequest, TakeAppendAnswer, ProposeEntry, CommitTo, TellPair, TellNothing, CallForVote, CallToAppend, AnswerAgain, GiveUp}
use Rattle.raft_model.specs.Moves.Appending.Verdict.{Outdated, Refused, Held, Added}

-- a call that waits for its answer
pub record Sending : Type 0 where
  pub id : ℕ
  pub moment : ℕ

pub record Times : Type 0 where
  -- the wait for an election began here
  pub since : ℕ
  -- of the opening, or of the tick that began the last election
  pub word : ℕ
  -- the peers that answered a vote request of this term
  pub answered : ℕ → Bool
  -- the last append request to a peer since the win
  pub appended : ℕ → Option ℕ
  -- for each pending call
  pub sending : ℕ → Option Sending
  -- whether a blank waits until a quorum has the leader's log, and is not added as soon as the member leads
  pub waits : Bool

-- what the caller hands in: the moment, the word of a tick, the transfer ID of a call, and the origin of an entry
-- that is proposed
pub record HandedIn : Type 0 where
  pub now : ℕ
  pub word : ℕ
  pub id : ℕ
  pub origin : ℕ

-- a moment alone, that of a tick, that of a call, and that of a proposal; a leader's blank has the origin of a win
abbrev pub given_at : ℕ → HandedIn
given_at now = record { now = now; word = 0; id = 0; origin = WIN }

abbrev pub given_tick : ℕ → ℕ → HandedIn
given_tick now word = record { now = now; word = word; id = 0; origin = WIN }

abbrev pub given_call : ℕ → ℕ → HandedIn
given_call now id = record { now = now; word = 0; id = id; origin = 0 }

abbrev pub given_proposal : ℕ → ℕ → HandedIn
given_proposal now origin = record { now = now; word = 0; id = 0; origin = origin }

-- a member that opens
abbrev pub opened_times : ℕ → ℕ → Times
opened_times now word = record {
  since = now;
  word = word;
  answered = λ node. false;
  appended = λ node. None;
  sending = λ node. None;
  waits = false;
}

-- ---- how long

-- how old a moment is; 0 where it is later than now
abbrev pub age : ℕ → ℕ → ℕ
age moment now = now - moment

-- the wait for an election, in milliseconds
abbrev pub wait : ℕ → ℕ
wait word = election_wait + word % election_spread

abbrev pub has_waited : Times → ℕ → Bool
has_waited times now = nat_le (wait times.word) (age times.since now)

-- a Leader sends the next append request when the heartbeat interval has passed since the last
abbrev pub is_silent : Option ℕ → ℕ → Bool
is_silent None now = true
is_silent (Some moment) now = nat_le heartbeat_interval (age moment now)

-- a call of the call timeout or more is given up
abbrev pub is_overdue : Option Sending → ℕ → Bool
is_overdue None now = false
is_overdue (Some call) now = nat_le call_timeout (age call.moment now)

-- those of these nodes whose call is given up
abbrev pub overdue : Times → ℕ → List ℕ → List ℕ
overdue times now [] = []
overdue times now (node ∷ nodes) =
    if is_overdue (times.sending node) now then node ∷ overdue times now nodes else overdue times now nodes

-- an answer from a node under a transfer ID is awaited: the pending call to it, of this service, has this transfer ID
abbrev pub awaits : Option Request → Option Sending → Bool → ℕ → Bool
awaits None sending append id = false
awaits (Some request) None append id = false
awaits (Some request) (Some call) append id = (if append then request.append else not request.append) && (call.id == id)

abbrev pub is_awaited : RaftServer → Times → ℕ → Bool → ℕ → Bool
is_awaited server times node append id = awaits (server.memory.pending node) (times.sending node) append id

-- ---- what a move changes

abbrev pub begin_wait : ℕ → Times → Times
begin_wait now times = record times { since = now }

-- the wait begins where the role becomes Follower from another
abbrev pub step_down : ℕ → Role → Times → Times
step_down now Follower times = times
step_down now Candidate times = begin_wait now times
step_down now Leader times = begin_wait now times

abbrev pub raise : ℕ → ℕ → RaftServer → Times → Times
raise now term server times = if nat_lt server.store.term term then step_down now server.memory.role times else times

abbrev pub stand : HandedIn → Times → Times
stand given times =
    record times { since = given.now; word = given.word; answered = λ node. false; sending = λ node. None }

abbrev pub win : Times → Times
win times = record times { appended = λ node. None; sending = λ node. None }

abbrev pub end_call : ℕ → Times → Times
end_call node times = record times { sending = at times.sending node None }

abbrev pub begin_call : ℕ → HandedIn → Times → Times
begin_call node given times =
    record times { sending = at times.sending node (Some (record { id = given.id; moment = given.now })) }

-- the peer answered a vote request
abbrev pub end_vote_call : ℕ → Times → Times
end_vote_call node times = record (end_call node times) { answered = at times.answered node true }

-- the times after a move of a member, in a cluster of these members
abbrev pub times_after : List ℕ → ℕ → HandedIn → RaftServer → Move → Times → Times
times_after members member given server TimeOut times =
    if has_quorum members (own_vote member) then win (stand given times) else stand given times
times_after members member given server (TakeVoteRequest request granted) times =
    if granted then begin_wait given.now times else raise given.now request.term server times
times_after members member given server (TakeVoteAnswer answer) times =
    if nat_lt server.store.term answer.term
    then step_down given.now server.memory.role (end_vote_call answer.from times)
    else (if counts server answer && has_quorum members (votes_with server.memory answer)
    then win (end_vote_call answer.from times) else end_vote_call answer.from times)
times_after members member given server (TakeAppendRequest request Outdated) times = times
times_after members member given server (TakeAppendRequest request Refused) times = begin_wait given.now times
times_after members member given server (TakeAppendRequest request Held) times = begin_wait given.now times
times_after members member given server (TakeAppendRequest request (Added entry)) times = begin_wait given.now times
times_after members member given server (TakeAppendAnswer answer) times =
    raise given.now answer.term server (end_call answer.from times)
times_after members member given server (ProposeEntry entry) times = times
times_after members member given server (CommitTo index) times = times
times_after members member given server TellPair times = times
times_after members member given server TellNothing times = times
times_after members member given server (CallForVote node) times = begin_call node given times
times_after members member given server (CallToAppend node previous with_entry) times =
    record (begin_call node given times) { appended = at times.appended node (Some given.now) }
times_after members member given server (AnswerAgain place) times = times
times_after members member given server (GiveUp node) times = end_call node times

-- after these moves of a step with a number
abbrev pub times_after_all : List ℕ → ℕ → ℕ → HandedIn → RaftServer → List Move → Times → Times
times_after_all members member step given server [] times = times
times_after_all members member step given server (move ∷ moves) times =
    times_after_all members member step given (server_after members member step server move) moves
    (times_after members member given server move times)
