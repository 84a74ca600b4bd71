-- Which moves call nobody, and to whom a call goes that is owed to a peer.
use Rattle.std.proofs.Common.{◌≡◌, ℕ, Bool, true, List, [], ◌∷◌, length, inl, inr, refl, sym, subst, Option, Some, None}
use Rattle.std.specs.Prelude.{⊤, ◌-◌, ◌&&◌, ◌||◌, not, nat_le, nat_lt}
use Rattle.can_frame.specs.declared.entry.Entry.{Entry}
use Rattle.raft_core.specs.Calls.{due, due_unless, owed}
use Rattle.raft_core.specs.Handled as handled
use Rattle.raft_core.specs.Times.{Times, is_silent}
use Rattle.raft_model.specs.Decisions.{commit_index}
use Rattle.raft_model.specs.Duty as duty
use Rattle.raft_model.specs.Handlers.{calls_of_all}
use Rattle.raft_model.specs.Lists.{In}
use Rattle.raft_model.specs.Messages.{Request}
use Rattle.raft_model.specs.Moves.{Move, calls}
use Rattle.raft_model.specs.Moves.Elections.{is_leader, term_limit}
use Rattle.raft_model.specs.Moves.Move.{AnswerAgain, CallForVote, CallToAppend, CommitTo, GiveUp, ProposeEntry, TakeAppendAnswer, TakeAppendRequest, TakeVoteAnswer, TakeVoteRequest, TellNothing, TellPair, TimeOut}
use Rattle.raft_model.specs.Server.{RaftServer, Role}
use Rattle.raft_model.specs.Server.Role.{Follower, Candidate, Leader}
use Rattle.alloc_spec_laws.proofs.Choices.{either}
use Rattle.alloc_spec_laws.proofs.Lists.{in_append}

-- ---- moves that call nobody, and append nothing of a leader's own

abbrev pub IsQuiet : Move → Type 0
IsQuiet (CallForVote peer) = ⊥
IsQuiet (CallToAppend peer previous with_entry) = ⊥
IsQuiet (ProposeEntry entry) = ⊥
IsQuiet move = ⊤

abbrev pub AreQuiet : List Move → Type 0
AreQuiet [] = ⊤
AreQuiet (move ∷ moves) = IsQuiet move × AreQuiet moves

pub expire_quiet : (nodes : List ℕ) → AreQuiet (handled.moves_of_expire nodes)
expire_quiet [] = tt
expire_quiet (node ∷ nodes) = (tt, expire_quiet nodes)

pub commit_quiet : (list : List ℕ) (me : ℕ) (server : RaftServer) → AreQuiet (duty.commit_phase list me server)
commit_quiet list me server =
    either AreQuiet (is_leader server.memory.role) (duty.commit_moves (commit_index list me server)) [] (λ e. go (commit_index list me server)) (λ e. tt)
  where
    go : (index : Option ℕ) → AreQuiet (duty.commit_moves index)
    go None = tt
    go (Some index) = (tt, tt)

pub tick_quiet : (waited : Bool) (server : RaftServer) → AreQuiet (duty.tick_phase waited server)
tick_quiet waited server =
    either AreQuiet (waited && (not (is_leader server.memory.role) && nat_lt server.store.term term_limit)) (TimeOut ∷ []) [] (λ e. (tt, tt)) (λ e. tt)

quiet_call : (move : Move) (peer : ℕ) → IsQuiet move → In peer (calls move) → ⊥
quiet_call TimeOut peer quiet i = i
quiet_call (TakeVoteRequest request granted) peer quiet i = i
quiet_call (TakeVoteAnswer answer) peer quiet i = i
quiet_call (TakeAppendRequest request verdict) peer quiet i = i
quiet_call (TakeAppendAnswer answer) peer quiet i = i
quiet_call (ProposeEntry entry) peer quiet i = i
quiet_call (CommitTo index) peer quiet i = i
quiet_call TellPair peer quiet i = i
quiet_call TellNothing peer quiet i = i
quiet_call (CallForVote node) peer quiet i = quiet
quiet_call (CallToAppend node previous with_entry) peer quiet i = quiet
quiet_call (AnswerAgain place) peer quiet i = i
quiet_call (GiveUp node) peer quiet i = i

pub quiet_calls : (moves : List Move) → AreQuiet moves → (peer : ℕ) → In peer (calls_of_all moves) → ⊥
quiet_calls [] quiet peer i = i
quiet_calls (move ∷ moves) quiet peer i =
    elim (in_append peer (calls_of_all moves) (calls move) i) [ inl j ↦ quiet_calls moves quiet.1 peer j | inr j ↦ quiet_call move peer quiet.0 j ]

-- no entry is one of a proposal
pub quiet_proposals : (moves : List Move) → AreQuiet moves → (entry : Entry) → In (ProposeEntry entry) moves → ⊥
quiet_proposals [] quiet entry i = i
quiet_proposals (move ∷ moves) quiet entry (inl e) = subst (λ (m : Move). IsQuiet m) (sym e) quiet.0
quiet_proposals (move ∷ moves) quiet entry (inr i) = quiet_proposals moves quiet.1 entry i

-- ---- a call that is owed

-- the peer of a call
abbrev pub CallsPeer : ℕ → Option Move → Type 0
CallsPeer peer None = ⊤
CallsPeer peer (Some (CallForVote node)) = node ≡ peer
CallsPeer peer (Some (CallToAppend node previous with_entry)) = node ≡ peer
CallsPeer peer (Some move) = ⊤

due_peer : (role : Role) (server : RaftServer) (times : Times) (peer now : ℕ) → CallsPeer peer (due role server times peer now)
due_peer Follower server times peer now = tt
due_peer Candidate server times peer now =
    either (λ (call : Option Move). CallsPeer peer call) (times.answered peer) None (Some (CallForVote peer)) (λ e. tt) (λ e. refl)
due_peer Leader server times peer now =
    either (λ (call : Option Move). CallsPeer peer call) (nat_le (server.memory.next peer) (length server.store.log) || is_silent (times.appended peer) now)
    (Some (CallToAppend peer (server.memory.next peer - 1) true)) None (λ e. refl) (λ e. tt)

unless : (peer : ℕ) (pending : Option Request) (call : Option Move) → CallsPeer peer call → CallsPeer peer (due_unless pending call)
unless peer None call is = is
unless peer (Some request) call is = tt

pub owes_peer : (server : RaftServer) (times : Times) (peer now : ℕ) → CallsPeer peer (owed server times peer now)
owes_peer server times peer now = unless peer (server.memory.pending peer) (due server.memory.role server times peer now)
    (due_peer server.memory.role server times peer now)
