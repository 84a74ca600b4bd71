-- What a step keeps of a Raft server that does not stand for election, and that no message with a higher term comes to.
use Rattle.std.proofs.Common.{◌≡◌, ◌≢◌, ℕ, ◌≤◌, Bool, true, false, List, [], ◌∷◌, refl, sym, subst, max, Option, Some, None}
use Rattle.std.specs.Prelude.{⊤, ◌&&◌, ◌-◌, nat_le, if◌then◌else◌}
use Rattle.can_frame.specs.declared.identifier.Kind.TheVariants.{Request as RequestKind, Response}
use Rattle.can_frame.specs.Timing.{status_interval}
use Rattle.cluster_discovery.specs.Members.{is_due}
use Rattle.dsdl_codec.specs.declared.append_answer.AppendAnswer.{AppendAnswer}
use Rattle.dsdl_codec.specs.declared.append_request.AppendRequest.{AppendRequest}
use Rattle.dsdl_codec.specs.declared.vote_answer.VoteAnswer.{VoteAnswer}
use Rattle.dsdl_codec.specs.declared.vote_request.VoteRequest.{VoteRequest}
use Rattle.dsdl_codec.specs.AppendAnswer.{append_answer_of}
use Rattle.dsdl_codec.specs.AppendRequest as append_codec
use Rattle.dsdl_codec.specs.VoteAnswer.{vote_answer_of}
use Rattle.dsdl_codec.specs.VoteRequest as vote_codec
use Rattle.raft_core.specs.Handled.{answer_of, append_request_of, moves_of_expire, vote_request_of}
use Rattle.raft_core.specs.Times.{given_at, given_tick, has_waited, overdue}
use Rattle.raft_model.specs.Decisions.{commit_index, verdict_on}
use Rattle.raft_model.specs.Duty.{commit_moves, tick_phase}
use Rattle.raft_model.specs.Handlers.{server_after, server_after_all}
use Rattle.raft_model.specs.Moves.{Move}
use Rattle.raft_model.specs.Moves.Elections.{is_leader}
use Rattle.raft_model.specs.Moves.Move.{AnswerAgain, CallForVote, CallToAppend, CommitTo, GiveUp, ProposeEntry, TakeAppendAnswer, TakeAppendRequest, TakeVoteAnswer, TakeVoteRequest, TellNothing, TellPair, TimeOut}
use Rattle.raft_model.specs.Server.{RaftServer}
use Rattle.transfer_rx.specs.Reassembly.{Arrival, Delivery, Gives, answer}
use Rattle.alloc_spec.specs.Accepted.{setting_for}
use Rattle.alloc_spec.specs.AllocatorState.{AllocatorState, knows_all, members_of, start_of}
use Rattle.alloc_spec.specs.Ending.{end_phase}
use Rattle.alloc_spec.specs.Step.{all_nodes, at_moment, begin_phase, step}
use Rattle.alloc_spec.specs.Step.Event.{Rx, Tick}
use Rattle.alloc_spec.specs.StepState.{StepState, with_moves}
use Rattle.alloc_spec.specs.Tick.{discovery_phase, election_phase, status_phase, tells_members, tells_status}
use Rattle.alloc_spec.proofs.Blanks.{moves_and_blank}
use Rattle.alloc_spec_laws.specs.Phases.{when_seen}
use Rattle.alloc_spec_laws.proofs.Choices.{either}
use Rattle.service_steps.specs.Requests.{moment_at}
use Rattle.service_steps.proofs.Ends.{IsKept, rest_keeps}
use Rattle.service_steps.proofs.FollowUps.{when_come}
use Rattle.service_leader.proofs.RaftPhases.{OfServer, Records, Takes, behind_election, by_answer, hears}

-- a move that is no election, and that brings no message with a higher term than this; an append request is judged
abbrev pub BringsWithin : ℕ → RaftServer → Move → Type 0
BringsWithin top server TimeOut = ⊥
BringsWithin top server (TakeVoteRequest request granted) = request.term ≤ top
BringsWithin top server (TakeVoteAnswer got) = got.term ≤ top
BringsWithin top server (TakeAppendRequest request verdict) = (request.term ≤ top) × (verdict ≡ verdict_on server request)
BringsWithin top server (TakeAppendAnswer got) = got.term ≤ top
BringsWithin top server (ProposeEntry entry) = ⊤
BringsWithin top server (CommitTo index) = ⊤
BringsWithin top server TellPair = ⊤
BringsWithin top server TellNothing = ⊤
BringsWithin top server (CallForVote peer) = ⊤
BringsWithin top server (CallToAppend peer previous with_entry) = ⊤
BringsWithin top server (AnswerAgain place) = ⊤
BringsWithin top server (GiveUp peer) = ⊤

-- a move of an event: by it nothing is committed, told or called
abbrev pub IsOfEvent : Move → Type 0
IsOfEvent (CommitTo index) = ⊥
IsOfEvent TellPair = ⊥
IsOfEvent TellNothing = ⊥
IsOfEvent (CallForVote peer) = ⊥
IsOfEvent (CallToAppend peer previous with_entry) = ⊥
IsOfEvent move = ⊤

-- such moves of an event keep it
abbrev pub IsKeptByEvents : ℕ → (RaftServer → Type 0) → Type 0
IsKeptByEvents top Holds = (members : List ℕ) (me number : ℕ) (server : RaftServer) (move : Move) → IsOfEvent move → BringsWithin top server move
    → Holds server → Holds (server_after members me number server move)

-- such moves keep it
abbrev pub IsKeptByMoves : ℕ → (RaftServer → Type 0) → Type 0
IsKeptByMoves top Holds = (members : List ℕ) (me number : ℕ) (server : RaftServer) (move : Move) → BringsWithin top server move → Holds server
    → Holds (server_after members me number server move)

-- no request and no answer of Raft as which the delivery reads has a higher term than this
pub record TellsWithin (top : ℕ) (d : Delivery) : Type 0 where
  pub append_request : d.ident.kind ≡ RequestKind → d.ident.number ≡ 30 → (message : AppendRequest)
      → append_codec.append_request_of d.payload ≡ Some message → message.term ≤ top
  pub vote_request : d.ident.kind ≡ RequestKind → d.ident.number ≢ 1 → d.ident.number ≢ 30 → (message : VoteRequest)
      → vote_codec.vote_request_of d.payload ≡ Some message → message.term ≤ top
  pub append_answer : d.ident.kind ≡ Response → d.ident.number ≡ 30 → (message : AppendAnswer)
      → append_answer_of d.payload ≡ Some message → message.term ≤ top
  pub vote_answer : d.ident.kind ≡ Response → d.ident.number ≢ 1 → d.ident.number ≢ 30 → (message : VoteAnswer)
      → vote_answer_of d.payload ≡ Some message → message.term ≤ top

module _ (number top : ℕ) (Holds : RaftServer → Type 0) (keeps : IsKeptByEvents top Holds) where
  abbrev Of : OfServer
  Of me server times now = Holds server

  abbrev pub Keeps : StepState → Type 0
  Keeps g = Holds g.allocator.raft_server

  does : (g : StepState) (move : Move) → IsOfEvent move → BringsWithin top g.allocator.raft_server move → Keeps g
      → Holds (server_after (members_of g.allocator) g.allocator.me number g.allocator.raft_server move)
  does g move of is h = keeps (members_of g.allocator) g.allocator.me number g.allocator.raft_server move of is h

  records : Records number Of
  records origin uid node g leads h = does g (ProposeEntry _) tt tt h

  -- ---- as a step begins

  expired : (list : List ℕ) (me : ℕ) (nodes : List ℕ) (server : RaftServer) → Holds server
      → Holds (server_after_all list me number server (moves_of_expire nodes))
  expired list me [] server h = h
  expired list me (node ∷ nodes) server h = expired list me nodes (server_after list me number server (GiveUp node)) (keeps list me number server
      (GiveUp node) tt tt h)

  -- what holds when a step begins
  pub starts : (t : AllocatorState) (moment : ℕ) → Holds t.raft_server → Keeps (begin_phase number moment t)
  starts t moment h = expired (members_of (at_moment moment t)) t.me (overdue t.times (max t.now moment) all_nodes) t.raft_server h

  -- ---- a tick

  -- a tick brings no election
  abbrev pub StandsNot : StepState → Type 0
  StandsNot g = (complete : Bool) → tick_phase (complete && has_waited g.allocator.times g.allocator.now) g.allocator.raft_server ≡ []

  abbrev Waits : StepState → Type 0
  Waits g = Keeps g × StandsNot g

  elects : (word : ℕ) (g : StepState) → Waits g → Keeps (election_phase number word g)
  elects word g h = subst (λ (moves : List Move). Keeps (moves_and_blank number (given_tick g.allocator.now word) moves g)) (sym (h.1
      (knows_all g.allocator))) h.0

  finds : (x : StepState) → Waits x → Waits (discovery_phase number x)
  finds x i = either Waits (is_due (start_of x.allocator) x.allocator.heard x.allocator.now) (tells_members number x) x (λ e. i) (λ e. i)

  states : (x : StepState) → Waits x → Waits (status_phase number x)
  states x i = either Waits (nat_le status_interval (x.allocator.now - x.allocator.status_at)) (tells_status number x) x (λ e. i) (λ e. i)

  -- a tick that brings no election keeps it, until its event is done
  pub seen_at_tick : (t : AllocatorState) (now word : ℕ) → Holds t.raft_server → StandsNot (begin_phase number now t)
      → Keeps (when_seen t number (Tick now word))
  seen_at_tick t now word h quiet =
      let begun : StepState = begin_phase number now t in
      behind_election number Of records word begun
      (elects word (status_phase number (discovery_phase number begun)) (states (discovery_phase number begun) (finds begun (starts t now h, quiet))))

  -- ---- a frame

  told : (d : Delivery) (g : StepState) → TellsWithin top d → Keeps g → Takes number Of d g
  told d g within h = record {
    vote_request = λ kind one thirty m read listed. does g (TakeVoteRequest (vote_request_of m d.mark.step d.ident.source g.allocator.me) _) tt
        (within.vote_request kind one thirty m read) h;
    append_request = λ kind thirty m read listed. does g (TakeAppendRequest (append_request_of m d.mark.step d.ident.source g.allocator.me) _) tt
        (within.append_request kind thirty m read, refl) h;
    vote_answer = λ kind one thirty m read asked listed awaited pending.
        does g (TakeVoteAnswer (answer_of d.mark.step d.ident.source asked m.term m.granted)) tt (within.vote_answer kind one thirty m read) h;
    append_answer = λ kind thirty m read asked listed awaited pending.
        does g (TakeAppendAnswer (answer_of d.mark.step d.ident.source asked m.term m.success)) tt (within.append_answer kind thirty m read) h;
  }

  -- so does a frame, where what it completes tells no higher term
  pub seen_at_frame : (t : AllocatorState) (arrival : Arrival) → Holds t.raft_server
      → ((d : Delivery) → answer (setting_for t.me) t.sessions (record arrival { moment = moment_at t arrival }) ≡ Gives d → TellsWithin top d)
      → Keeps (when_seen t number (Rx arrival))
  seen_at_frame t arrival h within =
      let come : StepState = when_come t number arrival in
      let begun : Keeps come = starts t arrival.moment h in
      by_answer number Of records (answer (setting_for t.me) t.sessions (record arrival { moment = moment_at t arrival })) come
      (λ d gives. hears number Of records d come (told d come (within d gives) begun)) begun

-- ---- whole steps

module _ (number top : ℕ) (Holds : RaftServer → Type 0) (keeps : IsKeptByMoves top Holds) where
  abbrev in_events : IsKeptByEvents top Holds
  in_events members me step server move of is h = keeps members me step server move is h

  abbrev KeepsOn : StepState → Type 0
  KeepsOn g = Holds g.allocator.raft_server

  -- what holds when a step begins
  pub begins : (t : AllocatorState) (moment : ℕ) → Holds t.raft_server → KeepsOn (begin_phase number moment t)
  begins t moment h = starts number top Holds in_events t moment h

  makes : (g : StepState) (move : Move) → BringsWithin top g.allocator.raft_server move → KeepsOn g
      → Holds (server_after (members_of g.allocator) g.allocator.me number g.allocator.raft_server move)
  makes g move is h = keeps (members_of g.allocator) g.allocator.me number g.allocator.raft_server move is h

  kept : IsKept number KeepsOn
  kept = record {
    passes = λ g e h. makes g TellNothing tt h;
    tells = λ given g e h. makes g TellPair tt h;
    votes = λ given peer g h. makes g (CallForVote peer) tt h;
    appends = λ given peer previous with_entry g h. makes g (CallToAppend peer previous with_entry) tt h;
    sends = λ what to payload says g h. h;
  }

  commits : (g : StepState) (leads : Bool) (index : Option ℕ) → KeepsOn g → KeepsOn (with_moves number (given_at g.allocator.now)
      (if leads then commit_moves index else []) g)
  commits g true None h = h
  commits g true (Some index) h = makes g (CommitTo index) tt h
  commits g false index h = h

  ends : (g : StepState) → KeepsOn g → KeepsOn (end_phase number g)
  ends g h = rest_keeps number KeepsOn kept g (commits g (is_leader g.allocator.raft_server.memory.role) (commit_index
      (members_of g.allocator) g.allocator.me g.allocator.raft_server) h)

  -- a tick that brings no election keeps it
  pub kept_at_tick : (t : AllocatorState) (now word : ℕ) → Holds t.raft_server → StandsNot number top Holds in_events (begin_phase number now t)
      → Holds (step t number (Tick now word)).step_state.allocator.raft_server
  unfolding step
  kept_at_tick t now word h quiet = ends (when_seen t number (Tick now word)) (seen_at_tick number top Holds in_events t now word h quiet)

  -- a frame keeps it, where what it completes tells no higher term
  pub kept_at_frame : (t : AllocatorState) (arrival : Arrival) → Holds t.raft_server
      → ((d : Delivery) → answer (setting_for t.me) t.sessions (record arrival { moment = moment_at t arrival }) ≡ Gives d → TellsWithin top d)
      → Holds (step t number (Rx arrival)).step_state.allocator.raft_server
  unfolding step
  kept_at_frame t arrival h within = ends (when_seen t number (Rx arrival)) (seen_at_frame number top Holds in_events t arrival h within)
