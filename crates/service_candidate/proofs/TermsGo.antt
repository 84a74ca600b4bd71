-- What a step does to the server of the Raft model: at most one move that its event brings, and moves behind it, by
-- which its term, its vote and its role stay, and its log and its commit index too, unless it leads.
use Rattle.std.proofs.Common.{◌≡◌, ℕ, Bool, true, false, List, [], ◌∷◌, refl, ◌∙◌, ap, inl, inr, max, Option, Some, None}
use Rattle.std.specs.Prelude.{◌&&◌, ◌-◌, length, nat_le, nat_lt, not, if◌then◌else◌}
use Rattle.can_frame.specs.declared.entry.Entry.{Entry}
use Rattle.can_frame.specs.Timing.{status_interval}
use Rattle.cluster_discovery.specs.Members.{Start, is_due, members}
use Rattle.raft_core.specs.Handled.{answer_of, append_request_of, vote_request_of}
use Rattle.raft_core.specs.Times.{HandedIn, given_at, given_tick, has_waited, overdue}
use Rattle.raft_model.specs.Decisions.{commit_index, grants}
use Rattle.raft_model.specs.Duty.{commit_moves, tick_phase}
use Rattle.raft_model.specs.Handlers.{server_after}
use Rattle.raft_model.specs.Messages.{Request}
use Rattle.raft_model.specs.Moves.{Move}
use Rattle.raft_model.specs.Moves.Elections.{is_leader, term_limit, with_term}
use Rattle.raft_model.specs.Moves.Move.{CallForVote, CallToAppend, CommitTo, ProposeEntry, TakeAppendAnswer, TakeAppendRequest, TakeVoteAnswer, TakeVoteRequest, TellNothing, TellPair, TimeOut}
use Rattle.raft_model.specs.Server.{RaftServer}
use Rattle.raft_model.specs.Server.Role.{Leader}
use Rattle.transfer_rx.specs.Reassembly.{Answer as Received, Arrival, Delivery, Gives, answer}
use Rattle.alloc_spec.specs.Accepted.{setting_for}
use Rattle.alloc_spec.specs.AllocatorState.{AllocatorState, knows_all, members_of, start_of}
use Rattle.alloc_spec.specs.Ending.{end_phase}
use Rattle.alloc_spec.specs.Step.{all_nodes, at_moment, begin_phase, step, with_answer}
use Rattle.alloc_spec.specs.Step.Event.{Rx, Tick}
use Rattle.alloc_spec.specs.StepState.{StepState, with_moves}
use Rattle.alloc_spec.specs.Tick.{clock_phase, discovery_phase, election_phase, status_phase, tells_members, tells_status}
use Rattle.alloc_spec_laws.specs.Phases.{when_seen}
use Rattle.alloc_spec_laws.proofs.Choices.{and_left, either, eq_true}
use Rattle.alloc_spec_laws.proofs.Proposals.{leader_of}
use Rattle.service_steps.specs.Requests.{moment_at}
use Rattle.service_steps.proofs.Begins.{IsAsBefore, expired}
use Rattle.service_steps.proofs.Ends.{IsKept, rest_keeps}
use Rattle.service_steps.proofs.FollowUps.{begun, when_come}
use Rattle.service_leader.proofs.RaftPhases as phases
use Rattle.service_leader.proofs.RaftPhases.{OfServer, Records, Takes}
use Rattle.service_candidate.proofs.TermsBrings.{Brings, BringsAtFrame, BringsAtTick, Goes, IsLeft, all_left, left_then}

module _ (number : ℕ) (Brought : List ℕ → ℕ → RaftServer → Move → Type 0) (start : RaftServer) where
  -- a step by now
  abbrev pub Gone : StepState → Type 0
  Gone g = Goes Brought number start g.allocator.raft_server

  -- a step whose event has brought no move yet
  abbrev pub Begun : StepState → Type 0
  Begun g = IsAsBefore start g.allocator.raft_server

  -- nothing is brought, so far
  pub unmoved : (g : StepState) → Begun g → Gone g
  unmoved g h = record {
    early = g.allocator.raft_server;
    begun = h;
    late = g.allocator.raft_server;
    moved = inl refl;
    left = all_left g.allocator.raft_server;
  }

  -- the move of the event
  pub moves : (g : StepState) (given : HandedIn) (move : Move) → Begun g → Brought (members_of g.allocator) g.allocator.me g.allocator.raft_server move
      → Gone (with_moves number given (move ∷ []) g)
  moves g given move h brings = record {
    early = g.allocator.raft_server;
    begun = h;
    late = server_after (members_of g.allocator) g.allocator.me number g.allocator.raft_server move;
    moved = inr (members_of g.allocator, g.allocator.me, move, brings, refl);
    left = all_left (server_after (members_of g.allocator) g.allocator.me number g.allocator.raft_server move);
  }

  -- a move behind it
  behind : (g : StepState) (move : Move)
      → IsLeft g.allocator.raft_server (server_after (members_of g.allocator) g.allocator.me number g.allocator.raft_server move)
      → Gone g → Goes Brought number start (server_after (members_of g.allocator) g.allocator.me number g.allocator.raft_server move)
  behind g move l h = record {
    early = h.early;
    begun = h.begun;
    late = h.late;
    moved = h.moved;
    left = left_then h.late g.allocator.raft_server
        (server_after (members_of g.allocator) g.allocator.me number g.allocator.raft_server move) h.left l;
  }

  -- a leader adds an entry
  adds : (g : StepState) (entry : Entry) → g.allocator.raft_server.memory.role ≡ Leader → Gone g
      → Goes Brought number start (server_after (members_of g.allocator) g.allocator.me number g.allocator.raft_server (ProposeEntry entry))
  adds g entry leads h = behind g (ProposeEntry entry) (record { term = refl; vote = refl; role = refl; rest = inl leads }) h

  -- ---- the end of a step

  -- the moves at the end of a step are such
  kept : IsKept number Gone
  kept = record {
    passes = λ g e h. behind g TellNothing (record { term = refl; vote = refl; role = refl; rest = inr (refl, refl) }) h;
    tells = λ given g e h. behind g TellPair (record { term = refl; vote = refl; role = refl; rest = inr (refl, refl) }) h;
    votes = λ given peer g h. behind g (CallForVote peer) (record { term = refl; vote = refl; role = refl; rest = inr (refl, refl) }) h;
    appends = λ given peer previous with_entry g h. behind g (CallToAppend peer previous with_entry)
        (record { term = refl; vote = refl; role = refl; rest = inr (refl, refl) }) h;
    sends = λ what to payload says g h. h;
  }

  -- so are those of a commit
  committed : (g : StepState) (leads : Bool) (index : Option ℕ) → (leads ≡ true → g.allocator.raft_server.memory.role ≡ Leader) → Gone g
      → Gone (with_moves number (given_at g.allocator.now) (if leads then commit_moves index else []) g)
  committed g true None leader h = h
  committed g true (Some index) leader h = behind g (CommitTo index) (record { term = refl; vote = refl; role = refl; rest = inl (leader refl) }) h
  committed g false index leader h = h

  -- so a step ends as it was when its event was done
  pub ends : (g : StepState) → Gone g → Gone (end_phase number g)
  ends g h = rest_keeps number Gone kept g (committed g (is_leader g.allocator.raft_server.memory.role)
      (commit_index (members_of g.allocator) g.allocator.me g.allocator.raft_server) (leader_of g.allocator.raft_server.memory.role) h)

  -- ---- what a leader records

  abbrev pub Of : OfServer
  Of me server times now = Goes Brought number start server

  pub records : Records number Of
  records origin uid node g leads h = adds g _ leads h

  -- ---- a frame

  -- what is delivered brings its moves
  module _ (d : Delivery) (brings : (list : List ℕ) (me : ℕ) (server : RaftServer) (move : Move) → Brings d me server move → Brought list me server move) where
    takes : (g : StepState) (move : Move) → Begun g → Brings d g.allocator.me g.allocator.raft_server move
        → Gone (with_moves number (given_at g.allocator.now) (move ∷ []) g)
    takes g move h is = moves g (given_at g.allocator.now) move h (brings (members_of g.allocator) g.allocator.me g.allocator.raft_server move is)

    -- whatever is delivered, it brings one move at most
    told : (g : StepState) → Begun g → Takes number Of d g
    told g h = record {
      vote_request = λ kind first thirty m read listed. let asked : Request = vote_request_of m d.mark.step d.ident.source g.allocator.me in
          takes g (TakeVoteRequest asked (grants (with_term g.allocator.raft_server.store asked.term) asked)) h
          (record { kind = kind; first = first; thirty = thirty; message = m; read = read; is = refl; judged = refl });
      append_request = λ kind thirty m read listed. takes g (TakeAppendRequest (append_request_of m d.mark.step d.ident.source g.allocator.me) _) h
          (record { kind = kind; thirty = thirty; message = m; read = read; is = refl; judged = refl });
      vote_answer = λ kind first thirty m read asked listed awaited pending.
          takes g (TakeVoteAnswer (answer_of d.mark.step d.ident.source asked m.term m.granted)) h
          (record { kind = kind; first = first; thirty = thirty; message = m; read = read; term = refl });
      append_answer = λ kind thirty m read asked listed awaited pending.
          takes g (TakeAppendAnswer (answer_of d.mark.step d.ident.source asked m.term m.success)) h
          (record { kind = kind; thirty = thirty; message = m; read = read; term = refl });
    }

  -- what the receiver answers
  pub by_answer : (got : Received) (g : StepState)
      → ((d : Delivery) → got ≡ Gives d → (list : List ℕ) (me : ℕ) (server : RaftServer) (move : Move) → Brings d me server move → Brought list me server move)
      → Begun g → Gone (with_answer number got g).step_state
  by_answer got g brings h = phases.by_answer number Of records got g (λ d gives. phases.hears number Of records d g (told d (brings d gives) g h)) (unmoved g h)

-- ---- whole steps

-- at a frame
pub goes_at_frame : (number : ℕ) (t : AllocatorState) (arrival : Arrival)
    → Goes (BringsAtFrame t arrival) number t.raft_server (step t number (Rx arrival)).step_state.allocator.raft_server
unfolding step
goes_at_frame number t arrival = ends number (BringsAtFrame t arrival) t.raft_server (when_seen t number (Rx arrival))
    (by_answer number (BringsAtFrame t arrival) t.raft_server (answer (setting_for t.me) t.sessions (record arrival { moment = moment_at t arrival }))
    (when_come t number arrival) (λ d gives list me server move is. (d, gives, is)) (begun t number arrival))

module _ (number : ℕ) (t : AllocatorState) (now word : ℕ) where
  abbrev AtTick : List ℕ → ℕ → RaftServer → Move → Type 0
  AtTick = BringsAtTick (start_of t)

  abbrev Waits : StepState → Type 0
  Waits g = IsAsBefore t.raft_server g.allocator.raft_server × (start_of g.allocator ≡ start_of t)

  -- before its election a tick changes nothing of the server, nor of how it began
  finds : (x : StepState) → Waits x → Waits (discovery_phase number x)
  finds x i = either Waits (is_due (start_of x.allocator) x.allocator.heard x.allocator.now) (tells_members number x) x (λ e. i) (λ e. i)

  states : (x : StepState) → Waits x → Waits (status_phase number x)
  states x i = either Waits (nat_le status_interval (x.allocator.now - x.allocator.status_at)) (tells_status number x) x (λ e. i) (λ e. i)

  -- who stands knows all members
  brings_time_out : (x : StepState) → start_of x.allocator ≡ start_of t → knows_all x.allocator ≡ true
      → AtTick (members_of x.allocator) x.allocator.me x.allocator.raft_server TimeOut
  brings_time_out x same e = record {
    is = refl;
    own = ap (λ (s : Start). s.me) same;
    events = x.allocator.heard;
    known = ap (λ (s : Start). members s x.allocator.heard) same;
    whole = eq_true (length (members_of x.allocator)) x.allocator.size e ∙ ap (λ (s : Start). s.size) same;
  }

  -- the tick of Raft brings an election, or nothing
  ticked : (x : StepState) → Waits x
      → Gone number AtTick t.raft_server (with_moves number (given_tick x.allocator.now word)
      (tick_phase (knows_all x.allocator && has_waited x.allocator.times x.allocator.now) x.allocator.raft_server) x)
  ticked x h = either (λ (list : List Move). Gone number AtTick t.raft_server (with_moves number (given_tick x.allocator.now word) list x))
      ((knows_all x.allocator && has_waited x.allocator.times x.allocator.now)
      && (not (is_leader x.allocator.raft_server.memory.role) && nat_lt x.allocator.raft_server.store.term term_limit)) (TimeOut ∷ []) []
      (λ e. moves number AtTick t.raft_server x (given_tick x.allocator.now word) TimeOut h.0 (brings_time_out x h.1
      (and_left (knows_all x.allocator) _ (and_left (knows_all x.allocator && has_waited x.allocator.times x.allocator.now) _ e))))
      (λ e. unmoved number AtTick t.raft_server x h.0)

  elects : (x : StepState) → Waits x → Gone number AtTick t.raft_server (election_phase number word x)
  elects x h = phases.tick_and_blank number (Of number AtTick t.raft_server) (records number AtTick t.raft_server) word x (ticked x h)

  -- so does a tick as a whole
  ticks : (g : StepState) → Waits g → Gone number AtTick t.raft_server (clock_phase number word g)
  ticks g h = phases.behind_election number (Of number AtTick t.raft_server) (records number AtTick t.raft_server) word g
      (elects (status_phase number (discovery_phase number g)) (states (discovery_phase number g) (finds g h)))

  -- at a tick
  pub goes_at_tick : Goes AtTick number t.raft_server (step t number (Tick now word)).step_state.allocator.raft_server
  unfolding step
  goes_at_tick = ends number AtTick t.raft_server (when_seen t number (Tick now word))
      (ticks (begin_phase number now t) (expired (members_of (at_moment now t)) t.me number (overdue t.times (max t.now now) all_nodes) t.raft_server, refl))
