-- What moves that call nobody leave of a server's call to one peer, of whether the peer has answered, and of when it was
-- asked to append; and so what a step leaves of it, until it makes its calls.
use Rattle.std.proofs.Common.{ℕ, ◌+◌, ◌≤◌, arith, Bool, true, false, List, [], ◌∷◌, ◌++◌, refl, sym, subst, inl, inr, Option, None, Some}
use Rattle.std.specs.Prelude.{⊤, ◌⊎◌, ◌&&◌, nat_lt, if◌then◌else◌}
use Rattle.std.proofs.lemmas.Bool.Decides.{eqb_tells}
use Rattle.can_frame.specs.declared.step.What.{What}
use Rattle.can_frame.specs.declared.step.What.TheVariants.{AppQ, VoteQ}
use Rattle.raft_core.specs.Times.{HandedIn, Sending, Times, begin_wait, end_call, end_vote_call, given_at, raise, stand, step_down, times_after, times_after_all, win}
use Rattle.raft_model.specs.Handlers.{server_after, server_after_all}
use Rattle.raft_model.specs.Lists.{In, at, at_here, at_other}
use Rattle.raft_model.specs.Messages.{Answer, Request}
use Rattle.raft_model.specs.Messages.Message.{Requests}
use Rattle.raft_model.specs.Moves.{Move}
use Rattle.raft_model.specs.Moves.Appending.{acknowledges, matched_memory}
use Rattle.raft_model.specs.Moves.Appending.Verdict.{Added, Held, Outdated, Refused}
use Rattle.raft_model.specs.Moves.Elections.{counts, has_quorum, memory_without_call, own_vote, stand_memory, stepped_down, votes_with, win_memory, with_vote}
use Rattle.raft_model.specs.Moves.Move.{AnswerAgain, CallForVote, CallToAppend, CommitTo, GiveUp, ProposeEntry, TakeAppendAnswer, TakeAppendRequest}
use Rattle.raft_model.specs.Moves.Move.{TakeVoteAnswer, TakeVoteRequest, TellNothing, TellPair, TimeOut}
use Rattle.raft_model.specs.Server.{Memory, RaftServer, Role}
use Rattle.raft_model.specs.Server.Role.{Candidate, Follower, Leader}
use Rattle.alloc_spec.specs.AllocatorState.{AllocatorState, members_of}
use Rattle.alloc_spec.specs.Step.{Event, at_moment, begin_phase, moment_of}
use Rattle.alloc_spec.specs.StepState.{StepState, initial_state}
use Rattle.alloc_spec.specs.Transfers.{Offer}
use Rattle.alloc_spec_laws.specs.Calls.{carrier}
use Rattle.alloc_spec_laws.specs.Phases.{when_committed, when_seen, when_told}
use Rattle.alloc_spec_laws.proofs.CalledPeers.{AreQuiet, IsQuiet, commit_quiet}
use Rattle.alloc_spec_laws.proofs.Choices.{either}
use Rattle.alloc_spec_laws.proofs.DistinctTransfers.{rank, sent}
use Rattle.alloc_spec_laws.proofs.EndOffers.{Told, tells}
use Rattle.alloc_spec_laws.proofs.KeptByChanges.{Keeping}
use Rattle.alloc_spec_laws.proofs.KeptBySteps.{event_keeps, gives_up_keeps, tell_keeps}
use Rattle.alloc_spec_laws.proofs.Lists.{in_back, in_front}
use Rattle.alloc_spec_laws.proofs.LogGrowth.{commit_decided}
use Rattle.alloc_spec_laws.proofs.Transfers.{event_offers}

-- what may hold of the role and the term, of the pending call to a peer and what is kept with it, of whether the peer has
-- answered, and of the moment of the last append request to it
abbrev pub OfPeer : Type 1
OfPeer = Role → (term : ℕ) → Option Request → Option Sending → (answered : Bool) → (appended : Option ℕ) → Type 0

-- moves keep it, where terms change so
pub record IsKeptByMoves (Up : ℕ → ℕ → Type 0) (H : OfPeer) : Type 0 where
  -- a call that ends, by an answer to a vote request or otherwise
  pub ended : (r : Role) (term : ℕ) (p : Option Request) (s : Option Sending) (a : Bool) (l : Option ℕ) → H r term p s a l → H r term None None a l
  pub voted : (r : Role) (term : ℕ) (p : Option Request) (s : Option Sending) (a : Bool) (l : Option ℕ) → H r term p s a l → H r term None None true l
  -- winning, and standing
  pub won : (r : Role) (term : ℕ) (p : Option Request) (s : Option Sending) (a b : Bool) (l : Option ℕ) → H r term p s a l → H Leader term None None b None
  pub stood : (r : Role) (term : ℕ) (p : Option Request) (s : Option Sending) (a : Bool) (l : Option ℕ) → H r term p s a l
      → H Candidate (term + 1) None None false l
  pub follows : (r : Role) (term : ℕ) (p : Option Request) (s : Option Sending) (a : Bool) (l : Option ℕ) → H r term p s a l → H Follower term p s a l
  -- a term that changes
  pub rises : (r : Role) (term more : ℕ) (p : Option Request) (s : Option Sending) (a : Bool) (l : Option ℕ) → Up term more → H r term p s a l
      → H r more p s a l

-- moves change terms so
abbrev pub TermsGo : (ℕ → ℕ → Type 0) → Type 0
TermsGo Up = (members : List ℕ) (me number : ℕ) (server : RaftServer) (move : Move)
    → Up server.store.term (server_after members me number server move).store.term

module _ (m : ℕ) (Up : ℕ → ℕ → Type 0) (H : OfPeer) (kept : IsKeptByMoves Up H) (up : TermsGo Up) where
  -- it holds of this memory in this term, and of these times
  abbrev pub Of : ℕ → Memory → Times → Type 0
  Of term memory times = H memory.role term (memory.pending m) (times.sending m) (times.answered m) (times.appended m)

  ends : (node : ℕ) (pending : ℕ → Option Request) (sending : ℕ → Option Sending) (r : Role) (term : ℕ) (a : Bool) (l : Option ℕ)
      → H r term (pending m) (sending m) a l → H r term (at pending node None m) (at sending node None m) a l
  ends node pending sending r term a l h = elim (eqb_tells m node) [
    | inl z ↦ subst (λ (p : Option Request). H r term p (at sending node None m) a l) (sym (at_here pending node m None z.1))
        (subst (λ (s : Option Sending). H r term None s a l) (sym (at_here sending node m None z.1)) (kept.ended r term (pending m) (sending m) a l h))
    | inr z ↦ subst (λ (p : Option Request). H r term p (at sending node None m) a l) (sym (at_other pending node m None z.1))
        (subst (λ (s : Option Sending). H r term (pending m) s a l) (sym (at_other sending node m None z.1)) h)
  ]

  votes : (node : ℕ) (pending : ℕ → Option Request) (sending : ℕ → Option Sending) (answered : ℕ → Bool) (r : Role) (term : ℕ) (l : Option ℕ)
      → H r term (pending m) (sending m) (answered m) l → H r term (at pending node None m) (at sending node None m) (at answered node true m) l
  votes node pending sending answered r term l h = elim (eqb_tells m node) [
    | inl z ↦ subst (λ (p : Option Request). H r term p (at sending node None m) (at answered node true m) l) (sym (at_here pending node m None z.1))
        (subst (λ (s : Option Sending). H r term None s (at answered node true m) l) (sym (at_here sending node m None z.1))
        (subst (λ (a : Bool). H r term None None a l) (sym (at_here answered node m true z.1)) (kept.voted r term (pending m) (sending m) (answered m) l h)))
    | inr z ↦ subst (λ (p : Option Request). H r term p (at sending node None m) (at answered node true m) l) (sym (at_other pending node m None z.1))
        (subst (λ (s : Option Sending). H r term (pending m) s (at answered node true m) l) (sym (at_other sending node m None z.1))
        (subst (λ (a : Bool). H r term (pending m) (sending m) a l) (sym (at_other answered node m true z.1)) h))
  ]

  down : (now : ℕ) (role : Role) (times : Times) (r : Role) (term : ℕ) (p : Option Request) → H r term p (times.sending m) (times.answered m) (times.appended m)
      → H r term p ((step_down now role times).sending m) ((step_down now role times).answered m) ((step_down now role times).appended m)
  down now Follower times r term p h = h
  down now Candidate times r term p h = h
  down now Leader times r term p h = h

  raised : (now higher : ℕ) (server : RaftServer) (times : Times) (r : Role) (term : ℕ) (p : Option Request)
      → H r term p (times.sending m) (times.answered m) (times.appended m)
      → H r term p ((raise now higher server times).sending m) ((raise now higher server times).answered m) ((raise now higher server times).appended m)
  raised now higher server times r term p h =
      either (λ (ts : Times). H r term p (ts.sending m) (ts.answered m) (ts.appended m)) (nat_lt server.store.term higher) (step_down now server.memory.role times) times
      (λ e. down now server.memory.role times r term p h) (λ e. h)

  stands : (me : ℕ) (given : HandedIn) (server : RaftServer) (times : Times) (q : Bool) → Of server.store.term server.memory times
      → Of (server.store.term + 1) (if q then win_memory server.store (stand_memory me server.memory) else stand_memory me server.memory)
      (if q then win (stand given times) else stand given times)
  stands me given server times true h = kept.won Candidate (server.store.term + 1) None None false false (times.appended m)
      (kept.stood server.memory.role server.store.term (server.memory.pending m) (times.sending m) (times.answered m) (times.appended m) h)
  stands me given server times false h = kept.stood server.memory.role server.store.term (server.memory.pending m) (times.sending m) (times.answered m) (times.appended m) h

  asked_vote : (given : HandedIn) (server : RaftServer) (times : Times) (request : Request) (granted higher : Bool) → Of server.store.term server.memory times
      → Of server.store.term (if higher then record server.memory { role = Follower } else server.memory)
      (if granted then begin_wait given.now times else raise given.now request.term server times)
  asked_vote given server times request true true h = kept.follows server.memory.role server.store.term (server.memory.pending m) (times.sending m) (times.answered m) (times.appended m) h
  asked_vote given server times request true false h = h
  asked_vote given server times request false true h = raised given.now request.term server times Follower server.store.term (server.memory.pending m)
      (kept.follows server.memory.role server.store.term (server.memory.pending m) (times.sending m) (times.answered m) (times.appended m) h)
  asked_vote given server times request false false h = raised given.now request.term server times server.memory.role server.store.term (server.memory.pending m) h

  vote_answered : (given : HandedIn) (server : RaftServer) (times : Times) (answer : Answer) (higher counted wins : Bool) → Of server.store.term server.memory times
      → Of server.store.term (if higher then stepped_down server.memory answer.from
      else (if counted then (if wins then win_memory server.store (with_vote server.memory answer) else with_vote server.memory answer)
      else memory_without_call server.memory answer.from))
      (if higher then step_down given.now server.memory.role (end_vote_call answer.from times)
      else (if counted && wins then win (end_vote_call answer.from times) else end_vote_call answer.from times))
  vote_answered given server times answer true c q h = down given.now server.memory.role (end_vote_call answer.from times) Follower server.store.term
      (at server.memory.pending answer.from None m)
      (kept.follows server.memory.role server.store.term (at server.memory.pending answer.from None m) (at times.sending answer.from None m) (at times.answered answer.from true m)
      (times.appended m) (votes answer.from server.memory.pending times.sending times.answered server.memory.role server.store.term (times.appended m) h))
  vote_answered given server times answer false true true h =
      kept.won server.memory.role server.store.term (server.memory.pending m) (times.sending m) (times.answered m) (at times.answered answer.from true m) (times.appended m) h
  vote_answered given server times answer false true false h =
      votes answer.from server.memory.pending times.sending times.answered server.memory.role server.store.term (times.appended m) h
  vote_answered given server times answer false false q h =
      votes answer.from server.memory.pending times.sending times.answered server.memory.role server.store.term (times.appended m) h

  append_answered : (given : HandedIn) (server : RaftServer) (times : Times) (answer : Answer) (higher counted : Bool) → Of server.store.term server.memory times
      → Of server.store.term (if higher then stepped_down server.memory answer.from
      else (if counted then matched_memory server.memory answer else memory_without_call server.memory answer.from))
      (raise given.now answer.term server (end_call answer.from times))
  append_answered given server times answer true c h = raised given.now answer.term server (end_call answer.from times) Follower server.store.term
      (at server.memory.pending answer.from None m)
      (kept.follows server.memory.role server.store.term (at server.memory.pending answer.from None m) (at times.sending answer.from None m) (times.answered m)
      (times.appended m) (ends answer.from server.memory.pending times.sending server.memory.role server.store.term (times.answered m) (times.appended m) h))
  append_answered given server times answer false true h = raised given.now answer.term server (end_call answer.from times) server.memory.role server.store.term
      (at server.memory.pending answer.from None m) (ends answer.from server.memory.pending times.sending server.memory.role server.store.term (times.answered m)
      (times.appended m) h)
  append_answered given server times answer false false h = raised given.now answer.term server (end_call answer.from times) server.memory.role server.store.term
      (at server.memory.pending answer.from None m) (ends answer.from server.memory.pending times.sending server.memory.role server.store.term (times.answered m)
      (times.appended m) h)

  -- in the term that the move leaves
  then_term : (members : List ℕ) (me number : ℕ) (given : HandedIn) (server : RaftServer) (move : Move) (times : Times)
      → Of server.store.term (server_after members me number server move).memory (times_after members me given server move times)
      → Of (server_after members me number server move).store.term (server_after members me number server move).memory (times_after members me given server move times)
  then_term members me number given server move times h =
      let memory : Memory = (server_after members me number server move).memory in
      let then_times : Times = times_after members me given server move times in
      kept.rises memory.role server.store.term (server_after members me number server move).store.term
      (memory.pending m) (then_times.sending m) (then_times.answered m) (then_times.appended m) (up members me number server move) h

  after_move : (members : List ℕ) (me number : ℕ) (given : HandedIn) (server : RaftServer) (move : Move) (times : Times) → IsQuiet move
      → Of server.store.term server.memory times
      → Of (server_after members me number server move).store.term (server_after members me number server move).memory (times_after members me given server move times)
  after_move members me number given server TimeOut times quiet h = stands me given server times (has_quorum members (own_vote me)) h
  after_move members me number given server (TakeVoteRequest request granted) times quiet h =
      then_term members me number given server (TakeVoteRequest request granted) times (asked_vote given server times request granted (nat_lt server.store.term request.term) h)
  after_move members me number given server (TakeVoteAnswer answer) times quiet h =
      then_term members me number given server (TakeVoteAnswer answer) times
      (vote_answered given server times answer (nat_lt server.store.term answer.term) (counts server answer) (has_quorum members (votes_with server.memory answer)) h)
  after_move members me number given server (TakeAppendRequest request Outdated) times quiet h =
      then_term members me number given server (TakeAppendRequest request Outdated) times h
  after_move members me number given server (TakeAppendRequest request Refused) times quiet h =
      then_term members me number given server (TakeAppendRequest request Refused) times
      (kept.follows server.memory.role server.store.term (server.memory.pending m) (times.sending m) (times.answered m) (times.appended m) h)
  after_move members me number given server (TakeAppendRequest request Held) times quiet h =
      then_term members me number given server (TakeAppendRequest request Held) times
      (kept.follows server.memory.role server.store.term (server.memory.pending m) (times.sending m) (times.answered m) (times.appended m) h)
  after_move members me number given server (TakeAppendRequest request (Added entry)) times quiet h =
      then_term members me number given server (TakeAppendRequest request (Added entry)) times
      (kept.follows server.memory.role server.store.term (server.memory.pending m) (times.sending m) (times.answered m) (times.appended m) h)
  after_move members me number given server (TakeAppendAnswer answer) times quiet h =
      then_term members me number given server (TakeAppendAnswer answer) times
      (append_answered given server times answer (nat_lt server.store.term answer.term) (acknowledges server answer) h)
  after_move members me number given server (ProposeEntry entry) times quiet h = h
  after_move members me number given server (CommitTo index) times quiet h = h
  after_move members me number given server TellPair times quiet h = h
  after_move members me number given server TellNothing times quiet h = h
  after_move members me number given server (CallForVote node) times quiet h = absurd quiet
  after_move members me number given server (CallToAppend node previous with_entry) times quiet h = absurd quiet
  after_move members me number given server (AnswerAgain place) times quiet h = h
  after_move members me number given server (GiveUp node) times quiet h =
      ends node server.memory.pending times.sending server.memory.role server.store.term (times.answered m) (times.appended m) h

  after_moves : (members : List ℕ) (me number : ℕ) (given : HandedIn) (moves : List Move) (server : RaftServer) (times : Times) → AreQuiet moves
      → Of server.store.term server.memory times
      → Of (server_after_all members me number server moves).store.term (server_after_all members me number server moves).memory
      (times_after_all members me number given server moves times)
  after_moves members me number given [] server times quiet h = h
  after_moves members me number given (move ∷ moves) server times quiet h =
      after_moves members me number given moves (server_after members me number server move) (times_after members me given server move times) quiet.1
      (after_move members me number given server move times quiet.0 h)

-- ---- until the calls

-- until a step makes its calls, none is among its offers
pub told_only : (t : AllocatorState) (number : ℕ) (event : Event) → Told (when_told t number event)
told_only t number event = tells number (when_committed t number event) (event_offers number event (begin_phase number (moment_of event) t) refl)

-- a call is among these offers
abbrev HasCall : List Offer → Type 0
HasCall offers = (offer : Offer) × In offer offers × (8 ≤ rank offer.what)

is_call : (request : Request) → 8 ≤ rank (carrier request)
is_call request = either (λ (what : What). 8 ≤ rank what) request.append AppQ VoteQ (λ e. omega arith) (λ e. omega arith)

-- it holds of a server
abbrev pub HoldsOf : (m : ℕ) (H : OfPeer) → AllocatorState → Type 0
HoldsOf m H t = H t.raft_server.memory.role t.raft_server.store.term (t.raft_server.memory.pending m) (t.times.sending m) (t.times.answered m) (t.times.appended m)

module _ (m : ℕ) (Up : ℕ → ℕ → Type 0) (H : OfPeer) (kept : IsKeptByMoves Up H) (up : TermsGo Up) (number : ℕ) where
  -- of what is known of the call alone
  abbrev Holds : RaftServer → Times → Type 0
  Holds server times = Of m Up H kept up server.store.term server.memory times

  -- a call is offered, or it holds
  abbrev CallsOrHolds : StepState → Type 0
  CallsOrHolds g = HasCall g.offers ⊎ Holds g.allocator.raft_server g.allocator.times

  longer : {X : Type 0} (offers : List Offer) (offer : Offer) → HasCall offers ⊎ X → HasCall (offers ++ offer ∷ []) ⊎ X
  longer offers offer (inl c) = inl (c.0, in_front c.0 offers (offer ∷ []) c.1, c.2)
  longer offers offer (inr h) = inr h

  keeping : (event : Event) → Keeping number event CallsOrHolds (λ d. ⊤)
  keeping event = record {
    takes_keep = λ given moves g quiet decided h. elim h [
      | inl c ↦ inl c
      | inr k ↦ inr (after_moves m Up H kept up (members_of g.allocator) g.allocator.me number given moves g.allocator.raft_server g.allocator.times quiet k)
    ];
    proposes_keep = λ given uid node g found h. h;
    sends_keep = λ what to payload says g sends h. longer g.offers (sent what to payload says g) h;
    calls_keep = λ what peer move request payload g makes fits h. inl (
      sent what peer payload (Some (Requests request)) g,
      in_back (sent what peer payload (Some (Requests request)) g) g.offers (sent what peer payload (Some (Requests request)) g ∷ []) (inl refl),
      subst (λ (w : What). 8 ≤ rank w) (sym makes.carried) (is_call request),
    );
    responds_keep = λ what d payload says g comes responds h. longer g.offers _ h;
    changes_keep = λ u g like h. subst (λ (server : RaftServer). HasCall g.offers ⊎ Holds server u.times) (sym like.raft_server)
        (subst (λ (times : Times). HasCall g.offers ⊎ Holds g.allocator.raft_server times) (sym like.times) h);
    watches_keep = λ node happens g has h. h;
    tells_keep = λ g h. h;
    hears_keep = λ d message g comes kind other read h. h;
  }

  -- so it holds when the step makes its calls
  pub until_calls : (t : AllocatorState) (event : Event) → HoldsOf m H t → HoldsOf m H (when_told t number event).allocator
  until_calls t event h = elim kept_there [
    | inl c ↦ absurd (let low = (told_only t number event).each c.0 c.1 in let high = c.2 in omega (arith, low, high))
    | inr k ↦ k
  ]
    where
      kept_there : CallsOrHolds (when_told t number event)
      kept_there = tell_keeps number event CallsOrHolds (λ d. ⊤) (keeping event) (when_committed t number event)
          ((keeping event).takes_keep (given_at (when_seen t number event).allocator.now) _ (when_seen t number event)
          (commit_quiet (members_of (when_seen t number event).allocator) (when_seen t number event).allocator.me (when_seen t number event).allocator.raft_server)
          (commit_decided (members_of (when_seen t number event).allocator) (when_seen t number event).allocator.me number (when_seen t number event).allocator.raft_server)
          (event_keeps number event CallsOrHolds (λ d. ⊤) (keeping event) (begin_phase number (moment_of event) t) (λ arrival is d e. tt)
          (gives_up_keeps number event CallsOrHolds (λ d. ⊤) (keeping event) (initial_state (at_moment (moment_of event) t)) (inr h))))
