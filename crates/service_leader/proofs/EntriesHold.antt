-- A step in which a call to a peer goes on pending leaves what its server knows of the peer.
use Rattle.std.proofs.Common.{◌≡◌, ℕ, List, [], ◌∷◌, refl, sym, ◌∙◌, ap, subst, inl, inr, None, Some}
use Rattle.std.specs.Prelude.{⊤, ◌⊎◌, nat_lt, if◌then◌else◌}
use Rattle.std.proofs.lemmas.Bool.Decides.{eqb_tells}
use Rattle.raft_model.specs.Handlers.{server_after, server_after_all}
use Rattle.raft_model.specs.Lists.{at_here, at_other}
use Rattle.raft_model.specs.Messages.{Answer, Request}
use Rattle.raft_model.specs.Moves.{Move, memory_after}
use Rattle.raft_model.specs.Moves.Appending.{Verdict, acknowledges, append_memory, matched_after, matched_memory, next_after}
use Rattle.raft_model.specs.Moves.Appending.Verdict.{Added, Held, Outdated, Refused}
use Rattle.raft_model.specs.Moves.Elections.{counting_memory, counts, has_quorum, memory_without_call, own_vote, stand_memory, stepped_down, term_memory, votes_with, win_memory, with_vote}
use Rattle.raft_model.specs.Moves.Leading.{memory_with_call}
use Rattle.raft_model.specs.Moves.Move.{AnswerAgain, CallForVote, CallToAppend, CommitTo, GiveUp, ProposeEntry, TakeAppendAnswer, TakeAppendRequest, TakeVoteAnswer, TakeVoteRequest, TellNothing, TellPair, TimeOut}
use Rattle.raft_model.specs.Server.{Memory, RaftServer}
use Rattle.alloc_spec.specs.AllocatorState.{AllocatorState, members_of}
use Rattle.alloc_spec.specs.Step.{Event, step}
use Rattle.alloc_spec.specs.StepState.{StepState}
use Rattle.alloc_spec_laws.proofs.CalledPeers.{AreQuiet, IsQuiet}
use Rattle.alloc_spec_laws.proofs.Choices.{either}
use Rattle.alloc_spec_laws.proofs.KeptByChanges.{Keeping}
use Rattle.alloc_spec_laws.proofs.KeptBySteps.{step_keeps}

one_request : (a b : Request) → Some a ≡ Some b → a ≡ b
one_request a b e = cc (e)

module _ (m number next matched : ℕ) where
  -- A call to the peer that pends was made in this step, or the server knows of the peer what it knew.
  abbrev pub Holds : Memory → Type 0
  Holds memory = (asked : Request) → memory.pending m ≡ Some asked →
      (asked.step ≡ number) ⊎ ((memory.next m ≡ next) × (memory.matched m ≡ matched))

  -- a memory in which the call to one peer has ended
  ended : (memory : Memory) (peer : ℕ) → Holds memory → Holds (memory_without_call memory peer)
  ended memory peer h asked e = elim (eqb_tells m peer) [
    | inl z ↦ absurd (cc (sym (at_here memory.pending peer m None z.1) ∙ e))
    | inr z ↦ h asked (sym (at_other memory.pending peer m None z.1) ∙ e)
  ]

  -- one that took an answer
  taken : (memory : Memory) (answer : Answer) → Holds memory → Holds (matched_memory memory answer)
  taken memory answer h asked e = elim (eqb_tells m answer.from) [
    | inl z ↦ absurd (cc (sym (at_here memory.pending answer.from m None z.1) ∙ e))
    | inr z ↦ elim (h asked (sym (at_other memory.pending answer.from m None z.1) ∙ e)) [
      | inl here ↦ inl here
      | inr kept ↦ inr (
        at_other memory.next answer.from m (next_after memory answer) z.1 ∙ kept.0,
        at_other memory.matched answer.from m (matched_after memory answer) z.1 ∙ kept.1,
      )
    ]
  ]

  -- one that made a call in this step
  called : (memory : Memory) (peer : ℕ) (request : Request) → request.step ≡ number → Holds memory → Holds (memory_with_call memory peer request)
  called memory peer request now h asked e = elim (eqb_tells m peer) [
    | inl z ↦ inl (ap (λ (r : Request). r.step) (one_request asked request (sym e ∙ at_here memory.pending peer m (Some request) z.1)) ∙ now)
    | inr z ↦ h asked (sym (at_other memory.pending peer m (Some request) z.1) ∙ e)
  ]

  -- one to which no call pends
  none : (memory : Memory) → ((asked : Request) → memory.pending m ≡ Some asked → ⊥) → Holds memory
  none memory nothing asked e = absurd (nothing asked e)

  judged : (s : RaftServer) (request : Request) (verdict : Verdict) → Holds s.memory → Holds (append_memory s request verdict)
  judged s request Outdated h = h
  judged s request Refused h = h
  judged s request Held h = h
  judged s request (Added entry) h = h

  module _ (members : List ℕ) (me : ℕ) (s : RaftServer) (h : Holds s.memory) where
    stood : Holds (memory_after members me number s TimeOut)
    stood = either Holds (has_quorum members (own_vote me)) (win_memory s.store (stand_memory me s.memory)) (stand_memory me s.memory)
        (λ e asked p. absurd (cc p)) (λ e asked p. absurd (cc p))

    vote_answered : (answer : Answer) → Holds (memory_after members me number s (TakeVoteAnswer answer))
    vote_answered answer = either Holds (nat_lt s.store.term answer.term) (stepped_down s.memory answer.from)
        (if counts s answer then counting_memory members s answer else memory_without_call s.memory answer.from)
        (λ e. ended s.memory answer.from h)
        (λ e. either Holds (counts s answer) (counting_memory members s answer) (memory_without_call s.memory answer.from)
        (λ c. either Holds (has_quorum members (votes_with s.memory answer)) (win_memory s.store (with_vote s.memory answer)) (with_vote s.memory answer)
        (λ q asked p. absurd (cc p)) (λ q. ended s.memory answer.from h)) (λ c. ended s.memory answer.from h))

    append_answered : (answer : Answer) → Holds (memory_after members me number s (TakeAppendAnswer answer))
    append_answered answer = either Holds (nat_lt s.store.term answer.term) (stepped_down s.memory answer.from)
        (if acknowledges s answer then matched_memory s.memory answer else memory_without_call s.memory answer.from)
        (λ e. ended s.memory answer.from h)
        (λ e. either Holds (acknowledges s answer) (matched_memory s.memory answer) (memory_without_call s.memory answer.from)
        (λ c. taken s.memory answer h) (λ c. ended s.memory answer.from h))

    vote_asked : (request : Request) → Holds (term_memory s request.term)
    vote_asked request = either Holds (nat_lt s.store.term request.term) _ s.memory (λ e. h) (λ e. h)

    one_move : (move : Move) → IsQuiet move → Holds (memory_after members me number s move)
    one_move TimeOut quiet = stood
    one_move (TakeVoteRequest request granted) quiet = vote_asked request
    one_move (TakeVoteAnswer answer) quiet = vote_answered answer
    one_move (TakeAppendRequest request verdict) quiet = judged s request verdict h
    one_move (TakeAppendAnswer answer) quiet = append_answered answer
    one_move (ProposeEntry entry) quiet = absurd quiet
    one_move (CommitTo index) quiet = h
    one_move TellPair quiet = h
    one_move TellNothing quiet = h
    one_move (CallForVote peer) quiet = absurd quiet
    one_move (CallToAppend peer previous with_entry) quiet = absurd quiet
    one_move (AnswerAgain place) quiet = h
    one_move (GiveUp peer) quiet = ended s.memory peer h

  all_moves : (members : List ℕ) (me : ℕ) (moves : List Move) (s : RaftServer) → AreQuiet moves → Holds s.memory
      → Holds (server_after_all members me number s moves).memory
  all_moves members me [] s quiet h = h
  all_moves members me (move ∷ moves) s quiet h =
      all_moves members me moves (server_after members me number s move) quiet.1 (one_move members me s h move quiet.0)

  -- ---- a step

  abbrev Keeps : StepState → Type 0
  Keeps g = Holds g.allocator.raft_server.memory

  keeping : (event : Event) → Keeping number event Keeps (λ d. ⊤)
  keeping event = record {
    takes_keep = λ given moves g quiet decided h. all_moves (members_of g.allocator) g.allocator.me moves g.allocator.raft_server quiet h;
    proposes_keep = λ given uid node g found h. h;
    sends_keep = λ what to payload says g sends h. h;
    calls_keep = λ what peer move request payload g makes fits h.
        subst Holds (sym (makes.memory (members_of g.allocator))) (called g.allocator.raft_server.memory peer request makes.step h);
    responds_keep = λ what d payload says g comes responds h. h;
    changes_keep = λ u g like h. subst (λ (s : RaftServer). Holds s.memory) (sym like.raft_server) h;
    watches_keep = λ node happens g has h. h;
    tells_keep = λ g h. h;
    hears_keep = λ d message g comes kind other read h. h;
  }

  step_holds : (t : AllocatorState) (event : Event) → Holds t.raft_server.memory → Holds (step t number event).step_state.allocator.raft_server.memory
  step_holds t event h = step_keeps number event Keeps (λ d. ⊤) (keeping event) t (λ arrival is d e. tt) h

-- a call that pends when a step is over was made in it, or the server knows of the peer what it knew before
pub holds_on : (m number : ℕ) (t : AllocatorState) (event : Event) (asked : Request)
    → (step t number event).step_state.allocator.raft_server.memory.pending m ≡ Some asked
    → (asked.step ≡ number)
    ⊎ (((step t number event).step_state.allocator.raft_server.memory.next m ≡ t.raft_server.memory.next m)
    × ((step t number event).step_state.allocator.raft_server.memory.matched m ≡ t.raft_server.memory.matched m))
holds_on m number t event asked e =
    step_holds m number (t.raft_server.memory.next m) (t.raft_server.memory.matched m) t event (λ other p. inr (refl, refl)) asked e
