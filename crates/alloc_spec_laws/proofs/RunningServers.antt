-- A server that is up stays so.
use Rattle.std.proofs.Common.{◌≡◌, ℕ, List, [], ◌∷◌, refl, ◌∙◌, ap}
use Rattle.std.specs.Prelude.{⊤, nat_lt}
use Rattle.raft_model.specs.Handlers.{server_after, server_after_all}
use Rattle.raft_model.specs.Moves.{Move, memory_after}
use Rattle.raft_model.specs.Moves.Appending.{acknowledges}
use Rattle.raft_model.specs.Moves.Appending.Verdict.{Added, Held, Outdated, Refused}
use Rattle.raft_model.specs.Moves.Elections.{votes_with, counts, has_quorum, own_vote}
use Rattle.raft_model.specs.Moves.Move.{AnswerAgain, CallForVote, CallToAppend, CommitTo, GiveUp, ProposeEntry, TakeAppendAnswer, TakeAppendRequest, TakeVoteAnswer, TakeVoteRequest, TellNothing, TellPair, TimeOut}
use Rattle.raft_model.specs.Server.{Memory, RaftServer}
use Rattle.alloc_spec.specs.Step.{Event, step}
use Rattle.alloc_spec.specs.AllocatorState.{AllocatorState, members_of}
use Rattle.alloc_spec_laws.proofs.Choices.{either}
use Rattle.alloc_spec_laws.proofs.KeptBySteps.{step_keeps}

up_after : (members : List ℕ) (me step : ℕ) (server : RaftServer) (move : Move) → (memory_after members me step server move).up ≡ server.memory.up
up_after members me step server TimeOut =
    either (λ (m : Memory). m.up ≡ server.memory.up) (has_quorum members (own_vote me)) _ _ (λ q. refl) (λ q. refl)
up_after members me step server (TakeVoteRequest request granted) =
    either (λ (m : Memory). m.up ≡ server.memory.up) (nat_lt server.store.term request.term) _ server.memory (λ b. refl) (λ b. refl)
up_after members me step server (TakeVoteAnswer answer) =
    either (λ (m : Memory). m.up ≡ server.memory.up) (nat_lt server.store.term answer.term) _ _ (λ b. refl)
    (λ b. either (λ (m : Memory). m.up ≡ server.memory.up) (counts server answer) _ _
    (λ c. either (λ (m : Memory). m.up ≡ server.memory.up) (has_quorum members (votes_with server.memory answer)) _ _ (λ q. refl) (λ q. refl)) (λ c. refl))
up_after members me step server (TakeAppendRequest request Outdated) = refl
up_after members me step server (TakeAppendRequest request Refused) = refl
up_after members me step server (TakeAppendRequest request Held) = refl
up_after members me step server (TakeAppendRequest request (Added entry)) = refl
up_after members me step server (TakeAppendAnswer answer) =
    either (λ (m : Memory). m.up ≡ server.memory.up) (nat_lt server.store.term answer.term) _ _ (λ b. refl)
    (λ b. either (λ (m : Memory). m.up ≡ server.memory.up) (acknowledges server answer) _ _ (λ c. refl) (λ c. refl))
up_after members me step server (ProposeEntry entry) = refl
up_after members me step server (CommitTo index) = refl
up_after members me step server TellPair = refl
up_after members me step server TellNothing = refl
up_after members me step server (CallForVote peer) = refl
up_after members me step server (CallToAppend peer previous with_entry) = refl
up_after members me step server (AnswerAgain place) = refl
up_after members me step server (GiveUp peer) = refl

up_all : (members : List ℕ) (me step : ℕ) (moves : List Move) (server : RaftServer)
    → (server_after_all members me step server moves).memory.up ≡ server.memory.up
up_all members me step [] server = refl
up_all members me step (move ∷ moves) server =
    up_all members me step moves (server_after members me step server move) ∙ up_after members me step server move

pub stays_up : (t : AllocatorState) (number : ℕ) (event : Event) → (step t number event).step_state.allocator.raft_server.memory.up ≡ t.raft_server.memory.up
stays_up t number event =
    step_keeps number event (λ g. g.allocator.raft_server.memory.up ≡ t.raft_server.memory.up) (λ d. ⊤) (record {
      takes_keep = λ given moves g quiet decided h. up_all (members_of g.allocator) g.allocator.me number moves g.allocator.raft_server ∙ h;
      proposes_keep = λ given uid node g found h. h;
      sends_keep = λ what to payload says g sends h. h;
      calls_keep = λ what peer move request payload g makes fits h. up_after (members_of g.allocator) g.allocator.me number g.allocator.raft_server move ∙ h;
      responds_keep = λ what d payload says g comes responds h. h;
      changes_keep = λ u g like h. ap (λ (raft_server : RaftServer). raft_server.memory.up) like.raft_server ∙ h;
      watches_keep = λ node happens g has h. h;
      tells_keep = λ g h. h;
      hears_keep = λ d message g comes kind other read h. h;
    }) t (λ arrival is d e. tt) refl
