-- A leader that has told all that it committed, and committed nothing new by the end of a step, tells nothing in it.
use Rattle.std.proofs.Common.{◌≡◌, ℕ, ◌<◌, ◌≤◌, false, List, [], ◌∷◌, length, refl, sym, ap, subst, arith, inl, inr}
use Rattle.std.specs.Prelude.{⊤, nat_lt}
use Rattle.raft_model.specs.Decisions.{verdict_on}
use Rattle.raft_model.specs.Handlers.{server_after, server_after_all}
use Rattle.raft_model.specs.Messages.{Request}
use Rattle.raft_model.specs.Moves.{Move, memory_after}
use Rattle.raft_model.specs.Moves.Appending.{IsJudged, acknowledges, matched_memory}
use Rattle.raft_model.specs.Moves.Appending.Verdict.{Added, Held, Outdated, Refused}
use Rattle.raft_model.specs.Moves.Elections.{counting_memory, counts, has_quorum, is_leader, memory_without_call, own_vote, stand_memory, stepped_down, votes_with, win_memory, with_vote}
use Rattle.raft_model.specs.Moves.Move.{AnswerAgain, CallForVote, CallToAppend, CommitTo, GiveUp, ProposeEntry, TakeAppendAnswer, TakeAppendRequest, TakeVoteAnswer, TakeVoteRequest, TellNothing, TellPair, TimeOut}
use Rattle.raft_model.specs.Server.{Memory, Put, RaftServer, Store, put_all}
use Rattle.alloc_spec.specs.AllocatorState.{AllocatorState, members_of}
use Rattle.alloc_spec.specs.Ending.{has_to_tell}
use Rattle.alloc_spec.specs.Step.{Event, at_moment, begin_phase, moment_of, step}
use Rattle.alloc_spec.specs.StepState.{StepState, initial_state}
use Rattle.alloc_spec_laws.specs.Phases.{when_committed, when_seen, when_told}
use Rattle.alloc_spec_laws.proofs.Choices.{and_right, either, lt_true, tell}
use Rattle.alloc_spec_laws.proofs.KeptByChanges.{Keeping}
use Rattle.alloc_spec_laws.proofs.KeptBySteps.{event_keeps, gives_up_keeps}
use Rattle.alloc_spec_laws.proofs.LogGrowth.{AreDecided, Grows, IsDecided, IsSane, commit_decided, moves_grow}
use Rattle.service_steps.proofs.Ends.{IsKept, call_phase_keeps, tell_keeps}

-- what a verdict on an append request is
abbrev pub VerdictsAre : Type 0
VerdictsAre = (server : RaftServer) (request : Request) → IsJudged server request (verdict_on server request)

module _ (judged : VerdictsAre) (number least : ℕ) where
  -- so much is told and committed
  pub record Reaches (server : RaftServer) : Type 0 where
    pub sane : IsSane server.store
    pub told : least ≤ server.memory.told
    pub committed : least ≤ server.store.commit

  abbrev ToldIn : Memory → Type 0
  ToldIn memory = least ≤ memory.told

  -- no move tells less
  told_on : (members : List ℕ) (me : ℕ) (server : RaftServer) (move : Move) → least ≤ server.memory.told → least ≤ server.store.commit
      → ToldIn (memory_after members me number server move)
  told_on members me server TimeOut told committed = either ToldIn (has_quorum members (own_vote me)) (win_memory server.store (stand_memory me server.memory))
      (stand_memory me server.memory) (λ e. committed) (λ e. told)
  told_on members me server (TakeVoteRequest request granted) told committed = either ToldIn (nat_lt server.store.term request.term) _ server.memory (λ e. told) (λ e. told)
  told_on members me server (TakeVoteAnswer answer) told committed = either ToldIn (nat_lt server.store.term answer.term) (stepped_down server.memory answer.from) _ (λ e. told)
      (λ e. either ToldIn (counts server answer) (counting_memory members server answer) (memory_without_call server.memory answer.from)
      (λ c. either ToldIn (has_quorum members (votes_with server.memory answer)) (win_memory server.store (with_vote server.memory answer)) (with_vote server.memory answer)
      (λ q. committed) (λ q. told)) (λ c. told))
  told_on members me server (TakeAppendRequest request Outdated) told committed = told
  told_on members me server (TakeAppendRequest request Refused) told committed = told
  told_on members me server (TakeAppendRequest request Held) told committed = told
  told_on members me server (TakeAppendRequest request (Added entry)) told committed = told
  told_on members me server (TakeAppendAnswer answer) told committed = either ToldIn (nat_lt server.store.term answer.term) (stepped_down server.memory answer.from) _ (λ e. told)
      (λ e. either ToldIn (acknowledges server answer) (matched_memory server.memory answer) (memory_without_call server.memory answer.from) (λ c. told) (λ c. told))
  told_on members me server (ProposeEntry entry) told committed = told
  told_on members me server (CommitTo index) told committed = told
  told_on members me server TellPair told committed = omega (arith, told)
  told_on members me server TellNothing told committed = omega (arith, told)
  told_on members me server (CallForVote peer) told committed = told
  told_on members me server (CallToAppend peer previous with_entry) told committed = told
  told_on members me server (AnswerAgain place) told committed = told
  told_on members me server (GiveUp peer) told committed = told

  move_on : (members : List ℕ) (me : ℕ) (server : RaftServer) (move : Move) → IsDecided members me server move → Reaches server
      → Reaches (server_after members me number server move)
  move_on members me server move decided r =
      let grown : Grows server.store (server_after members me number server move).store = moves_grow judged members me number (move ∷ []) server (decided, tt) r.sane in
      record {
        sane = grown.sane;
        told = told_on members me server move r.told r.committed;
        committed = let c = grown.commit in let k = r.committed in omega (arith, c, k);
      }

  moves_on : (members : List ℕ) (me : ℕ) (moves : List Move) (server : RaftServer) → AreDecided members me number server moves → Reaches server
      → Reaches (server_after_all members me number server moves)
  moves_on members me [] server decided r = r
  moves_on members me (move ∷ moves) server decided r = moves_on members me moves (server_after members me number server move) decided.1 (move_on members me server move decided.0 r)

  abbrev Keeps : StepState → Type 0
  Keeps g = Reaches g.allocator.raft_server

  keeping : (event : Event) → Keeping number event Keeps (λ d. ⊤)
  keeping event = record {
    takes_keep = λ given moves g quiet decided h. moves_on (members_of g.allocator) g.allocator.me moves g.allocator.raft_server decided h;
    proposes_keep = λ given uid node g found h. moves_on (members_of g.allocator) g.allocator.me (ProposeEntry _ ∷ []) g.allocator.raft_server (tt, tt) h;
    sends_keep = λ what to payload says g sends h. h;
    calls_keep = λ what peer move request payload g makes fits h. record {
      sane = subst (λ (ps : List Put). IsSane (put_all g.allocator.raft_server.store ps)) (sym (makes.nothing (members_of g.allocator))) h.sane;
      told = subst ToldIn (sym (makes.memory (members_of g.allocator))) h.told;
      committed = subst (λ (ps : List Put). least ≤ (put_all g.allocator.raft_server.store ps).commit) (sym (makes.nothing (members_of g.allocator))) h.committed;
    };
    responds_keep = λ what d payload says g comes responds h. h;
    changes_keep = λ u g like h. subst Reaches (sym like.raft_server) h;
    watches_keep = λ node happens g has h. h;
    tells_keep = λ g h. h;
    hears_keep = λ d message g comes kind other read h. h;
  }

  -- so it is when the step has committed
  pub reaches_then : (t : AllocatorState) (event : Event) → Reaches t.raft_server → Reaches (when_committed t number event).allocator.raft_server
  reaches_then t event r =
      let seen : StepState = when_seen t number event in
      moves_on (members_of seen.allocator) seen.allocator.me _ seen.allocator.raft_server
      (commit_decided (members_of seen.allocator) seen.allocator.me number seen.allocator.raft_server)
      (event_keeps number event Keeps (λ d. ⊤) (keeping event) (begin_phase number (moment_of event) t) (λ arrival is d e. tt)
      (gives_up_keeps number event Keeps (λ d. ⊤) (keeping event) (initial_state (at_moment (moment_of event) t)) r))

-- what is stored when the step has committed is stored when it ends
store_kept : (number : ℕ) (store : Store) → IsKept number (λ (g : StepState). g.allocator.raft_server.store ≡ store)
store_kept number store = record {
  passes = λ g e h. h;
  tells = λ given g e h. h;
  votes = λ given peer g h. h;
  appends = λ given peer previous with_entry g h. h;
  sends = λ what to payload says g h. h;
}

pub stored_then : (t : AllocatorState) (number : ℕ) (event : Event)
    → (step t number event).step_state.allocator.raft_server.store ≡ (when_committed t number event).allocator.raft_server.store
unfolding step
stored_then t number event =
    call_phase_keeps number (λ (g : StepState). g.allocator.raft_server.store ≡ (when_committed t number event).allocator.raft_server.store)
    (store_kept number (when_committed t number event).allocator.raft_server.store) (when_told t number event)
    (tell_keeps number (λ (g : StepState). g.allocator.raft_server.store ≡ (when_committed t number event).allocator.raft_server.store)
    (store_kept number (when_committed t number event).allocator.raft_server.store) (when_committed t number event) refl)

-- it has nothing to tell
pub none_to_tell : VerdictsAre → (t : AllocatorState) (number : ℕ) (event : Event) (least : ℕ) → t.raft_server.store.commit ≤ length t.raft_server.store.log
    → least ≤ t.raft_server.memory.told → least ≤ t.raft_server.store.commit → (step t number event).step_state.allocator.raft_server.store.commit ≤ least
    → has_to_tell (when_committed t number event).allocator.raft_server ≡ false
none_to_tell judged t number event least sane told committed ends = elim (tell (has_to_tell (when_committed t number event).allocator.raft_server)) [
  | inl e ↦
      let r = reaches_then judged number least t event (record { sane = sane; told = told; committed = committed }) in
      let low : (when_committed t number event).allocator.raft_server.memory.told < (when_committed t number event).allocator.raft_server.store.commit
      = lt_true (when_committed t number event).allocator.raft_server.memory.told (when_committed t number event).allocator.raft_server.store.commit
      (and_right (is_leader (when_committed t number event).allocator.raft_server.memory.role) _ e) in
      let same = ap (λ (s : Store). s.commit) (stored_then t number event) in
      let told_then = r.told in
      absurd (omega (arith, low, same, told_then, ends))
  | inr e ↦ e
]
