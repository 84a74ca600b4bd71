-- What the end of a step keeps: what holds of a server's wait, its word, its term and its role.
use Rattle.std.proofs.Common.{◌≡◌, ℕ, Bool, true, false, List, [], ◌∷◌, refl, Option, None, Some}
use Rattle.std.specs.Prelude.{if◌then◌else◌}
use Rattle.raft_core.specs.Handled.{moves_of_expire}
use Rattle.raft_core.specs.Times.{HandedIn, Times, given_at, has_waited, times_after_all}
use Rattle.raft_model.specs.Decisions.{commit_index}
use Rattle.raft_model.specs.Duty.{commit_moves}
use Rattle.raft_model.specs.Handlers.{server_after}
use Rattle.raft_model.specs.Lists.{at}
use Rattle.raft_model.specs.Moves.Elections.{is_leader}
use Rattle.raft_model.specs.Moves.Move.{GiveUp}
use Rattle.raft_model.specs.Server.{RaftServer, Role}
use Rattle.alloc_spec.specs.AllocatorState.{members_of}
use Rattle.alloc_spec.specs.Ending.{end_phase}
use Rattle.alloc_spec.specs.StepState.{StepState, with_moves}
use Rattle.service_steps.proofs.Ends.{IsKept, rest_keeps}

-- ---- as a step begins

-- giving up calls leaves the word
pub word_stays : (members : List ℕ) (me number : ℕ) (given : HandedIn) (qs : List ℕ) (server : RaftServer) (times : Times)
    → (times_after_all members me number given server (moves_of_expire qs) times).word ≡ times.word
word_stays members me number given [] server times = refl
word_stays members me number given (node ∷ qs) server times =
    word_stays members me number given qs (server_after members me number server (GiveUp node)) (record times { sending = at times.sending node None })

-- so it leaves whether the wait is over
pub wait_stays : (members : List ℕ) (me number : ℕ) (given : HandedIn) (moment : ℕ) (qs : List ℕ) (server : RaftServer) (times : Times)
    → has_waited (times_after_all members me number given server (moves_of_expire qs) times) moment ≡ has_waited times moment
wait_stays members me number given moment [] server times = refl
wait_stays members me number given moment (node ∷ qs) server times =
    wait_stays members me number given moment qs (server_after members me number server (GiveUp node)) (record times { sending = at times.sending node None })

-- ---- as it ends

-- this holds of the beginning of the wait, the word, the term and the role
abbrev pub Keeps : (ℕ → ℕ → ℕ → Role → Type 0) → StepState → Type 0
Keeps P g = P g.allocator.times.since g.allocator.times.word g.allocator.raft_server.store.term g.allocator.raft_server.memory.role

module _ (number : ℕ) (P : ℕ → ℕ → ℕ → Role → Type 0) where
  kept : IsKept number (Keeps P)
  kept = record {
    passes = λ g e h. h;
    tells = λ given g e h. h;
    votes = λ given peer g h. h;
    appends = λ given peer previous with_entry g h. h;
    sends = λ what to payload says g h. h;
  }

  commits : (g : StepState) (leads : Bool) (index : Option ℕ) → Keeps P g
      → Keeps P (with_moves number (given_at g.allocator.now) (if leads then commit_moves index else []) g)
  commits g true None h = h
  commits g true (Some index) h = h
  commits g false index h = h

  -- the end of a step keeps it
  pub ends : (g : StepState) → Keeps P g → Keeps P (end_phase number g)
  ends g h = rest_keeps number (Keeps P) kept g
      (commits g (is_leader g.allocator.raft_server.memory.role) (commit_index (members_of g.allocator) g.allocator.me g.allocator.raft_server) h)
