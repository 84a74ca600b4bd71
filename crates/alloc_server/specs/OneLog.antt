-- The members of a cluster have one log, and it gives nothing twice: so no call contradicts what a member has
-- committed.
use Rattle.std.specs.Prelude.{◌≡◌, ℕ, ◌+◌, ◌≤◌, true, false}
use Rattle.dsdl_codec.specs.declared.append_request.AppendRequest.{AppendRequest}
use Rattle.raft_model.specs.Lists.{In}
use Rattle.raft_model.specs.Messages.{Request}
use Rattle.raft_model.specs.Messages.Message.{Requests}
use Rattle.raft_model.specs.Runs.{World}
use Rattle.alloc_server.specs.AnotherLog.{contradicts, repeats_committed}

-- an append request whose term is not below that of a member has no entry that repeats what the member has committed
abbrev pub RepeatsNothing : World → Type 0
RepeatsNothing world = (member : ℕ) (request : Request) → In (Requests request) world.bag → request.append ≡ true
    → (world.server member).store.term ≤ request.term
    → repeats_committed (world.server member).store (request.previous + 1) request.entry ≡ false

-- the payload of a request of the Raft model, but for what it says is committed
pub record IsSaid (request : Request) (call : AppendRequest) : Type 0 where
  pub term : call.term ≡ request.term
  pub previous : call.prev_index ≡ request.previous
  pub previous_term : call.prev_term ≡ request.previous_term
  pub entry : call.entry ≡ request.entry

-- no append request contradicts what a member has stored
abbrev pub ContradictsNothing : World → Type 0
ContradictsNothing world = (member : ℕ) (request : Request) (call : AppendRequest) → In (Requests request) world.bag
    → request.append ≡ true → IsSaid request call → contradicts (world.server member).store call ≡ false
