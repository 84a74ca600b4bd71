-- The members of a cluster have one log: what a member has committed no request contradicts, but for those of older
-- leaders.
use Rattle.std.specs.Prelude.{◌≡◌, ℕ, ◌<◌, ◌≤◌, true, Some, slice_index_or}
use Rattle.can_frame.specs.declared.entry.Entry.{Entry}
use Rattle.can_frame.specs.Log.{blank}
use Rattle.raft_model.specs.Lists.{In}
use Rattle.raft_model.specs.Log.{term_at}
use Rattle.raft_model.specs.Messages.{Request}
use Rattle.raft_model.specs.Messages.Message.{Requests}
use Rattle.raft_model.specs.Runs.{World}

-- an append request whose term is not below that of a member has, for a place that the member has committed, the entry
-- that stands there
abbrev pub HasOneLog : World → Type 0
HasOneLog world = (member : ℕ) (request : Request) (entry : Entry) → In (Requests request) world.bag
    → request.append ≡ true → request.entry ≡ Some entry → (world.server member).store.term ≤ request.term
    → request.previous < (world.server member).store.commit
    → slice_index_or (world.server member).store.log request.previous (blank 0) ≡ entry

-- and where the place before its entry is one that the member has committed, it has the term that stands there
abbrev pub HasOnePast : World → Type 0
HasOnePast world = (member : ℕ) (request : Request) → In (Requests request) world.bag → request.append ≡ true
    → (world.server member).store.term ≤ request.term → request.previous ≤ (world.server member).store.commit
    → term_at (world.server member).store.log request.previous ≡ request.previous_term
