-- Which nodes stand behind a candidacy, or a place of the log, by what a member keeps of them.
use Rattle.std.specs.Prelude.{◌≡◌, ℕ, ◌<◌, ◌==◌, Bool, true, if◌then◌else◌, nat_le, List, slice_index_or}
use Rattle.can_frame.specs.Sizes.{node_ids}
use Rattle.raft_core.specs.declared.peer.Peer.{Peer}
use Rattle.raft_core.specs.declared.raft.Cause.{Cause}
use Rattle.raft_core.specs.declared.raft.Cause.TheVariants.{Candidacy, Place}

-- a candidacy by the vote, a place by the matched index; a member itself has all of its log
abbrev pub backs : ℕ → Cause → ℕ → Peer → Bool
backs me Candidacy node peer = peer.voted
backs me (Place place) node peer = if node == me then true else nat_le place peer.matched

-- the test says of each node whether it stands behind it
abbrev pub Backs : ℕ → List Peer → Cause → (ℕ → Bool) → Type 0
Backs me peers cause test = (node : ℕ) (none : Peer) → node < node_ids →
    test node ≡ backs me cause node (slice_index_or peers node none)
