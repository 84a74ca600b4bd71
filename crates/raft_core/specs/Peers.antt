-- What becomes of what is kept of a peer.
use Rattle.std.specs.Prelude.{◌≡◌, ◌<◌, ◌≤◌, ℕ, ◌+◌, ◌-◌, Bool, List, length, slice_index_or, true, false, Option, Some, None, max, nat_le, ◌==◌, if◌then◌else◌}
use Rattle.can_frame.specs.Timing.{call_timeout}
use Rattle.raft_core.specs.declared.peer.Asked.{Asked}
use Rattle.raft_core.specs.declared.peer.Peer.{Peer}
use Rattle.raft_core.specs.declared.peer.Waiting.{Waiting}

-- a peer of which nothing is known
abbrev pub fresh : ℕ → Peer
fresh next = record { voted = false; answered = false; next = next; matched = 0; appended = None; call = None }

-- one that voted for the candidate
abbrev pub voter : Peer
voter = record (fresh 1) { voted = true }

-- its call, where it is not given up yet
abbrev pub young : ℕ → Option Waiting → Option Waiting
young now None = None
young now (Some call) = if nat_le call_timeout (now - call.sent) then None else Some call

abbrev pub expired : ℕ → Peer → Peer
expired now peer = record peer { call = young now peer.call }

-- it answered an append request that reached up to a place
abbrev pub moved_on : ℕ → Bool → Peer → Peer
moved_on reach success peer =
    if success then record peer { matched = max peer.matched reach; next = max peer.matched reach + 1 }
    else record peer { next = max 1 (peer.next - 1) }

-- what the call that waits under this transfer ID asks for
abbrev pub asked_under : ℕ → Option Waiting → Option Asked
asked_under id None = None
asked_under id (Some call) = if call.id == id then Some call.asked else None

-- no call to any of them that waits was made before this moment
abbrev pub WaitSince : ℕ → List Peer → Type 0
WaitSince moment peers = (node : ℕ) (none : Peer) (call : Waiting) →
    node < length peers → (slice_index_or peers node none).call ≡ Some call → moment ≤ call.sent
