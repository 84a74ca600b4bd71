-- Safety: one ledger, which only grows, and every device is told from it alone. Two pairs of it have different node
-- IDs and different unique IDs, and no pair has a reserved node ID.
use Rattle.std.specs.Prelude.{◌≡◌, ◌≢◌, ℕ, ◌+◌, ◌<◌, ◌≤◌, true, length, slice_index_or}
use Rattle.raft_model.specs.Lists.{In}
use Rattle.can_frame.specs.declared.entry.Entry.{Entry}
use Rattle.can_frame.specs.Log.{IsInjective, IsPair, IsPrefix, IsReservation, blank}
use Rattle.can_frame.specs.Zeros.{zeros}
use Rattle.raft_model.specs.Log.{Same}
use Rattle.raft_model.specs.Messages.{Pair}
use Rattle.raft_model.specs.Messages.Message.{Pairs}
use Rattle.raft_model.specs.Server.{committed}
use Rattle.raft_model.specs.Runs.{World}

-- what holds at each moment of a run
pub record IsSafe (world : World) : Type 0 where
  -- each member's committed list is a prefix of the ledger
  pub committed_here : (member : ℕ) → IsPrefix (committed (world.server member).store) world.ledger.entries
  -- no node ID stands twice in the ledger, given or kept back, and no unique ID but zeros
  pub injective : IsInjective world.ledger.entries
  -- each allocation answer is the pair of an entry of its sender's committed list, with neither ID zero
  pub pairs : (pair : Pair) → In (Pairs pair) world.bag
      → (place : ℕ) × (place < (world.server pair.from).store.commit)
      × ((slice_index_or (world.server pair.from).store.log place (blank 0)).uid ≡ pair.uid)
      × ((slice_index_or (world.server pair.from).store.log place (blank 0)).node ≡ pair.node) × (pair.uid ≢ zeros)
      × (1 ≤ pair.node)
  -- every place of the ledger has a stamp, and every leader of a term from the stamp on has the ledger up to this place
  pub stamps : length world.ledger.stamps ≡ length world.ledger.entries
  pub leaders : (place term : ℕ) → place < length world.ledger.entries →
      slice_index_or world.ledger.stamps place 0 ≤ term
      → world.history.led term ≡ true → Same (place + 1) (world.history.list term) world.ledger.entries

-- the entry of the ledger that has so many before it
abbrev pub given : World → ℕ → Entry
given world place = slice_index_or world.ledger.entries place (blank 0)

-- what the ledger gives, and what it keeps back: the words of `injective` and `pairs`, kind by kind
pub record IsGivenOnce (world : World) : Type 0 where
  -- two pairs have different node IDs and different unique IDs
  pub pairs : (i j : ℕ) → i < length world.ledger.entries → j < length world.ledger.entries → i ≢ j
      → IsPair (given world i) → IsPair (given world j)
      → ((given world i).node ≢ (given world j).node) × ((given world i).uid ≢ (given world j).uid)
  -- no pair has a reserved node ID
  pub reserved : (i j : ℕ) → i < length world.ledger.entries → j < length world.ledger.entries
      → IsReservation (given world i) → IsPair (given world j) → (given world i).node ≢ (given world j).node
  -- what a device is told is a pair of the ledger, so a reservation is told to nobody
  pub told : (pair : Pair) → In (Pairs pair) world.bag
      → (i : ℕ) × (i < length world.ledger.entries) × IsPair (given world i) × ((given world i).uid ≡ pair.uid)
      × ((given world i).node ≡ pair.node)
  -- no device is told the node ID that a reservation keeps back
  pub kept_back : (pair : Pair) (i : ℕ) → In (Pairs pair) world.bag → i < length world.ledger.entries
      → IsReservation (given world i) → (given world i).node ≢ pair.node

-- what lasts from one moment of a run to every later one
pub record Lasts (early late : World) : Type 0 where
  -- a member's committed list is a prefix of every one that it has later, through stops and openings
  pub committed_here : (member : ℕ) →
      IsPrefix (committed (early.server member).store) (committed (late.server member).store)
  -- the ledger is a prefix of every later ledger
  pub ledger : IsPrefix early.ledger.entries late.ledger.entries
  -- a term has at most one leader for good, and its list only grows, by entries of this term alone
  pub led : (term : ℕ) → early.history.led term ≡ true → late.history.led term ≡ true
  pub leader : (term : ℕ) → early.history.led term ≡ true →
      late.history.leader term ≡ early.history.leader term
  pub list : (term : ℕ) → early.history.led term ≡ true →
      IsPrefix (early.history.list term) (late.history.list term)
  pub gains : (term place : ℕ) → early.history.led term ≡ true → length (early.history.list term) ≤ place
      → place < length (late.history.list term) → (slice_index_or (late.history.list term) place (blank 0)).term ≡ term
