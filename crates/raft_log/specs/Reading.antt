-- What is read of a store that is not opened: the state that its image stands for, without the version of
-- the store.
use Rattle.std.specs.Prelude.{◌≡◌, ℕ, ◌<◌, ◌≤◌, List, length, slice_index, slice_index_or}
use Rattle.can_frame.specs.Log.{IsInjective, IsWellFormed, blank, log_limit}
use Rattle.raft_log.specs.declared.stored.Stored.{Stored as Reading}
use Rattle.raft_log.specs.Rules.{StandsForState}
use Rattle.raft_log.specs.Stored.{Stored, origin_limit, told_origins}

-- what was read is this state
pub record Tells (read : Reading) (state : Stored) : Type 0 where
  pub term : read.term ≡ state.term
  pub vote : read.vote ≡ state.vote
  pub commit : read.commit ≡ state.commit
  pub entries : read.entries.items ≡ state.log
  pub origins : read.origins.items ≡ told_origins state.origins

-- what was read is the state that the image stands for
pub record IsReadFrom (image : List ℕ) (read : Reading) : Type 0 where
  pub state : Stored
  pub stands : StandsForState image state
  pub tells : Tells read state

-- what all that is read keeps
pub record IsReadable (read : Reading) : Type 0 where
  pub vote : read.vote ≤ 125
  pub room : length read.entries.items ≤ log_limit
  pub commit : read.commit ≤ length read.entries.items
  pub formed : (i : ℕ) → i < length read.entries.items →
      IsWellFormed (slice_index_or read.entries.items i (blank 0))
  pub injective : IsInjective read.entries.items
  pub count : length read.origins.items ≡ length read.entries.items
  pub limit : (i : ℕ) → slice_index read.origins.items i ≤ origin_limit
