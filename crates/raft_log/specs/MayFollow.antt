-- The logs that are stored.
use Rattle.std.specs.Prelude.{◌≡◌, ◌≢◌, ℕ, ◌<◌, ◌≤◌, ◌^◌, List, Option, Some, None, length, take, slice_index_or}
use Rattle.can_frame.specs.declared.entry.Entry.{Entry}
use Rattle.can_frame.specs.Log.{IsDistinctFromAll, IsInjective, IsWellFormed, blank, last_term, log_limit}
use Rattle.raft_log.specs.Stored.{Stored, origin_limit}

-- the entry may follow the log in a term: it is well formed, terms do not fall, none is above the
-- member's, and no node ID and no unique ID stands twice
pub record MayFollow (log : List Entry) (term : ℕ) (entry : Entry) : Type 0 where
  pub formed : IsWellFormed entry
  pub order : last_term log ≤ entry.term
  pub bound : entry.term ≤ term
  pub distinct : IsDistinctFromAll log entry

-- each entry has its origin
abbrev pub HaveOrigins : List (Option ℕ) → Type 0
HaveOrigins origins = (i : ℕ) → i < length origins → slice_index_or origins i None ≢ None

-- what every stored state keeps
pub record IsStorable (state : Stored) : Type 0 where
  pub vote : state.vote ≤ 125
  pub room : length state.log ≤ log_limit
  pub commit : state.commit ≤ length state.log
  pub follows : (i : ℕ) → i < length state.log →
      MayFollow (take i state.log) state.term (slice_index_or state.log i (blank 0))
  pub injective : IsInjective state.log
  pub count : length state.origins ≡ length state.log
  pub limit : (i origin : ℕ) → slice_index_or state.origins i None ≡ Some origin → origin ≤ origin_limit
  pub version : state.version ≤ 2
  pub have : state.version ≡ 2 → HaveOrigins state.origins

-- and its term has 32 bits
pub record IsKept (state : Stored) : Type 0 where
  pub storable : IsStorable state
  pub term : state.term < 2 ^ 32
