-- Puts after which the state is stored as it was put.
use Rattle.std.specs.Prelude.{◌≡◌, ◌⊎◌, ⊤, ℕ, ◌+◌, ◌<◌, ◌≤◌, ◌^◌, List, [], ◌∷◌, ◌++◌, Option, None, Some, IfSome, length, take, slice_index_or}
use Rattle.can_frame.specs.declared.entry.Entry.{Entry}
use Rattle.can_frame.specs.Log.{blank, log_limit}
use Rattle.raft_log.specs.DeviceCalls.{entry_bytes}
use Rattle.raft_log.specs.MayFollow.{HaveOrigins, MayFollow}
use Rattle.raft_log.specs.Rules.{entry_of, origin_of}
use Rattle.raft_log.specs.Stored.{Kept, Put, Stored, after_put, origin_limit}
use Rattle.raft_log.specs.Stored.Put.{PutTerm, PutVote, PutEntry, PutLast, PutCommit, PutOrigin, PutVersion}

-- the entry and its origin are read again from the bytes that they are stored in
pub record Fits (entry : Entry) (origin : ℕ) : Type 0 where
  pub size : length (entry_bytes entry origin) ≡ 22
  pub again : entry_of (entry_bytes entry origin) ≡ entry
  pub origin_again : origin_of (entry_bytes entry origin) ≡ Some origin

-- the log is cut off behind the committed entries
pub record IsCut (log : List Entry) (origins : List (Option ℕ)) (state : Stored) : Type 0 where
  pub place : ℕ
  pub is : log ≡ take place state.log
  pub origins_are : origins ≡ take place state.origins
  pub kept : state.commit ≤ place
  pub within : place ≤ length state.log

-- the log has the entry that stands after its last, if it may follow
pub record IsLonger (log : List Entry) (origins : List (Option ℕ)) (state : Stored)
    (next : Option Kept) : Type 0 where
  pub kept : Kept
  pub there : next ≡ Some kept
  pub is : log ≡ state.log ++ kept.entry ∷ []
  pub origins_are : origins ≡ state.origins ++ Some kept.origin ∷ []
  pub room : length state.log < log_limit
  pub follows : MayFollow state.log state.term kept.entry
  pub limit : kept.origin ≤ origin_limit

-- this entry stands at this place without its origin
pub record IsBare (place : ℕ) (entry : Entry) (state : Stored) : Type 0 where
  pub within : place < length state.log
  pub there : slice_index_or state.log place (blank 0) ≡ entry
  pub none : slice_index_or state.origins place None ≡ None

-- the put may be made of the state, where this was put after the last
abbrev pub IsAllowed : Put → Stored → Option Kept → Type 0
IsAllowed (PutTerm term) state next = (state.term ≤ term) × (term < 2 ^ 32)
IsAllowed (PutVote node) state next = node ≤ 125
IsAllowed (PutEntry entry origin) state next = (length state.log < log_limit) × (origin ≤ origin_limit)
    × Fits entry origin
IsAllowed (PutLast log origins) state next = IsCut log origins state ⊎ IsLonger log origins state next
IsAllowed (PutCommit index) state next = index ≤ length state.log
IsAllowed (PutOrigin place entry) state next = IsBare place entry state × Fits entry 0
IsAllowed PutVersion state next = HaveOrigins state.origins

-- what stands after the last, after the put
abbrev pub next_after : Put → Option Kept → Option Kept
next_after (PutTerm term) next = next
next_after (PutVote node) next = next
next_after (PutEntry entry origin) next = Some (record { entry = entry; origin = origin })
next_after (PutLast log origins) next = None
next_after (PutCommit index) next = next
next_after (PutOrigin place entry) next = next
next_after PutVersion next = next

-- after all of these puts
abbrev pub nexts_after : List Put → Option Kept → Option Kept
nexts_after [] next = next
nexts_after (put ∷ puts) next = nexts_after puts (next_after put next)

-- the map has it after the last, where it is read again from its bytes
abbrev pub IsNext : (ℕ → List ℕ) → Stored → Option Kept → Type 0
IsNext map state next =
    IfSome next (λ kept. (map (5 + length state.log) ≡ entry_bytes kept.entry kept.origin)
    × Fits kept.entry kept.origin)

abbrev pub AreAllowed : List Put → Stored → Option Kept → Type 0
AreAllowed [] state next = ⊤
AreAllowed (put ∷ puts) state next = IsAllowed put state next
    × AreAllowed puts (after_put put state) (next_after put next)
