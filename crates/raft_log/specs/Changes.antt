-- The put that each change makes.
use Rattle.std.specs.Prelude.{⊤, ℕ, ◌<◌, ◌≤◌, ◌^◌, [], ◌∷◌, ◌++◌, Option, None, Some, length, take, slice_index_or}
use Rattle.can_frame.specs.declared.entry.Entry.{Entry}
use Rattle.can_frame.specs.Log.{blank, log_limit}
use Rattle.raft_log.specs.declared.change.Change.{Change}
use Rattle.raft_log.specs.declared.change.Change.TheVariants.{Term, Vote, Next, Longer, Shorter, Commit, Origin, Version}
use Rattle.raft_log.specs.Allowed.{Fits, IsBare}
use Rattle.raft_log.specs.MayFollow.{HaveOrigins, MayFollow}
use Rattle.raft_log.specs.Stored.{Kept, Put, Stored, origin_limit}
use Rattle.raft_log.specs.Stored.Put.{PutTerm, PutVote, PutEntry, PutLast, PutCommit, PutOrigin, PutVersion}

abbrev pub put_of : Change → Stored → Put
put_of (Term term) state = PutTerm term
put_of (Vote node) state = PutVote node
put_of (Next entry origin) state = PutEntry entry origin
put_of (Longer entry origin) state = PutLast (state.log ++ entry ∷ []) (state.origins ++ Some origin ∷ [])
put_of (Shorter place) state = PutLast (take place state.log) (take place state.origins)
put_of (Commit place) state = PutCommit place
put_of (Origin place) state = PutOrigin place (slice_index_or state.log place (blank 0))
put_of Version state = PutVersion

-- the entry is small enough to be stored, and so is its origin
pub record IsSmall (entry : Entry) (origin : ℕ) : Type 0 where
  pub node : entry.node < 128
  pub limit : origin ≤ origin_limit

-- the change may be made of the state
abbrev pub MayMake : Change → Stored → Type 0
MayMake (Term term) state = state.term ≤ term
MayMake (Vote node) state = node ≤ 125
MayMake (Next entry origin) state = (length state.log < log_limit) × IsSmall entry origin
MayMake (Longer entry origin) state = (length state.log < log_limit) × MayFollow state.log state.term entry
    × (origin ≤ origin_limit)
MayMake (Shorter place) state = (state.commit ≤ place) × (place ≤ length state.log)
MayMake (Commit place) state = place ≤ length state.log
MayMake (Origin place) state = let entry = slice_index_or state.log place (blank 0) in IsBare place entry state
    × (entry.node < 128)
MayMake Version state = HaveOrigins state.origins

-- what has to stand after the last
abbrev pub next_for : Change → Option Kept
next_for (Term term) = None
next_for (Vote node) = None
next_for (Next entry origin) = None
next_for (Longer entry origin) = Some (record { entry = entry; origin = origin })
next_for (Shorter place) = None
next_for (Commit place) = None
next_for (Origin place) = None
next_for Version = None

-- what the change puts is read again from the bytes that it is stored in
abbrev pub FitsBytes : Change → Stored → Type 0
FitsBytes (Term term) state = term < 2 ^ 32
FitsBytes (Vote node) state = ⊤
FitsBytes (Next entry origin) state = Fits entry origin
FitsBytes (Longer entry origin) state = ⊤
FitsBytes (Shorter place) state = ⊤
FitsBytes (Commit place) state = ⊤
FitsBytes (Origin place) state = Fits (slice_index_or state.log place (blank 0)) 0
FitsBytes Version state = ⊤
