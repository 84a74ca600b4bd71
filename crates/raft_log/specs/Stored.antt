-- What a member keeps through stops, and the puts that change it (the persistent state of the Raft paper,
-- the commit index, and how each entry came into this log).
use Rattle.std.specs.Prelude.{ℕ, zero, suc, ◌+◌, ◌==◌, ◌⊎◌, List, [], ◌∷◌, ◌++◌, Option, Some, None, map, take, slice_index_or, slice_set, unwrap_or, if◌then◌else◌}
use Rattle.can_frame.specs.declared.entry.Entry.{Entry}

-- how an entry came into the log of this member: 0 from a leader, or stored before origins were, 1 by the
-- exchange, 2 by GetNodeInfo, 3 a reservation, 4 a leader's blank
abbrev pub origin_limit : ℕ
origin_limit = 4

-- a vote of 0 is none
pub record Stored : Type 0 where
  pub term : ℕ
  pub vote : ℕ
  pub log : List Entry
  pub commit : ℕ
  -- of each entry; none where it is stored in the first form, which has no place for it
  pub origins : List (Option ℕ)
  -- of the store, 0 where none is stored; from 2 on each entry has its origin
  pub version : ℕ

-- the state that a run begins with
abbrev pub first_state : Stored
first_state = record { term = 0; vote = 0; log = []; commit = 0; origins = []; version = 0 }

-- the origin of the entry at a place of 1 to last; one that is not stored is 0
abbrev pub origin_at : Stored → ℕ → ℕ
origin_at state zero = 0
origin_at state (suc i) = unwrap_or (slice_index_or state.origins i None) 0

-- origins as numbers
abbrev pub told_origins : List (Option ℕ) → List ℕ
told_origins origins = map (λ origin. unwrap_or origin 0) origins

-- an entry as it is stored, with its origin
pub record Kept : Type 0 where
  pub entry : Entry
  pub origin : ℕ

pub data Put : Type 0 where
  PutTerm : (term : ℕ) → Put
  PutVote : (node : ℕ) → Put
  -- at the place after the last, which is not read until last is put
  PutEntry : (entry : Entry) (origin : ℕ) → Put
  -- last, which makes this the log
  PutLast : (log : List Entry) (origins : List (Option ℕ)) → Put
  PutCommit : (index : ℕ) → Put
  -- the entry at this place, counted from 0, once more, and now with the origin 0
  PutOrigin : (place : ℕ) (entry : Entry) → Put
  -- of the store: 2
  PutVersion : Put

abbrev pub after_put : Put → Stored → Stored
after_put (PutTerm term) state = record state { term = term }
after_put (PutVote node) state = record state { vote = node }
after_put (PutEntry entry origin) state = state
after_put (PutLast log origins) state = record state { log = log; origins = origins }
after_put (PutCommit index) state = record state { commit = index }
after_put (PutOrigin place entry) state = record state { origins = slice_set state.origins place (Some 0) }
after_put PutVersion state = record state { version = 2 }

-- the state after all of these puts, in order
abbrev pub after_puts : List Put → Stored → Stored
after_puts [] state = state
after_puts (put ∷ puts) state = after_puts puts (after_put put state)

-- the fact holds of the state after some of the first of these puts
abbrev pub AfterSome : (Stored → Type 0) → List Put → Stored → Type 0
AfterSome fact [] state = fact state
AfterSome fact (put ∷ puts) state = fact state ⊎ AfterSome fact puts (after_put put state)

-- the fact holds of the states before and after one of these puts, the earlier ones done
abbrev pub AtOne : (Stored → Stored → Type 0) → List Put → Stored → Type 0
AtOne fact [] state = ⊥
AtOne fact (put ∷ puts) state = fact state (after_put put state) ⊎ AtOne fact puts (after_put put state)

-- the puts of a later term, of an entry that is appended, and of a log that is cut
abbrev pub puts_of_term : ℕ → List Put
puts_of_term term = PutTerm term ∷ PutVote 0 ∷ []

abbrev pub puts_of_append : Entry → ℕ → Stored → List Put
puts_of_append entry origin state =
    PutEntry entry origin ∷ PutLast (state.log ++ entry ∷ []) (state.origins ++ Some origin ∷ []) ∷ []

abbrev pub puts_of_cut : ℕ → Stored → List Put
puts_of_cut place state = PutLast (take place state.log) (take place state.origins) ∷ []

-- the put that an entry wants which is stored without its origin
abbrev pub origin_put : ℕ → Entry → Option ℕ → List Put
origin_put place entry None = PutOrigin place entry ∷ []
origin_put place entry (Some origin) = []

-- of each of these entries, of which the first stands at this place
abbrev pub origin_puts : ℕ → List Entry → List (Option ℕ) → List Put
origin_puts place [] origins = []
origin_puts place (entry ∷ log) [] = []
origin_puts place (entry ∷ log) (origin ∷ origins) =
    origin_put place entry origin ++ origin_puts (place + 1) log origins

-- the puts of an opening: it stores the origins that are missing, and then the version
abbrev pub opening_puts : Stored → List Put
opening_puts state = if state.version == 2 then [] else origin_puts 0 state.log state.origins ++ PutVersion ∷ []
