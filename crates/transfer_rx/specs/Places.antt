-- Which place of a receiver keeps which session. No clause on what a receiver answers speaks of places.
use Rattle.std.specs.Prelude.{◌≡◌, ℕ, ◌<◌, if◌then◌else◌, Bool, true, false, List, [], ◌∷◌, length, slice_index_or, map, Option, Some, None, Result, Ok, Err}
use Rattle.can_frame.specs.declared.step.Why.{Why}
use Rattle.transfer_rx.specs.declared.key.Key.{Key}
use Rattle.transfer_rx.specs.declared.progress.Progress.{Progress}
use Rattle.transfer_rx.specs.declared.progress.Found.{Found}
use Rattle.transfer_rx.specs.Keys.{same_key}
use Rattle.transfer_rx.specs.Outcome.{session_blocks}
use Rattle.transfer_rx.specs.Sessions.{AreDifferent, Session, is_recent, others, session_of}
use Rattle.transfer_rx.specs.Progress.{IsProgressAt, IsProgressOf}

-- the places, each free or with a session
abbrev pub Places : Type 0
Places = List (Option Session)

-- each place of the code stands for what is there
pub record KeepPlaces (progress : List (Option Progress)) (bytes : List (List ℕ)) (places : Places) : Type 0 where
  pub size : length places ≡ length progress
  pub each : (place : ℕ) → place < length progress →
      IsProgressAt (slice_index_or progress place None) (slice_index_or bytes place [])
      (slice_index_or places place None)

-- the places without the sessions that are too old
abbrev pub kept : ℕ → Option Session → Option Session
kept now None = None
kept now (Some session) = if is_recent now session then Some session else None

abbrev pub left : ℕ → Places → Places
left now places = map (kept now) places

-- the sessions are at the places, each at one; in which order does not matter
abbrev pub AreAt : Places → List Session → Type 0
AreAt [] sessions = sessions ≡ []
AreAt (None ∷ places) sessions = AreAt places sessions
AreAt (Some session ∷ places) sessions =
    (session_of session.key sessions ≡ Some session) × AreAt places (others session.key sessions)

pub record Arranged (places : Places) (sessions : List Session) : Type 0 where
  pub at : AreAt places sessions
  pub different : AreDifferent sessions

-- progress and bytes stand for sessions
pub record KeepSessions (progress : List (Option Progress)) (bytes : List (List ℕ))
    (sessions : List Session) : Type 0 where
  pub places : Places
  pub stand : KeepPlaces progress bytes places
  pub arranged : Arranged places sessions

-- a place for a key: it has the session of the key, or is free where there is none
pub record IsPlaceFor (key : Key) (places : Places) (sessions : List Session) (place : ℕ) : Type 0 where
  pub present : place < length places
  pub same : slice_index_or places place None ≡ session_of key sessions

abbrev pub has_key : Key → Option Session → Bool
has_key key None = false
has_key key (Some session) = same_key key session.key

abbrev pub is_free : Option Session → Bool
is_free None = true
is_free (Some session) = false

-- what was found at a place for a key is the session that a frame comes to
pub record IsSessionFound (bytes : List (List ℕ)) (key : Key) (places : Places) (sessions : List Session)
    (found : Found) (session : Session) : Type 0 where
  pub place : IsPlaceFor key places sessions found.place
  pub keeps : IsProgressOf found.progress (slice_index_or bytes found.place []) session

abbrev pub IsSearchResult : List (List ℕ) → Key → Places → List Session → Result Found Why →
    Result Session Why → Type 0
IsSearchResult bytes key places sessions (Ok found) (Ok session) =
    IsSessionFound bytes key places sessions found session
IsSearchResult bytes key places sessions (Ok found) (Err why) = ⊥
IsSearchResult bytes key places sessions (Err why) (Ok session) = ⊥
IsSearchResult bytes key places sessions (Err a) (Err b) = a ≡ b

-- the session of a key was found, at its place
pub record IsSessionOfKey (bytes : List (List ℕ)) (key : Key) (places : Places) (sessions : List Session)
    (found : Found) : Type 0 where
  pub session : Session
  pub own : session_of key sessions ≡ Some session
  pub finds : IsSessionFound bytes key places sessions found session

-- a session of the key is at the place
pub record IsSessionAtPlace (bytes : List (List ℕ)) (key : Key) (places : Places) (found : Found) : Type 0 where
  pub session : Session
  pub there : slice_index_or places found.place None ≡ Some session
  pub own : session.key ≡ key
  pub keeps : IsProgressOf found.progress (slice_index_or bytes found.place []) session

-- what is counted of the session at a place, 0 where it is free
abbrev pub counted : (Session → ℕ) → Option Session → ℕ
counted f None = 0
counted f (Some session) = f session

-- the blocks that the session at a place uses
abbrev pub blocks_at : Option Session → ℕ
blocks_at there = counted session_blocks there
