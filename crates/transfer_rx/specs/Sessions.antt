-- The sessions of a receiver (UAVCAN v0 specification, "CAN bus transport layer", reception of transfers): one for each
-- kind, number and source. They are a list with different keys, found by their key; its order means nothing.
use Rattle.std.specs.Prelude.{⊤, ◌≡◌, ℕ, ◌+◌, ◌-◌, ◌%◌, nat_eq, nat_le, nat_lt, if◌then◌else◌, not, Bool, ◌&&◌, List, [], ◌∷◌, length, filter, find, Option, Some, None, Result, Ok, Err}
use Rattle.can_frame.specs.declared.mark.Mark.{Mark}
use Rattle.can_frame.specs.declared.step.Why.{Why}
use Rattle.can_frame.specs.declared.step.Why.TheVariants.{Start, NoSession}
use Rattle.can_frame.specs.declared.tail.Tail.{Tail}
use Rattle.can_frame.specs.Cutting.{Piece}
use Rattle.can_frame.specs.Timing.{transfer_timeout}
use Rattle.transfer_rx.specs.declared.key.Key.{Key}
use Rattle.transfer_rx.specs.Keys.{same_key}

-- the frames of one key: the transfer ID that is expected next, the whole frames taken since the last cut, with their
-- marks, and the moment of the last of them
pub record Session : Type 0 where
  pub key : Key
  pub expected : ℕ
  pub taken : List Piece
  pub marks : List Mark
  pub moment : ℕ

-- the session of a key
abbrev pub session_of : Key → List Session → Option Session
session_of key sessions = find (λ session. same_key key session.key) sessions

-- the sessions of other keys
abbrev pub others : Key → List Session → List Session
others key sessions = filter (λ session. not (same_key key session.key)) sessions

-- no key stands twice
abbrev pub AreDifferent : List Session → Type 0
AreDifferent [] = ⊤
AreDifferent (session ∷ sessions) = (session_of session.key sessions ≡ None) × AreDifferent sessions

-- a session that is older than the transfer timeout is forgotten; a falling clock makes none older
abbrev pub is_recent : ℕ → Session → Bool
is_recent now session = nat_le (now - session.moment) transfer_timeout

abbrev pub recent_sessions : ℕ → List Session → List Session
recent_sessions now sessions = filter (is_recent now) sessions

-- a session that begins with a frame
abbrev pub new_session : Key → Tail → ℕ → Session
new_session key tail now = record { key = key; expected = tail.id; taken = []; marks = []; moment = now }

-- the ID that follows
abbrev pub next_id : ℕ → ℕ
next_id id = (id + 1) % 32

-- a first frame with an ID that is neither the expected one nor the one before it begins the session anew
abbrev pub restarts : Tail → Session → Bool
restarts tail session =
    tail.start && (not (nat_eq tail.id session.expected) && not (nat_eq (next_id tail.id) session.expected))

abbrev pub restarted_session : Tail → Session → Session
restarted_session tail session =
    if restarts tail session then record session { expected = tail.id; taken = []; marks = [] } else session

-- a first frame opens a session, where there are fewer than the receiver has room for
abbrev pub begun : ℕ → Key → Tail → ℕ → List Session → Result Session Why
begun most key tail now sessions =
    if tail.start then (if nat_lt (length sessions) most then Ok (new_session key tail now) else Err NoSession)
    else Err Start

abbrev pub continued : ℕ → Key → Tail → ℕ → List Session → Option Session → Result Session Why
continued most key tail now sessions None = begun most key tail now sessions
continued most key tail now sessions (Some session) = Ok (restarted_session tail session)

-- the session that a frame comes to, as the frame finds it, or why there is none
unfoldable pub session_for : ℕ → Key → Tail → ℕ → List Session → Result Session Why
session_for most key tail now sessions = continued most key tail now sessions (session_of key sessions)
