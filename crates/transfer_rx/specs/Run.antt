-- A transfer among all the frames that come to a receiver.
use Rattle.std.specs.Prelude.{◌≡◌, ℕ, ◌-◌, ◌<◌, ◌≤◌, ◌⊎◌, if◌then◌else◌, Bool, true, false, List, [], ◌∷◌, ◌++◌, length, map, filter, Result, Ok, Err, MatchOption, AllPairs}
use Rattle.can_frame.specs.declared.step.Why.{Why}
use Rattle.can_frame.specs.declared.tail.Tail.{Tail}
use Rattle.can_frame.specs.Cutting.{IsCutting}
use Rattle.can_frame.specs.Kinds.{is_anonymous}
use Rattle.can_frame.specs.Timing.{transfer_timeout}
use Rattle.transfer_rx.specs.declared.accept.Wanted.{Wanted}
use Rattle.transfer_rx.specs.declared.key.Key.{Key}
use Rattle.transfer_rx.specs.Acceptance.{wanted}
use Rattle.transfer_rx.specs.Keys.{key_of, same_key}
use Rattle.transfer_rx.specs.Outcome.{lacks_blocks}
use Rattle.transfer_rx.specs.Reassembly.{Arrival, Setting, next, piece_in}
use Rattle.transfer_rx.specs.Sessions.{Session, others, recent_sessions, restarts, session_of}

-- the sessions after all that came
abbrev pub run : Setting → List Session → List Arrival → List Session
run setting sessions [] = sessions
run setting sessions (arrival ∷ arrivals) = run setting (next setting sessions arrival) arrivals

-- whether a frame comes to the session of a key: it is wanted, not anonymous, and has the key
abbrev pub has_session_key : Key → Result Wanted Why → Bool
has_session_key key (Err why) = false
has_session_key key (Ok w) = if is_anonymous w.ident.kind then false else same_key key (key_of w.ident)

unfoldable pub is_of : Setting → Key → Arrival → Bool
is_of setting key arrival = has_session_key key (wanted setting.rows setting.me arrival.id)

abbrev pub of_key : Setting → Key → List Arrival → List Arrival
of_key setting key arrivals = filter (is_of setting key) arrivals

-- a session waits for the transfer with this tail: nothing is in progress and its ID is expected, or the session is
-- begun anew by it
abbrev pub AwaitsTransfer : Tail → Session → Type 0
AwaitsTransfer tail session = ((session.expected ≡ tail.id) × (session.taken ≡ []) × (session.marks ≡ []))
    ⊎ (restarts tail session ≡ true)

-- a first frame may begin a transfer: the session of its key waits for it, or there is none, and room for one
abbrev pub MayBegin : Setting → List Session → Key → Arrival → Type 0
MayBegin setting sessions key first =
    let recent : List Session = recent_sessions first.moment sessions in
    MatchOption (session_of key recent) (length recent < setting.sessions) (AwaitsTransfer (piece_in first).tail)

-- from its first frame to its last, a transfer comes in order, among frames of other sessions
pub record ComesWhole (setting : Setting) (sessions : List Session) (w : Wanted) (payload : List ℕ)
    (arrivals before : List Arrival) (first last : Arrival) : Type 0 where
  -- the last frame is wanted, and of a session
  pub accepted : wanted setting.rows setting.me last.id ≡ Ok w
  pub of_session : is_anonymous w.ident.kind ≡ false
  -- the first of all is of this session, and the last of all is the last frame; the frames of the session are the
  -- payload's
  pub begins : (rest : List Arrival) × (arrivals ≡ first ∷ rest) × (is_of setting (key_of w.ident) first ≡ true)
  pub ends : arrivals ≡ before ++ last ∷ []
  pub cutting : IsCutting w.signature (piece_in last).tail.id payload
      (map piece_in (of_key setting (key_of w.ident) arrivals))
  -- no frame comes later than the transfer timeout after an earlier one
  pub in_time : AllPairs (λ earlier later. later.moment - earlier.moment ≤ transfer_timeout) arrivals
  pub may_begin : MayBegin setting sessions (key_of w.ident) first
  -- the blocks suffice for each of its frames
  pub blocks : (front back : List Arrival) (arrival : Arrival) → arrivals ≡ front ++ arrival ∷ back →
      is_of setting (key_of w.ident) arrival ≡ true →
      lacks_blocks setting.blocks (piece_in arrival) (map piece_in (of_key setting (key_of w.ident) front))
      (others (key_of w.ident) (recent_sessions arrival.moment (run setting sessions front))) ≡ false
