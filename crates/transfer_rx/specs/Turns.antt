-- Where a frame comes, in the code and in the definition.
use Rattle.std.specs.Prelude.{⊤, ◌≡◌, ℕ, ◌+◌, ◌*◌, ◌<◌, ◌≤◌, ◌∷◌, ◌++◌, false, length, slice_index_or, [], List, Some, None, Ok, Err}
use Rattle.can_frame.specs.Cutting.{Piece, payload_of}
use Rattle.can_frame.specs.Sizes.{longest_transfer}
use Rattle.transfer_rx.specs.declared.key.Key.{Key}
use Rattle.transfer_rx.specs.declared.progress.Found.{Found}
use Rattle.transfer_rx.specs.declared.turn.Turn.{Turn}
use Rattle.transfer_rx.specs.declared.turn.Turn.TheVariants.{Refused, Out, Next}
use Rattle.transfer_rx.specs.Filled.{Fills}
use Rattle.transfer_rx.specs.Sessions.{Session, others, session_for}
use Rattle.transfer_rx.specs.Outcome.{out_of_turn, outcome}
use Rattle.transfer_rx.specs.Places.{IsSessionFound, Places}
use Rattle.transfer_rx.specs.Verdicts.{IfPart, IfWhole, says}

-- a frame that goes on has seven bytes, and the place has room for them
pub record GoesOn (found : Found) (piece : Piece) : Type 0 where
  pub room : found.progress.taken < 54
  pub seven : length piece.bytes ≡ 7
  pub open_end : piece.tail.end ≡ false

-- a frame that completes its transfer leaves it no longer than the longest
pub record Completes (found : Found) (piece : Piece) : Type 0 where
  pub short : length piece.bytes ≤ 7
  pub within : 7 * found.progress.taken + length piece.bytes ≤ longest_transfer

-- what can be done without a look at the definition
abbrev pub IsRoomy : ℕ → List (List ℕ) → Piece → Turn → Type 0
IsRoomy places chains piece (Refused why) = ⊤
IsRoomy places chains piece (Out found why) = (found.place < places)
    × Fills found.progress (slice_index_or chains found.place [])
IsRoomy places chains piece (Next found verdict) =
    (found.place < places) × Fills found.progress (slice_index_or chains found.place [])
    × IfPart verdict (GoesOn found piece) × IfWhole verdict (Completes found piece)

-- a frame comes to its session
pub record ComesTo (most : ℕ) (bytes : List (List ℕ)) (key : Key) (piece : Piece) (now : ℕ) (places : Places)
    (sessions : List Session) (found : Found) : Type 0 where
  pub session : Session
  pub there : session_for most key piece.tail now sessions ≡ Ok session
  pub finds : IsSessionFound bytes key places sessions found session

-- a turn is what the definition finds
abbrev pub IsTurn : ℕ → List (List ℕ) → ℕ → Key → ℕ → Piece → ℕ → Places → List Session →
    Turn → Type 0
IsTurn most bytes blocks key signature piece now places sessions (Refused why) =
    session_for most key piece.tail now sessions ≡ Err why
IsTurn most bytes blocks key signature piece now places sessions (Out found why) =
    (to : ComesTo most bytes key piece now places sessions found) × (out_of_turn piece.tail to.session ≡ Some why)
IsTurn most bytes blocks key signature piece now places sessions (Next found verdict) =
    (to : ComesTo most bytes key piece now places sessions found) × (out_of_turn piece.tail to.session ≡ None)
    × (says (payload_of (to.session.taken ++ piece ∷ [])) verdict
    ≡ outcome blocks signature piece to.session.taken (others key sessions))
