-- Where the frames that a session keeps came from.
use Rattle.std.specs.Prelude.{⊤, ◌≡◌, ◌⊎◌, true, List, [], ◌∷◌, ◌++◌, map, Some, Contains}
use Rattle.can_frame.specs.declared.mark.Mark.{Mark}
use Rattle.can_frame.specs.Cutting.{Piece}
use Rattle.transfer_rx.specs.declared.key.Key.{Key}
use Rattle.transfer_rx.specs.Reassembly.{Arrival, Setting, piece_in}
use Rattle.transfer_rx.specs.Run.{is_of, of_key}
use Rattle.transfer_rx.specs.Sessions.{Session, session_of}

-- a session has nothing in progress, or it is the one of a key in a list
pub record IsIdleOrOf (key : Key) (sessions : List Session) (session : Session) : Type 0 where
  pub own : session.key ≡ key
  pub idle_or_there : ((session.taken ≡ []) × (session.marks ≡ [])) ⊎ (session_of key sessions ≡ Some session)

-- pieces and marks are none, or those of a session of a key in a list
abbrev pub AreFormer : Key → List Session → List Piece → List Mark → Type 0
AreFormer key sessions pieces marks =
    ((pieces ≡ []) × (marks ≡ []))
    ⊎ ((former : Session) × Contains sessions former × (former.key ≡ key) × (former.taken ≡ pieces)
    × (former.marks ≡ marks))

-- what a session keeps after a frame: what a session of its key kept before, or nothing, and behind it at most this
-- frame, where it came with the key
pub record IsKeptAfter (setting : Setting) (sessions : List Session) (arrival : Arrival)
    (session : Session) : Type 0 where
  pub pieces : List Piece
  pub marks : List Mark
  pub former : AreFormer session.key sessions pieces marks
  pub after : ((session.taken ≡ pieces) × (session.marks ≡ marks))
      ⊎ ((is_of setting session.key arrival ≡ true) × (session.taken ≡ pieces ++ piece_in arrival ∷ [])
      × (session.marks ≡ marks ++ arrival.mark ∷ []))

-- these stand in a list, in this order
abbrev pub AreAmong : List Arrival → List Arrival → Type 0
AreAmong [] all = ⊤
AreAmong (arrival ∷ arrivals) all = (front : List Arrival) × (back : List Arrival)
    × (all ≡ front ++ arrival ∷ back) × AreAmong arrivals back

-- the frames that a session keeps, with their marks, are some of those that came with its key, in their order
pub record CameWithKey (setting : Setting) (arrivals : List Arrival) (session : Session) : Type 0 where
  pub frames : List Arrival
  pub among : AreAmong frames (of_key setting session.key arrivals)
  pub taken : session.taken ≡ map piece_in frames
  pub marks : session.marks ≡ map (λ arrival. arrival.mark) frames
