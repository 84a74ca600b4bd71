-- What holds of the sessions of a receiver after every step, and of what it delivers.
use Rattle.std.specs.Prelude.{⊤, ◌≡◌, ◌≤◌, ◌⊎◌, true, List, [], ◌∷◌, ◌++◌, length, Ok}
use Rattle.can_frame.specs.Cutting.{IsCutting}
use Rattle.can_frame.specs.Kinds.{is_anonymous}
use Rattle.transfer_rx.specs.declared.accept.Wanted.{Wanted}
use Rattle.transfer_rx.specs.Acceptance.{wanted}
use Rattle.transfer_rx.specs.Keys.{key_of}
use Rattle.transfer_rx.specs.Marks.{is_whole}
use Rattle.transfer_rx.specs.Parts.{IsPart}
use Rattle.transfer_rx.specs.Reassembly.{Arrival, Delivery, Setting, piece_in}
use Rattle.transfer_rx.specs.Sessions.{AreDifferent, Session, recent_sessions, session_for}

-- the frames taken have seven bytes each, the expected ID and the tails of their places, and each has a mark
pub record IsSound (session : Session) : Type 0 where
  pub frames : IsPart session.expected 0 session.taken
  pub marks : length session.marks ≡ length session.taken

abbrev pub AreSound : List Session → Type 0
AreSound [] = ⊤
AreSound (session ∷ sessions) = IsSound session × AreSound sessions

-- sessions that a receiver can have
pub record ArePossible (setting : Setting) (sessions : List Session) : Type 0 where
  pub different : AreDifferent sessions
  pub sound : AreSound sessions
  pub few : length sessions ≤ setting.sessions

-- a frame completes a transfer of its session: the frames that the session had taken, and this one, are the cutting
-- of the payload
pub record Completes (setting : Setting) (sessions : List Session) (w : Wanted) (arrival : Arrival)
    (delivery : Delivery) : Type 0 where
  pub session : Session
  pub there : session_for setting.sessions (key_of w.ident) (piece_in arrival).tail arrival.moment
      (recent_sessions arrival.moment sessions) ≡ Ok session
  pub key : session.key ≡ key_of delivery.ident
  pub cutting : IsCutting w.signature delivery.id delivery.payload (session.taken ++ piece_in arrival ∷ [])
  pub whole : delivery.whole ≡ is_whole (session.marks ++ arrival.mark ∷ [])

-- a frame is an anonymous transfer of its own
pub record IsAlone (w : Wanted) (arrival : Arrival) (delivery : Delivery) : Type 0 where
  pub anonymous : is_anonymous w.ident.kind ≡ true
  pub payload : delivery.payload ≡ (piece_in arrival).bytes
  pub whole : delivery.whole ≡ is_whole (arrival.mark ∷ [])

-- a delivery has the identifier, the ID and the mark of the frame that completed it. An anonymous one is that frame
-- alone; any other one completes a session, under the key of the session
pub record IsDelivered (setting : Setting) (sessions : List Session) (arrival : Arrival)
    (delivery : Delivery) : Type 0 where
  pub w : Wanted
  pub accepted : wanted setting.rows setting.me arrival.id ≡ Ok w
  pub ident : delivery.ident ≡ w.ident
  pub id : delivery.id ≡ (piece_in arrival).tail.id
  pub mark : delivery.mark ≡ arrival.mark
  pub frames : IsAlone w arrival delivery ⊎ Completes setting sessions w arrival delivery
