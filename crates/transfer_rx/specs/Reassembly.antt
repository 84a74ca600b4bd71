-- What a receiver makes of a frame: the answer, and its sessions afterwards.
use Rattle.std.specs.Prelude.{ℕ, if◌then◌else◌, Bool, true, false, ◌&&◌, ◌++◌, List, [], ◌∷◌, Option, Some, None, Result, Ok, Err}
use Rattle.can_frame.specs.declared.identifier.Ident.{Ident}
use Rattle.can_frame.specs.declared.frame.Frame.{Frame}
use Rattle.can_frame.specs.declared.mark.Mark.{Mark}
use Rattle.can_frame.specs.declared.step.Why.{Why}
use Rattle.can_frame.specs.declared.step.Why.TheVariants.{Start, Toggle}
use Rattle.can_frame.specs.Cutting.{Piece, piece_from}
use Rattle.can_frame.specs.Kinds.{is_anonymous}
use Rattle.transfer_rx.specs.declared.accept.AcceptRow.{AcceptRow}
use Rattle.transfer_rx.specs.declared.accept.Wanted.{Wanted}
use Rattle.transfer_rx.specs.Acceptance.{wanted}
use Rattle.transfer_rx.specs.Keys.{key_of}
use Rattle.transfer_rx.specs.Marks.{is_whole}
use Rattle.transfer_rx.specs.Sessions.{Session, next_id, others, recent_sessions, session_for}
use Rattle.transfer_rx.specs.Outcome.{Outcome, Delivers, Grows, Spoils, out_of_turn, outcome}

-- what a receiver is made with: its rows, its own node ID, and the most sessions and blocks that it has
pub record Setting : Type 0 where
  pub rows : List AcceptRow
  pub me : ℕ
  pub sessions : ℕ
  pub blocks : ℕ

-- a frame as it comes to a receiver: the number of its identifier, its bytes with the tail last, its mark, and the
-- moment
pub record Arrival : Type 0 where
  pub id : ℕ
  pub bytes : List ℕ
  pub mark : Mark
  pub moment : ℕ

-- a frame that comes with a mark at a moment
abbrev pub arrival_of : Frame → Mark → ℕ → Arrival
arrival_of frame mark now = record { id = frame.id; bytes = frame.bytes.items; mark = mark; moment = now }

abbrev pub piece_in : Arrival → Piece
piece_in arrival = piece_from arrival.bytes

-- a delivered transfer; the mark is that of its last frame
pub record Delivery : Type 0 where
  pub ident : Ident
  pub id : ℕ
  pub payload : List ℕ
  pub mark : Mark
  pub whole : Bool

pub data Answer : Type 0 where
  Gives : Delivery → Answer
  Continues : Answer
  Drops : Why → Answer

-- what an answer delivers
abbrev pub delivered : Answer → Option Delivery
delivered (Gives delivery) = Some delivery
delivered Continues = None
delivered (Drops why) = None

-- the answer to a frame, and the sessions afterwards
pub record Step : Type 0 where
  pub answer : Answer
  pub sessions : List Session

-- an anonymous frame is a transfer of its own
abbrev pub alone : Ident → Piece → Mark → Answer
alone ident piece mark =
    if piece.tail.start && piece.tail.end then
    (if piece.tail.toggle then Drops Toggle else
    Gives (record {
      ident = ident;
      id = piece.tail.id;
      payload = piece.bytes;
      mark = mark;
      whole = is_whole (mark ∷ []);
    }))
    else Drops Start

-- a session with one more frame
abbrev pub grown : Piece → Mark → ℕ → Session → Session
grown piece mark now session =
    record session { taken = session.taken ++ piece ∷ []; marks = session.marks ++ mark ∷ []; moment = now }

-- a session at a cut: it waits for the next transfer
abbrev pub cut_off : ℕ → Session → Session
cut_off now session = record session { expected = next_id session.expected; taken = []; marks = []; moment = now }

abbrev pub answer_of : Ident → Piece → Mark → Session → Outcome → Answer
answer_of ident piece mark session (Delivers payload) =
    Gives (record {
      ident = ident;
      id = piece.tail.id;
      payload = payload;
      mark = mark;
      whole = is_whole (session.marks ++ mark ∷ []);
    })
answer_of ident piece mark session Grows = Continues
answer_of ident piece mark session (Spoils why) = Drops why

-- a delivery or a spoiling cuts the session
abbrev pub session_after : Piece → Mark → ℕ → Session → Outcome → Session
session_after piece mark now session (Delivers payload) = cut_off now session
session_after piece mark now session Grows = grown piece mark now session
session_after piece mark now session (Spoils why) = cut_off now session

-- the next piece is judged; another leaves its session as it found it. The session goes back to the others
abbrev pub in_turn : ℕ → Wanted → Piece → Mark → ℕ → List Session → Session → Option Why → Step
in_turn blocks w piece mark now rest session None =
    let result : Outcome = outcome blocks w.signature piece session.taken rest in
    (record {
      answer = answer_of w.ident piece mark session result;
      sessions = session_after piece mark now session result ∷ rest;
    })
in_turn blocks w piece mark now rest session (Some why) = record { answer = Drops why; sessions = session ∷ rest }

abbrev pub at_session : ℕ → Wanted → Piece → Mark → ℕ → List Session → Result Session Why → Step
at_session blocks w piece mark now sessions (Err why) = record { answer = Drops why; sessions = sessions }
at_session blocks w piece mark now sessions (Ok session) =
    in_turn blocks w piece mark now (others (key_of w.ident) sessions) session (out_of_turn piece.tail session)

-- a frame comes to the session of its key
unfoldable pub session_step : ℕ → ℕ → Wanted → Piece → Mark → ℕ → List Session → Step
session_step most blocks w piece mark now sessions =
    at_session blocks w piece mark now sessions (session_for most (key_of w.ident) piece.tail now sessions)

-- an anonymous frame has no session; before another one old sessions are forgotten
abbrev pub by_kind : Setting → Wanted → Arrival → List Session → Bool → Step
by_kind setting w arrival sessions true =
    record { answer = alone w.ident (piece_in arrival) arrival.mark; sessions = sessions }
by_kind setting w arrival sessions false =
    session_step setting.sessions setting.blocks w (piece_in arrival) arrival.mark arrival.moment
    (recent_sessions arrival.moment sessions)

abbrev pub of_wanted : Setting → Arrival → List Session → Result Wanted Why → Step
of_wanted setting arrival sessions (Err why) = record { answer = Drops why; sessions = sessions }
of_wanted setting arrival sessions (Ok w) = by_kind setting w arrival sessions (is_anonymous w.ident.kind)

-- a frame comes to a receiver
unfoldable pub step : Setting → List Session → Arrival → Step
step setting sessions arrival = of_wanted setting arrival sessions (wanted setting.rows setting.me arrival.id)

abbrev pub answer : Setting → List Session → Arrival → Answer
answer setting sessions arrival = (step setting sessions arrival).answer

abbrev pub next : Setting → List Session → Arrival → List Session
next setting sessions arrival = (step setting sessions arrival).sessions
