-- What the crates of frames and codecs say, as their contracts have it: the proofs here stand on these two records.
use Rattle.std.proofs.Common.{◌≡◌, ℕ, suc, ◌*◌, ◌<◌, ◌^◌, true, false, List, length, take, drop}
use Rattle.std.specs.Prelude.{Some, Ok, slice_index_or}
use Rattle.can_frame.specs.Cutting.{Piece, bytes_cut, frame_bytes, frame_count, frames_before_last, frames_of, payload_of, piece_from, tail_at}
use Rattle.can_frame.specs.Identifier.{IsIdentifier, identifier_number, identifier_of}
use Rattle.can_frame.specs.declared.identifier.Ident.{Ident}
use Rattle.can_frame.specs.declared.tail.Tail.{Tail}
use Rattle.dsdl_codec.specs.AppendAnswer.{append_answer_bytes, append_answer_of}
use Rattle.dsdl_codec.specs.AppendRequest.{IsAppendRequest, append_request_bytes, append_request_of}
use Rattle.dsdl_codec.specs.VoteAnswer.{vote_answer_bytes, vote_answer_of}
use Rattle.dsdl_codec.specs.VoteRequest.{IsVoteRequest, vote_request_bytes, vote_request_of}
use Rattle.dsdl_codec.specs.declared.append_answer.AppendAnswer.{AppendAnswer}
use Rattle.dsdl_codec.specs.declared.append_request.AppendRequest.{AppendRequest}
use Rattle.dsdl_codec.specs.declared.vote_answer.VoteAnswer.{VoteAnswer}
use Rattle.dsdl_codec.specs.declared.vote_request.VoteRequest.{VoteRequest}
use Rattle.transfer_rx.specs.Origin.{IsIdleOrOf}
use Rattle.transfer_rx.specs.Reassembly.{Arrival, Delivery, Gives, Setting, answer}
use Rattle.transfer_rx.specs.Sessions.{Session, session_for}
use Rattle.transfer_rx.specs.Sound.{IsDelivered}
use Rattle.transfer_rx.specs.declared.key.Key.{Key}
use Rattle.transfer_tx.specs.Queue.{Queued, queued_frames}
use Rattle.transfer_tx.specs.declared.outgoing.Outgoing.{Outgoing}

-- frames, and how they are taken together
pub record FrameLaws : Type 0 where
  pub ident_read : (ident : Ident) → IsIdentifier ident → identifier_of (identifier_number ident) ≡ Some ident
  pub piece_read : (piece : Piece) → piece.tail.id < 32 → piece_from (frame_bytes piece) ≡ piece
  pub cut_count : (signature id : ℕ) (payload : List ℕ)
      → length (frames_of signature id payload) ≡ frame_count (length payload)
  pub count : (signature id : ℕ) (payload : List ℕ)
      → length (frames_of signature id payload) ≡ suc (frames_before_last signature payload)
  pub before_last : (signature id k : ℕ) (payload : List ℕ) (d : Piece) → k < frames_before_last signature payload
      → slice_index_or (frames_of signature id payload) k d ≡ record {
        bytes = take 7 (drop (7 * k) (bytes_cut signature payload));
        tail = tail_at id k false;
      }
  pub last : (signature id : ℕ) (payload : List ℕ) (d : Piece)
      → slice_index_or (frames_of signature id payload) (frames_before_last signature payload) d ≡ record {
        bytes = drop (7 * frames_before_last signature payload) (bytes_cut signature payload);
        tail = tail_at id (frames_before_last signature payload) true;
      }
  pub payload : (signature id : ℕ) (payload : List ℕ) → payload_of (frames_of signature id payload) ≡ payload
  pub queued_count : (what : Outgoing) (step re : ℕ)
      → length (queued_frames what step re) ≡ frame_count (length what.payload.items)
  pub queued_frame : (what : Outgoing) (step re place : ℕ) (d : Queued) (e : Piece)
      → place < frame_count (length what.payload.items)
      → slice_index_or (queued_frames what step re) place d ≡ record {
        id = identifier_number what.ident;
        bytes = frame_bytes (slice_index_or (frames_of what.signature what.id what.payload.items) place e);
        mark = record { step = step; re = re; place = place };
      }
  pub delivered : (setting : Setting) (sessions : List Session) (arrival : Arrival) (delivery : Delivery)
      → answer setting sessions arrival ≡ Gives delivery → IsDelivered setting sessions arrival delivery
  pub comes : (most now : ℕ) (key : Key) (tail : Tail) (sessions : List Session) (session : Session)
      → session_for most key tail now sessions ≡ Ok session → IsIdleOrOf key sessions session

-- bytes are read as what they say
pub record CodecLaws : Type 0 where
  pub vote_requests : (request : VoteRequest) → IsVoteRequest request
      → vote_request_of (vote_request_bytes request) ≡ Some request
  pub append_requests : (request : AppendRequest) → IsAppendRequest request
      → append_request_of (append_request_bytes request 0) ≡ Some request
  pub vote_answers : (answer : VoteAnswer) → answer.term < 2 ^ 32
      → vote_answer_of (vote_answer_bytes answer 0) ≡ Some answer
  pub append_answers : (answer : AppendAnswer) → answer.term < 2 ^ 32
      → append_answer_of (append_answer_bytes answer 0) ≡ Some answer
