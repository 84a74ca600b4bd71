-- The queue of a sender: the frames that wait, in the order in which they were offered.
use Rattle.std.specs.Prelude.{ℕ, suc, ◌<◌, ◌≤◌, ◌++◌, zero, nat_le, Bool, List, [], ◌∷◌, length, option_to_list, Option, find, remove, slice_index_or}
use Rattle.std.specs.List.{list_all, position_or_len}
use Rattle.can_frame.specs.declared.mark.Mark.{Mark}
use Rattle.can_frame.specs.Cutting.{Piece, frame_bytes, frames_of}
use Rattle.can_frame.specs.Identifier.{identifier_number}
use Rattle.transfer_tx.specs.declared.outgoing.Outgoing.{Outgoing}

-- a frame that waits: the number of its identifier, its bytes with the tail last, and its mark
pub record Queued : Type 0 where
  pub id : ℕ
  pub bytes : List ℕ
  pub mark : Mark

-- ---- what an offer puts at the end

-- pieces as frames of one identifier, marked by the step, the step of the request, and their places from one on
abbrev pub marked : ℕ → ℕ → ℕ → ℕ → List Piece → List Queued
marked id step re place [] = []
marked id step re place (piece ∷ pieces) =
    (record {
      id = id;
      bytes = frame_bytes piece;
      mark = record { step = step; re = re; place = place };
    }) ∷ marked id step re (suc place) pieces

-- the frames of a transfer, as a step offers them
unfoldable pub queued_frames : Outgoing → ℕ → ℕ → List Queued
queued_frames what step re =
    marked (identifier_number what.ident) step re 0 (frames_of what.signature what.id what.payload.items)

-- ---- the next frame out

-- no frame has a lower identifier
abbrev pub is_least : List Queued → Queued → Bool
is_least frames frame = list_all (λ other. nat_le frame.id other.id) frames

-- among the frames with the least identifier, the one that was offered first
unfoldable pub next_out : List Queued → Option Queued
next_out frames = find (is_least frames) frames

-- the others, in their order
unfoldable pub left_behind : List Queued → List Queued
left_behind frames = remove frames (position_or_len (is_least frames) frames)

-- the first n frames out, in the order of going out
abbrev pub first_out : ℕ → List Queued → List Queued
first_out zero frames = []
first_out (suc n) frames = option_to_list (next_out frames) ++ first_out n (left_behind frames)

-- all frames, in the order of going out
unfoldable pub in_order_of_going : List Queued → List Queued
in_order_of_going frames = first_out (length frames) frames

-- what is read past the end
abbrev pub blank : Queued
blank = record { id = 0; bytes = []; mark = record { step = 0; re = 0; place = 0 } }

-- the identifier of the frame at a place
abbrev pub id_at : List Queued → ℕ → ℕ
id_at frames place = (slice_index_or frames place blank).id

-- the frame at this place goes out next: none has a lower identifier, and each before it has a higher one
pub record GoesNext (frames : List Queued) (place : ℕ) : Type 0 where
  pub present : place < length frames
  pub least : (other : ℕ) → other < length frames → id_at frames place ≤ id_at frames other
  pub first : (other : ℕ) → other < place → id_at frames place < id_at frames other
