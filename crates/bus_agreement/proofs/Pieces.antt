-- Frames that came to a server, as pieces of the transfers that were made.
use Rattle.std.proofs.Common.{◌≡◌, ℕ, zero, suc, ◌+◌, ◌<◌, true, List, [], ◌∷◌, length, refl, sym, ap, subst, ◌∙◌, arith, inl, inr}
use Rattle.std.specs.Prelude.{◌&&◌, nat_eq, slice_index_or}
use Rattle.can_frame.specs.declared.mark.Mark.{Mark}
use Rattle.can_frame.specs.Cutting.{Piece, bytes_cut, cut, frame_bytes, frame_count, frames_before_last, frames_of as pieces_of, piece_from}
use Rattle.can_frame.specs.Identifier.{identifier_number}
use Rattle.raft_model.specs.Lists.{In}
use Rattle.transfer_rx.specs.Marks.{is_run, is_whole}
use Rattle.transfer_rx.specs.Reassembly.{Arrival, piece_in}
use Rattle.transfer_tx.specs.Queue.{Queued}
use Rattle.alloc_spec.specs.Transfers.{SentTransfer, frames_of, ident_of, outgoing, signature_of}
use Rattle.bus_spec.specs.Cluster.{no_frame}
use Rattle.bus_agreement.specs.Frames.{IsPiece}
use Rattle.bus_agreement.specs.LawsBelow.{FrameLaws}
use Rattle.bus_agreement.proofs.Lists.{both, equal}

abbrev pub no_piece : Piece
no_piece = piece_from []

-- the pieces of a transfer
abbrev pub theirs : SentTransfer → List Piece
theirs x = pieces_of (signature_of x.offer.what) x.offer.id x.offer.payload

-- ---- each piece of a cutting has its transfer ID

cut_id : (id place more : ℕ) (bytes : List ℕ) (i : ℕ) → i < length (cut id place more bytes) → (slice_index_or (cut id place more bytes) i no_piece).tail.id ≡ id
cut_id id place zero bytes zero h = refl
cut_id id place zero bytes (suc i) h = absurd (omega (arith, h))
cut_id id place (suc more) bytes zero h = refl
cut_id id place (suc more) bytes (suc i) h = cut_id id (suc place) more _ i (omega (arith, h))

pub piece_id : (signature id : ℕ) (payload : List ℕ) (i : ℕ) → i < length (pieces_of signature id payload)
    → (slice_index_or (pieces_of signature id payload) i no_piece).tail.id ≡ id
unfolding pieces_of
piece_id signature id payload i h = cut_id id 0 (frames_before_last signature payload) (bytes_cut signature payload) i h

-- ---- the marks of a whole transfer

first_of : (step place : ℕ) (mark : Mark) (marks : List Mark) → is_run step place (mark ∷ marks) ≡ true
    → (mark.step ≡ step) × (mark.place ≡ place) × (is_run step (suc place) marks ≡ true)
first_of step place mark marks e =
    let all = both (nat_eq mark.step step && nat_eq mark.place place) (is_run step (suc place) marks) e in
    let here = both (nat_eq mark.step step) (nat_eq mark.place place) all.0 in
    (equal mark.step step here.0, equal mark.place place here.1, all.1)

pub run_at : (step place : ℕ) (marks : List Mark) (i : ℕ) (d : Mark) → is_run step place marks ≡ true → i < length marks
    → ((slice_index_or marks i d).step ≡ step) × ((slice_index_or marks i d).place ≡ place + i)
run_at step place [] i d e h = absurd (omega (arith, h))
run_at step place (mark ∷ marks) zero d e h = let f = first_of step place mark marks e in (f.0, omega (arith, f.1))
run_at step place (mark ∷ marks) (suc i) d e h =
    let f = first_of step place mark marks e in
    let r = run_at step (suc place) marks i d f.2 (omega (arith, h)) in (r.0, omega (arith, r.1))

pub whole_at : (marks : List Mark) (first : Mark) (i : ℕ) (d : Mark) → is_whole marks ≡ true → slice_index_or marks 0 d ≡ first → i < length marks
    → ((slice_index_or marks i d).step ≡ first.step) × ((slice_index_or marks i d).place ≡ i)
whole_at [] first i d e f h = absurd (omega (arith, h))
whole_at (mark ∷ marks) first i d e f h =
    let r = run_at mark.step 0 (mark ∷ marks) i d e h in (r.0 ∙ ap (λ (m : Mark). m.step) f, omega (arith, r.1))

-- ---- a frame that came is a piece

-- the frame is one of a transfer, by its identifier, bytes and mark
pub record IsPieceOf (x : SentTransfer) (arrival : Arrival) : Type 0 where
  pub place : arrival.mark.place < length (theirs x)
  pub id : arrival.id ≡ identifier_number (ident_of x.by x.offer.what x.offer.to)
  pub bytes : arrival.bytes ≡ frame_bytes (slice_index_or (theirs x) arrival.mark.place no_piece)
  pub step : arrival.mark.step ≡ x.step
  pub re : arrival.mark.re ≡ x.offer.re

module _ (laws : FrameLaws) where
  of_made : (x : SentTransfer) (frame : Queued) (arrival : Arrival) → frame.mark.place < length (frames_of x)
      → slice_index_or (frames_of x) frame.mark.place no_frame ≡ frame
      → arrival.id ≡ frame.id → arrival.bytes ≡ frame.bytes → arrival.mark ≡ frame.mark → IsPieceOf x arrival
  of_made x frame arrival below same id bytes mark = record {
    place = omega (arith, inside, laws.cut_count (signature_of x.offer.what) x.offer.id x.offer.payload, same_place);
    id = id ∙ ap (λ (f : Queued). f.id) (sym is);
    bytes = bytes ∙ (ap (λ (f : Queued). f.bytes) (sym is)
        ∙ ap (λ (k : ℕ). frame_bytes (slice_index_or (theirs x) k no_piece)) (sym same_place));
    step = ap (λ (m : Mark). m.step) mark ∙ ap (λ (f : Queued). f.mark.step) (sym is);
    re = ap (λ (m : Mark). m.re) mark ∙ ap (λ (f : Queued). f.mark.re) (sym is);
  }
    where
      same_place : arrival.mark.place ≡ frame.mark.place
      same_place = ap (λ (m : Mark). m.place) mark

      inside : frame.mark.place < frame_count (length x.offer.payload)
      inside = omega (arith, below, laws.queued_count (outgoing x.by x.offer.what x.offer.to x.offer.id x.offer.payload) x.step x.offer.re)

      made_frame : Queued
      made_frame = record {
        id = identifier_number (ident_of x.by x.offer.what x.offer.to);
        bytes = frame_bytes (slice_index_or (theirs x) frame.mark.place no_piece);
        mark = record { step = x.step; re = x.offer.re; place = frame.mark.place };
      }

      is : made_frame ≡ frame
      is = sym (laws.queued_frame (outgoing x.by x.offer.what x.offer.to x.offer.id x.offer.payload) x.step x.offer.re frame.mark.place no_frame no_piece inside) ∙ same

  pub piece_of : (made : List SentTransfer) (by : ℕ) (frame : Queued) (piece : IsPiece made by frame) (arrival : Arrival)
      → arrival.id ≡ frame.id → arrival.bytes ≡ frame.bytes → arrival.mark ≡ frame.mark → IsPieceOf piece.whose arrival
  piece_of made by frame piece arrival id bytes mark = of_made piece.whose frame arrival piece.place piece.same id bytes mark

  -- what is read of its bytes is that piece
  pub piece_read : (x : SentTransfer) (arrival : Arrival) → IsPieceOf x arrival → x.offer.id < 32
      → piece_in arrival ≡ slice_index_or (theirs x) arrival.mark.place no_piece
  piece_read x arrival is small = ap piece_from is.bytes ∙ laws.piece_read (slice_index_or (theirs x) arrival.mark.place no_piece)
      (subst (λ (n : ℕ). n < 32) (sym (piece_id (signature_of x.offer.what) x.offer.id x.offer.payload arrival.mark.place is.place)) small)

  -- each frame of a transfer is a piece of it
  pub marked_frame : (made : List SentTransfer) (x : SentTransfer) → In x made → (frame : Queued) → In frame (frames_of x) → IsPiece made x.by frame
  marked_frame made x there frame i = record { whose = x; was_made = there; maker = refl; place = inside; same = is }
    where
      place_of : (frames : List Queued) (f : Queued) → In f frames → (k : ℕ) × (k < length frames) × (slice_index_or frames k no_frame ≡ f)
      place_of [] f j = absurd j
      place_of (first ∷ rest) f (inl e) = (0, omega arith, sym e)
      place_of (first ∷ rest) f (inr j) = let r = place_of rest f j in (suc r.0, omega (arith, r.1), r.2)

      at : (k : ℕ) × (k < length (frames_of x)) × (slice_index_or (frames_of x) k no_frame ≡ frame)
      at = place_of (frames_of x) frame i

      its_place : frame.mark.place ≡ at.0
      its_place = ap (λ (f : Queued). f.mark.place) (sym at.2 ∙ laws.queued_frame (outgoing x.by x.offer.what x.offer.to x.offer.id x.offer.payload) x.step x.offer.re at.0 no_frame no_piece
          (omega (arith, at.1, laws.queued_count (outgoing x.by x.offer.what x.offer.to x.offer.id x.offer.payload) x.step x.offer.re)))

      inside : frame.mark.place < length (frames_of x)
      inside = subst (λ (k : ℕ). k < length (frames_of x)) (sym its_place) at.1

      is : slice_index_or (frames_of x) frame.mark.place no_frame ≡ frame
      is = ap (λ (k : ℕ). slice_index_or (frames_of x) k no_frame) its_place ∙ at.2
