-- Frames that are the cutting of a payload, each of them one of a transfer that was made under one name, are those of one transfer.
use Rattle.std.proofs.Common.{◌≡◌, ℕ, ◌<◌, List, length, sym, ap, subst, ◌∙◌, arith}
use Rattle.std.specs.Prelude.{slice_index_or}
use Rattle.can_frame.specs.Cutting.{Piece, frames_before_last, frames_of as pieces_of}
use Rattle.raft_model.specs.Lists.{In}
use Rattle.alloc_spec.specs.Transfers.{SentTransfer, signature_of}
use Rattle.bus_agreement.specs.Frames.{AreTransfers}
use Rattle.bus_agreement.specs.LawsBelow.{FrameLaws}
use Rattle.bus_agreement.proofs.Cuttings.{same_payload}
use Rattle.bus_agreement.proofs.Pieces.{no_piece, piece_id, theirs}

-- the piece stands at this place in the cutting of a transfer that was made, in the step of x, of its kind and to its destination
pub record IsOfNamesake (made : List SentTransfer) (x : SentTransfer) (place : ℕ) (piece : Piece) : Type 0 where
  pub whose : SentTransfer
  pub was_made : In whose made
  pub step : whose.step ≡ x.step
  pub what : whose.offer.what ≡ x.offer.what
  pub to : whose.offer.to ≡ x.offer.to
  pub inside : place < length (theirs whose)
  pub same : piece ≡ slice_index_or (theirs whose) place no_piece

module _ (laws : FrameLaws) (ids : List ℕ) (made : List SentTransfer) (are : AreTransfers ids made) (x : SentTransfer) (there : In x made)
    (signature id : ℕ) (payload : List ℕ) (own : x.offer.id ≡ id)
    (each : (i : ℕ) → i < length (pieces_of signature id payload)
    → IsOfNamesake made x i (slice_index_or (pieces_of signature id payload) i no_piece)) where
  one : (i : ℕ) (h : i < length (pieces_of signature id payload)) → (each i h).whose ≡ x
  one i h =
      let e = each i h in
      let its_id : e.whose.offer.id ≡ id
      = sym (piece_id (signature_of e.whose.offer.what) e.whose.offer.id e.whose.offer.payload i e.inside)
      ∙ (ap (λ (p : Piece). p.tail.id) (sym e.same) ∙ piece_id signature id payload i h) in
      are.once e.whose x e.was_made there e.step e.what e.to (its_id ∙ sym own)

  same_at : (i : ℕ) → i < length (pieces_of signature id payload)
      → slice_index_or (pieces_of signature id payload) i no_piece ≡ slice_index_or (theirs x) i no_piece
  same_at i h = (each i h).same ∙ ap (λ (y : SentTransfer). slice_index_or (theirs y) i no_piece) (one i h)

  pub payload_is : payload ≡ x.offer.payload
  payload_is =
      let k : ℕ = frames_before_last signature payload in
      let h : k < length (pieces_of signature id payload) = omega (arith, laws.count signature id payload) in
      same_payload laws signature id (signature_of x.offer.what) x.offer.id payload x.offer.payload
      (subst (λ (y : SentTransfer). k < length (theirs y)) (one k h) (each k h).inside) same_at
