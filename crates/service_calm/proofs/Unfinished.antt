-- A delivery is of the key of its frame, and its frame is the last of a transfer: one that is not delivers nothing.
use Rattle.std.proofs.Common.{◌≡◌, ◌≢◌, ℕ, zero, suc, ◌<◌, ◌≤◌, true, false, List, [], ◌∷◌, ◌++◌, length, length-append, append_assoc, refl, sym, ◌∙◌, ap, subst, arith, inl, inr}
use Rattle.std.specs.Prelude.{drop, map, slice_index_or}
use Rattle.std.proofs.lemmas.List.{map-append}
use Rattle.can_frame.specs.declared.identifier.Ident.{Ident}
use Rattle.can_frame.specs.Cutting.{Piece, bytes_cut, cut, frames_before_last, frames_of as pieces_of}
use Rattle.can_frame.specs.Kinds.{is_anonymous}
use Rattle.transfer_rx.specs.declared.key.Key.{Key}
use Rattle.transfer_rx.specs.Keys.{key_of}
use Rattle.transfer_rx.specs.Reassembly.{Arrival, Delivery, Gives, Setting, answer, piece_in}
use Rattle.transfer_rx.specs.Run.{is_of}
use Rattle.transfer_rx.specs.Sessions.{Session}
use Rattle.transfer_rx.specs.Sound.{IsDelivered}
use Rattle.transfer_rx.proofs.Completeness.{is_own}
use Rattle.transfer_tx.specs.Queue.{Queued}
use Rattle.alloc_spec.specs.Transfers.{SentTransfer, frames_of}
use Rattle.bus_agreement.specs.LawsBelow.{FrameLaws}
use Rattle.service_calm.proofs.Frames.{CuttingLaws, carry, read}
use Rattle.service_calm.proofs.Pending.{Coming, Made, coming_of, frames_in, unstamped}

-- ---- the last piece of a cutting alone ends it

some_cut : (id place more : ℕ) (bytes : List ℕ) → 1 ≤ length (cut id place more bytes)
some_cut id place zero bytes = omega arith
some_cut id place (suc more) bytes = omega arith

cut_ends : (id place more : ℕ) (bytes : List ℕ) (front : List Piece) (last : Piece) → front ++ last ∷ [] ≡ cut id place more bytes → last.tail.end ≡ true
cut_ends id place zero bytes [] last e = ap (λ (l : List Piece). (slice_index_or l 0 last).tail.end) e
cut_ends id place zero bytes (f ∷ front) last e = absurd (omega (arith, ap length e, length-append front (last ∷ [])))
cut_ends id place (suc more) bytes [] last e = absurd (omega (arith, ap length e, some_cut id (suc place) more (drop 7 bytes)))
cut_ends id place (suc more) bytes (f ∷ front) last e = cut_ends id (suc place) more (drop 7 bytes) front last (ap (λ (l : List Piece). drop 1 l) e)

cut_goes_on : (id place more : ℕ) (bytes : List ℕ) (front rest : List Piece) (piece next : Piece) → front ++ piece ∷ next ∷ rest ≡ cut id place more bytes
    → piece.tail.end ≡ false
cut_goes_on id place zero bytes [] rest piece next e = absurd (omega (arith, ap length e))
cut_goes_on id place zero bytes (f ∷ front) rest piece next e = absurd (omega (arith, ap length e, length-append front (piece ∷ next ∷ rest)))
cut_goes_on id place (suc more) bytes [] rest piece next e = ap (λ (l : List Piece). (slice_index_or l 0 piece).tail.end) e
cut_goes_on id place (suc more) bytes (f ∷ front) rest piece next e =
    cut_goes_on id (suc place) more (drop 7 bytes) front rest piece next (ap (λ (l : List Piece). drop 1 l) e)

pieces_end : (signature id : ℕ) (payload : List ℕ) (front : List Piece) (last : Piece) → front ++ last ∷ [] ≡ pieces_of signature id payload → last.tail.end ≡ true
unfolding pieces_of
pieces_end signature id payload front last e = cut_ends id 0 (frames_before_last signature payload) (bytes_cut signature payload) front last e

pieces_go_on : (signature id : ℕ) (payload : List ℕ) (front rest : List Piece) (piece next : Piece) → front ++ piece ∷ next ∷ rest ≡ pieces_of signature id payload
    → piece.tail.end ≡ false
unfolding pieces_of
pieces_go_on signature id payload front rest piece next e =
    cut_goes_on id 0 (frames_before_last signature payload) (bytes_cut signature payload) front rest piece next e

-- ---- a frame that is not the last

goes_on : (laws : CuttingLaws) (x : SentTransfer) → x.offer.id < 32 → (front more : List Queued) (frame next : Queued) → frames_of x ≡ front ++ frame ∷ next ∷ more
    → (read frame).tail.end ≡ false
goes_on laws x small front more frame next e = pieces_go_on _ _ _ (map read front) (map read more) (read frame) (read next)
    (sym (map-append read front (frame ∷ next ∷ more)) ∙ (ap (map read) (sym e) ∙ carry laws x small))

-- a frame behind which more frames of its transfer come does not end it
pub not_last : (laws : CuttingLaws) (x : Made) → x.transfer.offer.id < 32 → (front back : List Coming) (c : Coming) → back ≢ []
    → coming_of x ≡ (front ++ c ∷ []) ++ back → (read c.frame).tail.end ≡ false
not_last laws x small front [] c some e = absurd (some refl)
not_last laws x small front (b ∷ back) c some e = goes_on laws x.transfer small (frames_in front) (frames_in back) c.frame b.frame
    (sym (unstamped x.at (frames_of x.transfer)) ∙ (ap frames_in (e ∙ append_assoc front (c ∷ []) (b ∷ back))
    ∙ map-append (λ (y : Coming). y.frame) front (c ∷ b ∷ back)))

-- ---- a delivery

module _ (laws : FrameLaws) (setting : Setting) (sessions : List Session) (arrival : Arrival) (d : Delivery) (gives : answer setting sessions arrival ≡ Gives d)
    (known : is_anonymous d.ident.kind ≡ false) where
  from : IsDelivered setting sessions arrival d
  from = laws.delivered setting sessions arrival d gives

  known_too : is_anonymous from.w.ident.kind ≡ false
  known_too = subst (λ (i : Ident). is_anonymous i.kind ≡ false) from.ident known

  -- its frame is of its key
  pub of_its_key : (key : Key) → key_of d.ident ≡ key → is_of setting key arrival ≡ true
  of_its_key key same = subst (λ (k : Key). is_of setting k arrival ≡ true) (ap key_of (sym from.ident) ∙ same)
      (is_own setting from.w arrival from.accepted known_too)

  -- and ends a transfer
  pub ends_it : (piece_in arrival).tail.end ≡ true
  ends_it = elim from.frames [
    | inl alone ↦ absurd (cc (alone.anonymous, known_too))
    | inr c ↦ pieces_end from.w.signature d.id d.payload c.session.taken (piece_in arrival) c.cutting.frames
  ]
