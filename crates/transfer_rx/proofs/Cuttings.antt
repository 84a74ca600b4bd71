-- The definition of an outcome against cuttings.
use Rattle.std.proofs.Common.{◌≡◌, ◌≤◌, ℕ, Bool, true, false, not, ◌||◌, cond, List, [], ◌∷◌, ◌++◌, length, refl, sym, ◌∙◌, ap, subst, arith, nat_eq, nat_lt}
use Rattle.std.specs.Cmp.Lexicographic.{pointwise}
use Rattle.std.proofs.lemmas.Bool.{ltb-false}
use Rattle.can_frame.specs.declared.step.Why.TheVariants.{Crc}
use Rattle.can_frame.specs.Cutting.{IsCutting, Piece, frames_of, payload_of}
use Rattle.transfer_rx.proofs.Cuts.{SameFrames, SamePayload, Uncut}
use Rattle.transfer_rx.specs.Sessions.{Session}
use Rattle.transfer_rx.specs.Outcome.{Delivers, Spoils, assembled, cut_again, fits_no_payload, lacks_blocks, outcome, same_piece, sizes}
use Rattle.transfer_rx.proofs.InTurn.{end_length, ends}
use Rattle.transfer_rx.proofs.Lengths.{fits}
use Rattle.transfer_rx.proofs.Pointwise.{own_pieces, same_bytes, same_pieces}

pub whole : Uncut → (signature id : ℕ) (payload : List ℕ) (pieces : List Piece) → pieces ≡ frames_of signature id payload →
    assembled signature id pieces ≡ Delivers payload
whole uncut signature id payload pieces e =
    let p : payload_of pieces ≡ payload = ap payload_of e ∙ uncut signature id payload in
    let again : pieces ≡ cut_again signature id pieces = e ∙ ap (frames_of signature id) (sym p) in
    let t : pointwise same_piece pieces (cut_again signature id pieces) ≡ true =
    subst (λ x. pointwise same_piece pieces x ≡ true) again (own_pieces pieces) in
    rw (t, p) refl

delivered_whole : (test : Bool) (a b : List ℕ) → cond test (Delivers a) (Spoils Crc) ≡ Delivers b → (test ≡ true) × (a ≡ b)
delivered_whole true a b h = (refl, cc)
delivered_whole false a b h = cc

pub only : (signature id : ℕ) (payload : List ℕ) (pieces : List Piece) → assembled signature id pieces ≡ Delivers payload →
    pieces ≡ frames_of signature id payload
only signature id payload pieces h =
    let w : (pointwise same_piece pieces (cut_again signature id pieces) ≡ true) × (payload_of pieces ≡ payload) =
    delivered_whole (pointwise same_piece pieces (cut_again signature id pieces)) (payload_of pieces) payload h in
    same_pieces pieces (cut_again signature id pieces) w.0 ∙ ap (frames_of signature id) w.1

pub has_lengths : Uncut → SameFrames → SamePayload → (signature id : ℕ) (pieces : List Piece) (payload : List ℕ) → length payload ≤ 376 →
    sizes pieces ≡ sizes (frames_of signature id payload) → fits_no_payload signature id pieces ≡ false
has_lengths uncut same_frames same_payload signature id pieces payload h e =
    let p : length (payload_of pieces) ≡ length payload =
    same_payload pieces (frames_of signature id payload) e ∙ ap length (uncut signature id payload) in
    fits signature id pieces (e ∙ sym (same_frames signature id (payload_of pieces) payload p)) (omega arith)

neither : (test : Bool) (b : Bool) → not test || b ≡ false → (test ≡ true) × (b ≡ false)
neither true b h = (refl, h)
neither false b h = cc

pub some_payload : (signature id : ℕ) (pieces : List Piece) → fits_no_payload signature id pieces ≡ false →
    (length (payload_of pieces) ≤ 376) × (sizes pieces ≡ sizes (cut_again signature id pieces))
unfolding fits_no_payload
some_payload signature id pieces h =
    let w : (pointwise nat_eq (sizes pieces) (sizes (cut_again signature id pieces)) ≡ true) × (nat_lt 376 (length (payload_of pieces)) ≡ false) =
    neither (pointwise nat_eq (sizes pieces) (sizes (cut_again signature id pieces))) (nat_lt 376 (length (payload_of pieces))) h in
    (ltb-false 376 (length (payload_of pieces)) w.1, same_bytes (sizes pieces) (sizes (cut_again signature id pieces)) w.0)

pub delivered_last : Uncut → SameFrames → SamePayload → (blocks signature : ℕ) (piece : Piece) (taken : List Piece) (rest : List Session) (payload : List ℕ) →
    IsCutting signature piece.tail.id payload (taken ++ piece ∷ []) → piece.tail.end ≡ true →
    lacks_blocks blocks piece taken rest ≡ false → outcome blocks signature piece taken rest ≡ Delivers payload
delivered_last uncut same_frames same_payload blocks signature piece taken rest payload c e l =
    sym (ends blocks signature piece taken rest (Delivers payload)
    (end_length blocks signature piece taken rest false e
    (sym (has_lengths uncut same_frames same_payload signature piece.tail.id (taken ++ piece ∷ []) payload c.size (ap sizes c.frames))))
    (sym l) e (sym (whole uncut signature piece.tail.id payload (taken ++ piece ∷ []) c.frames)))
