-- A cutting whose frames stand at the same places in another is that one, and of its payload.
use Rattle.std.proofs.Common.{◌≡◌, ℕ, ◌<◌, true, false, List, length, sym, ap, ◌∙◌, arith, inl, inr}
use Rattle.std.specs.Prelude.{get_or}
use Rattle.std.proofs.lemmas.Bool.Decides.{eqb_tells}
use Rattle.std.proofs.lemmas.List.{ext_get_or}
use Rattle.can_frame.specs.Cutting.{Piece, frames_before_last, frames_of, payload_of}
use Rattle.bus_agreement.specs.LawsBelow.{FrameLaws}
use Rattle.bus_agreement.proofs.Lists.{never}
use Rattle.bus_agreement.proofs.Pieces.{no_piece}

module _ (laws : FrameLaws) (signature id made_signature made_id : ℕ) (payload made : List ℕ)
    (inside : frames_before_last signature payload < length (frames_of made_signature made_id made))
    (same : (i : ℕ) → i < length (frames_of signature id payload)
    → get_or (frames_of signature id payload) i no_piece ≡ get_or (frames_of made_signature made_id made) i no_piece) where
  abbrev last : ℕ
  last = frames_before_last signature payload

  ends : (get_or (frames_of signature id payload) last no_piece).tail.end ≡ true
  ends = ap (λ (piece : Piece). piece.tail.end) (laws.last signature id payload no_piece)

  goes_on : last < frames_before_last made_signature made → (get_or (frames_of signature id payload) last no_piece).tail.end ≡ false
  goes_on less = ap (λ (piece : Piece). piece.tail.end) (same last (omega (arith, laws.count signature id payload)))
      ∙ ap (λ (piece : Piece). piece.tail.end) (laws.before_last made_signature made_id last made no_piece less)

  as_many : last ≡ frames_before_last made_signature made
  as_many = elim (eqb_tells last (frames_before_last made_signature made)) [
    | inl equal ↦ equal.1
    | inr apart ↦ never (sym (goes_on (omega (arith, inside, laws.count made_signature made_id made, apart.1))) ∙ ends)
  ]

  all_frames : frames_of signature id payload ≡ frames_of made_signature made_id made
  all_frames = ext_get_or no_piece (frames_of signature id payload) (frames_of made_signature made_id made)
      (omega (arith, as_many, laws.count signature id payload, laws.count made_signature made_id made)) same

  pub same_payload : payload ≡ made
  same_payload = sym (laws.payload signature id payload) ∙ (ap payload_of all_frames ∙ laws.payload made_signature made_id made)
