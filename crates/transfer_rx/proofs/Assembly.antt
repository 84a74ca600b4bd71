-- When the last frame makes a transfer whole.
use Rattle.std.proofs.Common.{◌≡◌, ◌≢◌, ℕ, suc, ◌+◌, ◌-◌, ◌*◌, ◌/◌, ◌%◌, ◌<◌, ◌≤◌, true, false, List, [], ◌∷◌, ◌++◌, length, get_or, take, drop, refl, sym, ◌∙◌, ap, subst, arith, append_assoc, ◌⊎◌, inl, inr}
use Rattle.std.proofs.Math.Seq.{take-append_seam, drop-append_seam}
use Rattle.std.proofs.lemmas.Bool.{false_from_ne_true}
use Rattle.std.specs.Cmp.Lexicographic.{pointwise}
use Rattle.std.proofs.lemmas.Bool.Decides.{eqb_tells}
use Rattle.can_frame.specs.TransferCrc.{crc_of, transfer_crc}
use Rattle.can_frame.specs.Cutting.{Piece, bytes_cut, crc_bytes, cut, joined, payload_of, tail_at}
use Rattle.can_frame.specs.declared.step.Why.TheVariants.{Crc}
use Rattle.transfer_rx.proofs.Cuts.{CarryWhatIsCut}
use Rattle.transfer_rx.specs.Outcome.{Delivers, Spoils, assembled, cut_again, same_piece}
use Rattle.transfer_rx.specs.Crcs.{CarriesCrcs}
use Rattle.transfer_rx.specs.Parts.{IsPart}
use Rattle.transfer_rx.proofs.Crcs.{more_crc}
use Rattle.transfer_rx.proofs.Lengths.{frames_as, joined-push, length-joined, length-push, total}
use Rattle.transfer_rx.proofs.Pointwise.{own_pieces, same_joined}

-- frames in order are the cutting of the bytes that they carry
pub in_order : (id place : ℕ) (taken : List Piece) (piece : Piece) → IsPart id place taken →
    piece.tail ≡ tail_at id (place + length taken) true →
    taken ++ piece ∷ [] ≡ cut id place (length taken) (joined taken ++ piece.bytes)
in_order id place [] piece p t =
    let e : place + 0 ≡ place = omega arith in
    let t' : piece.tail ≡ tail_at id place true = rw e at t in
    λ i. (record { bytes = piece.bytes; tail = t' i }) ∷ []
in_order id place (first ∷ taken) piece p t =
    let e : place + suc (length taken) ≡ suc place + length taken = omega arith in
    let r : taken ++ piece ∷ [] ≡ cut id (suc place) (length taken) (joined taken ++ piece.bytes) =
    in_order id (suc place) taken piece p.2 (rw e at t) in
    let rest : List ℕ = joined taken ++ piece.bytes in
    let f : take 7 (first.bytes ++ rest) ≡ first.bytes = subst (λ n. take n (first.bytes ++ rest) ≡ first.bytes) p.0 (take-append_seam first.bytes rest) in
    let d : drop 7 (first.bytes ++ rest) ≡ rest = subst (λ n. drop n (first.bytes ++ rest) ≡ rest) p.0 (drop-append_seam first.bytes rest) in
    let whole : (first.bytes ++ joined taken) ++ piece.bytes ≡ first.bytes ++ rest = append_assoc first.bytes (joined taken) piece.bytes in
    rw (whole, f, d) (λ i. (record { bytes = first.bytes; tail = p.1 i }) ∷ r i)

matches : (signature id : ℕ) (pieces : List Piece) → pieces ≡ cut_again signature id pieces →
    Delivers (payload_of pieces) ≡ assembled signature id pieces
matches signature id pieces same =
    let t : pointwise same_piece pieces (cut_again signature id pieces) ≡ true =
    subst (λ x. pointwise same_piece pieces x ≡ true) same (own_pieces pieces) in
    rw t refl

module _ (law : CarryWhatIsCut) (signature id : ℕ) (taken : List Piece) (piece : Piece) (part : IsPart id 0 taken) (short : length piece.bytes ≤ 7)
    (tail : piece.tail ≡ tail_at id (length taken) true) where
  ordered : taken ++ piece ∷ [] ≡ cut id 0 (length taken) (joined (taken ++ piece ∷ []))
  ordered =
      let e : 0 + length taken ≡ length taken = omega arith in
      let t : piece.tail ≡ tail_at id (0 + length taken) true = rw e tail in
      in_order id 0 taken piece part t ∙ ap (cut id 0 (length taken)) (sym (joined-push taken piece))

  recut : bytes_cut signature (payload_of (taken ++ piece ∷ [])) ≡ joined (taken ++ piece ∷ []) →
      (length (bytes_cut signature (payload_of (taken ++ piece ∷ []))) - 1) / 7 ≡ length taken →
      taken ++ piece ∷ [] ≡ cut_again signature id (taken ++ piece ∷ [])
  recut b n =
      ordered ∙ ap (cut id 0 (length taken)) (sym b) ∙ sym (frames_as signature id (length taken) (payload_of (taken ++ piece ∷ [])) n)

  -- a frame that stands alone is a whole transfer
  pub single : length taken ≡ 0 → Delivers (payload_of (taken ++ piece ∷ [])) ≡ assembled signature id (taken ++ piece ∷ [])
  single z =
      let n : length (taken ++ piece ∷ []) ≡ length taken + 1 = length-push taken piece in
      let j : length (joined (taken ++ piece ∷ [])) ≡ 7 * length taken + length piece.bytes = total id 0 taken piece part in
      let o : payload_of (taken ++ piece ∷ []) ≡ joined (taken ++ piece ∷ []) = law.one_frame _ (omega arith) in
      let l : length (payload_of (taken ++ piece ∷ [])) ≡ length piece.bytes = ap length o ∙ omega arith in
      let b : bytes_cut signature (payload_of (taken ++ piece ∷ [])) ≡ payload_of (taken ++ piece ∷ []) = law.short signature _ (omega arith) in
      let lb : length (bytes_cut signature (payload_of (taken ++ piece ∷ []))) ≡ length piece.bytes = ap length b ∙ l in
      matches signature id (taken ++ piece ∷ []) (recut (b ∙ o) (omega arith))

  module _ (payload : List ℕ) (a b : ℕ) (some : 0 < length taken) (some_bytes : 0 < length piece.bytes) (long : 7 < length payload)
      (carried : joined (taken ++ piece ∷ []) ≡ a ∷ b ∷ payload) where
    is_payload : payload_of (taken ++ piece ∷ []) ≡ payload
    is_payload =
        let n : length (taken ++ piece ∷ []) ≡ length taken + 1 = length-push taken piece in
        law.several_frames (taken ++ piece ∷ []) (omega arith) ∙ ap (drop 2) carried

    cut_long : bytes_cut signature (payload_of (taken ++ piece ∷ [])) ≡ crc_bytes signature payload ++ payload
    cut_long = ap (bytes_cut signature) is_payload ∙ law.long signature payload long

    -- with the right CRC several frames are a whole transfer
    pub whole : a ≡ transfer_crc signature payload % 256 → b ≡ transfer_crc signature payload / 256 →
        Delivers (payload_of (taken ++ piece ∷ [])) ≡ assembled signature id (taken ++ piece ∷ [])
    whole x y =
        let c : crc_bytes signature payload ++ payload ≡ a ∷ b ∷ payload = sym (λ i. x i ∷ y i ∷ payload) in
        let j : length (joined (taken ++ piece ∷ [])) ≡ 7 * length taken + length piece.bytes = total id 0 taken piece part in
        let bc : bytes_cut signature (payload_of (taken ++ piece ∷ [])) ≡ joined (taken ++ piece ∷ []) = cut_long ∙ c ∙ sym carried in
        let lb : length (bytes_cut signature (payload_of (taken ++ piece ∷ []))) ≡ 7 * length taken + length piece.bytes = ap length bc ∙ j in
        matches signature id (taken ++ piece ∷ []) (recut bc (omega arith))

    -- with another CRC they are none
    pub damaged : (a ≢ transfer_crc signature payload % 256) ⊎ (b ≢ transfer_crc signature payload / 256) →
        Spoils Crc ≡ assembled signature id (taken ++ piece ∷ [])
    damaged differs =
        let f : pointwise same_piece (taken ++ piece ∷ []) (cut_again signature id (taken ++ piece ∷ [])) ≡ false =
        false_from_ne_true _ (λ t.
        let e : a ∷ b ∷ payload ≡ crc_bytes signature payload ++ payload =
        sym carried ∙ same_joined (taken ++ piece ∷ []) (cut_again signature id (taken ++ piece ∷ [])) t
        ∙ law.carried signature id (payload_of (taken ++ piece ∷ [])) ∙ cut_long in
        elim differs [ inl x ↦ x (ap (λ l. get_or l 0 0) e) | inr y ↦ y (ap (λ l. get_or l 1 0) e) ]) in
        rw f refl

front : (bytes : List ℕ) → 2 ≤ length bytes → bytes ≡ get_or bytes 0 0 ∷ get_or bytes 1 0 ∷ drop 2 bytes
front [] two = absurd (omega arith)
front (x ∷ []) two = absurd (omega arith)
front (x ∷ y ∷ bytes) two = refl

-- the CRC and the payload, in what was taken and the last frame
carried : (pieces : List Piece) (piece : Piece) → 2 ≤ length (joined pieces) →
    joined (pieces ++ piece ∷ []) ≡ get_or (joined pieces) 0 0 ∷ get_or (joined pieces) 1 0 ∷ drop 2 (joined pieces) ++ piece.bytes
carried pieces piece two = joined-push pieces piece ∙ ap (λ l. l ++ piece.bytes) (front (joined pieces) two)

-- ten bytes or more in several frames carry a payload of more than seven
pub long_payload : (id : ℕ) (pieces : List Piece) (piece : Piece) (a b : ℕ) (payload : List ℕ) → IsPart id 0 pieces →
    10 ≤ 7 * length pieces + length piece.bytes → joined (pieces ++ piece ∷ []) ≡ a ∷ b ∷ payload → 7 < length payload
long_payload id pieces piece a b payload part low e =
    let n : 7 * length pieces + length piece.bytes ≡ suc (suc (length payload)) = sym (total id 0 pieces piece part) ∙ ap length e in
    omega arith

-- two bytes that are one CRC are those of another one only where both are the same
other_crc : (a b sent crc : ℕ) → a ≡ sent % 256 → b ≡ sent / 256 → crc ≢ sent → (a ≢ crc % 256) ⊎ (b ≢ crc / 256)
other_crc a b sent crc low high ne = elim (eqb_tells a (crc % 256)) [
  | inl same ↦ inr (λ e. let eq = same.1 in ne (omega arith))
  | inr other ↦ inl other.1
]

-- a last frame behind others, with the CRCs that were kept of them
module _ (law : CarryWhatIsCut) (signature id : ℕ) (pieces : List Piece) (piece : Piece) (part : IsPart id 0 pieces) (count : ℕ) (last : List ℕ)
    (crc sent result : ℕ) (counted : length pieces ≡ count) (same : piece.bytes ≡ last) (tail : piece.tail ≡ tail_at id (length pieces) true) (some : 0 < count)
    (short : length last ≤ 7) (some_bytes : 0 < length last) (low : 10 ≤ 7 * count + length last) (known : CarriesCrcs signature crc sent (joined pieces))
    (more : (all : List ℕ) → crc ≡ crc_of all → result ≡ crc_of (all ++ last)) where
  abbrev payload : List ℕ
  payload = drop 2 (joined pieces) ++ piece.bytes

  size : length piece.bytes ≡ length last
  size = ap length same

  two : 2 ≤ length (joined pieces)
  two = let n = length-joined id 0 pieces part in omega arith

  bears : joined (pieces ++ piece ∷ []) ≡ get_or (joined pieces) 0 0 ∷ get_or (joined pieces) 1 0 ∷ payload
  bears = carried pieces piece two

  long : 7 < length payload
  long =
      let s : length piece.bytes ≡ length last = size in
      long_payload id pieces piece (get_or (joined pieces) 0 0) (get_or (joined pieces) 1 0) payload part (omega arith) bears

  ends_with : result ≡ transfer_crc signature payload
  ends_with = more_crc signature crc result (drop 2 (joined pieces)) last payload more known.behind (ap (λ l. drop 2 (joined pieces) ++ l) same)

  -- the CRC that was sent is that of the payload: the transfer is whole
  pub several_whole : result ≡ sent → Delivers (payload_of (pieces ++ piece ∷ [])) ≡ assembled signature id (pieces ++ piece ∷ [])
  several_whole e =
      let s : length piece.bytes ≡ length last = size in
      let is : sent ≡ transfer_crc signature payload = sym e ∙ ends_with in
      whole law signature id pieces piece part (omega arith) tail payload (get_or (joined pieces) 0 0) (get_or (joined pieces) 1 0) (omega arith) (omega arith) long bears
      (known.sent.low ∙ ap (λ x. x % 256) is) (known.sent.high ∙ ap (λ x. x / 256) is)

  -- it is another one: the CRC is the cause
  pub several_damaged : result ≢ sent → Spoils Crc ≡ assembled signature id (pieces ++ piece ∷ [])
  several_damaged ne =
      let s : length piece.bytes ≡ length last = size in
      damaged law signature id pieces piece part (omega arith) tail payload (get_or (joined pieces) 0 0) (get_or (joined pieces) 1 0) (omega arith) (omega arith) long bears
      (other_crc (get_or (joined pieces) 0 0) (get_or (joined pieces) 1 0) sent (transfer_crc signature payload) known.sent.low known.sent.high (λ e. ne (ends_with ∙ e)))
