-- What is known of cuttings: the clauses of the laws of `can_frame`, which a proof is handed by a call of the law.
use Rattle.std.specs.Prelude.{◌≡◌, ℕ, suc, ◌<◌, ◌≤◌, ◌++◌, List, length, drop}
use Rattle.can_frame.specs.Cutting.{Piece, bytes_cut, crc_bytes, frame_lengths, frames_before_last, frames_of, joined, payload_of}

-- of `frames_carry_what_is_cut`
abbrev pub Carried : Type 0
Carried = (signature id : ℕ) (payload : List ℕ) → joined (frames_of signature id payload) ≡ bytes_cut signature payload

abbrev pub Short : Type 0
Short = (signature : ℕ) (payload : List ℕ) → length payload ≤ 7 → bytes_cut signature payload ≡ payload

abbrev pub Long : Type 0
Long = (signature : ℕ) (payload : List ℕ) → 7 < length payload → bytes_cut signature payload ≡ crc_bytes signature payload ++ payload

abbrev pub OneFrame : Type 0
OneFrame = (pieces : List Piece) → length pieces ≤ 1 → payload_of pieces ≡ joined pieces

abbrev pub SeveralFrames : Type 0
SeveralFrames = (pieces : List Piece) → 1 < length pieces → payload_of pieces ≡ drop 2 (joined pieces)

-- of `frames_in_order`
abbrev pub Count : Type 0
Count = (signature id : ℕ) (payload : List ℕ) → length (frames_of signature id payload) ≡ suc (frames_before_last signature payload)

-- of `frames_give_the_payload`
abbrev pub Uncut : Type 0
Uncut = (signature id : ℕ) (payload : List ℕ) → payload_of (frames_of signature id payload) ≡ payload

-- of `lengths_of_cuttings`
abbrev pub SameFrames : Type 0
SameFrames = (signature id : ℕ) (a b : List ℕ) → length a ≡ length b → frame_lengths (frames_of signature id a) ≡ frame_lengths (frames_of signature id b)

abbrev pub SamePayload : Type 0
SamePayload = (a b : List Piece) → frame_lengths a ≡ frame_lengths b → length (payload_of a) ≡ length (payload_of b)

-- what is known of the bytes that frames carry
abbrev pub CarryWhatIsCut : Type 0
CarryWhatIsCut = record { carried : Carried; short : Short; long : Long; one_frame : OneFrame; several_frames : SeveralFrames }
