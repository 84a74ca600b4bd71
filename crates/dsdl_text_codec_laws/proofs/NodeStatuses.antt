-- NodeStatus.
use Rattle.std.proofs.Common.{◌≡◌, ℕ, List, [], ◌∷◌, Bool, refl, ◌∙◌, arith}
use Rattle.std.specs.Option.{option_map}
use Rattle.dsdl_codec.specs.NodeStatus.{node_status_of}
use Rattle.dsdl_codec.specs.Numbers.{node_status_numbers}
use Rattle.dsdl_text_codec_laws.specs.Fields.{node_status_fields}
use Rattle.dsdl_text_codec_laws.specs.Laws.{AreBytes, GiveNumbers}
use Rattle.dsdl_text.specs.Numbers.{◌>>=◌, bits_of, has_bit, numbers_of, read_part, whole}
use Rattle.dsdl_text_codec_laws.proofs.Pieces.{all_padded, all_too_long}
use Rattle.dsdl_text_codec_laws.proofs.Words.{half_word, high_2, low_3, middle_3, word}

-- the bits of the fields behind the first
abbrev pub status_pieces : ℕ → ℕ → ℕ → List (List Bool)
status_pieces s e f =
    (has_bit 128 s ∷ has_bit 64 s ∷ [])
    ∷ (has_bit 32 s ∷ has_bit 16 s ∷ has_bit 8 s ∷ [])
    ∷ (has_bit 4 s ∷ has_bit 2 s ∷ has_bit 1 s ∷ [])
    ∷ bits_of (e ∷ f ∷ [])
    ∷ []

node_status : (bytes : List ℕ) → AreBytes bytes
    → (read_part node_status_fields (bits_of bytes) >>= whole) ≡ option_map node_status_numbers (node_status_of bytes)
node_status [] fits = refl
node_status (a ∷ []) fits = refl
node_status (a ∷ b ∷ []) fits = refl
node_status (a ∷ b ∷ c ∷ []) fits = refl
node_status (a ∷ b ∷ c ∷ d ∷ []) fits = refl
node_status (a ∷ b ∷ c ∷ d ∷ s ∷ []) fits = refl
node_status (a ∷ b ∷ c ∷ d ∷ s ∷ e ∷ []) fits = refl
node_status (a ∷ b ∷ c ∷ d ∷ s ∷ e ∷ f ∷ []) fits =
    all_padded (bits_of (a ∷ b ∷ c ∷ d ∷ [])) (status_pieces s e f) [] (omega arith) (omega arith)
    ∙ (let one = word a b c d (fits 0) (fits 1) (fits 2) (fits 3) in
    let two = high_2 s (fits 4) in
    let three = middle_3 s (fits 4) in
    let four = low_3 s (fits 4) in
    let five = half_word e f (fits 5) (fits 6) in cc)
node_status (a ∷ b ∷ c ∷ d ∷ s ∷ e ∷ f ∷ g ∷ more) fits =
    all_too_long (bits_of (a ∷ b ∷ c ∷ d ∷ [])) (status_pieces s e f) (bits_of (g ∷ more)) (omega arith)

pub node_statuses : GiveNumbers node_status_fields node_status_numbers node_status_of
unfolding numbers_of
node_statuses = node_status
