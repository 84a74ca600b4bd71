-- Frames of a transfer that goes on.
use Rattle.std.specs.Prelude.{⊤, ◌≡◌, ℕ, suc, false, List, [], ◌∷◌, length}
use Rattle.can_frame.specs.Cutting.{Piece, tail_at}

-- frames of a transfer that goes on, from a place on
abbrev pub IsPart : ℕ → ℕ → List Piece → Type 0
IsPart id place [] = ⊤
IsPart id place (piece ∷ pieces) =
    (length piece.bytes ≡ 7) × (piece.tail ≡ tail_at id place false) × IsPart id (suc place) pieces
