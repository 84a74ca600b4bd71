-- A frame as a piece of a transfer.
use Rattle.can_frame.specs.declared.frame.Frame.{Frame}
use Rattle.can_frame.specs.Cutting.{Piece, piece_from}

-- the last byte of a frame is its tail
abbrev pub piece_of : Frame → Piece
piece_of frame = piece_from frame.bytes.items
