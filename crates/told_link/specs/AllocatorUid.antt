-- The answer of an allocator to GetNodeInfo: its unique ID is UAVCAN-ALLOC-00 and its node ID. A member that is told
-- its list asks no node of the list. So a node that answers it so is an allocator that is not on the list.
--
-- A link sees single frames. Behind the CRC (2 bytes) stand the status (7), the software version (15), two bytes of the
-- hardware version, and the unique ID (16). So member 1 answers, with transfer ID 0:
--
--   frame      bytes before the tail     tail
--   1 of 9     22 b7 02 00 00 00 00      80, start
--   2 of 9     00 00 01 00 00 00 00      20, toggle
--   3 of 9     00 00 00 00 00 00 00      00
--   4 of 9     00 00 00 01 00  U  A      20, toggle
--   5 of 9      V  C  A  N  -  A  L      00
--   6 of 9      L  O  C  -  0  0 01      20, toggle
--   7 of 9     00  u  a  v  c  a  n      00
--   8 of 9      .  a  l  l  o  c  a      20, toggle
--   9 of 9      t  o  r                  40, end
--
-- The fifth frame tells it. Another node has a frame of these bytes where its answer has VCAN-AL from byte 12, 26, 40
-- and so on of its payload, in steps of 14: at 12 in the numbers of its software, at 26 in its unique ID, further
-- behind in its certificate or its name. A name has small letters, digits, '.', '-' and '_' alone (UAVCAN v0,
-- GetNodeInfo).
use Rattle.std.specs.Prelude.{ℕ, ◌&&◌, not, nat_eq, Bool, List, [], ◌∷◌, take, bytes_eq}
use Rattle.can_frame.specs.Cutting.{Piece, piece_from}
use Rattle.can_frame.specs.DataTypes.{get_node_info}
use Rattle.can_frame.specs.Kinds.{is_response}
use Rattle.can_frame.specs.declared.identifier.Ident.{Ident}
use Rattle.can_frame.specs.declared.tail.Tail.{Tail}
use Rattle.outside.specs.declared.received.RawFrame.{RawFrame}

-- VCAN-AL: what the fifth frame has of the unique ID
abbrev pub allocator_spelling : List ℕ
allocator_spelling = 86 ∷ 67 ∷ 65 ∷ 78 ∷ 45 ∷ 65 ∷ 76 ∷ []

-- the tail of the third, the fifth, the seventh frame and so on, but for the last
abbrev pub is_odd_and_inner : Tail → Bool
is_odd_and_inner tail = not tail.start && (not tail.end && not tail.toggle)

abbrev pub spells_allocator : Piece → Bool
spells_allocator piece = is_odd_and_inner piece.tail && bytes_eq piece.bytes allocator_spelling

-- a frame of an answer to GetNodeInfo of this member
abbrev pub is_info_to : ℕ → Ident → Bool
is_info_to me ident = is_response ident.kind && (nat_eq ident.number get_node_info.number && nat_eq ident.dest me)

-- a frame with these fields is an allocator's answer to this member
abbrev pub answers_as_allocator : ℕ → RawFrame → Ident → Bool
answers_as_allocator me raw ident = is_info_to me ident && spells_allocator (piece_from (take raw.len raw.bytes))
