-- Which terms a member takes from calls and answers: a ceiling stands 1,000,000 above the first term that the member
-- sends. Where a higher term comes, the ceiling rises by 1,000,000, once in ten minutes. So terms cannot be used up in a
-- hurry; and whoever is far ahead, and goes on to call, is heard in the end.
use Rattle.std.specs.Prelude.{ℕ, ◌+◌, ◌≤◌, ◌&&◌, nat_le, nat_lt, Bool, List, [], ◌∷◌, Option, Some, None, ⊤, take, if◌then◌else◌}
use Rattle.std.specs.Int.{from_le_bytes, w32}
use Rattle.can_frame.specs.Cutting.{Piece, piece_from}
use Rattle.can_frame.specs.Kinds.{is_service}
use Rattle.can_frame.specs.declared.identifier.Ident.{Ident}
use Rattle.alloc_spec.specs.Accepted.{is_of_members}
use Rattle.outside.specs.declared.received.RawFrame.{RawFrame}
use Rattle.outside.specs.declared.received.Received.{Received}
use Rattle.outside.specs.declared.received.Received.TheVariants.{Frame, Junk, Nothing}
use Rattle.told_link.specs.Voice.{fields_of, voice_of}
use Rattle.told_link.specs.declared.terms.Ceiling.{Ceiling}
use Rattle.told_link.specs.declared.voice.Voice.{Voice}
use Rattle.told_link.specs.declared.voice.Voice.TheVariants.{Stranger, Answer, Member, Other}

-- ---- the term of a frame

-- a call or an answer among members
abbrev pub has_term : Ident → Bool
has_term ident = is_service ident.kind && is_of_members ident.kind ident.number

-- the number of the first four bytes, the low one first
abbrev pub first_number : List ℕ → Option ℕ
first_number (a ∷ b ∷ c ∷ d ∷ rest) = Some (from_le_bytes w32 (a ∷ b ∷ c ∷ d ∷ []))
first_number _ = None

-- the same behind the two bytes of a CRC
abbrev pub number_behind_crc : List ℕ → Option ℕ
number_behind_crc (low ∷ high ∷ rest) = first_number rest
number_behind_crc _ = None

-- A payload begins with its term. It begins with the first frame of a transfer, and stands there behind the CRC where
-- other frames follow
abbrev pub term_of : Piece → Option ℕ
term_of piece = if piece.tail.start
    then (if piece.tail.end then first_number piece.bytes else number_behind_crc piece.bytes) else None

abbrev pub term_by : RawFrame → Option Ident → Option ℕ
term_by raw None = None
term_by raw (Some ident) = if has_term ident then term_of (piece_from (take raw.len raw.bytes)) else None

-- the term of the call or the answer that begins with this frame
abbrev pub term_in : RawFrame → Option ℕ
term_in raw = term_by raw (fields_of raw)

-- a call or an answer of another member of the list has a term
abbrev pub term_by_voice : Voice → RawFrame → Option ℕ
term_by_voice Stranger raw = None
term_by_voice (Answer node) raw = term_in raw
term_by_voice (Member node) raw = term_in raw
term_by_voice Other raw = None

-- the term that an item of a link has, to this member, which is told this list
abbrev pub term_to : ℕ → List ℕ → Received → Option ℕ
term_to me ids (Frame raw) = term_by_voice (voice_of me ids raw) raw
term_to me ids Junk = None
term_to me ids Nothing = None

-- the first term that a member sends, which is told this list, where this frame has it. One that is told no list has no
-- ceiling
abbrev pub first_term : List ℕ → Option Ceiling → RawFrame → Option ℕ
first_term [] ceiling raw = None
first_term (first ∷ rest) (Some ceiling) raw = None
first_term (first ∷ rest) None raw = term_in raw

-- ---- the ceiling

-- it stands so far above the first term of the member, and rises by so much
abbrev pub most_terms : ℕ
most_terms = 1000000

-- and once in so long, in milliseconds
abbrev pub between_rises : ℕ
between_rises = 600000

-- the member sends its first term
abbrev pub ceiling_above : ℕ → ℕ → Ceiling
ceiling_above now term = record { term = term + most_terms; since = now }

-- the highest term that it takes
abbrev pub highest_taken : Option Ceiling → ℕ
highest_taken None = most_terms
highest_taken (Some ceiling) = ceiling.term

-- a term comes: it is too high, and the last rise was so long ago
abbrev pub is_to_rise : ℕ → ℕ → Ceiling → Bool
is_to_rise now term ceiling = nat_lt ceiling.term term && nat_le (ceiling.since + between_rises) now

abbrev pub raised_by : ℕ → ℕ → Ceiling → Ceiling
raised_by now term ceiling = if is_to_rise now term ceiling then ceiling_above now ceiling.term else ceiling

-- the ceiling where a term comes. Before the member sent one there is none to rise
abbrev pub ceiling_for : ℕ → ℕ → Option Ceiling → Option Ceiling
ceiling_for now term None = None
ceiling_for now term (Some ceiling) = Some (raised_by now term ceiling)

-- it is taken where it is not above the ceiling
abbrev pub is_below_ceiling : ℕ → Option Ceiling → Bool
is_below_ceiling term ceiling = nat_le term (highest_taken ceiling)

-- ---- the same by all that came, the newest first

-- a call or an answer: the reading at which it came, and its term
pub record Coming : Type 0 where
  pub now : ℕ
  pub term : ℕ

abbrev pub ceiling_by : Ceiling → List Coming → Ceiling
ceiling_by first [] = first
ceiling_by first (coming ∷ before) = raised_by coming.now coming.term (ceiling_by first before)

-- what comes now behind those is taken
abbrev pub takes_term : Ceiling → List Coming → Coming → Bool
takes_term first before coming = is_below_ceiling coming.term (Some (ceiling_by first (coming ∷ before)))

-- each of these came at that reading or before
abbrev pub ComeUntil : ℕ → List Coming → Type 0
ComeUntil last [] = ⊤
ComeUntil last (coming ∷ before) = (coming.now ≤ last) × ComeUntil last before

-- a call of whoever calls on comes once in so long at least, in milliseconds
abbrev pub between_calls : ℕ
between_calls = 60000

-- the reading at which this term, or a higher one, came last; or that at which the ceiling was set
abbrev pub last_time_of : Ceiling → ℕ → List Coming → ℕ
last_time_of first term [] = first.since
last_time_of first term (coming ∷ before) = if nat_le term coming.term then coming.now else last_time_of first term before

-- among all that comes this term, or a higher one, comes once in so long at least: so does whoever stands for election
-- again and again, each time in a higher term
abbrev pub CallsOn : Ceiling → ℕ → List Coming → Type 0
CallsOn first term [] = ⊤
CallsOn first term (coming ∷ before) = (coming.now ≤ last_time_of first term before + between_calls)
    × CallsOn first term before
