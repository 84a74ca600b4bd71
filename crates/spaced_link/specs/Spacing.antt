-- Which Allocations of a member go out, by the readings at which earlier ones with their transfer IDs did. Transfer IDs
-- count to 32, so with the next Allocation but 31 one comes round. A receiver keeps a transfer that is begun for 2 s,
-- and a frame may be on its way for 3.5 s: frames of two Allocations with one transfer ID make one transfer where the
-- second goes out so soon and the frames between are lost.
--
--   at       transfer ID   frame    goes out   since
--    1,000   5             first    yes        none did
--    1,001   5             behind   yes        its first did
--    1,002   5             last     yes
--    1,003   5             last     no         the Allocation that went out is over
--    1,010   6             alone    yes        none did
--    8,999   5             first    no         7,999 ms have passed
--    9,000   5             last     no         its first did not
--    9,001   5             first    yes        8,001 ms have passed: what did not go out at 8,999 does not count
--    9,002   5             last     yes
--    9,010   6             alone    yes        8,000 ms have passed
--   17,000   5             first    no         it went out at 9,001
use Rattle.std.specs.Prelude.{ℕ, ◌+◌, ◌-◌, ◌≤◌, ◌≡◌, ◌&&◌, ⊤, not, nat_eq, nat_le, Bool, true, false, List, [], ◌∷◌, ◌++◌, slice_index_or, slice_set, Option, Some, None, if◌then◌else◌}
use Rattle.can_frame.specs.Tail.{tail_of}
use Rattle.can_frame.specs.declared.tail.Tail.{Tail}
use Rattle.outside.specs.declared.received.RawFrame.{RawFrame}
use Rattle.told_link.specs.Following.{byte_of, is_allocation}
use Rattle.told_link.specs.Voice.{fields_of}

-- With one transfer ID an Allocation goes out once in so long at the most, in milliseconds. Two that are made 6 s apart
-- are not joined: a frame is on its way for 3.5 s at the most, and a transfer that is begun is kept for 2 s by a clock
-- that may be half a second wrong. An Allocation waits for a second at the most, by a clock that may be half a second slow
-- just then; and the time between two is counted by a clock that may be half a second fast.
abbrev pub between_uses : ℕ
between_uses = 8000

-- the tail of a frame of an Allocation, where its member is told the list of its cluster
abbrev pub allocation_tail : Bool → RawFrame → Option Tail
allocation_tail is_told raw = if is_told && is_allocation (fields_of raw)
    then Some (tail_of (byte_of raw (raw.len - 1))) else None

-- ---- the first frame of an Allocation

-- an Allocation with some transfer ID went out last at this reading, or none did
abbrev pub has_rested : ℕ → Option ℕ → Bool
has_rested now None = true
has_rested now (Some last) = nat_le (last + between_uses) now

-- of all transfer IDs, the reading at which an Allocation with each went out last
abbrev pub last_out : List (Option ℕ) → ℕ → Option ℕ
last_out all id = slice_index_or all id None

-- the first frame of an Allocation with this transfer ID goes out at this reading, or does not
abbrev pub with_use : ℕ → ℕ → Bool → List (Option ℕ) → List (Option ℕ)
with_use id now goes all = if goes then slice_set all id (Some now) else all

-- ---- the frames behind it

-- one is let out where an Allocation with its transfer ID is on its way out
abbrev pub is_under_way : Option ℕ → ℕ → Bool
is_under_way None id = false
is_under_way (Some other) id = nat_eq other id

-- what is on its way out behind a frame: the Allocation of that, unless it did not go out, or is over
abbrev pub under_way_behind : Tail → Bool → Option ℕ
under_way_behind tail goes = if goes && not tail.end then Some tail.id else None

-- ---- the same by all frames of Allocations that were handed in, the newest first

-- one was handed in, at this reading
pub record OwnFrame : Type 0 where
  pub now : ℕ
  pub tail : Tail

-- when an Allocation with each transfer ID went out last, and which one is on its way out
pub record Uses : Type 0 where
  pub last : ℕ → Option ℕ
  pub under_way : Option ℕ

abbrev pub no_uses : Uses
no_uses = record { last = λ id. None; under_way = None }

-- a frame goes out
abbrev pub goes_by : Uses → OwnFrame → Bool
goes_by uses frame = if frame.tail.start then has_rested frame.now (uses.last frame.tail.id)
    else is_under_way uses.under_way frame.tail.id

-- a frame begins an Allocation with this transfer ID, and goes out
abbrev pub uses_id : Uses → OwnFrame → ℕ → Bool
uses_id uses frame id = frame.tail.start && (goes_by uses frame && nat_eq frame.tail.id id)

abbrev pub uses_behind : Uses → OwnFrame → Uses
uses_behind uses frame = record {
  last = λ id. if uses_id uses frame id then Some frame.now else uses.last id;
  under_way = under_way_behind frame.tail (goes_by uses frame);
}

abbrev pub uses_by : List OwnFrame → Uses
uses_by [] = no_uses
uses_by (frame ∷ before) = uses_behind (uses_by before) frame

-- a frame goes out that is handed in behind these
abbrev pub goes_out : List OwnFrame → OwnFrame → Bool
goes_out before frame = goes_by (uses_by before) frame

-- the frame begins an Allocation with this transfer ID
abbrev pub IsFirstOf : ℕ → OwnFrame → Type 0
IsFirstOf id frame = (frame.tail.start ≡ true) × (frame.tail.id ≡ id)

-- these are frames in the midst of an Allocation with this transfer ID
abbrev pub AreInner : ℕ → List OwnFrame → Type 0
AreInner id [] = ⊤
AreInner id (frame ∷ before) = (frame.tail.start ≡ false) × (frame.tail.end ≡ false) × (frame.tail.id ≡ id)
    × AreInner id before

-- of these each that began an Allocation with this transfer ID, and went out, did so long enough before this reading
abbrev pub WentOutBefore : ℕ → ℕ → List OwnFrame → Type 0
WentOutBefore id now [] = ⊤
WentOutBefore id now (frame ∷ before) =
    (IsFirstOf id frame → goes_out before frame ≡ true → frame.now + between_uses ≤ now) × WentOutBefore id now before

-- behind these a frame goes on with an Allocation: its first frame went out, and no other one came between
pub record GoesOnWith (id : ℕ) (before : List OwnFrame) : Type 0 where
  pub inner : List OwnFrame
  pub first : OwnFrame
  pub earlier : List OwnFrame
  pub split : before ≡ inner ++ (first ∷ earlier)
  pub begins : IsFirstOf id first
  pub more : first.tail.end ≡ false
  pub went_out : goes_out earlier first ≡ true
  pub between : AreInner id inner
