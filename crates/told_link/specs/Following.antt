-- Whether a leader is followed, and which of its frames wait for that. One that leads with an old log, or on its own
-- part of a bus, has no answers of a majority: the pairs of its log may be no longer those of its cluster.
--
--   list       answered at         now      followed
--   1          -                   any      yes: member 1 is more than half of its list
--   1, 2, 3    -                   any      no: 1 of 3
--   1, 2, 3    2 at 10,000         15,000   yes: 2 of 3
--   1, 2, 3    2 at 10,000         15,001   no
--   1 to 5     2 and 3 at 10,000   12,000   yes: 3 of 5
--   1, 2       -                   any      no: 1 of 2
use Rattle.std.specs.Prelude.{ℕ, ◌+◌, ◌*◌, ◌&&◌, ◌||◌, ◌≤◌, ⊤, not, nat_eq, nat_le, nat_lt, Bool, true, false, List, [], ◌∷◌, take, length, count_by, slice_index_or, slice_set, Option, Some, None, if◌then◌else◌}
use Rattle.can_frame.specs.DataTypes.{allocation}
use Rattle.can_frame.specs.Tail.{tail_of}
use Rattle.can_frame.specs.declared.identifier.Ident.{Ident}
use Rattle.can_frame.specs.declared.identifier.Kind.{Kind}
use Rattle.can_frame.specs.declared.identifier.Kind.TheVariants.{Message, Anonymous, Request, Response}
use Rattle.can_frame.specs.declared.tail.Tail.{Tail}
use Rattle.dsdl_codec.specs.AppendAnswer.{append_answer_of}
use Rattle.dsdl_codec.specs.declared.append_answer.AppendAnswer.{AppendAnswer}
use Rattle.outside.specs.declared.received.RawFrame.{RawFrame}
use Rattle.outside.specs.declared.received.Received.{Received}
use Rattle.outside.specs.declared.received.Received.TheVariants.{Frame, Junk, Nothing}
use Rattle.told_link.specs.Voice.{fields_of}

-- ---- a frame that gives a node ID: the first frame of an Allocation that has one. With its unique ID it takes several
-- frames, and without the first nobody takes the others

abbrev pub is_message : Kind → Bool
is_message Message = true
is_message Anonymous = false
is_message Request = false
is_message Response = false

abbrev pub is_allocation : Option Ident → Bool
is_allocation None = false
is_allocation (Some ident) = is_message ident.kind && nat_eq ident.number allocation.number

abbrev pub byte_of : RawFrame → ℕ → ℕ
byte_of raw place = slice_index_or raw.bytes place 0

abbrev pub is_first_of_several : Tail → Bool
is_first_of_several tail = tail.start && not tail.end

-- behind the two bytes of the CRC stands the node ID, above one bit; the last byte is the tail
abbrev pub gives_node_id : RawFrame → Bool
gives_node_id raw = is_allocation (fields_of raw)
    && (nat_eq raw.len 8 && (is_first_of_several (tail_of (byte_of raw 7)) && nat_le 2 (byte_of raw 2)))

-- ---- an answer that its sender's log agrees as far as the call goes; it takes one frame

abbrev pub is_alone : Tail → Bool
is_alone tail = tail.start && tail.end

abbrev pub says_success : Option AppendAnswer → Bool
says_success None = false
says_success (Some answer) = answer.success

abbrev pub agrees : RawFrame → Bool
agrees raw = nat_eq raw.len 6 && (is_alone (tail_of (byte_of raw 5)) && says_success (append_answer_of (take 5 raw.bytes)))

abbrev pub item_agrees : Received → Bool
item_agrees (Frame raw) = agrees raw
item_agrees Junk = false
item_agrees Nothing = false

-- ---- who follows

-- A member follows for so long, in milliseconds, behind the last such answer of it that came. A leader calls each member
-- 400 ms after the last call that was answered, and 1,000 ms after one that was not: so three lost calls in a row are
-- not enough to lose it. A member that is not called stands for election after 3,000 ms or more: so from then on
-- there may be another leader.
abbrev pub following : ℕ
following = 5000

-- the reading at the last such answer of each node that was handed on, by its node ID
abbrev pub answered_of : List (Option ℕ) → ℕ → Option ℕ
answered_of all node = slice_index_or all node None

-- of a node such an answer is handed on at this reading, or is not
abbrev pub noted : ℕ → ℕ → Bool → List (Option ℕ) → List (Option ℕ)
noted node now is_handed_on all = if is_handed_on then slice_set all node (Some now) else all

abbrev pub answered_lately : ℕ → Option ℕ → Bool
answered_lately now None = false
answered_lately now (Some last) = nat_le now (last + following)

-- a leader follows itself
abbrev pub follows : ℕ → ℕ → (ℕ → Option ℕ) → ℕ → Bool
follows now me answered id = nat_eq id me || answered_lately now (answered id)

-- more than half of the list follow
abbrev pub is_followed : ℕ → ℕ → List ℕ → (ℕ → Option ℕ) → Bool
is_followed now me ids answered = nat_lt (length ids) (2 * count_by (follows now me answered) ids)

-- ---- who follows, by all answers that agreed and were handed on: each of a node at a reading, the newest first

pub record AnswerAt : Type 0 where
  pub node : ℕ
  pub at : ℕ

abbrev pub answered_by : List AnswerAt → ℕ → Option ℕ
answered_by [] id = None
answered_by (answer ∷ before) id = if nat_eq answer.node id then Some answer.at else answered_by before id

-- one of these answers is of this node, and came lately
abbrev pub has_answered : ℕ → List AnswerAt → ℕ → Bool
has_answered now [] id = false
has_answered now (answer ∷ before) id =
    (nat_eq answer.node id && nat_le now (answer.at + following)) || has_answered now before id

-- these answers came one after the other, the last of them at this reading or before
abbrev pub ComeBefore : ℕ → List AnswerAt → Type 0
ComeBefore now [] = ⊤
ComeBefore now (answer ∷ before) = (answer.at ≤ now) × ComeBefore answer.at before
