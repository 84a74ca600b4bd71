-- Whose a frame is, to a member that is told the list of its cluster. The identifier says it; of a frame of an
-- allocator's answer to GetNodeInfo the bytes do (AllocatorUid.antt).
use Rattle.std.specs.Prelude.{ℕ, ◌&&◌, ◌||◌, ◌^◌, nat_eq, nat_le, nat_lt, Bool, List, [], ◌∷◌, Option, Some, None, if◌then◌else◌}
use Rattle.can_frame.specs.DataTypes.{append_entries}
use Rattle.can_frame.specs.Identifier.{identifier_of}
use Rattle.can_frame.specs.Kinds.{is_response}
use Rattle.can_frame.specs.declared.identifier.Ident.{Ident}
use Rattle.can_frame.specs.declared.identifier.Kind.{Kind}
use Rattle.can_frame.specs.declared.identifier.Kind.TheVariants.{Anonymous}
use Rattle.alloc_spec.specs.Accepted.{is_of_members}
use Rattle.cluster_discovery.specs.Members.{is_on_list}
use Rattle.outside.specs.declared.received.RawFrame.{RawFrame}
use Rattle.outside.specs.declared.received.Received.{Received}
use Rattle.outside.specs.declared.received.Received.TheVariants.{Frame, Junk, Nothing}
use Rattle.told_link.specs.AllocatorUid.{answers_as_allocator}
use Rattle.told_link.specs.declared.voice.Voice.{Voice}
use Rattle.told_link.specs.declared.voice.Voice.TheVariants.{Stranger, Answer, Member, Other}

-- a frame of UAVCAN v0 has an identifier of 29 bits, and 1 to 8 data bytes
abbrev pub is_of_uavcan : RawFrame → Bool
is_of_uavcan raw = nat_lt raw.id (2 ^ 29) && (nat_lt 0 raw.len && nat_le raw.len 8)

-- the fields of its identifier, where it has any
abbrev pub fields_of : RawFrame → Option Ident
fields_of raw = if is_of_uavcan raw then identifier_of raw.id else None

-- the answer to a call of AppendEntries of this member
abbrev pub is_answer_to : ℕ → Ident → Bool
is_answer_to me ident = is_response ident.kind && (nat_eq ident.number append_entries.number && nat_eq ident.dest me)

-- of a node on the list
abbrev pub voice_of_listed : ℕ → Ident → Voice
voice_of_listed me ident = if is_answer_to me ident then Answer ident.source else Member ident.source

-- of a node that is not on it: a stranger where members alone send such frames, or where it answers as an allocator
abbrev pub voice_of_unlisted : ℕ → RawFrame → Ident → Voice
voice_of_unlisted me raw ident =
    if is_of_members ident.kind ident.number || answers_as_allocator me raw ident then Stranger else Other

-- A link gives no member its own frames, so a frame with its node ID is of another node. An anonymous frame has no
-- source: it is some device's.
abbrev pub voice_by : ℕ → List ℕ → RawFrame → Kind → Ident → Voice
voice_by me ids raw Anonymous ident = Other
voice_by me ids raw kind ident = if nat_eq ident.source me then Stranger
    else (if is_on_list ids ident.source then voice_of_listed me ident else voice_of_unlisted me raw ident)

-- what has no fields is nobody's
abbrev pub voice_with : ℕ → List ℕ → RawFrame → Option Ident → Voice
voice_with me ids raw None = Other
voice_with me ids raw (Some ident) = voice_by me ids raw ident.kind ident

-- whose a frame is to this member, which is told this list. One that is told no list knows nobody
abbrev pub voice_of : ℕ → List ℕ → RawFrame → Voice
voice_of me [] raw = Other
voice_of me (first ∷ rest) raw = voice_with me (first ∷ rest) raw (fields_of raw)

-- whose an item of a link is
abbrev pub voice_in : ℕ → List ℕ → Received → Voice
voice_in me ids (Frame raw) = voice_of me ids raw
voice_in me ids Junk = Other
voice_in me ids Nothing = Other
