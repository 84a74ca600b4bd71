-- What a frame may bring into the log of a leader, to a member that is told the list of its cluster: a node that shows
-- itself by NodeStatus, or a part of a unique ID, for which a node ID is asked. All frames of a NodeStatus count, also
-- where it has several.
--
--   frame                                          what it is
--   NodeStatus of 40                               node 40 shows itself
--   NodeStatus of a member                         nothing
--   NodeStatus of 126 or 127, kept for tools       nothing: no member hears them
--   anonymous Allocation, flag set, 6 bytes        the first part of a unique ID
--   anonymous Allocation, flag clear, 6 bytes      the second part
--   anonymous Allocation, flag clear, 4 bytes      the last part
--   any other anonymous Allocation                 nothing: no member takes it
--   any other frame                                nothing
use Rattle.std.specs.Prelude.{ℕ, ◌%◌, ◌&&◌, not, nat_eq, nat_le, Bool, List, [], ◌∷◌, Option, Some, None, if◌then◌else◌}
use Rattle.can_frame.specs.DataTypes.{allocation, node_status}
use Rattle.can_frame.specs.Kinds.{is_anonymous}
use Rattle.can_frame.specs.declared.identifier.Ident.{Ident}
use Rattle.cluster_discovery.specs.Members.{is_on_list}
use Rattle.outside.specs.declared.received.RawFrame.{RawFrame}
use Rattle.outside.specs.declared.received.Received.{Received}
use Rattle.outside.specs.declared.received.Received.TheVariants.{Frame, Junk, Nothing}
use Rattle.told_link.specs.Following.{byte_of, is_message}
use Rattle.told_link.specs.Voice.{fields_of}
use Rattle.newcomer_link.specs.declared.approach.Approach.{Approach}
use Rattle.newcomer_link.specs.declared.approach.Approach.TheVariants.{Shows, Asks}
use Rattle.newcomer_link.specs.declared.partial.Part.{Part}
use Rattle.newcomer_link.specs.declared.partial.Part.TheVariants.{First, Second, Third}

-- ---- NodeStatus

abbrev pub is_of_node_status : Ident → Bool
is_of_node_status ident = is_message ident.kind && nat_eq ident.number node_status.number

-- a node of 1 to 125 that is not on the list
abbrev pub is_unlisted : List ℕ → Ident → Bool
is_unlisted ids ident = nat_le ident.source 125 && not (is_on_list ids ident.source)

abbrev pub show_of : List ℕ → Ident → Option Approach
show_of ids ident = if is_of_node_status ident && is_unlisted ids ident then Some (Shows ident.source) else None

-- ---- a request for a node ID: behind the first byte, which has the flag of the first part, come the bytes of the
-- unique ID, and then the tail

abbrev pub four_bytes : RawFrame → List ℕ
four_bytes raw = byte_of raw 1 ∷ byte_of raw 2 ∷ byte_of raw 3 ∷ byte_of raw 4 ∷ []

abbrev pub six_bytes : RawFrame → List ℕ
six_bytes raw = byte_of raw 1 ∷ byte_of raw 2 ∷ byte_of raw 3 ∷ byte_of raw 4 ∷ byte_of raw 5 ∷ byte_of raw 6 ∷ []

abbrev pub has_first_flag : RawFrame → Bool
has_first_flag raw = nat_eq (byte_of raw 0 % 2) 1

abbrev pub part_in : RawFrame → Option Part
part_in raw = if nat_eq raw.len 8
    then (if has_first_flag raw then Some (First (six_bytes raw)) else Some (Second (six_bytes raw)))
    else (if nat_eq raw.len 6 && not (has_first_flag raw) then Some (Third (four_bytes raw)) else None)

abbrev pub asks_with : Option Part → Option Approach
asks_with None = None
asks_with (Some part) = Some (Asks part)

-- ---- both

abbrev pub approach_by : List ℕ → RawFrame → Option Ident → Option Approach
approach_by ids raw None = None
approach_by ids raw (Some ident) = if is_anonymous ident.kind
    then (if nat_eq ident.number allocation.number then asks_with (part_in raw) else None)
    else show_of ids ident

-- what an item of a link is. A member that is told no list has an empty one, and turns nobody away
abbrev pub approach_in : List ℕ → Received → Option Approach
approach_in [] item = None
approach_in (first ∷ rest) (Frame raw) = approach_by (first ∷ rest) raw (fields_of raw)
approach_in (first ∷ rest) Junk = None
approach_in (first ∷ rest) Nothing = None
