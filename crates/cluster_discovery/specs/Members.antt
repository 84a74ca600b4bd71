-- What a member heard and sent, newest first, and what follows from it
-- (UAVCAN v0 specification, "Redundant allocators"; uavcan.protocol.dynamic_node_id.server.Discovery).
use Rattle.std.specs.Prelude.{ℕ, ◌≡◌, ◌≢◌, ◌⊎◌, ◌<◌, ◌≤◌, ◌+◌, ◌-◌, ◌/◌, Bool, true, false, if◌then◌else◌, not, ◌&&◌, ◌||◌, nat_le, nat_lt, nat_eq, List, [], ◌∷◌, ◌++◌, length, slice_index_or, Contains}
use Rattle.std.specs.List.{list_any}
use Rattle.can_frame.specs.Sizes.{most_members}
use Rattle.can_frame.specs.Timing.{discovery_interval}
use Rattle.dsdl_codec.specs.declared.discovery.Discovery.{Discovery}

-- how the member began
pub record Start : Type 0 where
  -- the member's own node ID
  pub me : ℕ
  -- how many members the cluster is to have
  pub size : ℕ
  pub moment : ℕ

-- a member that may be: its node ID is 1 to 125, and its cluster is to have 1 to `most_members` members
pub record IsStart (start : Start) : Type 0 where
  pub numbered : 1 ≤ start.me
  pub device : start.me ≤ 125
  pub least : 1 ≤ start.size
  pub most : start.size ≤ most_members

pub data Event : Type 0 where
  -- a Discovery was heard from a node
  Heard : (from : ℕ) (message : Discovery) → Event
  -- the member's own Discovery was sent, or found no room
  Sent : (moment : ℕ) → Event

-- ---- the member list

abbrev pub is_on_list : List ℕ → ℕ → Bool
is_on_list members node = list_any (λ member. nat_eq member node) members

-- a node joins where it is 1 to 125, is new, and the list is shorter than the size
abbrev pub may_join : ℕ → List ℕ → ℕ → Bool
may_join size members node =
    (nat_le 1 node && nat_le node 125) && (nat_lt (length members) size && not (is_on_list members node))

-- at the end of the list
abbrev pub members_with : ℕ → List ℕ → ℕ → List ℕ
members_with size members node = if may_join size members node then members ++ node ∷ [] else members

-- each in turn
abbrev pub members_with_all : ℕ → List ℕ → List ℕ → List ℕ
members_with_all size members [] = members
members_with_all size members (node ∷ nodes) = members_with_all size (members_with size members node) nodes

-- a message of another cluster size, or from the member itself, does not count
abbrev pub counts : Start → ℕ → Discovery → Bool
counts start from message = nat_eq message.size start.size && not (nat_eq from start.me)

-- the source, and then the nodes that it lists
abbrev pub with_heard : Start → List ℕ → ℕ → Discovery → List ℕ
with_heard start members from message =
    if counts start from message then members_with_all start.size members (from ∷ message.known.items) else members

-- the members that are known; at first the member itself
abbrev pub members : Start → List Event → List ℕ
members start [] = start.me ∷ []
members start (Heard from message ∷ events) = with_heard start (members start events) from message
members start (Sent moment ∷ events) = members start events

-- what a member list always is: the member itself first, node IDs of 1 to 125 alone, none twice, no more than the size
pub record IsMemberList (me size : ℕ) (list : List ℕ) : Type 0 where
  pub own : 1 ≤ length list
  pub first : slice_index_or list 0 0 ≡ me
  pub within : length list ≤ size
  pub numbered : (i : ℕ) → i < length list → 1 ≤ slice_index_or list i 0
  pub devices : (i : ℕ) → i < length list → slice_index_or list i 0 ≤ 125
  pub different : (i j : ℕ) → i < j → j < length list → slice_index_or list i 0 ≢ slice_index_or list j 0

-- a message names a node: it counts, and the node is its source or is listed
pub record Names (start : Start) (from : ℕ) (message : Discovery) (node : ℕ) : Type 0 where
  pub counts : counts start from message ≡ true
  pub named : (node ≡ from) ⊎ Contains message.known.items node

-- a message teaches a member
abbrev pub learns : Start → List Event → ℕ → Discovery → Bool
learns start events from message =
    nat_lt (length (members start events)) (length (members start (Heard from message ∷ events)))

abbrev pub is_complete : Start → List Event → Bool
is_complete start events = nat_eq (length (members start events)) start.size

-- more than half of the members
abbrev pub quorum : Start → ℕ
quorum start = start.size / 2 + 1

-- ---- the member's own Discovery

-- who told a list that is shorter than the size is owed a Discovery, until one is sent
abbrev pub owes : Start → List Event → Bool
owes start [] = false
owes start (Heard from message ∷ events) =
    (counts start from message && nat_lt (length message.known.items) start.size) || owes start events
owes start (Sent moment ∷ events) = false

-- the moment of the last Discovery, or of the start
abbrev pub last_sent : Start → List Event → ℕ
last_sent start [] = start.moment
last_sent start (Heard from message ∷ events) = last_sent start events
last_sent start (Sent moment ∷ events) = moment

-- owed, or the list is not complete; and 1,000 ms have passed
abbrev pub is_due : Start → List Event → ℕ → Bool
is_due start events now =
    (owes start events || not (is_complete start events)) && nat_le discovery_interval (now - last_sent start events)
