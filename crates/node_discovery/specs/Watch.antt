-- What happened with all nodes, newest first, and what a watch of them answers.
use Rattle.std.specs.Prelude.{ℕ, ◌≡◌, ◌<◌, ◌≤◌, ◌⊎◌, Bool, true, false, if◌then◌else◌, not, ◌&&◌, nat_le, nat_eq, List, [], ◌∷◌, slice_index_or, find, Option, Some, None}
use Rattle.std.specs.List.{list_any, range_with_len}
use Rattle.node_discovery.specs.History.{Event, Status, Taken, is_nameless, last_status, may_be_asked, takes}

-- no node ID of a device
abbrev pub IsStranger : ℕ → Type 0
IsStranger node = (node ≡ 0) ⊎ (125 < node)

-- an event and the node with which it happened
pub record Watched : Type 0 where
  pub node : ℕ
  pub event : Event

abbrev pub of_node : ℕ → Event → Watched
of_node node event = record { node = node; event = event }

-- what happened with one node
abbrev pub history : ℕ → List Watched → List Event
history node [] = []
history node (watched ∷ events) =
    if nat_eq watched.node node then watched.event ∷ history node events else history node events

-- ---- what a status and an answer leave

-- a status is taken from 1 to 125
abbrev pub after_status : List Watched → ℕ → ℕ → List Watched
after_status events from now = if nat_le 1 from && nat_le from 125 then of_node from (Status now) ∷ events else events

-- an answer is taken where a query waits for it
abbrev pub after_info : List Watched → ℕ → ℕ → List ℕ → ℕ → List Watched
after_info events from transfer_id uid now =
    if takes (history from events) transfer_id now then of_node from (Taken uid now) ∷ events else events

-- ---- who is to be asked

-- a node whose unique ID is wanted: nameless, and not known otherwise; a number above 127 is no node's
abbrev pub is_unknown : List Watched → List Bool → ℕ → ℕ → Bool
is_unknown events known node now = is_nameless (history node events) now && not (slice_index_or known node true)

-- the node is to be asked: its unique ID is wanted, and the last query is old enough
abbrev pub is_due : List Watched → List Bool → ℕ → ℕ → Bool
is_due events known node now = is_unknown events known node now && may_be_asked (history node events) now

pub record IsLeastDue (events : List Watched) (known : List Bool) (now node : ℕ) : Type 0 where
  pub least : 1 ≤ node
  pub most : node ≤ 125
  pub due : is_due events known node now ≡ true
  pub first : (other : ℕ) → other < node → is_due events known other now ≡ false

-- the least node that is due; none where no node is
abbrev pub IsNextQuery : List Watched → List Bool → ℕ → Option ℕ → Type 0
IsNextQuery events known now (Some node) = IsLeastDue events known now node
IsNextQuery events known now None = (node : ℕ) → is_due events known node now ≡ false

pub record IsSomeUnknown (events : List Watched) (known : List Bool) (now : ℕ) : Type 0 where
  pub node : ℕ
  pub least : 1 ≤ node
  pub most : node ≤ 125
  pub unknown : is_unknown events known node now ≡ true

abbrev pub NoneIsUnknown : List Watched → List Bool → ℕ → Type 0
NoneIsUnknown events known now = (node : ℕ) → is_unknown events known node now ≡ false

-- ---- both, computed

-- the node IDs that are looked at
abbrev pub devices : List ℕ
devices = range_with_len 1 125

-- the first that is due
unfoldable pub next_query : List Watched → List Bool → ℕ → Option ℕ
next_query events known now = find (λ node. is_due events known node now) devices

-- whether one is unknown
unfoldable pub some_unknown : List Watched → List Bool → ℕ → Bool
some_unknown events known now = list_any (λ node. is_unknown events known node now) devices

-- no status was taken of a number that is no device's
abbrev pub HearsDevicesAlone : List Watched → Type 0
HearsDevicesAlone events = (node : ℕ) → IsStranger node → last_status (history node events) ≡ None
