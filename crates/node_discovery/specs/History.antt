-- What happened with one node, newest event first, and what follows from it.
use Rattle.std.specs.Prelude.{ℕ, suc, ◌-◌, ◌≡◌, ◌≤◌, Bool, true, false, if◌then◌else◌, ◌&&◌, nat_le, nat_lt, nat_eq, List, [], ◌∷◌, Option, Some, None, is_none}
use Rattle.can_frame.specs.Timing.{online_timeout, query_interval, query_limit}
use Rattle.node_discovery.specs.declared.counting.Counting.{Counting}
use Rattle.node_discovery.specs.declared.counting.Counting.TheVariants.{OfSpell, SinceAnswer}
use Rattle.node_discovery.specs.declared.query.Query.{Query}

pub data Event : Type 0 where
  -- a status of the node was heard
  Status : (moment : ℕ) → Event
  -- the node was asked for its unique ID, under this transfer ID
  Asked : (transfer_id moment : ℕ) → Event
  -- the answer of the node was taken
  Taken : (uid : List ℕ) (moment : ℕ) → Event

-- how old a moment is; 0 where it is later than now
abbrev pub age : ℕ → ℕ → ℕ
age moment now = now - moment

-- a moment that is at most so old, where there is one
abbrev pub is_within : ℕ → ℕ → Option ℕ → Bool
is_within limit now None = false
is_within limit now (Some moment) = nat_le (age moment now) limit

-- so much has passed since a moment, or there is none
abbrev pub has_passed : ℕ → ℕ → Option ℕ → Bool
has_passed limit now None = true
has_passed limit now (Some moment) = nat_le limit (age moment now)

-- ---- online, and the spell

abbrev pub last_status : List Event → Option ℕ
last_status [] = None
last_status (Status moment ∷ events) = Some moment
last_status (Asked transfer_id moment ∷ events) = last_status events
last_status (Taken uid moment ∷ events) = last_status events

-- online: the last status is recent
abbrev pub is_online : List Event → ℕ → Bool
is_online events now = is_within online_timeout now (last_status events)

-- the events of the node's spell: those since its last status that came while it was not online,
-- and all before its first status
abbrev pub spell : List Event → List Event
spell [] = []
spell (Status moment ∷ events) = Status moment ∷ (if is_online events moment then spell events else [])
spell (Asked transfer_id moment ∷ events) = Asked transfer_id moment ∷ spell events
spell (Taken uid moment ∷ events) = Taken uid moment ∷ spell events

-- ---- the unique ID

abbrev pub last_taken : List Event → Option (List ℕ)
last_taken [] = None
last_taken (Status moment ∷ events) = last_taken events
last_taken (Asked transfer_id moment ∷ events) = last_taken events
last_taken (Taken uid moment ∷ events) = Some uid

-- the unique ID that the node told in its spell
abbrev pub unique_id : List Event → Option (List ℕ)
unique_id events = last_taken (spell events)

-- online, and its unique ID was not told in its spell
abbrev pub is_nameless : List Event → ℕ → Bool
is_nameless events now = is_online events now && is_none (unique_id events)

-- the unique ID of a node that is online
abbrev pub identity : List Event → ℕ → Option (List ℕ)
identity events now = if is_online events now then unique_id events else None

-- ---- queries

-- the last query, where no answer was taken since
abbrev pub unanswered : List Event → Option Query
unanswered [] = None
unanswered (Status moment ∷ events) = unanswered events
unanswered (Asked transfer_id moment ∷ events) = Some (record { transfer_id = transfer_id; moment = moment })
unanswered (Taken uid moment ∷ events) = None

-- a query waits for an answer with its transfer ID until the next may be asked
abbrev pub is_answered_by : Option Query → ℕ → ℕ → Bool
is_answered_by None transfer_id now = false
is_answered_by (Some query) transfer_id now =
    nat_eq query.transfer_id transfer_id && nat_lt (age query.moment now) query_interval

-- an answer is taken: the last query of the spell has its transfer ID, still waits and had no answer taken since
abbrev pub takes : List Event → ℕ → ℕ → Bool
takes events transfer_id now = is_answered_by (unanswered (spell events)) transfer_id now

-- the last query, in whatever spell
abbrev pub last_query : List Event → Option ℕ
last_query [] = None
last_query (Status moment ∷ events) = last_query events
last_query (Asked transfer_id moment ∷ events) = Some moment
last_query (Taken uid moment ∷ events) = last_query events

-- the interval has passed since the last query, or the node was never asked
abbrev pub may_be_asked : List Event → ℕ → Bool
may_be_asked events now = has_passed query_interval now (last_query events)

-- ---- silence

-- how many queries were asked
abbrev pub query_count : List Event → ℕ
query_count [] = 0
query_count (Status moment ∷ events) = query_count events
query_count (Asked transfer_id moment ∷ events) = suc (query_count events)
query_count (Taken uid moment ∷ events) = query_count events

-- the events since the last answer that was taken, in whatever spell
abbrev pub since_answer : List Event → List Event
since_answer [] = []
since_answer (Status moment ∷ events) = Status moment ∷ since_answer events
since_answer (Asked transfer_id moment ∷ events) = Asked transfer_id moment ∷ since_answer events
since_answer (Taken uid moment ∷ events) = []

-- the events whose queries count
abbrev pub counted : Counting → List Event → List Event
counted OfSpell events = spell events
counted SinceAnswer events = since_answer events

-- silent: online, told no unique ID in its spell, and so many queries or more count, the last of which waits no longer
pub record IsSilent (counting : Counting) (events : List Event) (now : ℕ) : Type 0 where
  pub online : is_online events now ≡ true
  pub untold : unique_id events ≡ None
  pub asked : query_limit ≤ query_count (counted counting events)
  pub moment : ℕ
  pub last : last_query (counted counting events) ≡ Some moment
  pub waited : query_interval ≤ age moment now

-- whether it is silent
abbrev pub is_silent : Counting → List Event → ℕ → Bool
is_silent counting events now = is_nameless events now
    && (nat_le query_limit (query_count (counted counting events))
    && has_passed query_interval now (last_query (counted counting events)))
