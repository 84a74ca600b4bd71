-- A process in a trace: it opens its members in order, and then lets them take their turns, one after the other.
-- Events of other processes stand between its own. Its members are what `cmd_node` says of them.
use Rattle.std.specs.Prelude.{◌≡◌, ℕ, suc, ◌<◌, ◌≤◌, ◌==◌, Bool, true, false, List, [], ◌∷◌, length, Option, None, Some, slice_index, if◌then◌else◌}
use Rattle.outside.specs.Readings.{next_reading}
use Rattle.outside.specs.Traffic.{next_item}
use Rattle.cmd_node.specs.Words.{next_words, own_words, word_of}
use Rattle.raft_core.specs.StoredPuts.{store_of}
use Rattle.alloc_spec.specs.Rules.{Rules, tells}
use Rattle.bus_spec.specs.Cluster.{Cluster, after_rows, is_member}
use Rattle.bus_spec.specs.Members.MemberStatus.{Down}
use Rattle.cmd_node.specs.Opening.{RunInput, together_at_opening, opened_at, readings_after}
use Rattle.cmd_node.specs.Turn.{Running}
use Rattle.cmd_node.specs.Turns.{Together, all_turns, first_turns}
use Rattle.cmd_node_laws.specs.Traces.{Came, Event, OfOthers, DiesInTurn, DiesAtOpening, Opens, Stops, Turns, rows_of}
use Rattle.cmd_node_laws.specs.Mirrored.{Carries, IsMirrored}

-- what a process does next: it opens the member at a place, or lets it take its turn, when all have taken so many turns
pub data Point : Type 0 where
  Opening : (place : ℕ) → Point
  Turning : (taken place : ℕ) → Point

-- the point after that, of a process with so many members
abbrev pub next_point : ℕ → Point → Point
next_point count (Opening place) = if suc place == count then Turning 0 0 else Opening (suc place)
next_point count (Turning taken place) = if suc place == count then Turning (suc taken) 0 else Turning taken (suc place)

-- the place of the member that it is about
abbrev pub place_of : Point → ℕ
place_of (Opening place) = place
place_of (Turning taken place) = place

-- the member of an event; one of an allocatee is of no member
abbrev pub whose : Event → Option ℕ
whose (Opens n told moment word) = Some n
whose (DiesAtOpening n told moment word puts) = Some n
whose (Turns n moment word came) = Some n
whose (Stops n) = Some n
whose (DiesInTurn n moment word came puts) = Some n
whose (OfOthers row) = None

-- the member of an event is one of these
abbrev pub is_of_these : List ℕ → Option ℕ → Bool
is_of_these mine None = false
is_of_these mine (Some n) = is_member mine n

abbrev pub OneOf : Bool → Type 0 → Type 0 → Type 0
OneOf true A B = A
OneOf false A B = B

-- this is the turn that the member at a place takes next, when all stand like this
pub record TakesTurn (w : Cluster) (n moment word : ℕ) (came : Came) (all : Together) (place : ℕ) : Type 0 where
  pub moment_is : moment ≡ next_reading all.readings
  pub word_is : word ≡ word_of (next_words (all.running place).words)
  pub carries : Carries w.frames (next_item (all.running place).coming) came

-- of a process that opens these members by these rules, with what was handed in
module _ (rules : Rules) (mine : List ℕ) (given : RunInput) where
  -- the members of the process, when all have taken so many turns, and those before the place one more
  abbrev pub together_at : ℕ → ℕ → Together
  together_at taken place = first_turns place (all_turns (length mine) taken (together_at_opening rules mine given))

  abbrev pub running_at : Point → ℕ → Running
  running_at (Opening place) i = opened_at rules mine given i
  running_at (Turning taken place) i = (together_at taken place).running i

  -- the event is what it does next
  abbrev pub ComesNext : Cluster → Event → Point → Type 0
  ComesNext w (Opens n told moment word) (Opening place) = (n ≡ slice_index mine place) × (told ≡ tells rules)
      × (moment ≡ next_reading (readings_after place given.readings)) × (word ≡ word_of (next_words (own_words rules.told n)))
  ComesNext w (Turns n moment word came) (Turning taken place) =
      (n ≡ slice_index mine place) × TakesTurn w n moment word came (together_at taken place) place
  ComesNext w event point = ⊥

  -- along the trace it goes from one point to another; events of others leave it where it is
  abbrev pub GoesOn : Cluster → List Event → Point → Point → Type 0
  GoesOn w [] from to = from ≡ to
  GoesOn w (first ∷ rest) from to = OneOf (is_of_these mine (whose first))
      (ComesNext w first from × GoesOn (after_rows w (rows_of first w)) rest (next_point (length mine) from) to)
      (GoesOn (after_rows w (rows_of first w)) rest from to)

  -- a member that is not opened yet is stopped, and has stored what was handed in
  pub record IsWaiting (w : Cluster) (i : ℕ) : Type 0 where
    pub down : (w.member (slice_index mine i)).status ≡ Down
    pub stored : store_of (w.member (slice_index mine i)).disk.store ≡ store_of (given.stored i)

  -- what the world has of the member at a place
  abbrev pub StandsAt : Cluster → Point → ℕ → Type 0
  StandsAt w (Opening place) i =
      (i < place → IsMirrored w (opened_at rules mine given i)) × (place ≤ i → IsWaiting w i)
  StandsAt w (Turning taken place) i = IsMirrored w ((together_at taken place).running i)

  -- the member at a place has stored just what it has in the process, to the origin of each entry
  abbrev pub HasStoredAt : Cluster → Point → ℕ → Type 0
  HasStoredAt w (Opening place) i = let stored = (w.member (slice_index mine i)).disk.store in
      (i < place → stored ≡ (opened_at rules mine given i).stored) × (place ≤ i → stored ≡ given.stored i)
  HasStoredAt w (Turning taken place) i =
      (w.member (slice_index mine i)).disk.store ≡ ((together_at taken place).running i).stored

  abbrev pub StandAt : Cluster → Point → Type 0
  StandAt w point = (i : ℕ) → i < length mine → StandsAt w point i
