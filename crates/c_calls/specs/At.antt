-- What a node stands for, and what a call makes of it.
use Rattle.std.specs.Prelude.{◌≡◌, ◌≢◌, ◌↔◌, ◌⊎◌, ◌%◌, ◌/◌, ◌+◌, ◌-◌, ◌*◌, ◌^◌, min, ◌≤◌, ◌<◌, ℕ, true, false, List, [], None, Some, IsNone, IsSome, MatchOption, ⊤, length, take, drop, option_map}
use Rattle.std.specs.Option.{unwrap_or}
use Rattle.std.specs.Int.{from_le_bytes, to_le_bytes, w64}
use Rattle.can_frame.specs.declared.step.Role.{Role}
use Rattle.can_frame.specs.declared.step.Role.TheVariants.{Follower, Candidate, Leader}
use Rattle.can_frame.specs.Sizes.{most_members}
use Rattle.alloc_server.specs.Server.{StandsFor, disk_of, durable_of, fault_of, queued}
use Rattle.alloc_spec.specs.AllocatorState.{AllocatorState, entry_of, opening, view_of}
use Rattle.alloc_spec.specs.Rules.{IsToldAll, rules_by, with_told}
use Rattle.alloc_spec.specs.Step.{Event, Rx, Tick, after_pop, step}
use Rattle.c_disk.specs.declared.disk.FdDisk.{FdDisk}
use Rattle.raft_core.specs.StoredPuts.{store_of}
use Rattle.raft_log.specs.DurableViews.{durable_state}
use Rattle.transfer_rx.specs.Reassembly.{Arrival}
use Rattle.transfer_tx.specs.Queue.{Queued, next_out}
use Rattle.c_calls.specs.declared.node.Node.{Node}

-- the node was made, and its server stands for this allocator
abbrev pub IsAt : Node → AllocatorState → Type 0
IsAt node t = MatchOption node.server ⊥ (λ server. StandsFor server t)

-- there is no allocator of its node ID, or of its cluster's size
abbrev pub IsNotMade : Node → Type 0
IsNotMade node = IsNone node.server

-- it is not open: it was not opened yet, or its store was refused or has failed since
abbrev pub IsClosed : Node → Type 0
IsClosed node = MatchOption node.server ⊥ (λ server. IsSome (fault_of server))

abbrev pub IsOpen : Node → Type 0
IsOpen node = MatchOption node.server ⊥ (λ server. fault_of server ≡ None)

-- how many calls of its store have failed, counted to the last number of 64 bits
abbrev pub faults : Node → ℕ
faults node = unwrap_or (option_map (λ server. let disk : FdDisk = disk_of server in disk.faults) node.server) 0

-- a call of the store failed
abbrev pub StoreFailed : Node → Node → Type 0
StoreFailed old new = min (faults old + 1) (2 ^ 64 - 1) ≤ faults new

-- nothing waits to be taken
abbrev pub HasNoFrame : Node → Type 0
HasNoFrame node = MatchOption node.server ⊤ (λ server. queued server ≡ [])

-- the low 32 bits of a word, and those above them
abbrev pub low : ℕ → ℕ
low word = word % 4294967296

abbrev pub high : ℕ → ℕ
high word = word / 4294967296

-- the bytes of a word, the first one lowest: so many, at most all eight
abbrev pub first_bytes : ℕ → ℕ → List ℕ
first_bytes count word = take count (to_le_bytes w64 word)

-- ---- a node that is made: of this ID, in a cluster of this size, where these are possible; it is not open

pub record IsNew (node : Node) (id size : ℕ) : Type 0 where
  pub made : IsSome node.server ↔ ((1 ≤ id) × ((id ≤ 125) × ((1 ≤ size) × (size ≤ most_members))))
  pub its_id : IsSome node.server → node.id ≡ id
  pub its_size : IsSome node.server → node.size ≡ size
  pub closed : IsSome node.server → IsClosed node
  pub empty : HasNoFrame node

-- ---- call 1: it opens with what is stored

pub record Opens (old new : Node) (now word result : ℕ) : Type 0 where
  pub done : result ≡ 0 → MatchOption new.server ⊥ (λ server. StandsFor server
      (opening old.id old.size (store_of (durable_state (durable_of server))) now word))
  -- a node that is open may be told who the members of its cluster are
  pub may_learn : result ≡ 0 → new.is_new ≡ true
  -- 1 exactly where it is not made
  pub not_made : (result ≡ 1) ↔ IsNotMade old
  pub kept : result ≡ 1 → new ≡ old
  -- 3 where its store failed, and 256 and more where it is damaged: then it is closed, and nothing waits
  pub refused : 2 ≤ result → IsClosed new × HasNoFrame new
  pub fault : result ≡ 3 → StoreFailed old new
  pub damaged : 256 ≤ result → faults new ≡ faults old
  pub answers : (result < 2) ⊎ ((result ≡ 3) ⊎ (256 ≤ result))

-- ---- call 8: it is told who its members are, itself among them

pub record MayLearn (node : Node) (list : List ℕ) (result : ℕ) : Type 0 where
  -- 1 exactly where it is not made, and 2 exactly where it is not open
  pub not_made : (result ≡ 1) ↔ IsNotMade node
  pub closed : (result ≡ 2) ↔ IsClosed node
  -- 8 exactly where it is open, and was told before or has made a step since the opening
  pub late : (result ≡ 8) ↔ (IsOpen node × (node.is_new ≡ false))
  -- else 0 exactly where these are all members of its cluster, and 7 exactly where they are not
  pub all : (result ≡ 0) ↔ ((IsOpen node × (node.is_new ≡ true)) × IsToldAll node.id (rules_by node.size list))
  pub not_all : (result ≡ 7) ↔
      ((IsOpen node × (node.is_new ≡ true)) × (IsToldAll node.id (rules_by node.size list) → ⊥))

pub record Learns (old new : Node) (list : List ℕ) (result : ℕ) : Type 0 where
  -- 0 where it may be told these members: then the allocator that it stands for is told them, once
  pub may : MayLearn old list result
  pub done : result ≡ 0 → (t : AllocatorState) → IsAt old t → IsAt new (with_told list t)
  pub once : result ≡ 0 → new.is_new ≡ false
  pub kept : 0 < result → new ≡ old
  pub steps : new.steps ≡ old.steps

-- ---- calls 2 and 3: a step

pub record Steps (old new : Node) (event : Event) (result : ℕ) : Type 0 where
  -- the step of the allocator that it stands for, under the next number
  pub done : result ≡ 0 → (t : AllocatorState) → IsAt old t → IsAt new (step t new.steps event).step_state.allocator
  pub works : result ≡ 0 → IsOpen old × IsOpen new
  -- 1 exactly where it is not made, and 2 exactly where it is not open: then nothing changes
  pub not_made : (result ≡ 1) ↔ IsNotMade old
  pub closed : (result ≡ 2) ↔ IsClosed old
  pub kept : (result ≡ 1) ⊎ (result ≡ 2) → new ≡ old
  -- 3 where its store failed: then it is closed, and nothing waits
  pub failed : 3 ≤ result → IsClosed new × HasNoFrame new
  pub fault : result ≡ 3 → StoreFailed old new
  pub answers : result ≤ 3
  -- each step has a number, which is one more than the last, around 64 bits
  pub counted : (result ≡ 0) ⊎ (result ≡ 3) → new.steps ≡ (old.steps + 1) % 18446744073709551616
  -- from the first one on it is not told who its members are
  pub begun : (result ≡ 0) ⊎ (result ≡ 3) → new.is_new ≡ false

-- the identifier has 29 bits, and there are 1 to 8 bytes
abbrev pub IsFrame : ℕ → Type 0
IsFrame head = (low head < 2 ^ 29) × ((1 ≤ high head) × (high head ≤ 8))

-- the frame with this identifier and number of bytes, the first one lowest, of a sender outside
abbrev pub heard : ℕ → ℕ → ℕ → Arrival
heard now head bytes = record {
  id = low head;
  bytes = first_bytes (high head) bytes;
  mark = record { step = 0; re = 0; place = 0 };
  moment = now;
}

-- 4 exactly where there is no such frame: then nothing changes
pub record Hears (old new : Node) (now head bytes result : ℕ) : Type 0 where
  pub steps : IsFrame head → Steps old new (Rx (heard now head bytes)) result
  pub is_frame : result < 4 → IsFrame head
  pub no_frame : (result ≡ 4) ↔ (IsFrame head → ⊥)
  pub kept : result ≡ 4 → new ≡ old

-- ---- calls 4 and 5: the next frame of its queue is taken, and its bytes are given

-- the highest bit, the number of bytes, and the identifier
abbrev pub head_of : Queued → ℕ
head_of frame = 2 ^ 63 + length frame.bytes * 4294967296 + frame.id

pub record Takes (old new : Node) (result : ℕ) : Type 0 where
  pub rest : (t : AllocatorState) → IsAt old t → IsAt new (after_pop t)
  -- what goes next is answered; its bytes are kept, the first one lowest
  pub head : (t : AllocatorState) → IsAt old t → (frame : Queued) → next_out t.queue ≡ Some frame →
      result ≡ head_of frame
  pub bytes : (t : AllocatorState) → IsAt old t → (frame : Queued) → next_out t.queue ≡ Some frame →
      new.bytes ≡ from_le_bytes w64 frame.bytes
  -- 0 exactly where there is nothing: then nothing changes
  pub none : (result ≡ 0) ↔ HasNoFrame old
  pub kept : result ≡ 0 → (new.server ≡ old.server) × (new.bytes ≡ old.bytes)
  -- else there is a frame that goes next
  pub some : 0 < result → (t : AllocatorState) → IsAt old t → IsSome (next_out t.queue)
  pub steps : new.steps ≡ old.steps
  pub is_new : new.is_new ≡ old.is_new

-- ---- calls 6 and 7: what it shows

abbrev pub role_number : Role → ℕ
role_number Follower = 0
role_number Candidate = 1
role_number Leader = 2

-- 0 where it is not made, and beyond the parts
pub record Views (shown : Node) (part result : ℕ) : Type 0 where
  pub role : part ≡ 0 → (t : AllocatorState) → IsAt shown t → result ≡ role_number (view_of t).role
  pub term : part ≡ 1 → (t : AllocatorState) → IsAt shown t → result ≡ (view_of t).term
  pub vote : part ≡ 2 → (t : AllocatorState) → IsAt shown t → result ≡ (view_of t).vote
  pub last : part ≡ 3 → (t : AllocatorState) → IsAt shown t → result ≡ (view_of t).last
  pub commit : part ≡ 4 → (t : AllocatorState) → IsAt shown t → result ≡ (view_of t).commit
  pub queued : part ≡ 5 → (t : AllocatorState) → IsAt shown t → result ≡ (view_of t).queued
  pub is_open : part ≡ 6 → (result ≡ 1) ↔ IsOpen shown
  pub is_closed : part ≡ 6 → (result ≡ 0) ↔ (IsNotMade shown ⊎ IsClosed shown)
  pub beyond : 6 < part → result ≡ 0
  pub not_made : IsNotMade shown → result ≡ 0

-- the log has an entry at this place
abbrev pub HasEntry : AllocatorState → ℕ → Type 0
HasEntry t place = (1 ≤ place) × (place ≤ (view_of t).last)

pub record Entries (shown : Node) (place part result : ℕ) : Type 0 where
  pub node : part ≡ 0 → (t : AllocatorState) → IsAt shown t → HasEntry t place → result ≡ (entry_of t place).node
  pub front : part ≡ 1 → (t : AllocatorState) → IsAt shown t → HasEntry t place →
      result ≡ from_le_bytes w64 (entry_of t place).uid
  pub back : part ≡ 2 → (t : AllocatorState) → IsAt shown t → HasEntry t place →
      result ≡ from_le_bytes w64 (drop 8 (entry_of t place).uid)
  pub term : part ≡ 3 → (t : AllocatorState) → IsAt shown t → HasEntry t place → result ≡ (entry_of t place).term
  pub none : (t : AllocatorState) → IsAt shown t → (HasEntry t place → ⊥) → result ≡ 0
  pub beyond : 3 < part → result ≡ 0
  pub not_made : IsNotMade shown → result ≡ 0

-- ---- every call

-- calls 5 to 7, and those that are none
abbrev pub OnlyTells : ℕ → Type 0
OnlyTells op = (op < 1) ⊎ ((4 < op) × (op ≢ 8))

pub record Calls (old new : Node) (op now a b result : ℕ) : Type 0 where
  pub opens : op ≡ 1 → Opens old new now (low a) result
  pub ticks : op ≡ 2 → Steps old new (Tick now (low a)) result
  pub hears : op ≡ 3 → Hears old new now a b result
  pub takes : op ≡ 4 → Takes old new result
  pub tells : op ≡ 5 → result ≡ old.bytes
  pub views : op ≡ 6 → Views old a result
  pub entries : op ≡ 7 → Entries old a b result
  pub learns : op ≡ 8 → Learns old new (first_bytes b a) result
  pub unknown : (op < 1) ⊎ (8 < op) → result ≡ 5
  -- what only tells changes nothing, and no call changes whose node it is
  pub kept : OnlyTells op → new ≡ old
  pub id : new.id ≡ old.id
  pub size : new.size ≡ old.size
