-- The main theorem. The law `the_headline` (`src/headline.rt`) proves `HasHeadline ids rows`, at the end of this page,
-- for 1 to 5 different members `ids`, each 1 to 125 (`AreMembers`), and every list of rows that do no harm; `Headline`
-- is its part for one pair of cuts.
--
-- At the beginning all members are stopped, on disks of zeros, and nothing is on the bus. A row may deliver any frame
-- that was on the bus, at any later time and any number of times, or never; any frame that is not forged may come from
-- outside, and so any number of devices may ask, of which up to 8 at a time are rows of their own; clocks may read
-- anything; allocators may stop between rows and at any disk call, and any disk call may fail. A disk keeps what was
-- synced. A row is lawful where no cause of `Lawful` refuses it: it makes sense when it comes (its member runs, its
-- frame exists ..), a frame from outside is not forged, and one that is delivered is not torn or stale for its
-- receiver. A frame with a source is forged where the source is a member, and where it is an Allocation, a Discovery, a
-- RequestVote or an AppendEntries, whatever its source. A row does no harm (`DoNoHarm`) where it is lawful, and where
-- it brings a member a stale response that refuses, or has a term below the member's own: that counts for nothing.
--
-- Then each allocator's committed log is always a prefix of one growing list of entries, in which no node ID and no
-- unique ID is given twice; at each cut, every Allocation with a node ID other than 0 that waits whole in a queue, or
-- of which a frame ever was on the bus, is a pair of it; and the log of every later leader whose term is at least a
-- member's stored term begins with what that member has committed. Of devices `HasAllocatees` says that the ID that one
-- holds is the one that the list has for its unique ID, from then on, and that two with different unique IDs never hold
-- one ID. Nothing is said of progress: all of this would hold of members that never answer. What each step owes is said
-- by `AreDutiful` (`specs/Duty.antt`). Nor is it said that the device of a pair ever asked.
--
-- A schedule is cut at any two places: the rows `first` are taken, then `more`, then `rest`. So "now" is after any row,
-- or before all of them, and "later" is now or after any row from then on. A member that runs and has not failed is
-- `Up`; one whose step met a write error is `Failed`, and does nothing until it is stopped. `choice row` says whether
-- the put that failed in row `row` took effect; rows count from 1. A choice agrees with the disks (`AgreesWithDisk`)
-- if, at each stop of a failed member, its disk has just what the choice said. `committed choice w n` is the log that
-- the member n has stored, up to its stored commit index, whether it runs, is stopped or has failed.
use Rattle.std.specs.Prelude.{◌≡◌, ◌≢◌, ℕ, ◌<◌, ◌≤◌, nat_lt, Bool, if◌then◌else◌}
use Rattle.std.specs.Prelude.{List, [], ◌∷◌, ◌++◌, length, slice_index_or}
use Rattle.can_frame.specs.declared.entry.Entry.{Entry}
use Rattle.can_frame.specs.Log.{HasPair, IsInjective, IsPrefix, IsWellFormed, blank}
use Rattle.dsdl_codec.specs.declared.allocation.Allocation.{Allocation}
use Rattle.dsdl_codec.specs.Entry.{IsEntry}
use Rattle.kv_store.specs.KeyDisk.{restarted_on}
use Rattle.outside.specs.declared.pattern.Pattern.{Pattern}
use Rattle.raft_core.specs.StoredPuts.{store_of}
use Rattle.raft_model.specs.Lists.{In}
use Rattle.raft_model.specs.Server.Role.{Leader}
use Rattle.bus_rows.specs.declared.row.Row.{Row}
use Rattle.alloc_spec.specs.AllocatorState.{AllocatorState}
use Rattle.transfer_tx.specs.Queue.{Queued}
use Rattle.bus_spec.specs.Cluster.{Cluster, cluster, world_of}
use Rattle.bus_spec.specs.Logs.{IsFound, IsGivenFrom, IsOfAllocation, IsOffered, committed, stored}
use Rattle.bus_spec.specs.Members.MemberStatus.{Up}
use Rattle.bus_spec.specs.Choices.{AgreesWithDisk}
use Rattle.bus_spec.specs.Refinement.{transfers_of_rows}

-- the one list: the longest that a member has committed. All of them are prefixes of one list (`prefix`), so any two
-- of one length are equal
abbrev pub longest : (ℕ → Bool) → Cluster → List ℕ → List Entry
longest choice w [] = []
longest choice w (n ∷ ns) =
    if nat_lt (length (longest choice w ns)) (length (committed choice w n))
    then committed choice w n
    else longest choice w ns

abbrev pub the_list : (ℕ → Bool) → Cluster → List Entry
the_list choice w = longest choice w w.ids

-- the member runs as Leader
pub record Leads (w : Cluster) (n : ℕ) (server : AllocatorState) : Type 0 where
  pub runs : (w.member n).status ≡ Up server
  pub role : server.raft_server.memory.role ≡ Leader

pub record Headline (choice : ℕ → Bool) (now later : Cluster) : Type 0 where
  -- each committed log is a prefix of the list, and of each that its member has later, through stops and restarts
  pub prefix : (n : ℕ) → In n now.ids → IsPrefix (committed choice now n) (the_list choice now)
  pub kept : (n : ℕ) → In n now.ids → IsPrefix (committed choice now n) (committed choice later n)
  -- the term, vote, log and commit index that a member has in memory, where it runs and has not failed, are those that
  -- it has stored
  pub shown : (n : ℕ) (server : AllocatorState) → In n now.ids → (now.member n).status ≡ Up server
      → server.raft_server.store ≡ stored choice now n
  -- whatever a restart now would find of a member's disk is what is stored, by each pattern (what becomes of the bytes
  -- that were written since the last sync); after a failed step it is one of the two that choices may say
  pub found : (n : ℕ) (pattern : Pattern) → In n now.ids
      → IsFound (now.member n).status (now.member n).disk (store_of (restarted_on pattern (now.member n).disk).store)
  -- each entry of the list is a pair, a reservation or a blank
  pub formed : (index : ℕ) → index < length (the_list choice now)
      → IsWellFormed (slice_index_or (the_list choice now) index (blank 0))
  -- and its unique ID has 16 bytes, its term is below 2^32, and its node ID below 128
  pub entries : (index : ℕ) → index < length (the_list choice now)
      → IsEntry (slice_index_or (the_list choice now) index (blank 0))
  -- no two entries of the list but blanks have one node ID, and no two pairs one unique ID; the list only grows
  pub injective : IsInjective (the_list choice now)
  pub grows : IsPrefix (the_list choice now) (the_list choice later)
  -- no member's own node ID is ever given or kept back
  pub outside : (index n : ℕ) → index < length (the_list choice now) → In n now.ids
      → (slice_index_or (the_list choice now) index (blank 0)).node ≢ n
  -- an Allocation with a node ID, of which all frames wait in the queue of a member that runs and has not failed, is a
  -- pair of the member's committed log, and so of the list. Of one that is partly sent `bus` speaks
  pub offered : (n : ℕ) (server : AllocatorState) (answer : Allocation) → In n now.ids
      → (now.member n).status ≡ Up server
      → IsOffered server.queue n answer → answer.node ≢ 0
      → HasPair (committed choice now n) answer.uid.items answer.node
  -- what a member has committed now is a prefix of the log of every Leader later whose term is at least the one that
  -- the member has stored now. Let "now" be the cut after the row in which a place was first committed, and n the
  -- leader that committed it: its stored term is then that of the commit, so each leader of that term or a later one
  -- has the entry
  pub leaders : (n leader : ℕ) (server : AllocatorState) → In n now.ids → In leader now.ids
      → Leads later leader server
      → (stored choice now n).term ≤ server.raft_server.store.term
      → IsPrefix (committed choice now n) server.raft_server.store.log

-- Of a list of rows: the headline holds from each cut of it to each later one, for every choice that agrees with the
-- disks up to the later one; and there is a choice that agrees with them along all of it, and so up to every cut.
pub record HasHeadline (ids : List ℕ) (rows : List Row) : Type 0 where
  pub some : (choice : ℕ → Bool) × AgreesWithDisk choice (cluster ids) rows
  pub holds : (first more rest : List Row) (choice : ℕ → Bool) → rows ≡ first ++ (more ++ rest)
      → AgreesWithDisk choice (cluster ids) (first ++ more)
      → Headline choice (world_of ids first) (world_of ids (first ++ more))
  -- A frame that ever was on the bus, from members, devices or outside, whose identifier reads as an Allocation of the
  -- source n (an anonymous request has no source), is of a member n, and of an Allocation that n made in a step by
  -- then; where that Allocation gives a node ID, its pair is in n's committed log.
  pub bus : (first rest : List Row) (choice : ℕ → Bool) → rows ≡ first ++ rest
      → AgreesWithDisk choice (cluster ids) first
      → (frame : Queued) (n : ℕ) → In frame (world_of ids first).frames → IsOfAllocation frame n
      → In n ids
      × IsGivenFrom (committed choice (world_of ids first) n) (transfers_of_rows (cluster ids) first []) frame n
