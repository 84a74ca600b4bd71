-- What an allocator that is alone can still do, whatever happened.
use Rattle.std.specs.Prelude.{◌≡◌, ◌≢◌, ℕ, ◌+◌, ◌<◌, ◌≤◌, true, List, [], ◌∷◌, ◌++◌, length}
use Rattle.can_frame.specs.declared.entry.Entry.{Entry}
use Rattle.can_frame.specs.Log.{HasNodeId, HasPair, HasUid, log_limit}
use Rattle.can_frame.specs.Zeros.{zeros}
use Rattle.kv_store.specs.KeyDisk.{restarted_on}
use Rattle.outside.specs.declared.pattern.Pattern.TheVariants.{Old}
use Rattle.raft_core.specs.StoredPuts.{store_of}
use Rattle.raft_model.specs.Moves.Elections.{term_limit}
use Rattle.raft_model.specs.Server.{Store}
use Rattle.raft_model.specs.Server.Role.{Leader}
use Rattle.bus_rows.specs.declared.row.Row.{Row}
use Rattle.bus_rows.specs.declared.row.Row.TheVariants.{AOpen, ARx, ATick, Open, Rx, Tick}
use Rattle.alloc_spec.specs.AllocatorState.{AllocatorState}
use Rattle.bus_agreement.specs.Allocatees.{Holds}
use Rattle.service_steps.specs.ComingBack.{HasGrown}
use Rattle.bus_spec.specs.Allocatees.{is_place}
use Rattle.bus_spec.specs.Cluster.{Cluster, cluster, world_of}
use Rattle.bus_spec.specs.Lawful.{DoNoHarm, AreLawful}
use Rattle.bus_spec.specs.Members.MemberStatus.{Up}

-- what a clock that read this reads in a row, where the row reads one
abbrev pub clock_after : ℕ → Row → ℕ
clock_after now (Open n told ms word) = ms
clock_after now (Tick n ms word) = ms
clock_after now (Rx n k ms) = ms
clock_after now (AOpen a uid pref ms word) = ms
clock_after now (ATick a ms word) = ms
clock_after now (ARx a k ms word) = ms
clock_after now row = now

-- one clock may give all readings of these rows, from this moment to that one: none is below an earlier one
abbrev pub AreInTime : (now last : ℕ) → List Row → Type 0
AreInTime now last [] = now ≤ last
AreInTime now last (row ∷ rows) = (now ≤ clock_after now row) × AreInTime (clock_after now row) last rows

-- From the moment `now` on, rows can go on by at most so many lawful ones, in so many milliseconds, to a world of
-- which this holds. They choose which frames come, what clocks read, and the random words: those of the least waits.
pub record CanGoOn (ids : List ℕ) (rows : List Row) (most now long : ℕ) (Holds : Cluster → Type 0) : Type 0 where
  pub more : List Row
  pub few : length more ≤ most
  pub in_time : AreInTime now (now + long) more
  pub lawful : AreLawful (world_of ids rows) more
  pub harmless : DoNoHarm (cluster ids) (rows ++ more)
  pub holds : Holds (world_of ids (rows ++ more))

-- What a member would find stored if it stopped now, and a selector that is not synced were lost. Of a member that
-- has not failed it is what it has stored.
abbrev pub found : Cluster → ℕ → Store
found w n = store_of (restarted_on Old (w.member n).disk).store

-- ---- it leads

-- the member leads, has committed its whole log, which is this one or has a blank more, and has nothing to tell of it
pub record IsBackWith (n : ℕ) (log : List Entry) (w : Cluster) : Type 0 where
  pub server : AllocatorState
  pub runs : (w.member n).status ≡ Up server
  pub leads : server.raft_server.memory.role ≡ Leader
  pub committed : server.raft_server.store.commit ≡ length server.raft_server.store.log
  pub told : server.raft_server.memory.told ≡ server.raft_server.store.commit
  pub grown : HasGrown log server.raft_server.store.log

-- Where its log has room for a blank, and two terms are left: it is stopped, opened, and ticks after its wait, twice.
-- By the second time all that was stored is committed.
abbrev pub ComesBack : ℕ → List Row → Type 0
ComesBack n rows = (now : ℕ) → let store = found (world_of (n ∷ []) rows) n in
    length store.log < log_limit → store.term + 1 < term_limit →
    CanGoOn (n ∷ []) rows 7 now 4000 (IsBackWith n store.log)

-- ---- it serves a device

-- a node ID is left for a device: it is not the allocator's own, and stands in no entry of its log
pub record IsLeft (me : ℕ) (log : List Entry) (node : ℕ) : Type 0 where
  pub least : 1 ≤ node
  pub most : node ≤ 125
  pub other : node ≢ me
  pub free : HasNodeId log node → ⊥

-- The device may be given a node ID: its unique ID is one, stands in no entry, and a node ID is left. There is room
-- for a blank and a pair, and two terms are left.
pub record MayBeServed (me : ℕ) (store : Store) (uid : List ℕ) : Type 0 where
  pub whole : length uid ≡ 16
  pub device : uid ≢ zeros
  pub new : HasUid store.log uid → ⊥
  pub left : (node : ℕ) × IsLeft me store.log node
  pub room : length store.log + 1 < log_limit
  pub terms : store.term + 1 < term_limit

-- The allocator comes to lead as above, and sends what waits. Then the device comes to the bus, in the place of
-- whatever was there, and asks, is answered and follows up, until it holds a node ID that was left; with whatever
-- preference.
abbrev pub ServesDevices : ℕ → List Row → Type 0
ServesDevices n rows = (now a : ℕ) (uid : List ℕ) (preferred : ℕ) → is_place a ≡ true → preferred < 128 →
    let store = found (world_of (n ∷ []) rows) n in MayBeServed n store uid →
    CanGoOn (n ∷ []) rows 33 now 4600 (λ later. (node : ℕ) × IsLeft n store.log node × Holds later a uid node)

-- A device whose unique ID stands in its log gets the node ID that it has there, in the same way. There need be room
-- for a blank alone.
abbrev pub TellsAgain : ℕ → List Row → Type 0
TellsAgain n rows = (now a : ℕ) (uid : List ℕ) (preferred node : ℕ) → is_place a ≡ true → length uid ≡ 16 →
    preferred < 128 → let store = found (world_of (n ∷ []) rows) n in HasPair store.log uid node →
    length store.log < log_limit → store.term + 1 < term_limit →
    CanGoOn (n ∷ []) rows 33 now 4600 (λ later. Holds later a uid node)
