-- What each allocator keeps with its own log: the log gives no ID twice, and whatever pair the allocator offers to the
-- bus is one of its own committed log by then. A vehicle maker relies on this.
use Rattle.std.specs.Prelude.{ℕ, ◌+◌, List, [], ◌∷◌, if◌then◌else◌, IfSome}
use Rattle.std.specs.Option.{option_map_or}
use Rattle.can_frame.specs.declared.entry.Entry.{Entry}
use Rattle.can_frame.specs.Log.{HasPair, IsInjective}
use Rattle.kv_store.specs.KeyDisk.{KeyDisk}
use Rattle.raft_log.specs.KeyDisk.{are_put}
use Rattle.raft_log.specs.Stored.{Stored}
use Rattle.raft_model.specs.Lists.{In}
use Rattle.raft_model.specs.Server.{committed}
use Rattle.bus_rows.specs.declared.row.Row.{Row}
use Rattle.alloc_spec.specs.Delivered.{StepResult}
use Rattle.alloc_spec.specs.StepState.{pairs}
use Rattle.alloc_spec.specs.Step.{Event, step}
use Rattle.alloc_spec.specs.Transfers.{GivenPair}
use Rattle.bus_spec.specs.Cluster.{Cluster, after_row, step_of}
use Rattle.bus_spec.specs.Members.{MemberStatus, Member, puts_of, server_of}
use Rattle.bus_spec.specs.Members.MemberStatus.{Down, Up, Failed}

-- ---- the pairs that a row offers: those of the Allocations that a finished step puts into its queue, read from
-- their payload

abbrev pub pairs_of_result : Member → StepResult → List GivenPair
pairs_of_result x step_result =
    if are_put (puts_of x step_result.step_state) x.disk.calls then pairs step_result.step_state else []

abbrev pub pairs_of_step : ℕ → Event → MemberStatus → Member → List GivenPair
pairs_of_step row event Down x = []
pairs_of_step row event (Up server) x = pairs_of_result x (step server row event)
pairs_of_step row event (Failed failure) x = []

-- the committed log of a member that runs
abbrev pub committed_by : MemberStatus → List Entry
committed_by status = option_map_or (λ server. committed server.raft_server.store) (server_of status) []

abbrev pub AreOwn : List GivenPair → MemberStatus → Type 0
AreOwn givens status = (given : GivenPair) → In given givens → HasPair (committed_by status) given.0 given.1

-- whatever pair a lawful row offers, it is committed when the row is done
abbrev pub OffersItsOwn : Cluster → Row → Type 0
OffersItsOwn w row = IfSome (step_of w row) (λ taken.
    AreOwn (pairs_of_step (w.rows + 1) taken.1 (w.member taken.0).status (w.member taken.0))
    ((after_row w row).member taken.0).status)

-- ---- each log

-- of a member that runs, or as its disk has it
abbrev pub log_on : MemberStatus → KeyDisk Stored → List Entry
log_on Down disk = disk.store.log
log_on (Up server) disk = server.raft_server.store.log
log_on (Failed failure) disk = disk.store.log

-- no log gives one node ID to two devices, or two to one
abbrev pub GivesOnce : Cluster → Type 0
GivesOnce w = (n : ℕ) → In n w.ids → IsInjective (log_on (w.member n).status (w.member n).disk)

-- along the rows
abbrev pub KeepsItsWord : Cluster → List Row → Type 0
KeepsItsWord w [] = GivesOnce w
KeepsItsWord w (row ∷ rows) = GivesOnce w × OffersItsOwn w row × KeepsItsWord (after_row w row) rows
