-- Traces of a bus with replacements: rows, and between them copies of a leader's disk to a lost member, any number of
-- each, in any order.
--
-- A member is lost with its machine. A new machine takes its place, with the content of the leader's disk. All members
-- are stopped then: what waited in their queues, what their receivers had begun and what they had in memory is gone, as
-- after any stop. Frames that were on the bus may still come, and devices go on as they were. But no vote request from
-- before, and no answer to one, comes to a member any more: all members stood still, for longer than a frame lasts.
use Rattle.std.specs.Prelude.{◌≡◌, ⊤, ℕ, ◌-◌, Bool, false, List, [], ◌∷◌, length, Option, None, Some, nat_eq, nat_lt, ◌&&◌}
use Rattle.can_frame.specs.DataTypes.{request_vote}
use Rattle.can_frame.specs.Identifier.{identifier_of}
use Rattle.can_frame.specs.Kinds.{is_service}
use Rattle.can_frame.specs.declared.identifier.Ident.{Ident}
use Rattle.disk_model.specs.Memory.{nothing_set}
use Rattle.kv_store.specs.KeyDisk.{KeyDisk}
use Rattle.raft_core.specs.StoredPuts.{store_of}
use Rattle.raft_log.specs.Stored.{Stored}
use Rattle.raft_model.specs.Lists.{In}
use Rattle.raft_model.specs.Runs.{World, initial_world}
use Rattle.raft_model.specs.Server.{memory_when_down}
use Rattle.raft_replaced.specs.Replacement.{MayBeCopied}
use Rattle.transfer_tx.specs.Queue.{Queued}
use Rattle.alloc_spec.specs.Transfers.{SentTransfer}
use Rattle.bus_rows.specs.declared.row.Row.{Row}
use Rattle.bus_rows.specs.declared.row.Row.TheVariants.{Rx}
use Rattle.bus_spec.specs.Choices.{RowAgreesWithDisk}
use Rattle.bus_spec.specs.Cluster.{Cluster, after_row, cluster, frame_at, with_member}
use Rattle.bus_spec.specs.Lawful.{DoesNoHarm}
use Rattle.bus_spec.specs.Members.{fresh_member}
use Rattle.bus_spec.specs.Members.MemberStatus.{Down}
use Rattle.bus_spec.specs.Refinement.{transfers_of_row}

pub data Item : Type 0 where
  -- a row comes
  Takes : (row : Row) → Item
  -- the lost member gets a copy of this leader's disk
  Replaces : (lost leader : ℕ) → Item

-- ---- a replacement

-- a new disk with the bytes of this one, all of them synced, and nothing set to fail
abbrev pub copy_of : KeyDisk Stored → KeyDisk Stored
copy_of disk = record { store = disk.store; copies = disk.copies; unsynced = None; calls = nothing_set 0 }

-- the world in which the lost member is a new one, with a copy of the leader's disk; no row is counted
abbrev pub replaced : Cluster → ℕ → ℕ → Cluster
replaced w lost leader = with_member w lost (record fresh_member { disk = copy_of (w.member leader).disk })

-- the world of the Raft model in which all members are down, with what the disks store
abbrev pub as_stopped : Cluster → World
as_stopped w = record (initial_world w.ids) {
  server = λ n. record { store = store_of (w.member n).disk.store; memory = memory_when_down };
}

-- All members are stopped, and the guard of the Raft model holds of what their disks store (`MayBeCopied`): a quorum of
-- them backs the leader, itself among them and the lost one not, and the leader's log is committed to its end.
pub record MayBeReplaced (w : Cluster) (lost leader : ℕ) : Type 0 where
  pub down : (n : ℕ) → In n w.ids → (w.member n).status ≡ Down
  pub listed : In leader w.ids
  pub guard : MayBeCopied (as_stopped w) lost leader

-- ---- frames from before

-- a RequestVote, or the answer to one
abbrev pub is_of_vote : Option Ident → Bool
is_of_vote None = false
is_of_vote (Some ident) = is_service ident.kind && nat_eq ident.number request_vote.number

abbrev pub is_vote_frame : Queued → Bool
is_vote_frame frame = is_of_vote (identifier_of frame.id)

-- the row brings a member a frame of a vote that is one of so many first frames of the bus
abbrev pub brings_old_vote : ℕ → Cluster → Row → Bool
brings_old_vote old w (Rx n k ms) = nat_lt (k - 1) old && is_vote_frame (frame_at w.frames k)
brings_old_vote old w row = false

-- ---- traces

abbrev pub after_item : Cluster → Item → Cluster
after_item w (Takes row) = after_row w row
after_item w (Replaces lost leader) = replaced w lost leader

abbrev pub after_items : Cluster → List Item → Cluster
after_items w [] = w
after_items w (item ∷ items) = after_items (after_item w item) items

-- the world after these, from the beginning
abbrev pub world_along : List ℕ → List Item → Cluster
world_along ids items = after_items (cluster ids) items

-- Each item may come when its turn is there: a row does no harm, and brings no member a frame of a vote from before the
-- last replacement. Of the frames on the bus so many are from before it.
abbrev pub ComeInTurn : ℕ → Cluster → List Item → Type 0
ComeInTurn old w [] = ⊤
ComeInTurn old w (Takes row ∷ items) =
    DoesNoHarm w row × (brings_old_vote old w row ≡ false) × ComeInTurn old (after_row w row) items
ComeInTurn old w (Replaces lost leader ∷ items) =
    MayBeReplaced w lost leader × ComeInTurn (length w.frames) (replaced w lost leader) items

-- from the beginning
abbrev pub IsTrace : List ℕ → List Item → Type 0
IsTrace ids items = ComeInTurn 0 (cluster ids) items

-- a choice agrees with what each stop finds; a replacement finds all members stopped
abbrev pub AgreesAlong : (ℕ → Bool) → Cluster → List Item → Type 0
AgreesAlong choice w [] = ⊤
AgreesAlong choice w (Takes row ∷ items) = RowAgreesWithDisk choice w row × AgreesAlong choice (after_row w row) items
AgreesAlong choice w (Replaces lost leader ∷ items) = AgreesAlong choice (replaced w lost leader) items

-- the transfers that were made, the latest first, before those made earlier
abbrev pub transfers_along : Cluster → List Item → List SentTransfer → List SentTransfer
transfers_along w [] earlier = earlier
transfers_along w (Takes row ∷ items) earlier =
    transfers_along (after_row w row) items (transfers_of_row w row earlier)
transfers_along w (Replaces lost leader ∷ items) earlier = transfers_along (replaced w lost leader) items earlier

-- a trace without replacements
abbrev pub only_rows : List Row → List Item
only_rows [] = []
only_rows (row ∷ rows) = Takes row ∷ only_rows rows
