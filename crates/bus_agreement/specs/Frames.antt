-- What stands on the bus of a cluster, and what its members and allocatees hear of it.
--
-- Facts about frames go by the source that a frame's identifier names: one with a member's source is a frame of a
-- transfer that this member made; of one from elsewhere nothing is said but that it is not forged.
use Rattle.std.specs.Prelude.{◌≡◌, ◌⊎◌, ℕ, ◌<◌, ◌≤◌, false, List, length, slice_index_or, All}
use Rattle.can_frame.specs.Identifier.{identifier_of}
use Rattle.raft_model.specs.Lists.{In}
use Rattle.transfer_rx.specs.Origin.{CameWithKey}
use Rattle.transfer_rx.specs.Reassembly.{Arrival, Delivery, Setting}
use Rattle.transfer_rx.specs.Sessions.{Session}
use Rattle.transfer_tx.specs.Queue.{Queued}
use Rattle.alloc_spec_laws.specs.Sound.{IsInRange}
use Rattle.alloc_spec.specs.Transfers.{SentTransfer, frames_of, kind_of, number_of}
use Rattle.bus_spec.specs.Cluster.{no_frame}
use Rattle.bus_spec.specs.Lawful.{is_forged}

-- ---- frames on the bus

-- the frame is one of those of a transfer that this member made
pub record IsPiece (made : List SentTransfer) (by : ℕ) (frame : Queued) : Type 0 where
  pub whose : SentTransfer
  pub was_made : In whose made
  pub maker : whose.by ≡ by
  pub place : frame.mark.place < length (frames_of whose)
  pub same : slice_index_or (frames_of whose) frame.mark.place no_frame ≡ frame

abbrev pub IsMembers : List SentTransfer → List ℕ → Queued → Type 0
IsMembers made ids frame = (n : ℕ) × In n ids × IsPiece made n frame

-- the frame has no member's source, and is no transfer that members send each other
abbrev pub IsForeign : List ℕ → Queued → Type 0
IsForeign ids frame = is_forged ids (identifier_of frame.id) ≡ false

-- a frame on the bus is a member's or from elsewhere
abbrev pub IsOnBus : List SentTransfer → List ℕ → Queued → Type 0
IsOnBus made ids frame = IsMembers made ids frame ⊎ IsForeign ids frame

-- ---- transfers

-- transfers of members are told apart by step, kind, destination and transfer ID; each has a step and a member, and
-- its fields are in their ranges
pub record AreTransfers (ids : List ℕ) (made : List SentTransfer) : Type 0 where
  pub once : (x y : SentTransfer) → In x made → In y made → x.step ≡ y.step →
      x.offer.what ≡ y.offer.what →
      x.offer.to ≡ y.offer.to
      → x.offer.id ≡ y.offer.id → x ≡ y
  pub numbered : (x : SentTransfer) → In x made → 1 ≤ x.step
  pub makers : (x : SentTransfer) → In x made → In x.by ids
  pub ranges : (x : SentTransfer) → In x made → IsInRange x.offer

-- ---- what is heard

-- a frame as it came is one of these
pub record CameFrom (frames : List Queued) (arrival : Arrival) : Type 0 where
  pub frame : Queued
  pub there : In frame frames
  pub id : arrival.id ≡ frame.id
  pub bytes : arrival.bytes ≡ frame.bytes
  pub mark : arrival.mark ≡ frame.mark

-- all that the sessions of a receiver keep are frames that stood on the bus, and came with the session's key
pub record AreHeard (frames : List Queued) (setting : Setting) (sessions : List Session) : Type 0 where
  pub arrivals : List Arrival
  pub come : (arrival : Arrival) → In arrival arrivals → CameFrom frames arrival
  pub kept : All (CameWithKey setting arrivals) sessions

-- what is delivered is this transfer
pub record IsTransferOf (d : Delivery) (x : SentTransfer) : Type 0 where
  pub step : x.step ≡ d.mark.step
  pub by : x.by ≡ d.ident.source
  pub kind : kind_of x.offer.what ≡ d.ident.kind
  pub number : number_of x.offer.what ≡ d.ident.number
  pub to : x.offer.to ≡ d.ident.dest
  pub id : x.offer.id ≡ d.id
  pub re : x.offer.re ≡ d.mark.re
  pub payload : x.offer.payload ≡ d.payload

-- what is delivered is a transfer that was made
abbrev pub WasMade : List SentTransfer → Delivery → Type 0
WasMade made d = (x : SentTransfer) × In x made × IsTransferOf d x
