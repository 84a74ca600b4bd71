-- The frames that a device sends have no source; and the event by which it comes to a node ID.
use Rattle.std.specs.Prelude.{◌≡◌, ℕ, ◌<◌, ◌≤◌, ◌^◌, false, Some}
use Rattle.can_frame.specs.declared.identifier.Ident.{Ident}
use Rattle.can_frame.specs.declared.identifier.Kind.TheVariants.{Anonymous}
use Rattle.can_frame.specs.Identifier.{identifier_of}
use Rattle.can_frame.specs.Kinds.{is_anonymous}
use Rattle.dsdl_codec.specs.declared.allocation.Allocation.{Allocation}
use Rattle.dsdl_codec.specs.Allocation.{allocation_of}
use Rattle.transfer_rx.specs.Reassembly.{Arrival, Delivery, Gives}
use Rattle.transfer_tx.specs.Queue.{Queued}
use Rattle.allocatee.specs.Allocatee.{Device, Event, answer_to}
use Rattle.allocatee.specs.Allocatee.Event.{Rx}

-- the frame has no source
pub record IsAnonymous (frame : Queued) : Type 0 where
  pub ident : Ident
  pub read : identifier_of frame.id ≡ Some ident
  pub kind : ident.kind ≡ Anonymous
  pub narrow : frame.id < 2 ^ 29

-- the transfer has a source, and reads as an Allocation with the device's whole unique ID and this node ID, 1 to 125
pub record GivesTo (d : Device) (delivery : Delivery) (node : ℕ) : Type 0 where
  pub known : is_anonymous delivery.ident.kind ≡ false
  pub message : Allocation
  pub reads : allocation_of delivery.payload ≡ Some message
  pub uid : message.uid.items ≡ d.asking.uid
  pub gives : message.node ≡ node
  pub least : 1 ≤ node
  pub most : node ≤ 125

-- the event is a frame that completes such a transfer
pub record IsGivenBy (d : Device) (event : Event) (node : ℕ) : Type 0 where
  pub arrival : Arrival
  pub word : ℕ
  pub comes : event ≡ Rx arrival word
  pub delivery : Delivery
  pub gives : answer_to d arrival ≡ Gives delivery
  pub given : GivesTo d delivery node
