-- What a step makes of the list of members.
use Rattle.std.specs.Prelude.{◌≡◌, ℕ, false, nat_eq, Some}
use Rattle.can_frame.specs.declared.identifier.Kind.TheVariants.{Message as Broadcast}
use Rattle.can_frame.specs.DataTypes.{node_status}
use Rattle.cluster_discovery.specs.Members.{Names}
use Rattle.dsdl_codec.specs.declared.discovery.Discovery.{Discovery}
use Rattle.dsdl_codec.specs.Discovery.{discovery_of}
use Rattle.transfer_rx.specs.Reassembly.{Arrival, Delivery, answer}
use Rattle.transfer_rx.specs.Reassembly.Answer.{Gives}
use Rattle.alloc_spec.specs.Accepted.{setting_for}
use Rattle.alloc_spec.specs.Step.{Event, at_step, begin_phase, moment_of}
use Rattle.alloc_spec.specs.Step.Event.{Rx}
use Rattle.alloc_spec.specs.AllocatorState.{AllocatorState, start_of}

-- the step is delivered this transfer
pub record IsDelivered (t : AllocatorState) (number : ℕ) (event : Event) (d : Delivery) : Type 0 where
  pub arrival : Arrival
  pub comes : event ≡ Rx arrival
  pub gives : let then_ = (begin_phase number (moment_of event) t).allocator in
      answer (setting_for then_.me) then_.sessions (at_step then_ arrival) ≡ Gives d

-- a delivered transfer is this Discovery; of the messages that are received only NodeStatus is none
pub record IsDiscovery (d : Delivery) (message : Discovery) : Type 0 where
  pub kind : d.ident.kind ≡ Broadcast
  pub number : nat_eq d.ident.number node_status.number ≡ false
  pub says : discovery_of d.payload ≡ Some message

-- a Discovery that the step is delivered names the node
pub record IsNamed (t : AllocatorState) (number : ℕ) (event : Event) (node : ℕ) : Type 0 where
  pub d : Delivery
  pub message : Discovery
  pub delivered : IsDelivered t number event d
  pub discovery : IsDiscovery d message
  pub names : Names (start_of t) d.ident.source message node
