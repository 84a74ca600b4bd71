-- What holds of the requests that a member has accepted holds behind each step, where it is kept by the request that comes.
use Rattle.std.proofs.Common.{◌≡◌, ℕ, Bool, List, Some}
use Rattle.alloc_exchange.specs.Exchange.{Accepted, after}
use Rattle.can_frame.specs.declared.identifier.Kind.TheVariants.{Anonymous}
use Rattle.cluster_discovery.specs.Members.{is_due}
use Rattle.dsdl_codec.specs.declared.allocation.Allocation.{Allocation}
use Rattle.dsdl_codec.specs.Allocation.{allocation_of}
use Rattle.transfer_rx.specs.Reassembly.{Arrival, Delivery, Gives}
use Rattle.alloc_spec.specs.AllocatorState.{AllocatorState, start_of}
use Rattle.alloc_spec.specs.Exchange.{may_follow}
use Rattle.alloc_spec.specs.Step.{Event, step}
use Rattle.alloc_spec.specs.Step.Event.{Rx}
use Rattle.alloc_spec.specs.StepState.{StepState}
use Rattle.alloc_spec.specs.Tick.{tells_members}
use Rattle.alloc_spec_laws.proofs.Choices.{either}
use Rattle.service_device.proofs.AllocationsOffered.{comes_to}
use Rattle.service_device.proofs.TidySteps.{IsPassed, step_passes}

module _ (number : ℕ) (Fits : List Accepted → Type 0) where
  abbrev FitsIn : StepState → Type 0
  FitsIn g = Fits g.allocator.accepted

  passed : IsPassed number FitsIn
  passed = record {
    discovers = λ g h. either FitsIn (is_due (start_of g.allocator) g.allocator.heard g.allocator.now) (tells_members number g) g (λ e. h) (λ e. h);
    moves = λ given moves g h. h;
    sends = λ what to payload says g other h. h;
    responds = λ what d payload says g other h. h;
    states = λ g h. h;
    queries = λ node id g h. h;
    sessions = λ sessions g h. h;
    infos = λ d info g h. h;
  }

  -- so it is behind a request of this kind, at whatever moment
  abbrev pub FitsBehind : Allocation → Type 0
  FitsBehind message = (accepted : List Accepted) (moment : ℕ) (follows : Bool) → Fits accepted → Fits (after accepted message moment follows)

  pub accepted_on : (t : AllocatorState) (event : Event)
      → ((arrival : Arrival) → event ≡ Rx arrival → (d : Delivery) → comes_to t arrival ≡ Gives d → d.ident.kind ≡ Anonymous → (message : Allocation)
      → allocation_of d.payload ≡ Some message → FitsBehind message)
      → Fits t.accepted → Fits (step t number event).step_state.allocator.accepted
  accepted_on t event fits h = step_passes number FitsIn passed t event (λ arrival is d gives. record {
    request = λ kind message says g f. fits arrival is d gives kind message says g.allocator.accepted g.allocator.now (may_follow g.allocator) f;
    status = λ kind g f. f;
    discovery = λ kind other message says g f. f;
  }) h
