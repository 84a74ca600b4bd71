-- What the laws of service stand on, together: each field is what a law below says. It is a means of their proofs.
use Rattle.std.specs.Prelude.{◌≡◌, ℕ, false, Bool, List, Some}
use Rattle.can_frame.specs.declared.step.Judged.TheVariants.{Fine}
use Rattle.dsdl_codec.specs.declared.allocation.Allocation.{Allocation}
use Rattle.dsdl_codec.specs.Allocation.{IsAllocation, allocation_bytes, allocation_of}
use Rattle.id_selector.specs.Choice.{IsChoice, chosen}
use Rattle.raft_model.specs.Decisions.{verdict_on}
use Rattle.raft_model.specs.Fit.{IsFit}
use Rattle.raft_model.specs.Messages.{Request}
use Rattle.raft_model.specs.Moves.Appending.{IsJudged}
use Rattle.raft_model.specs.Runs as raft
use Rattle.raft_model.specs.Runs.{Lawful, initial_world}
use Rattle.raft_model.specs.Server.{RaftServer}
use Rattle.transfer_rx.specs.Reassembly.{Arrival, Delivery, Gives, answer, next}
use Rattle.transfer_rx.specs.Sessions.{Session}
use Rattle.allocatee.specs.Accepted.{setting as device_setting}
use Rattle.allocatee.specs.Allocatee.{Device, answer_to, at_step}
use Rattle.allocatee.specs.Allocatee as device
use Rattle.allocatee.specs.Judging.{arrival_judgement}
use Rattle.alloc_spec.specs.Accepted.{setting_for}
use Rattle.alloc_spec.specs.AllocatorState.{AllocatorState}
use Rattle.alloc_spec.specs.Ending.{call_phase}
use Rattle.alloc_spec.specs.Step.{Event, step}
use Rattle.alloc_spec_laws.specs.Phases.{TellsDuly, when_committed, when_told}
use Rattle.bus_agreement.specs.Allocatees.{HasAllocatees}
use Rattle.bus_agreement.specs.Headline.{HasHeadline}
use Rattle.service_steps.specs.Devices.{RequestsAreRequests}
use Rattle.service_steps.specs.Requests.{IsRequest, delivery_of}
use Rattle.service_steps.specs.Serving.{GivesFollowUps, RecordsPairs}
use Rattle.service_calm.specs.CalmBelow.{CalmGrounds, IsSaid}
use Rattle.service_calm.specs.Calls.{ListsStay}
use Rattle.service_calm.specs.Devices.{AllocationsComeInCalm}
use Rattle.service_leader.specs.Entries.{CallsReturnToWhoLeadsOn, EntriesAreCommittedInTime, EntriesComeInTime}
use Rattle.service_leader.specs.EntriesBelow.{EntryLaws}

-- of a calm; of steps; of devices and what they are told; of the Raft model; and of what comes in calm
pub record ServiceGrounds : Type 0 where
  pub calm : CalmGrounds
  pub tell : (t : AllocatorState) (number : ℕ) (event : Event) →
      TellsDuly number (when_committed t number event) (when_told t number event)
  pub phases : (t : AllocatorState) (number : ℕ) (event : Event) →
      (step t number event).step_state ≡ call_phase number (when_told t number event)
  pub device_heard : (d : Device) (number word : ℕ) (arrival : Arrival) →
      (device.step d number (device.Rx arrival word)).device.sessions ≡ next device_setting d.sessions (at_step d arrival)
  pub device_ticked : (d : Device) (number now word : ℕ) →
      (device.step d number (device.Tick now word)).device.sessions ≡ d.sessions
  pub device_uid : (d : Device) (number : ℕ) (event : device.Event) →
      (device.step d number event).device.asking.uid ≡ d.asking.uid
  pub untorn : (d : Device) (arrival : Arrival) (delivery : Delivery) → arrival_judgement d arrival ≡ Fine →
      answer_to d arrival ≡ Gives delivery → delivery.whole ≡ false → arrival.mark.step ≡ 0
  pub read : (value : Allocation) → IsAllocation value → allocation_of (allocation_bytes value) ≡ Some value
  pub requests : RequestsAreRequests
  pub delivered : (me : ℕ) (sessions : List Session) (arrival : Arrival) (message : Allocation)
      (request : IsRequest arrival message) →
      answer (setting_for me) sessions arrival ≡ Gives (delivery_of arrival request.ident)
  pub follow : GivesFollowUps
  pub record_pairs : RecordsPairs
  pub choice : (taken : List Bool) (preferred : ℕ) → IsChoice taken preferred (chosen taken preferred)
  pub headline : IsSaid HasHeadline
  pub allocatees : IsSaid HasAllocatees
  pub fit : (members : List ℕ) (events : List raft.Event) (member : ℕ) → Lawful (initial_world members) events →
      IsFit member ((raft.run (initial_world members) events).server member)
  pub judged : (server : RaftServer) (request : Request) → IsJudged server request (verdict_on server request)
  pub lists_stay : ListsStay
  pub entries : IsSaid EntryLaws
  pub come : IsSaid EntriesComeInTime
  pub committed : IsSaid EntriesAreCommittedInTime
  pub return : IsSaid CallsReturnToWhoLeadsOn
  pub allocations : IsSaid AllocationsComeInCalm
