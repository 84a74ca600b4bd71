-- What contracts see of a server of the code, and what it stands for.
use Rattle.std.specs.Prelude.{◌≡◌, IfOk, ℕ, List, Option, None, OnOk, Result, true, is_ok}
use Rattle.disk_model.specs.declared.disk.Disk.{Ghosts}
use Rattle.disk_model.specs.Contents.{MayLeave}
use Rattle.disk_model.specs.Device.{Makes}
use Rattle.kv_store.specs.declared.fault.Fault.{Fault}
use Rattle.raft_log.specs.declared.durable.Durable.{Durable}
use Rattle.raft_log.specs.Calls.{WritesInOrder}
use Rattle.raft_log.specs.DeviceCalls.{copies_after, device_calls}
use Rattle.raft_log.specs.DurableViews.{durable_copies, durable_disk, durable_fault, durable_state}
use Rattle.raft_log.specs.Rules.{StandsForState}
use Rattle.raft_log.specs.Stored.{AfterSome, after_puts}
use Rattle.raft_core.specs.StoredPuts.{PutWithOrigin, stored_puts}
use Rattle.transfer_rx.specs.declared.receiver.Receiver.{Receiver}
use Rattle.transfer_rx.specs.Views as receiver
use Rattle.transfer_rx.specs.Views.{accept_of, setting_of}
use Rattle.transfer_tx.specs.Queue.{Queued}
use Rattle.alloc_spec.specs.declared.event.Event.{Event as CodeEvent}
use Rattle.alloc_spec.specs.declared.event.Event.TheVariants.{Tick as TickCode, Rx as RxCode}
use Rattle.alloc_spec.specs.declared.event.Outcome.{Outcome}
use Rattle.alloc_handlers.specs.declared.member.Member.{Member}
use Rattle.alloc_server.specs.declared.server.Server.{Server}
use Rattle.can_frame.specs.declared.step.Seen.{Seen}
use Rattle.can_frame.specs.Sizes.{blocks, sessions}
use Rattle.transfer_rx.specs.Reassembly.{arrival_of}
use Rattle.alloc_spec.specs.Accepted.{setting_for}
use Rattle.alloc_spec.specs.StepState.{pairs, listing_of}
use Rattle.alloc_handlers.specs.Stands as member
use Rattle.alloc_spec.specs.Delivered.{StepResult}
use Rattle.alloc_spec.specs.Step.{Event, Rx, Tick}
use Rattle.alloc_spec.specs.AllocatorState.{AllocatorState}

-- an event of the code
abbrev pub event_of : CodeEvent → Event
event_of (TickCode now word) = Tick now word
event_of (RxCode frame mark now) = Rx (arrival_of frame mark now)

-- what a finished step tells
pub record Tells (outcome : Outcome) (step_result : StepResult) : Type 0 where
  pub seen : outcome.seen ≡ step_result.seen
  pub sent : outcome.sent.items ≡ listing_of step_result.step_state
  pub given : outcome.answers.items ≡ pairs step_result.step_state

module _ {D F : Type 0} {disk : Ghosts D} where
  abbrev pub durable_of : Server D F disk → Durable D disk
  durable_of server = server.member.durable

  abbrev pub disk_of : Server D F disk → D
  disk_of server = durable_disk server.member.durable

  -- the frames that wait for the bus
  abbrev pub queued : Server D F disk → List Queued
  queued server = server.member.outbox.queue

  -- the fault of the step that failed, or of a server that is closed
  abbrev pub fault_of : Server D F disk → Option Fault
  fault_of server = server.fault

  -- it stands for an allocator state, part for part; no step has failed, nor a put
  pub record StandsFor (server : Server D F disk) (t : AllocatorState) : Type 0 where
    pub member : member.StandsFor server.member t
    pub sessions : receiver.HasSessions server.receiver t.sessions
    pub setting : setting_of server.receiver ≡ setting_for t.me
    pub sound : server.fault ≡ None
    pub works : durable_fault server.member.durable ≡ None

  -- the closure that was given to it
  abbrev pub accepts : Server D F disk → F
  accepts server = accept_of server.receiver

  -- a stop at any moment of a step that makes these puts leaves the state after some of the first of them
  abbrev pub LeavesSome : Server D F disk → Server D F disk → List PutWithOrigin → Type 0
  LeavesSome old new puts = disk.tells (disk_of old) ≡ true → (image : List ℕ) →
      MayLeave (disk.contents (disk_of new)) image →
      AfterSome (StandsForState image) (stored_puts puts (durable_state (durable_of old)))
      (durable_state (durable_of old))

  -- the device calls of these puts were made, up to the first that failed
  abbrev pub MakesCalls : {T : Type 0} → Server D F disk → Server D F disk → List PutWithOrigin → Result T Fault
      → Type 0
  MakesCalls old new puts result = Makes disk.does
      (device_calls (stored_puts puts (durable_state (durable_of old)))
      (durable_state (durable_of old)) (durable_copies (durable_of old)))
      (is_ok result) (disk_of old) (disk_of new)

  -- a step that finishes has made them: what is stored then, and which copies are chosen
  pub record HasPut (old new : Server D F disk) (puts : List PutWithOrigin) : Type 0 where
    pub state : durable_state (durable_of new)
        ≡ after_puts (stored_puts puts (durable_state (durable_of old))) (durable_state (durable_of old))
    pub copies : durable_copies (durable_of new)
        ≡ copies_after (stored_puts puts (durable_state (durable_of old)))
        (durable_state (durable_of old)) (durable_copies (durable_of old))

  -- what a step does that is this of the allocator state
  pub record StepsTo (old new : Server D F disk) (step_result : StepResult) (result : Result Outcome Fault)
      : Type 0 where
    -- where no put fails, it stands for the server afterwards, and tells what was seen and offered
    pub stands : OnOk result (StandsFor new step_result.step_state.allocator)
    pub tells : IfOk result (λ outcome. Tells outcome step_result)
    -- its puts are made in order, up to the first that fails
    pub leaves : LeavesSome old new step_result.step_state.puts
    pub made : MakesCalls old new step_result.step_state.puts result
    pub put : OnOk result (HasPut old new step_result.step_state.puts)
    -- and all else that the store says of its puts: each that was tried was allowed
    pub puts : WritesInOrder (stored_puts step_result.step_state.puts (durable_state (durable_of old)))
        (durable_of old) (durable_of new) (is_ok result)

-- what a step has come to: the member and its receiver, and what it saw
pub record ComesTo {D F : Type 0} {disk : Ghosts D} (start : Durable D disk) (t : AllocatorState)
    (after : Member D disk) (r : Receiver F sessions blocks) (step_result : StepResult) (result : Result Seen Fault)
    : Type 0 where
  pub sees : member.SeesTo start after step_result result
  pub sessions : receiver.HasSessions r step_result.step_state.allocator.sessions
  pub me : step_result.step_state.allocator.me ≡ t.me
