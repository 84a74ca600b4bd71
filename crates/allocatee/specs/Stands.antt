-- What contracts see of an allocatee of the code, and what it stands for.
use Rattle.std.specs.Prelude.{◌≡◌, ℕ, List, Option}
use Rattle.transfer_rx.specs.Reassembly.{arrival_of}
use Rattle.transfer_rx.specs.Views.{HasSessions, accept_of}
use Rattle.transfer_tx.specs.Queue.{Queued}
use Rattle.allocatee.specs.declared.allocatee.Allocatee.{Allocatee}
use Rattle.allocatee.specs.declared.event.AEvent.{AEvent}
use Rattle.allocatee.specs.declared.event.AEvent.TheVariants.{Tick as TickCode, Rx as RxCode}
use Rattle.allocatee.specs.Allocatee.{Device, Event}
use Rattle.allocatee.specs.Allocatee.Event.{Tick, Rx}

-- an event of the code
abbrev pub event_of : AEvent → Event
event_of (TickCode now word) = Tick now word
event_of (RxCode frame mark now word) = Rx (arrival_of frame mark now) word

module _ {G : Type 0} where
  pub record StandsFor (allocatee : Allocatee G) (d : Device) : Type 0 where
    pub asking : allocatee.applicant ≡ d.asking
    pub sessions : HasSessions allocatee.receiver d.sessions

  -- the closure that was given to it
  abbrev pub accepts : Allocatee G → G
  accepts allocatee = accept_of allocatee.receiver

  -- the frames that wait for the bus
  abbrev pub queued : Allocatee G → List Queued
  queued allocatee = allocatee.applicant.queue

  abbrev pub held_by : Allocatee G → Option ℕ
  held_by allocatee = allocatee.applicant.holds
