-- All that waits in the queue of a device is anonymous, after a step too.
use Rattle.std.proofs.Common.{ℕ, List, subst, sym}
use Rattle.std.specs.Prelude.{All}
use Rattle.transfer_tx.specs.Queue.{Queued}
use Rattle.allocatee.specs.Allocatee.{Device, Event, step}
use Rattle.allocatee.specs.Allocatee.Event.{Rx, Tick}
use Rattle.allocatee.specs.Asking.{at_moment}
use Rattle.allocatee.specs.Given.{IsAnonymous}
use Rattle.allocatee.proofs.Anonymous.{ReadsAgain, all_ticks}
use Rattle.allocatee.proofs.Giving.{frame_queue}

pub all_stepped : ReadsAgain → (d : Device) (number : ℕ) (event : Event) → All IsAnonymous d.asking.queue → All IsAnonymous (step d number event).device.asking.queue
unfolding step
all_stepped again d number (Tick now word) all = all_ticks again number word (at_moment now d.asking) all
all_stepped again d number (Rx arrival word) all = subst (λ (queue : List Queued). All IsAnonymous queue) (sym (frame_queue d number word arrival)) all
