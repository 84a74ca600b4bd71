-- The allocatees of a cluster under test: up to 8 devices that ask for node IDs, with the numbers 1 to 8.
use Rattle.std.specs.Prelude.{ℕ, ◌&&◌, nat_le, Bool, Option, None, Some}
use Rattle.allocatee.specs.Allocatee.{Device, Event, after_pop, step}
use Rattle.transfer_tx.specs.Queue.{Queued, next_out}

-- a number that an allocatee may have
abbrev pub is_place : ℕ → Bool
is_place a = nat_le 1 a && nat_le a 8

-- what a step of the row with this number leaves of it; where none is there, none
abbrev pub device_after_step : ℕ → Event → Option Device → Option Device
device_after_step row event None = None
device_after_step row event (Some device) = Some (step device row event).device

-- ---- its queue

-- the frame that goes out next
abbrev pub next_from : Option Device → Option Queued
next_from None = None
next_from (Some device) = next_out device.asking.queue

-- the allocatee after its next frame went out
abbrev pub after_sending_from : Option Device → Option Device
after_sending_from None = None
after_sending_from (Some device) = Some (after_pop device)
