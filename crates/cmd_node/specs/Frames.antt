-- Frames as a link carries them, and as allocators take and send them.
use Rattle.std.specs.Prelude.{ℕ, ◌-◌, ◌++◌, Bool, ◌&&◌, nat_le, nat_lt, length, take, replicate}
use Rattle.std.specs.Prelude.{Option, Some, None, if◌then◌else◌}
use Rattle.outside.specs.declared.received.RawFrame.{RawFrame}
use Rattle.outside.specs.declared.received.Received.{Received}
use Rattle.outside.specs.declared.received.Received.TheVariants.{Frame, Junk, Nothing}
use Rattle.alloc_spec.specs.Step.{Event, Rx}
use Rattle.transfer_tx.specs.Queue.{Queued}

-- an allocator takes what has an identifier of 29 bits, and 1 to 8 data bytes
abbrev pub is_frame : RawFrame → Bool
is_frame raw = nat_le raw.len 8 && (nat_lt raw.id 536870912 && nat_lt 0 raw.len)

-- a frame comes to the allocator at a moment: the data bytes alone, with a mark of zeros
abbrev pub receipt : ℕ → RawFrame → Event
receipt moment raw = Rx (record {
  id = raw.id;
  bytes = take raw.len raw.bytes;
  mark = record { step = 0; re = 0; place = 0 };
  moment = moment;
})

-- what the next item of a link leads to, if to anything
abbrev pub event_in : ℕ → Received → Option Event
event_in moment (Frame raw) = if is_frame raw then Some (receipt moment raw) else None
event_in moment Junk = None
event_in moment Nothing = None

-- a frame of the queue as it is sent: zeros stand behind its bytes
abbrev pub raw_of : Queued → RawFrame
raw_of frame = record {
  id = frame.id;
  len = length frame.bytes;
  bytes = frame.bytes ++ replicate (8 - length frame.bytes) 0;
}
