-- Allocations of a member at a power-on of many nodes with fixed addresses: forty of them, each 10 ms behind the one
-- before. Those with the numbers 32 to 39 have the transfer IDs of the first eight. The lists are made by hand: no row
-- makes these Allocations.
use Rattle.std.specs.Prelude.{ℕ, zero, suc, ◌+◌, ◌*◌, ◌%◌, true, List, [], ◌∷◌, None}
use Rattle.can_frame.specs.Cutting.{tail_at}
use Rattle.can_frame.specs.Identifier.{identifier_number}
use Rattle.can_frame.specs.Tail.{tail_byte}
use Rattle.can_frame.specs.declared.step.What.TheVariants.{Alloc}
use Rattle.bus_rows.specs.declared.row.Row.TheVariants.{Tick}
use Rattle.bus_rows.specs.Timed.{Timed}
use Rattle.transfer_tx.specs.Queue.{Queued}
use Rattle.alloc_spec.specs.Transfers.{SentTransfer, ident_of}

-- an Allocation of member 1 with this number, counted from 0, in one frame
abbrev pub numbered : ℕ → SentTransfer
numbered k = record {
  step = k + 1;
  by = 1;
  offer = record { what = Alloc; to = 0; id = k % 32; payload = 2 * k ∷ []; re = 0; says = None; fitted = true };
}

abbrev pub numbered_from : ℕ → ℕ → List SentTransfer
numbered_from first zero = []
numbered_from first (suc more) = numbered first ∷ numbered_from (first + 1) more

-- the frame of the Allocation with this number
abbrev pub frame_numbered : ℕ → Queued
frame_numbered k = record {
  id = identifier_number (ident_of 1 Alloc 0);
  bytes = 2 * k ∷ (tail_byte (tail_at (k % 32) 0 true) ∷ []);
  mark = record { step = k + 1; re = 0; place = 0 };
}

-- so many frames, from the one with this number on
abbrev pub frames_numbered : ℕ → ℕ → List Queued
frames_numbered first zero = []
frames_numbered first (suc more) = frame_numbered first ∷ frames_numbered (first + 1) more

-- rows at the moments of so many Allocations, from the one with this number on
abbrev pub ticks_from : ℕ → ℕ → List Timed
ticks_from first zero = []
ticks_from first (suc more) = record { at = 10 * first; row = Tick 1 (10 * first) 0 } ∷ ticks_from (first + 1) more
