-- The memory that a receiver takes.
use Rattle.std.specs.Prelude.{ℕ}
use Rattle.std.specs.Borrow.{RattleType}
use Rattle.std.specs.Mem.{FitsInMemory}
use denote.Param.{number}
use Rattle.transfer_rx.specs.contracts.receiver.Receiver.{the_row}

-- a receiver with a closure of this type, and so many sessions and blocks, fits in memory. It is so wherever there is
-- one, and computes where the closure is known; code that is generic in the closure asks it of its caller
abbrev pub ReceiverFitsInMemory : RattleType → ℕ → ℕ → Type 0
ReceiverFitsInMemory F S N = FitsInMemory (the_row F (number S) (number N))
