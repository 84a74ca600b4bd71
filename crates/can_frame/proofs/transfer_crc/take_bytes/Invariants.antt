use Rattle.std.proofs.Common.{◌≡◌, drop}
use Rattle.can_frame.specs.TransferCrc.{bits_of, message_bits}
use Rattle.can_frame.specs.Register.{run}
use Rattle.can_frame.proofs.transfer_crc.take_bytes.Given as goal

abbrev pub invariant-loop-byte : goal.invariant-loop-byte
invariant-loop-byte l =
    run (bits_of 16 l.register) (message_bits (drop l.byte-index l.bytes)) ≡ run (bits_of 16 l.fn.register) (message_bits l.bytes)
