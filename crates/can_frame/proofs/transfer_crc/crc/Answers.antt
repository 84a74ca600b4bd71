use Rattle.std.proofs.Common.{[], ap, ◌∙◌}
use Rattle.std.specs.Int.{to_le_bytes, w64}
use Rattle.can_frame.specs.TransferCrc.{crc_of}
use Rattle.can_frame.proofs.Numbers.{of_nothing}
use Rattle.can_frame.proofs.transfer_crc.crc.Goals as goal

pub returns : goal.returns
returns c =
    c.crc_more.ensures (to_le_bytes w64 c.args.signature)
    (c.crc_more-begun.ensures [] of_nothing ∙ ap crc_of c.to_le_bytes.ensures)
