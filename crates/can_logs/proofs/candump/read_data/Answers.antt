use Rattle.std.proofs.Common.{arith}
use Rattle.can_logs.proofs.Numbers.{hex_without}
use Rattle.can_logs.proofs.candump.read_data.Goals as goal

pub returns-in_err-id-clause-only : goal.returns-in_err-id-clause-only
returns-in_err-id-clause-only c = λ frame is.
    absurd (c.in_err-id.ensures.only is.id is.parts.whole (hex_without 35 is.id _ (omega arith) is.spells.id_read) is.parts.spelled)

pub returns-clause-only : goal.returns-clause-only
returns-clause-only c = λ frame is.
    let parts = c.in_ok-id.ensures.only is.id is.parts.whole (hex_without 35 is.id _ (omega arith) is.spells.id_read) is.parts.spelled in
    let bytes = c.without_direction.ensures.only is.bytes (hex_without 32 is.bytes _ (omega arith) is.spells.bytes_read) (rw parts.1 is.parts.ends) in
    c.read_frame.ensures.only frame (rw parts.0 is.spells.id_read) (rw bytes is.spells.bytes_read)
