use Rattle.std.proofs.Common.{arith}
use Rattle.can_frame.proofs.Numbers.{continued}
use Rattle.can_frame.proofs.transfer_crc.crc_more.Goals as goal

pub returns : goal.returns
returns c = λ bytes e. continued bytes c.args.more.now c.args.crc c.take_bytes.result (omega arith) e c.take_bytes.ensures
