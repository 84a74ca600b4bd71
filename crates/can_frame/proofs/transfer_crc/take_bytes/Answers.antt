use Rattle.std.proofs.Common.{arith, ◌∙◌, sym}
use Rattle.can_frame.proofs.Long.{turn, ended}
use Rattle.can_frame.proofs.transfer_crc.take_bytes.Goals as goal

pub loop-byte-preserved : goal.loop-byte-preserved
loop-byte-preserved c =
    turn c.args.bytes.now c.loop-byte.byte-index _ _ c.loop-byte-test.true c.take_byte-register.ensures ∙ c.loop-byte.invariant

pub returns : goal.returns
returns c = sym (ended c.args.bytes.now c.loop-byte.byte-index _ (omega arith)) ∙ c.loop-byte.invariant
