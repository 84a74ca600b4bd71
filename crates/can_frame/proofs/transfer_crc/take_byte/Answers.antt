use Rattle.can_frame.proofs.AtOnce.{run-at_once}
use Rattle.can_frame.proofs.transfer_crc.take_byte.Goals as goal

pub returns : goal.returns
returns c = let e = run-at_once c.args.register c.args.byte in cc
