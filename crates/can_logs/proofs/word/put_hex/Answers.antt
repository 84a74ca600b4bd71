use Rattle.std.proofs.Common.{arith, sym, append-nil}
use Rattle.hex.specs.Hex.{encode_with, upper_digits}
use Rattle.can_logs.proofs.Numbers.{hex_more}
use Rattle.can_logs.proofs.word.put_hex.Goals as goal

pub loop-byte-init : goal.loop-byte-init
unfolding encode_with
loop-byte-init g c = record { text = sym (append-nil _); len = omega arith }

pub loop-byte-preserved : goal.loop-byte-preserved
loop-byte-preserved g c = record {
  text =
      hex_more upper_digits c.args.text.now.items c.args.bytes.now c.loop-byte.text.items c.push.new.self.items c.push-in-loop-byte.new.self.items
      c.loop-byte.byte-index c.from.result c.from-in-loop-byte.result c.loop-byte-test.true c.loop-byte.invariant.text c.from.ensures
      c.from-in-loop-byte.ensures c.push.ensures.items c.push-in-loop-byte.ensures.items;
  len = omega arith;
}
