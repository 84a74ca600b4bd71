use Rattle.std.proofs.Common.{◌≡◌, ◌+◌, ◌++◌, length, take}
use Rattle.dsdl_codec.proofs.numbers.append_bytes.Given as goal

abbrev pub invariant-loop-byte : goal.invariant-loop-byte
invariant-loop-byte l = record {
  items : l.numbers.items ≡ l.fn.numbers.items ++ take l.byte-index l.bytes;
  len : length l.numbers.items ≡ length l.fn.numbers.items + l.byte-index;
}
