use Rattle.std.proofs.Common.{◌≡◌, ◌+◌, ◌*◌, ◌++◌, length, take}
use Rattle.hex.specs.Hex.{encode_upper}
use Rattle.can_logs.proofs.word.put_hex.Given as goal

-- the digits of the bytes so far stand behind what was there
abbrev pub invariant-loop-byte : goal.invariant-loop-byte
invariant-loop-byte g l = record {
  text : l.text.items ≡ l.initial.text.items ++ encode_upper (take l.byte-index l.bytes);
  len : length l.text.items ≡ length l.initial.text.items + 2 * l.byte-index;
}
