use Rattle.std.proofs.Common.{arith}
use Rattle.kv_store.proofs.Tables.{zeros_are_bits, zeros_are_zero}
use Rattle.kv_store.proofs.table.Table.empty.Goals as goal

pub invariant_of-result : goal.invariant_of-result
invariant_of-result c = record {
  full = omega (arith, c.loop.invariant.count, c.loop.auto.counter-end, c.loop-test.false);
  short = λ key. rw (c.loop.invariant.empty key) (omega arith);
  bits = zeros_are_bits 132;
}

pub returns-clause-copies : goal.returns-clause-copies
returns-clause-copies c = zeros_are_zero 132
