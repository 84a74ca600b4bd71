use Rattle.std.proofs.Common.{drop}
use Rattle.replay_text.proofs.Numbers.{WritesSoFar}
use Rattle.replay_text.proofs.word.value_of_digits.Given as goal

-- what the digits so far write
abbrev pub invariant-loop-byte : goal.invariant-loop-byte
invariant-loop-byte l = record { writes : WritesSoFar l.word (drop l.byte-index l.word) l.n }
