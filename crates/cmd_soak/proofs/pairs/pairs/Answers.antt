use Rattle.std.proofs.Common.{◌∙◌, ap, arith}
use Rattle.cmd_soak.specs.Rounds.{one_if}
use Rattle.cmd_soak.proofs.Counting.{one_at_most, one_of, pairs_next}
use Rattle.cmd_soak.proofs.pairs.pairs.Goals as goal

pub loop-place-preserved : goal.loop-place-preserved
loop-place-preserved g c = record {
  few = let one = c.from-pairs.ensures ∙ one_of c.is_pair.result in let most = one_at_most c.is_pair.result in omega (arith, one, most, c.loop-place.invariant.few);
  count = λ w is. pairs_next w c.furthest-n.result c.loop-place.place c.loop-place.pairs c.from-pairs.result (c.loop-place.invariant.count w is)
      (c.from-pairs.ensures ∙ one_of c.is_pair.result ∙ ap one_if (c.is_pair.ensures w is));
}
