use Rattle.std.proofs.Common.{replicate, length, None, [], ap, arith, subst, sym, ◌∙◌}
use Rattle.std.proofs.lemmas.List.{length-replicate}
use Rattle.transfer_rx.specs.Ages.{IsSince}
use Rattle.transfer_rx.specs.Filled.{AreFilled}
use Rattle.transfer_rx.proofs.Arrangement.{none_yet}
use Rattle.transfer_rx.proofs.Crcs.{none_yet as no_crcs}
use Rattle.transfer_rx.proofs.Places.{all_free, nothing_there}
use Rattle.transfer_rx.proofs.Filled.{none_filled}
use Rattle.transfer_rx.proofs.sessions.Sessions.new.Goals as goal

pub invariant_of-result : goal.invariant_of-result
invariant_of-result g c = record {
  few = c.requires.most;
  blocks = c.requires.blocks;
  chains = ap length c.new.ensures ∙ length-replicate g.row.S [];
  filled = subst (AreFilled (replicate g.row.S None)) (sym c.new.ensures) (none_filled g.row.S);
  since = λ place. subst (IsSince 18446744073709551615) (sym (nothing_there g.row.S place)) tt;
  within = omega arith;
  unused = λ place past. nothing_there g.row.S place;
}

pub returns : goal.returns
returns g c = record {
  sessions = record { places = replicate g.row.S None; stand = all_free g.row.S _; arranged = none_yet g.row.S };
  crcs = λ signature_of. no_crcs g.row.S _ signature_of;
}
