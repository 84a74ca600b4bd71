use Rattle.std.proofs.Common.{arith}
use Rattle.std.proofs.lemmas.Grind.{common_steps}
use Rattle.dsdl_codec.proofs.Entries.{optional_entry_of-spelled, spelled-optional_entry}
use Rattle.dsdl_codec.proofs.laws.append_requests_both_ways.Goals as goal

pub returns-clause-is_read : goal.returns-clause-is_read
returns-clause-is_read c = λ request bytes s. grind (arith, common_steps, optional_entry_of-spelled)

pub returns-clause-read_again : goal.returns-clause-read_again
returns-clause-read_again c = λ request fits. grind (arith, common_steps, optional_entry_of-spelled request.entry _ (spelled-optional_entry request.entry fits.entry))
