use Rattle.spaced_link.proofs.Spaced.{goes_on_with}
use Rattle.spaced_link.proofs.laws.no_frame_goes_out_without_its_first.Goals as goal

pub returns : goal.returns
returns c = goes_on_with
