use Rattle.told_link.proofs.WholeFrames.{gives}
use Rattle.told_link.proofs.laws.first_frames_give_node_ids.Goals as goal

pub returns : goal.returns
returns c = gives
