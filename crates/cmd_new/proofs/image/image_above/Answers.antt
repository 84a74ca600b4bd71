use Rattle.cmd_new.proofs.StoreAbove.{above_is}
use Rattle.cmd_new.proofs.image.image_above.Goals as goal

pub returns-clause-image : goal.returns-clause-image
returns-clause-image c = above_is 8844 c.args.term c.args.node c.new_image-image.result c.to_le_bytes.result c.new_image-image.ensures.image c.to_le_bytes.ensures
