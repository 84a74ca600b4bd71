use Rattle.std.proofs.Common.{replicate, refl}
use Rattle.cmd_new.proofs.NewImage.{image_is}
use Rattle.cmd_new.proofs.image.new_image.Goals as goal

pub returns-clause-image : goal.returns-clause-image
returns-clause-image c = image_is 8844 (replicate 8844 0) refl
