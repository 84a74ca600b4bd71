use Rattle.mirrored_disk.proofs.Records.{has_image, has_number, is_record}
use Rattle.mirrored_disk.proofs.laws.a_record_is_one.Goals as goal

pub returns : goal.returns
returns c = λ head image number head_size image_size small. (is_record head image number head_size image_size, has_number head image number head_size image_size small, has_image head image number head_size image_size)
