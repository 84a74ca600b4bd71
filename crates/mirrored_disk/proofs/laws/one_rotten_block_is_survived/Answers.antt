use Rattle.std.proofs.Common.{◌∙◌}
use Rattle.mirrored_disk.specs.DiskViews.{next_record}
use Rattle.mirrored_disk.proofs.Found.{rot_finds, rot_leaves}
use Rattle.mirrored_disk.proofs.Records.{has_image}
use Rattle.mirrored_disk.proofs.laws.one_rotten_block_is_survived.Goals as goal

pub returns-clause-found : goal.returns-clause-found
returns-clause-found g c = λ disk left rotten told twice may. rot_finds (g.V.BlockDevice.blocks disk.device) disk.head disk.newest disk.stable disk.seen disk.seen (disk.keeps told) left rotten twice may

pub returns-clause-image : goal.returns-clause-image
returns-clause-image g c = λ disk left rotten told twice may. rot_leaves (g.V.BlockDevice.blocks disk.device) disk.head disk.newest disk.stable (next_record disk) disk.seen (disk.keeps told) left rotten twice may (has_image disk.head disk.seen _ disk.head_size (disk.seen_size ∙ disk.stable_size))
