use Rattle.std.proofs.Common.{◌∙◌}
use Rattle.mirrored_disk.specs.DiskViews.{next_record}
use Rattle.mirrored_disk.proofs.Found.{stop_finds, stop_leaves}
use Rattle.mirrored_disk.proofs.Records.{has_image}
use Rattle.mirrored_disk.proofs.laws.a_stop_leaves_the_old_image_or_the_new_one.Goals as goal

pub returns-clause-found : goal.returns-clause-found
returns-clause-found g c = λ disk left told may. stop_finds (g.V.BlockDevice.blocks disk.device) disk.head disk.newest disk.stable disk.seen disk.seen (disk.keeps told) left may

pub returns-clause-image : goal.returns-clause-image
returns-clause-image g c = λ disk left told may. stop_leaves (g.V.BlockDevice.blocks disk.device) disk.head disk.newest disk.stable (next_record disk) disk.seen (disk.keeps told) left may (has_image disk.head disk.seen _ disk.head_size (disk.seen_size ∙ disk.stable_size))
