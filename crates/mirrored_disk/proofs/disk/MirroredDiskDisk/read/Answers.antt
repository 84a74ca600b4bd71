use Rattle.std.proofs.Common.{refl}
use Rattle.mirrored_disk.proofs.disk.MirroredDiskDisk.read.Goals as goal

pub returns-then-self-clause-contents : goal.returns-then-self-clause-contents
returns-then-self-clause-contents g c = λ told. rw (c.fault.ensures.seen, c.fault.ensures.stable) refl
