use Rattle.std.proofs.Common.{rules, ◌∙◌}
use Rattle.cmd_new.proofs.Disks.{has_image}
use Rattle.cmd_new.proofs.make.write_image.Goals as goal

pub returns-clause-image : goal.returns-clause-image
returns-clause-image g c = λ told.
    let contents = g.D.Disk.contents in
    let told' = c.write.ensures.tells ∙ told in
    let told'' = c.sync.ensures.tells ∙ told' in
    has_image (contents c.write.new.self) (contents c.sync.new.self) c.args.image.now (c.in_ok-write.ensures.bytes told) (search rules)
    (c.in_ok-sync.ensures.synced told') (g.met.D.Disk.sound c.sync.new.self told'')
