use Rattle.std.proofs.Common.{rules, ◌≡◌, ◌∙◌, ap, subst, sym}
use Rattle.mirrored_disk.specs.Newest.{IsFoundBelow, IsNewestRecord}
use Rattle.mirrored_disk.specs.Record.{image_in}
use Rattle.mirrored_disk.proofs.Taken.{one_newest}
use Rattle.mirrored_disk.proofs.disk.MirroredDisk.open.Goals as goal

pub returns-in-Ok-Some-clause-newest : goal.returns-in-Ok-Some-clause-newest
returns-in-Ok-Some-clause-newest g c = λ told block newest.
    let seen = (g.V.BlockDevice.blocks c.args.device).seen in
    let same : (g.V.BlockDevice.blocks c.sync.new.self).seen ≡ (g.V.BlockDevice.blocks c.args.device).seen = search rules in
    let found : IsNewestRecord 4 c.args.head seen c.in-Ok-Some.newest c.find_newest.new.image =
    subst (λ o. IsFoundBelow 4 c.args.head seen o c.find_newest.new.image) c.in-Ok-Some.field-0-is
    (subst (λ blocks. IsFoundBelow 4 c.args.head blocks c.in-Ok-Some.field-0 c.find_newest.new.image) same
    (c.in-Ok-Some.ensures.found (c.sync.ensures.tells ∙ told))) in
    ap (λ b. image_in (seen b)) (one_newest 4 c.args.head seen block c.in-Ok-Some.newest.block newest found.block) ∙ found.image ∙ sym c.of.ensures.seen
