use Rattle.cmd_new.proofs.Disks.{whole_image}
use Rattle.cmd_new.proofs.found.find_store.Goals as goal

pub returns-in-Ok-clause-found : goal.returns-in-Ok-clause-found
returns-in-Ok-clause-found g c = record {
  image = c.read.new.buf;
  seen = λ told. whole_image (g.D.Disk.contents c.args.disk.now) c.read.new.buf (g.met.D.Disk.sound c.args.disk.now told) c.read.auto.buf (c.in-Ok.ensures.bytes told);
  is = c.found_in.ensures;
}
