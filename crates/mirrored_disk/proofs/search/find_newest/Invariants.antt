use Rattle.std.proofs.Common.{◌≡◌, ◌<◌, ◌≤◌, true, IfSome}
use Rattle.mirrored_disk.specs.Newest.{IsFoundBelow}
use Rattle.mirrored_disk.proofs.search.find_newest.Given as goal

abbrev pub invariant-loop-block : goal.invariant-loop-block
invariant-loop-block g l =
    let tells = g.V.BlockDevice.tells in
    let blocks = g.V.BlockDevice.blocks in
    let faults = g.V.BlockDevice.faults in
    record {
      below : IfSome l.newest (λ best. best.block < l.block);
      still_tells : tells l.device ≡ tells l.fn.device;
      same : tells l.fn.device ≡ true → blocks l.device ≡ blocks l.fn.device;
      found : tells l.fn.device ≡ true → IsFoundBelow l.block l.head (blocks l.fn.device).seen l.newest l.image;
      later : faults l.fn.device ≤ faults l.device;
    }
