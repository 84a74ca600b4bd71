use Rattle.std.proofs.Common.{◌≡◌, true, subst, sym}
use Rattle.disk_model.specs.Contents.{AddsNoImage}
use Rattle.disk_model.specs.Device.{Makes}
use Rattle.kv_store.specs.Image.{open_calls}
use Rattle.outside.specs.Faults.{Rose}
use Rattle.raft_log.specs.Opening.{FailsToOpen}
use Rattle.raft_log.specs.Rules.{IsDamagedAt}
use Rattle.alloc_server.specs.Server.{disk_of}
use Rattle.alloc_server.proofs.server.Server.open.Goals as goal

pub returns-in-Ok-clause-durable : goal.returns-in-Ok-clause-durable
returns-in-Ok-clause-durable g c tells = c.in-Ok.ensures.durable (subst (λ (disk : g.row.D.Denot). g.D.Disk.tells disk ≡ true) (sym c.closed-server.ensures.disk) tells)

pub returns-in-Err-clause-damaged : goal.returns-in-Err-clause-damaged
returns-in-Err-clause-damaged g c key why =
    subst (λ (disk : g.row.D.Denot). g.D.Disk.tells disk ≡ true → IsDamagedAt (g.D.Disk.contents disk).seen key) c.closed-server.ensures.disk
    (c.in-Err.ensures.damaged key why)

pub returns-in-Err-clause-damaged_made : goal.returns-in-Err-clause-damaged_made
returns-in-Err-clause-damaged_made g c key why =
    subst (λ (disk : g.row.D.Denot). Makes g.D.Disk.does open_calls true disk c.stop.result) c.closed-server.ensures.disk
    (subst (Makes g.D.Disk.does open_calls true _) (sym c.stop.ensures) (c.in-Err.ensures.damaged_made key why))

pub returns-in-Err-clause-damaged_images : goal.returns-in-Err-clause-damaged_images
returns-in-Err-clause-damaged_images g c key why =
    subst (λ (disk : g.row.D.Denot). g.D.Disk.tells disk ≡ true → AddsNoImage (g.D.Disk.contents disk) (g.D.Disk.contents c.stop.result)) c.closed-server.ensures.disk
    (λ tells. subst (λ (disk : g.row.D.Denot). AddsNoImage (g.D.Disk.contents (disk_of c.closed-server.result)) (g.D.Disk.contents disk)) (sym c.stop.ensures) (c.in-Err.ensures.damaged_images key why tells))

pub returns-in-Err-clause-fault : goal.returns-in-Err-clause-fault
returns-in-Err-clause-fault g c fault why =
    subst (λ (disk : g.row.D.Denot). (fault.count ≡ g.D.Disk.faults c.stop.result) × Rose (g.D.Disk.faults disk) (g.D.Disk.faults c.stop.result)) c.closed-server.ensures.disk
    (subst (λ (disk : g.row.D.Denot). (fault.count ≡ g.D.Disk.faults disk) × Rose (g.D.Disk.faults (disk_of c.closed-server.result)) (g.D.Disk.faults disk)) (sym c.stop.ensures) (c.in-Err.ensures.fault fault why))

pub returns-in-Err-clause-failed : goal.returns-in-Err-clause-failed
returns-in-Err-clause-failed g c fault why =
    subst (λ (disk : g.row.D.Denot). FailsToOpen g.D.Disk disk c.stop.result) c.closed-server.ensures.disk
    (subst (FailsToOpen g.D.Disk _) (sym c.stop.ensures) (c.in-Err.ensures.failed fault why))
