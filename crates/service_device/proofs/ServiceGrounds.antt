-- What the proofs of service stand on, made of what the laws below say together.
use Rattle.std.proofs.Common.{ℕ, List}
use Rattle.raft_model.specs.Fit.{IsFit}
use Rattle.bus_rows.specs.declared.row.Row.{Row}
use Rattle.service_calm.proofs.DevicesHear.{SessionLaws}
use Rattle.service_calm.proofs.Grounds.{choice, its_run, shown}
use Rattle.service_device.specs.ServiceBelow.{ServiceGrounds}
use Rattle.alloc_spec.specs.ClusterMembers.{AreMembers}
use Rattle.bus_spec.specs.Cluster.{cluster}
use Rattle.bus_spec.specs.Lawful.{DoNoHarm}
use Rattle.bus_spec.specs.Refinement.{events}

module _ (below : ServiceGrounds) where
  pub session_laws : SessionLaws
  session_laws = record { frame = below.device_heard; tick = below.device_ticked }

  pub fit : (ids : List ℕ) (members : AreMembers ids) (list : List Row) (harmless : DoNoHarm (cluster ids) list) (member : ℕ)
      → IsFit member ((its_run below.calm ids members list harmless).server member)
  fit ids members list harmless member = below.fit ids (events (choice below.calm ids members list harmless) (cluster ids) list) member
      (shown below.calm ids members list harmless).lawful
