-- The records that the proofs of rounds stand on, each made of what the laws below say together.
use Rattle.std.proofs.Common.{◌≡◌, ℕ, List}
use Rattle.raft_model.specs.Lists.{In}
use Rattle.bus_rows.specs.declared.row.Row.{Row}
use Rattle.alloc_spec.specs.AllocatorState.{AllocatorState}
use Rattle.service_elections.specs.RoundsBelow.{RoundGrounds}
use Rattle.service_elections.proofs.NobodyScene.{StepLaws}
use Rattle.service_calm.specs.CalmBelow.{CalmGrounds}
use Rattle.service_calm.proofs.Grounds.{is_server}
use Rattle.alloc_spec.specs.ClusterMembers.{AreMembers}
use Rattle.bus_spec.specs.Cluster.{cluster, world_of}
use Rattle.bus_spec.specs.Lawful.{DoNoHarm}
use Rattle.bus_spec.specs.Members.MemberStatus.{Up}

module _ (below : RoundGrounds) where
  abbrev calm : CalmGrounds
  calm = below.wins.election.calm

  pub step_laws : StepLaws
  step_laws = record { me = calm.in_step.me; size = calm.more.size; complete = calm.complete }

  -- behind rows that do no harm, each member of theirs has its own number
  pub its_me : (ids : List ℕ) → AreMembers ids → (list : List Row) → DoNoHarm (cluster ids) list → (p : ℕ) → In p ids → (t : AllocatorState)
      → ((world_of ids list).member p).status ≡ Up t → t.me ≡ p
  its_me ids members list fine p i t up = (is_server calm ids members list fine p t i up).me
