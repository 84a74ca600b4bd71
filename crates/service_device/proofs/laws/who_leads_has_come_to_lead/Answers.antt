use Rattle.std.proofs.Common.{ℕ, List, sym, subst}
use Rattle.raft_model.specs.Members.{IsAll}
use Rattle.bus_rows.specs.declared.row.Row.{Row}
use Rattle.alloc_spec.specs.AllocatorState.{members_of}
use Rattle.service_device.specs.Settles.{LeadersAddTheirBlanks}
use Rattle.service_device.proofs.BlankLaw.{due_in, has_added, has_come_to_lead}
use Rattle.service_device.proofs.ServiceFronts.{fitting}
use Rattle.service_calm.proofs.Grounds.{listed_in}
use Rattle.service_leader.proofs.TermsRun.{of_run}
use Rattle.service_device.proofs.SettlesRows.{its_server, lists_all}
use Rattle.service_device.proofs.laws.who_leads_has_come_to_lead.Goals as goal
use Rattle.alloc_spec.specs.ClusterMembers.{AreMembers}
use Rattle.bus_spec.specs.Cluster.{cluster, world_of}
use Rattle.bus_spec.specs.Lawful.{DoNoHarm}

pub returns : goal.returns
returns c =
    let below = c.what_service_stands_on.ensures in
    let blank : (ids : List ℕ) (rows : List Row) → AreMembers ids → DoNoHarm (cluster ids) rows → LeadersAddTheirBlanks ids rows
    = λ ids rows members harmless n t listed up leads room.
    let w = world_of ids rows in
    let shown = of_run below.calm ids members rows harmless in
    let same = below.calm.same (cluster ids) rows in
    let inside = listed_in below.calm ids rows n listed in
    has_added below.judged ids n t (due_in below.judged below.calm.more below.calm.in_step below.calm.complete ids rows n t up)
    (fitting below ids members rows harmless n t listed up) (its_server w shown n t inside up).runs.me leads
    (subst (IsAll (members_of t)) same (lists_all below.calm.more w shown (subst AreMembers (sym same) members) n t inside up leads)) room in
    record {
      blank = blank;
      comes = λ ids rows members harmless. has_come_to_lead ids rows harmless (λ list fine. fitting below ids members list fine)
          (λ list fine. blank ids list members fine);
    }
