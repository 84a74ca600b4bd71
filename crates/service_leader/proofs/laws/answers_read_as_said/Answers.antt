use Rattle.std.proofs.Common.{List, [], ◌∷◌, ◌++◌, sym, subst}
use Rattle.raft_model.specs.Lists.{In}
use Rattle.bus_rows.specs.declared.row.Row.{Row}
use Rattle.alloc_spec.specs.Transfers.{SentTransfer}
use Rattle.service_calm.specs.Comes.{sent_by}
use Rattle.service_leader.proofs.AnswersRead.{answers_as_said}
use Rattle.service_calm.proofs.CallsRead.{sent_made}
use Rattle.service_calm.proofs.Grounds.{made, shown}
use Rattle.service_leader.proofs.laws.answers_read_as_said.Goals as goal
use Rattle.bus_spec.specs.Cluster.{Cluster, cluster, world_of}

pub returns : goal.returns
returns c =
    let below = c.what_calms_stand_on.ensures in
    λ ids rows members harmless n row offer harm running sends what.
    let w : Cluster = world_of ids rows in
    let whole : List Row = rows ++ row ∷ [] in
    let fine = below.no_harm (cluster ids) rows row harmless harm in
    let holds = (shown below ids members whole fine).shows.holds in
    answers_as_said below.codec (world_of ids whole).ids (made below ids members whole fine) _ holds.said holds.written (sent_by n w offer)
    (subst (λ (l : List SentTransfer). In (sent_by n w offer) l) (sym (below.made (cluster ids) rows row []))
    (sent_made w row n offer (made below ids members rows harmless) (record { faults = running.faults; calls = running.disk }) sends)) what
