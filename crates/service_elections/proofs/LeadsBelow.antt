-- What the laws of who leads the group stand on; and that no two members lead in one term.
use Rattle.std.proofs.Common.{◌≡◌, ℕ, Bool, List, ◌++◌, sym, ◌∙◌, ap, subst}
use Rattle.raft_model.specs.Invariants.{Invariants}
use Rattle.raft_model.specs.Lists.{In}
use Rattle.raft_model.specs.Runs as raft
use Rattle.raft_model.specs.Server.{RaftServer}
use Rattle.bus_rows.specs.declared.row.Row.{Row}
use Rattle.alloc_spec.specs.AllocatorState.{AllocatorState}
use Rattle.alloc_spec.specs.Transfers.{SentTransfer}
use Rattle.bus_agreement.specs.LawsBelow.{CodecLaws}
use Rattle.bus_agreement.specs.Shows.{Shows}
use Rattle.service_candidate.specs.Terms.{TermsDoNotFall, TermsStay}
use Rattle.service_candidate.specs.Waits.{WaitsBeginThen}
use Rattle.service_elections.specs.RoundsBelow.{RoundGrounds}
use Rattle.service_leader.specs.EntriesBelow.{EntryLaws}
use Rattle.service_leader.specs.LeadsOn.{LeadsIn}
use Rattle.service_leader.specs.NoElection.{NoElectionComes}
use Rattle.service_leader.proofs.EntriesJudged.{run_up}
use Rattle.service_leader.proofs.NextCall.{CallLaws}
use Rattle.service_leader.proofs.Stretches.{harmless_both}
use Rattle.service_calm.specs.Calls.{CallsAreHeard}
use Rattle.service_calm.specs.CalmBelow.{CalmGrounds}
use Rattle.service_calm.proofs.Grounds.{choice, invariants, its_run, made, shown}
use Rattle.alloc_spec.specs.ClusterMembers.{AreMembers}
use Rattle.bus_spec.specs.Cluster.{Cluster, cluster, world_of}
use Rattle.bus_spec.specs.Lawful.{DoNoHarm}
use Rattle.bus_spec.specs.Members.MemberStatus.{Up}

-- no two members lead in one term
abbrev pub OneLeads : List ℕ → Cluster → Type 0
OneLeads ids w = (n m term : ℕ) → In n ids → In m ids → LeadsIn n term w → LeadsIn m term w → n ≡ m

module _ (choice : ℕ → Bool) (made : List SentTransfer) (w : Cluster) (run : raft.World) (shows : Shows choice made w run) (codec : CodecLaws)
    (inv : Invariants run) where
  -- who leads is the leader of its term in the run that the rows show
  leader_is : (n term : ℕ) → In n w.ids → LeadsIn n term w → run.history.leader term ≡ n
  leader_is n term i leads =
      let here : run.server n ≡ leads.server.raft_server = (run_up codec choice made w run shows n leads.server i leads.runs).runs.raft_server in
      let led = inv.leaders.leading n (ap (λ (s : RaftServer). s.memory.role) here ∙ leads.leads) in
      subst (λ (k : ℕ). run.history.leader k ≡ n) (ap (λ (s : RaftServer). s.store.term) here ∙ leads.its_term) led.1

  pub one_leads : OneLeads w.ids w
  one_leads n m term i j leads other = sym (leader_is n term i leads) ∙ leader_is m term j other

-- behind these rows, and behind more rows that do no harm
pub record LeadLaws (ids : List ℕ) (rows : List Row) : Type 0 where
  pub calls : CallLaws ids rows
  pub calls_then : (more : List Row) → DoNoHarm (world_of ids rows) more → CallLaws ids (rows ++ more)
  pub hear : CallsAreHeard ids rows
  pub terms : TermsStay ids rows
  pub fall : TermsDoNotFall ids rows
  pub begin : (more : List Row) → DoNoHarm (world_of ids rows) more → WaitsBeginThen ids (rows ++ more)
  pub alone : (more : List Row) → DoNoHarm (world_of ids rows) more → OneLeads ids (world_of ids (rows ++ more))
  pub node : (p : ℕ) (server : AllocatorState) → In p ids → ((world_of ids rows).member p).status ≡ Up server → server.me ≡ p
  pub comes : NoElectionComes ids rows
  pub entries : EntryLaws ids rows

module _ (below : RoundGrounds) (ids : List ℕ) (members : AreMembers ids) where
  abbrev calm : CalmGrounds
  calm = below.wins.election.calm

  one_at_most : (list : List Row) → DoNoHarm (cluster ids) list → OneLeads ids (world_of ids list)
  one_at_most list harmless = subst (λ (l : List ℕ). OneLeads l (world_of ids list)) (calm.same (cluster ids) list)
      (one_leads (choice calm ids members list harmless) (made calm ids members list harmless) (world_of ids list) (its_run calm ids members list harmless)
      (shown calm ids members list harmless).shows calm.codec (invariants calm ids members list harmless))

  call_laws : (list : List Row) → DoNoHarm (cluster ids) list → CallLaws ids list
  call_laws list harmless = record {
    me = calm.in_step.me;
    stay = below.wins.stay;
    call = below.call;
    read = λ more still. below.calls_read ids (list ++ more) members (harmless_both (cluster ids) list more harmless still);
    follow = below.follow;
  }

  -- what stands on them stands
  pub lead_laws : (rows : List Row) → DoNoHarm (cluster ids) rows → LeadLaws ids rows
  lead_laws rows harmless =
      let both = λ (more : List Row) (still : DoNoHarm (world_of ids rows) more). harmless_both (cluster ids) rows more harmless still in
      record {
        calls = call_laws rows harmless;
        calls_then = λ more still. call_laws (rows ++ more) (both more still);
        hear = below.hear ids rows members harmless;
        terms = below.wins.terms ids rows members harmless;
        fall = below.wins.rise ids rows;
        begin = λ more still. below.wins.begin ids (rows ++ more) members (both more still);
        alone = λ more still. one_at_most (rows ++ more) (both more still);
        node = (below.entries ids rows members harmless).node;
        comes = below.comes ids rows members harmless;
        entries = below.entries ids rows members harmless;
      }
