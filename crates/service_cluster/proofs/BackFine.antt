-- What is so of members behind rows of a calm, from what is so of all lawful rows.
use Rattle.std.proofs.Common.{◌≡◌, ℕ, Bool, List, ◌++◌, sym, ◌∙◌, ap, subst}
use Rattle.raft_model.specs.Invariants.{SoundStore}
use Rattle.raft_model.specs.Lists.{In, how_many}
use Rattle.raft_model.specs.Members.{IsAll}
use Rattle.raft_model.specs.Server.{RaftServer}
use Rattle.bus_rows.specs.declared.row.Row.{Row}
use Rattle.alloc_spec.specs.AllocatorState.{AllocatorState}
use Rattle.bus_agreement.proofs.Concatenations.{first_harmless}
use Rattle.bus_rows.specs.Timed.{rows_in}
use Rattle.service_alone.proofs.Goes.{after_both}
use Rattle.service_leader.proofs.Stretches.{harmless_both, rows_both}
use Rattle.service_cluster.specs.ComeBack.{LogsStayWithinTheirLimit}
use Rattle.service_candidate.proofs.ElectionsEnd.{lists_all}
use Rattle.service_cluster.proofs.BackGiven.{BlanksAreAdded, IsFine, WhoKnowsAllListsAll}
use Rattle.service_device.specs.Settles.{LeadersAddTheirBlanks}
use Rattle.service_device.specs.ServiceBelow.{ServiceGrounds}
use Rattle.service_device.proofs.ServiceFronts.{fitting}
use Rattle.service_calm.proofs.Grounds.{invariants, its_node, shown_up}
use Rattle.alloc_spec.specs.ClusterMembers.{AreMembers}
use Rattle.bus_spec.specs.Cluster.{Cluster, after_rows, cluster, world_of}
use Rattle.bus_spec.specs.Lawful.{DoNoHarm}
use Rattle.bus_spec.specs.Members.MemberStatus.{Up}

module _ (below : ServiceGrounds) (ids : List ℕ) (members : AreMembers ids) (rows : List Row) (harmless : DoNoHarm (cluster ids) rows) where
  all_harmless : (more : List Row) → DoNoHarm (world_of ids rows) more → DoNoHarm (cluster ids) (rows ++ more)
  all_harmless more fine = harmless_both (cluster ids) rows more harmless fine

  up_all : (more : List Row) (n : ℕ) (t : AllocatorState) → ((after_rows (world_of ids rows) more).member n).status ≡ Up t
      → ((world_of ids (rows ++ more)).member n).status ≡ Up t
  up_all more n t up = subst (λ (v : Cluster). (v.member n).status ≡ Up t) (sym (after_both (cluster ids) rows more)) up

  -- each member is fine behind more rows
  pub fine_behind : (more : List Row) (n : ℕ) (t : AllocatorState) → DoNoHarm (world_of ids rows) more → In n ids
      → ((after_rows (world_of ids rows) more).member n).status ≡ Up t → IsFine t
  fine_behind more n t fine listed up =
      let safe = all_harmless more fine in record {
        fitting = fitting below ids members (rows ++ more) safe n t listed (up_all more n t up);
        store = subst (λ (s : RaftServer). SoundStore s.store) (shown_up below.calm ids members (rows ++ more) safe n t listed (up_all more n t up)).runs.raft_server
            ((invariants below.calm ids members (rows ++ more) safe).stores n);
      }

  -- who knows all members lists each
  pub lists_behind : ((list members : List ℕ) (test : ℕ → Bool) → IsAll list members → how_many test list ≡ how_many test members) → WhoKnowsAllListsAll ids rows
  lists_behind count more n t fine listed up knows =
      let safe = all_harmless more fine in
      lists_all count ids t knows (its_node below.calm ids members (rows ++ more) safe n t listed (up_all more n t up)).1
      (λ node i. subst (λ (l : List ℕ). In node l) (below.calm.same (cluster ids) (rows ++ more))
      ((shown_up below.calm ids members (rows ++ more) safe n t listed (up_all more n t up)).works.among node i))

  -- no log outgrows its limit
  pub limit_behind : LogsStayWithinTheirLimit ids rows
  limit_behind group whole listed fine front rest m server split i up = (fine_behind (rows_in front) m server
      (first_harmless (world_of ids rows) (rows_in front) (rows_in rest) (subst (DoNoHarm (world_of ids rows)) (ap rows_in split ∙ rows_both front rest) fine))
      (listed m i) up).fitting.last

  -- who leads has added its blank, behind more rows
  pub blanks_behind : ((list : List Row) → DoNoHarm (cluster ids) list → LeadersAddTheirBlanks ids list) → BlanksAreAdded ids rows
  blanks_behind added more n t fine listed up leads room = added (rows ++ more) (all_harmless more fine) n t listed (up_all more n t up) leads room
