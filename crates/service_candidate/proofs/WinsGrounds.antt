-- The laws that stand are what the proofs of who wins ask for.
use Rattle.std.proofs.Common.{◌≡◌, ◌≢◌, ℕ, Bool, true, List, [], ◌∷◌, ◌++◌, length, refl, ◌∙◌, ap, subst, arith}
use Rattle.std.specs.Prelude.{◌/◌, ◌+◌, ◌≤◌}
use Rattle.std.proofs.lemmas.Bool.{le-leb}
use Rattle.raft_model.specs.Lists.{In, how_many}
use Rattle.raft_model.specs.Members.{IsAll}
use Rattle.raft_model.specs.Moves.Elections.{has_quorum}
use Rattle.raft_model.specs.Server.{quorum}
use Rattle.raft_model.specs.Server.Role.{Follower}
use Rattle.bus_rows.specs.declared.row.Row.{Row}
use Rattle.alloc_spec.specs.AllocatorState.{AllocatorState, members_of, start_of}
use Rattle.bus_agreement.proofs.Lists.{equal, none_twice}
use Rattle.cluster_discovery.specs.Members.{IsMemberList, IsStart}
use Rattle.bus_rows.specs.Timed.{Timed}
use Rattle.service_alone.specs.Calm.{Pace}
use Rattle.service_candidate.specs.ElectionsBelow.{WinLaws}
use Rattle.service_candidate.specs.Wins.{IsCalmStanding}
use Rattle.service_candidate.specs.VotesAlone.{VotesComeAlone}
use Rattle.service_candidate.proofs.WinsScene.{RowLaws, Scene}
use Rattle.service_leader.proofs.Stretches.{harmless_both}
use Rattle.service_calm.specs.Calm.{Party}
use Rattle.service_calm.specs.CalmBelow.{CalmGrounds}
use Rattle.service_calm.proofs.Grounds.{its_node, shown_up}
use Rattle.alloc_spec.specs.ClusterMembers.{AreMembers}
use Rattle.bus_spec.specs.Cluster.{Cluster, after_row, after_rows, cluster, world_of}
use Rattle.bus_spec.specs.Lawful.{DoNoHarm}
use Rattle.bus_spec.specs.Members.MemberStatus.{Up}

pub rows_join : (w : Cluster) (first more : List Row) → after_rows w (first ++ more) ≡ after_rows (after_rows w first) more
rows_join w [] more = refl
rows_join w (row ∷ first) more = rows_join (after_row w row) first more

-- who counts over all members has a quorum where they do
same_quorum : (list members : List ℕ) (votes : ℕ → Bool) → length list ≡ length members → how_many votes list ≡ how_many votes members
    → quorum members ≤ how_many votes members → has_quorum list votes ≡ true
same_quorum list members votes size many enough =
    let q = ap (λ (n : ℕ). n / 2 + 1) size in le-leb (quorum list) (how_many votes list) (omega (arith, many, enough, q))

module _ (below : WinLaws) (ids : List ℕ) (members : AreMembers ids) where
  module _ (list : List Row) (harmless : DoNoHarm (cluster ids) list) where
    abbrev w : Cluster
    w = world_of ids list

    abbrev grounds : CalmGrounds
    grounds = below.election.calm

    its_size : (p : ℕ) (t : AllocatorState) → In p ids → (w.member p).status ≡ Up t → t.size ≡ length ids
    its_size p t i up = (its_node grounds ids members list harmless p t i up).1

    its_start : (p : ℕ) (t : AllocatorState) → In p ids → (w.member p).status ≡ Up t → IsStart (start_of t)
    its_start p t i up =
        let node = members.nodes p i in
        let me = (its_node grounds ids members list harmless p t i up).0 in
        let size = its_size p t i up in
        record {
          numbered = omega (arith, me, node.0);
          device = omega (arith, me, node.1);
          least = omega (arith, members.some, size);
          most = omega (arith, members.few, size);
        }

    knows_all_members : (p : ℕ) (t : AllocatorState) → In p ids → (w.member p).status ≡ Up t → t.raft_server.memory.role ≢ Follower → IsAll (members_of t) ids
    knows_all_members p t i up role =
        let its = shown_up grounds ids members list harmless p t i up in
        let is_list : IsMemberList t.me t.size (members_of t) = grounds.more.list (start_of t) t.heard (its_start p t i up) in
        record {
          once = none_twice (members_of t) is_list.different;
          among = λ node j. subst (λ (l : List ℕ). In node l) (grounds.same (cluster ids) list) (its.works.among node j);
          as_many = equal (length (members_of t)) t.size (its.runs.order.counting role) ∙ its_size p t i up;
        }

    pub all_row_laws : RowLaws ids w
    all_row_laws =
        record {
          asked = below.asked ids list members harmless;
          waits_on = below.waits_on ids list members harmless;
          candidates = below.candidates ids list;
          answers_read = below.answers_read ids list members harmless;
          begin = below.begin ids list members harmless;
          me = λ p t i up. (its_node grounds ids members list harmless p t i up).0;
          starts = λ p t i up. (its_start p t i up, its_size p t i up);
          counts = λ p t count i up role enough.
              let all = knows_all_members p t i up role in same_quorum (members_of t) ids count all.as_many (below.election.count (members_of t) ids count all) enough;
        }

  -- what is given where c stands
  abbrev pub scene : (rows : List Row) → DoNoHarm (cluster ids) rows → VotesComeAlone ids rows → (group : List Party) (clocks : Party → ℕ) (pace : Pace) (start c term : ℕ) (front rest : List Timed) (timed : Timed)
      → IsCalmStanding ids rows group clocks pace start c term front timed rest → Scene
  scene rows harmless alone group clocks pace start c term front rest timed calm = record {
    ids = ids;
    rows = rows;
    laws = record {
      alone = alone;
      terms = below.terms ids rows members harmless;
      rise = below.rise ids rows;
      free = below.free ids rows members harmless;
    };
    taken = below.taken;
    row_laws = λ more fine. subst (RowLaws ids) (rows_join (cluster ids) rows more) (all_row_laws (rows ++ more) (harmless_both (cluster ids) rows more harmless fine));
    ticks = below.ticks;
    frames = below.election.leave;
    hears_anew = below.hears_anew;
    listing = below.election.calm.more.list;
    stay = below.stay;
    once = members.once;
    granted = below.granted;
    group = group;
    clocks = clocks;
    pace = pace;
    start = start;
    c = c;
    term = term;
    front = front;
    rest = rest;
    timed = timed;
    calm = calm;
  }
