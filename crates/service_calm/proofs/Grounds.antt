-- The records that the proofs of calms stand on, each made of what the laws below say together.
use Rattle.std.proofs.Common.{◌≡◌, ℕ, Bool, List, [], length, sym, ◌∙◌, ap, subst}
use Rattle.raft_model.specs.Invariants.{Invariants}
use Rattle.raft_model.specs.Lists.{In}
use Rattle.raft_model.specs.Runs as raft
use Rattle.raft_model.specs.Runs.{initial_world}
use Rattle.bus_rows.specs.declared.row.Row.{Row}
use Rattle.alloc_spec.specs.AllocatorState.{AllocatorState}
use Rattle.alloc_spec.specs.Transfers.{SentTransfer}
use Rattle.bus_agreement.specs.Continues.{Continues}
use Rattle.bus_agreement.specs.Shows.{ShowsMember, ShowsUp}
use Rattle.service_calm.specs.Calm.{AreRunning, Member as OfMember, Party}
use Rattle.service_calm.specs.CalmBelow.{CalmGrounds}
use Rattle.service_calm.proofs.Group.{AreWell, CalmLaws, IsServer}
use Rattle.service_calm.proofs.Start.{places_in, server_is, well_in}
use Rattle.alloc_spec.specs.ClusterMembers.{AreMembers}
use Rattle.bus_spec.specs.Cluster.{cluster, world_of}
use Rattle.bus_spec.specs.Lawful.{DoNoHarm}
use Rattle.bus_spec.specs.Members.{MemberStatus}
use Rattle.bus_spec.specs.Members.MemberStatus.{Up}
use Rattle.bus_spec.specs.Refinement.{events, transfers_of_rows}

module _ (below : CalmGrounds) where
  pub calm_laws : CalmLaws
  calm_laws = record {
    frame = below.frame;
    in_step = below.in_step;
    more = below.more;
    cutting = record { piece_read = below.frame.piece_read; carried = below.carried; cut = below.cut; count = below.frame.cut_count };
    whole = below.whole;
    popped = below.popped;
    device_step = below.device_step;
    device_popped = below.device_popped;
  }

  pub listed_in : (ids : List ℕ) (rows : List Row) (p : ℕ) → In p ids → In p (world_of ids rows).ids
  listed_in ids rows p listed = subst (λ (l : List ℕ). In p l) (sym (below.same (cluster ids) rows)) listed

  -- rows that do no harm show a run
  module _ (ids : List ℕ) (members : AreMembers ids) (rows : List Row) (harmless : DoNoHarm (cluster ids) rows) where
    abbrev pub choice : ℕ → Bool
    choice = (below.chosen ids rows members harmless).0

    abbrev pub made : List SentTransfer
    made = transfers_of_rows (cluster ids) rows []

    abbrev pub its_run : raft.World
    its_run = raft.run (initial_world ids) (events choice (cluster ids) rows)

    pub shown : Continues choice made (world_of ids rows) (initial_world ids) (events choice (cluster ids) rows)
    shown = below.shown choice ids rows members harmless (below.chosen ids rows members harmless).1

    pub invariants : Invariants its_run
    invariants = below.invariants ids (events choice (cluster ids) rows) shown.lawful

    -- the run shows each member that runs
    pub shown_up : (p : ℕ) (t : AllocatorState) → In p ids → ((world_of ids rows).member p).status ≡ Up t
        → ShowsUp made (world_of ids rows).ids (world_of ids rows).frames its_run p t ((world_of ids rows).member p).disk
    shown_up p t listed up =
        let w = world_of ids rows in
        subst (λ (status : MemberStatus). ShowsMember choice made w.ids w.frames its_run p status (w.member p).disk) up (shown.shows.lives p (listed_in ids rows p listed))

    -- a server has its member's node ID, and knows how many members there are
    pub its_node : (p : ℕ) (t : AllocatorState) → In p ids → ((world_of ids rows).member p).status ≡ Up t → (t.me ≡ p) × (t.size ≡ length ids)
    its_node p t listed up =
        let runs = (shown_up p t listed up).runs in (runs.me, runs.size ∙ ap (λ (l : List ℕ). length l) (below.same (cluster ids) rows))

    -- a server is its member's
    pub is_server : (p : ℕ) (t : AllocatorState) → In p ids → ((world_of ids rows).member p).status ≡ Up t → IsServer p t
    is_server p t listed = server_is ids choice made (world_of ids rows) its_run shown.shows (places_in ids rows) p t (listed_in ids rows p listed)

    -- a group that runs is well
    pub well : (group : List Party) → ((p : ℕ) → In (OfMember p) group → In p ids) → AreRunning group (world_of ids rows) → AreWell group (world_of ids rows)
    well group listed = well_in ids choice made (world_of ids rows) its_run shown.shows (places_in ids rows) group (λ p i. listed_in ids rows p (listed p i))
