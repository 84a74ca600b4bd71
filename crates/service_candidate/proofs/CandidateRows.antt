-- What a row that does no harm leaves of a candidate.
use Rattle.std.proofs.Common.{ℕ, ◌≡◌, ◌+◌, refl, sym, subst, inl, inr}
use Rattle.raft_model.specs.Server.Role.{Candidate}
use Rattle.bus_rows.specs.declared.row.Row.{Row}
use Rattle.alloc_spec.specs.AllocatorState.{AllocatorState}
use Rattle.service_candidate.specs.Votes.{HearsAppend, IsCandidateStill}
use Rattle.service_candidate.proofs.CandidatesStay.{StillIs, still_at_frame, still_at_tick}
use Rattle.service_candidate.proofs.RowsLeave.{row_leaves}
use Rattle.bus_spec.specs.Cluster.{Cluster, after_row, arrival_at, frame_at}
use Rattle.bus_spec.specs.Lawful.{DoesNoHarm}
use Rattle.bus_spec.specs.Members.MemberStatus.{Up}

module _ (w : Cluster) (n : ℕ) (row : Row) (before after : AllocatorState) (harm : DoesNoHarm w row) (up : (w.member n).status ≡ Up before)
    (up_then : ((after_row w row).member n).status ≡ Up after) (stood : before.raft_server.memory.role ≡ Candidate) where
  abbrev number : ℕ
  number = w.rows + 1

  abbrev Holds : AllocatorState → Type 0
  Holds a = StillIs before number stood (HearsAppend n w row) a.raft_server.memory.role a.raft_server.store.term a.raft_server.memory.votes

  -- so it is where nothing happened
  as_it_was : Holds before
  as_it_was = inl (stood, refl, λ p v. v)

  pub candidate_stays : IsCandidateStill n w row before after
  candidate_stays = record {
    still = elim (row_leaves w n before after up row harm up_then) [
      | inl x ↦ subst Holds (sym x.is) (still_at_tick before number stood (HearsAppend n w row) x.ms x.word)
      | inr (inl x) ↦ subst Holds (sym x.is) (still_at_frame before number stood (HearsAppend n w row) (arrival_at (frame_at w.frames x.k) x.ms)
          (λ d request hears. record { k = x.k; ms = x.ms; comes = x.comes; server = before; runs = up; delivery = d; request = request; hears = hears }))
      | inr (inr (inl e)) ↦ subst Holds (sym e) as_it_was
      | inr (inr (inr e)) ↦ subst Holds (sym e) as_it_was
    ];
  }
