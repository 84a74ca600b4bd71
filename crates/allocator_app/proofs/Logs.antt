-- What a member shows of its log, and its lines.
use Rattle.std.proofs.Common.{◌≡◌, ℕ, Bool, true, false, List, [], ◌++◌, take, refl, sym, ap, ◌∙◌, append_assoc, codes, decimal}
use Rattle.std.specs.Prelude.{Option, Some, None, if◌then◌else◌}
use Rattle.can_frame.specs.declared.entry.Entry.{Entry}
use Rattle.alloc_spec.specs.declared.event.View.{View}
use Rattle.bus_spec.specs.Cluster.{Cluster, is_member}
use Rattle.bus_spec.specs.Members.{MemberStatus}
use Rattle.bus_spec.specs.Members.MemberStatus.{Down, Up, Failed}
use Rattle.bus_spec.specs.Report.{running_entry, running_view, view_at}
use Rattle.allocator_app.specs.WorldReport.{entry_lines, running_lines, member_lines}
use Rattle.allocator_app.specs.Logs.{HasLog, entry_in, log_head}

log_head_of : (id commit : ℕ) (lines : List ℕ) →
    codes "log " ++ decimal id ++ codes " " ++ decimal commit ++ codes "\n" ++ lines ≡ log_head id commit ++ lines
log_head_of id commit lines = simp append_assoc refl

-- a member shows a commit index and a log, and its lines are those of both
pub record ShowsLog (w : Cluster) (id commit : ℕ) : Type 0 where
  pub log : List Entry
  pub shows : HasLog w id log
  pub lines : member_lines w id ≡ log_head id commit ++ entry_lines 1 (take commit log)

-- by what its life is
commit_of : Option View → ℕ
commit_of None = 0
commit_of (Some view) = view.commit

of_status : (id : ℕ) (status : MemberStatus) (view : View) → Some view ≡ running_view status → (log : List Entry) × ((place : ℕ) → running_entry status place ≡ entry_in log place)
    × (running_lines id status ≡ log_head id view.commit ++ entry_lines 1 (take view.commit log))
unfolding commit_of
of_status id Down view e = cc
of_status id (Up server) view e =
    let commit : server.raft_server.store.commit ≡ view.commit = sym (ap commit_of e) in (
      server.raft_server.store.log,
      λ place. refl,
      log_head_of id server.raft_server.store.commit (entry_lines 1 (take server.raft_server.store.commit server.raft_server.store.log))
          ∙ ap (λ n. log_head id n ++ entry_lines 1 (take n server.raft_server.store.log)) commit,
    )
of_status id (Failed failure) view e = cc

shown : (w : Cluster) (id : ℕ) (view : View) (test : Bool) → is_member w.ids id ≡ test →
    Some view ≡ (if test then running_view (w.member id).status else None) → ShowsLog w id view.commit
shown w id view true e h =
    let status = of_status id (w.member id).status view h in
    record {
      log = status.0;
      shows = λ place. ap (λ (b : Bool). if b then running_entry (w.member id).status place else None) e ∙ status.1 place;
      lines = ap (λ (b : Bool). if b then running_lines id (w.member id).status else []) e ∙ status.2;
    }
shown w id view false e h = cc

pub shows_log : (w : Cluster) (id : ℕ) (view : View) → Some view ≡ view_at w id → ShowsLog w id view.commit
shows_log w id view h = shown w id view (is_member w.ids id) refl h
