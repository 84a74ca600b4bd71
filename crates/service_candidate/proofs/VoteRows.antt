-- What a row that does no harm leaves of a vote request that is pending.
use Rattle.std.proofs.Common.{◌≡◌, ◌≢◌, ℕ, ◌+◌, ◌<◌, Bool, List, refl, sym, ◌∙◌, ap, subst, inl, inr, max}
use Rattle.can_frame.specs.declared.identifier.Kind.TheVariants.{Response}
use Rattle.raft_core.specs.Times.{Sending}
use Rattle.raft_model.specs.Lists.{In}
use Rattle.raft_model.specs.Messages.{Request}
use Rattle.raft_model.specs.Runs as raft
use Rattle.raft_model.specs.Server.{Role}
use Rattle.raft_model.specs.Server.Role.{Leader}
use Rattle.bus_rows.specs.declared.row.Row.{Row}
use Rattle.bus_rows.specs.declared.row.Row.TheVariants.{Rx}
use Rattle.transfer_rx.specs.Reassembly.{Delivery, Gives, answer}
use Rattle.alloc_spec.specs.Accepted.{setting_for}
use Rattle.alloc_spec.specs.AllocatorState.{AllocatorState, members_of}
use Rattle.alloc_spec.specs.Step.{Event, moment_of, step}
use Rattle.alloc_spec.specs.Transfers.{SentTransfer}
use Rattle.bus_agreement.specs.LawsBelow.{FrameLaws}
use Rattle.bus_agreement.specs.Safe.{IsDeliveredTo, IsOneTransfer}
use Rattle.bus_agreement.specs.Shows.{Shows, ShowsMember, ShowsUp}
use Rattle.bus_agreement.proofs.TakenMessages.{is_vote}
use Rattle.service_candidate.specs.Votes.{Stands, VoteComes, WaitsForVote}
use Rattle.service_candidate.proofs.ResponsesDelivered.{IsWhole, is_whole}
use Rattle.service_candidate.proofs.RowsLeave.{row_leaves}
use Rattle.service_candidate.proofs.VotesPend.{IsNext, Still, pends_at_frame, pends_at_tick}
use Rattle.service_calm.specs.Comes.{delivery_of}
use Rattle.service_calm.proofs.Counting.{now_after}
use Rattle.alloc_spec.specs.ClusterMembers.{AreMembers}
use Rattle.bus_spec.specs.Cluster.{Cluster, after_row, arrival_at, frame_at, receipt_of, tick_of}
use Rattle.bus_spec.specs.Lawful.{DoesNoHarm}
use Rattle.bus_spec.specs.Members.{MemberStatus}
use Rattle.bus_spec.specs.Members.MemberStatus.{Up}

module _ (laws : FrameLaws)
    (stay : (t : AllocatorState) (number : ℕ) (event : Event) (node : ℕ) → In node (members_of t) → In node (members_of (step t number event).step_state.allocator))
    (choice : ℕ → Bool) (made : List SentTransfer) (w : Cluster) (run : raft.World) (members : AreMembers w.ids) (shows : Shows choice made w run)
    (one_transfer : (n k ms : ℕ) (d : Delivery) → DoesNoHarm w (Rx n k ms) → IsDeliveredTo w n k ms d → IsOneTransfer made run.bag n d)
    (n m id moment : ℕ) (request : Request) (row : Row) (before after : AllocatorState) (listed : In n w.ids) (harm : DoesNoHarm w row)
    (up : (w.member n).status ≡ Up before) (up_then : ((after_row w row).member n).status ≡ Up after) (waits : WaitsForVote m id moment request before)
    (soon : after.now < moment + 1000) (none_stands : (term : ℕ) → Stands n term w row → ⊥) (no_leader : after.raft_server.memory.role ≢ Leader)
    (none_comes : VoteComes n m id w row → ⊥) where
  abbrev number : ℕ
  number = w.rows + 1

  abbrev sending : Sending
  sending = record { id = id; moment = moment }

  -- the member as the run shows it
  its : ShowsUp made w.ids w.frames run n before (w.member n).disk
  its = subst (λ (status : MemberStatus). ShowsMember choice made w.ids w.frames run n status (w.member n).disk) up (shows.lives n listed)

  -- the request is pending, or the member leads, or this holds of its role and term
  abbrev Holds : (Role → ℕ → Type 0) → AllocatorState → Type 0
  Holds New a = Still number m New request sending a.me a.raft_server a.times a.now

  -- in time, by the moment of the step
  in_time : (event : Event) → after ≡ (step before number event).step_state.allocator → max before.now (moment_of event) < moment + 1000
  in_time event e = subst (λ (k : ℕ). k < moment + 1000) (ap (λ (a : AllocatorState). a.now) e ∙ now_after before number event) soon

  -- who is listed stays listed
  still_listed : (event : Event) → after ≡ (step before number event).step_state.allocator → In m (members_of after)
  still_listed event e = subst (λ (a : AllocatorState). In m (members_of a)) (sym e) (stay before number event m waits.listed)

  -- no answer to the request is delivered
  none_delivered : (k ms : ℕ) → row ≡ Rx n k ms → (d : Delivery) → answer (setting_for before.me) before.sessions (arrival_at (frame_at w.frames k) (max before.now ms)) ≡ Gives d
      → d.ident.kind ≡ Response → d.ident.number ≢ 1 → d.ident.number ≢ 30 → d.ident.source ≡ m → id ≡ d.id → ⊥
  none_delivered k ms comes d gives kind one thirty source same =
      let y : IsWhole d = is_whole laws choice made w run members shows one_transfer n k ms before up (subst (DoesNoHarm w) comes harm) d gives kind
      (subst (λ (p : ℕ). In p w.ids) (sym source) (its.works.among m waits.listed)) in
      none_comes (record {
        y = y.transfer;
        by = ap (λ (e : Delivery). e.ident.source) y.is ∙ source;
        what = is_vote y.transfer.offer.what (ap (λ (e : Delivery). e.ident.kind) y.is ∙ kind)
            (λ e. one (sym (ap (λ (x : Delivery). x.ident.number) y.is) ∙ e)) (λ e. thirty (sym (ap (λ (x : Delivery). x.ident.number) y.is) ∙ e));
        its_id = ap (λ (e : Delivery). e.id) y.is ∙ sym same;
        delivers = record {
          k = k;
          ms = ms;
          comes = comes;
          server = before;
          runs = up;
          gives = subst (λ (p : ℕ). answer (setting_for p) before.sessions (arrival_at (frame_at w.frames k) (max before.now ms)) ≡ Gives (delivery_of y.transfer))
              its.runs.me (gives ∙ ap (λ (e : Delivery). Gives e) (sym y.is));
        };
      })

  -- so the member waits on
  pub waits_on : WaitsForVote m id moment request after
  waits_on = elim (row_leaves w n before after up row harm up_then) [
    | inl x ↦ elim (subst (Holds (IsNext before.raft_server.store.term)) (sym x.is) (pends_at_tick before number m request sending waits.vote waits.pending waits.kept x.ms x.word (in_time (tick_of x.ms x.word) x.is))) [
      | inl h ↦ record { listed = still_listed (tick_of x.ms x.word) x.is; vote = waits.vote; pending = h.0; kept = h.1 }
      | inr (inl leads) ↦ absurd (no_leader leads)
      | inr (inr stood) ↦ absurd (none_stands (before.raft_server.store.term + 1) (record {
        ms = x.ms;
        word = x.word;
        reads = x.reads;
        before = before;
        runs = up;
        next = refl;
        after = after;
        runs_then = up_then;
        stands = stood.0;
        its_term = stood.1;
      }))
    ]
    | inr (inl x) ↦ elim (subst (Holds (λ role term. ⊥)) (sym x.is) (pends_at_frame before number m request sending waits.vote waits.pending waits.kept
        (arrival_at (frame_at w.frames x.k) x.ms) (in_time (receipt_of w x.k x.ms) x.is) (none_delivered x.k x.ms x.comes))) [
          | inl h ↦ record { listed = still_listed (receipt_of w x.k x.ms) x.is; vote = waits.vote; pending = h.0; kept = h.1 }
          | inr (inl leads) ↦ absurd (no_leader leads)
          | inr (inr none) ↦ absurd none
        ]
    | inr (inr (inl e)) ↦ subst (WaitsForVote m id moment request) (sym e) waits
    | inr (inr (inr e)) ↦ subst (WaitsForVote m id moment request) (sym e)
        (record { listed = waits.listed; vote = waits.vote; pending = waits.pending; kept = waits.kept })
  ]
