-- A member that has settled is in office: so each calm row leaves it settled, unless a request makes its log grow.
use Rattle.std.proofs.Common.{◌≡◌, ◌≢◌, ℕ, ◌+◌, ◌≤◌, Bool, true, List, sym, ◌∙◌, ap, subst, arith, inl, inr}
use Rattle.std.specs.Prelude.{◌⊎◌, ◌||◌, max}
use Rattle.alloc_exchange.specs.Exchange.{Accepted, after, answer, last_moment}
use Rattle.can_frame.specs.declared.entry.Entry.{Entry}
use Rattle.cluster_discovery.specs.Members.{is_on_list}
use Rattle.dsdl_codec.specs.declared.allocation.Allocation.{Allocation}
use Rattle.raft_model.specs.Lists.{In}
use Rattle.bus_rows.specs.declared.row.Row.{Row}
use Rattle.bus_rows.specs.declared.row.Row.TheVariants.{Rx}
use Rattle.transfer_rx.specs.Reassembly.{Delivery, Gives, answer as received}
use Rattle.alloc_spec.specs.Accepted.{setting_for}
use Rattle.alloc_spec.specs.AllocatorState.{AllocatorState, is_recorded, members_of}
use Rattle.alloc_spec.specs.Exchange.{may_follow}
use Rattle.bus_agreement.specs.LawsBelow.{FrameLaws}
use Rattle.service_steps.proofs.FollowUps.{may}
use Rattle.service_steps.proofs.Records.{records}
use Rattle.service_alone.specs.Calm.{Pace}
use Rattle.service_calm.specs.Calm.{IsCalmRow, Member as OfMember, Party, Traffic}
use Rattle.service_calm.specs.Calls.{Lists}
use Rattle.service_leader.specs.LeadsOn.{LeadsIn}
use Rattle.service_device.specs.Settled.{IsAsked, IsRecorded, IsSettled, MissesNobody, StaysSettled}
use Rattle.service_leader.proofs.LeadsOnWays.{AreOfGroup}
use Rattle.service_calm.proofs.Pair.{same_server}
use Rattle.service_device.proofs.SettledAsked.{may_record}
use Rattle.service_device.proofs.SettledRaft.{IsDone, all_committed}
use Rattle.service_leader.proofs.TermsKept.{TellsWithin}
use Rattle.bus_spec.specs.Cluster.{Cluster, after_row, arrival_at, frame_at}
use Rattle.service_device.proofs.SettledServers.{Settles}
use Rattle.service_device.proofs.SettledRaft.{Anyone, done_office}
use Rattle.service_steps.specs.Serving.{MayRecord}
use Rattle.service_device.proofs.SettledRows.{Grew, Leaves, asked_row, unasked_in}

-- the settled one does
pub settles : (n top : ℕ) (log : List Entry) (accepted : List Accepted) (now : ℕ) (w : Cluster) (s : IsSettled n log accepted now w) → LeadsIn n top w
    → Settles (IsDone top log) log accepted now (w.member n) s.settled.server
settles n top log accepted now w s leads =
    let h = s.settled in record {
      up = record { status = h.runs; quiet = record { faults = h.faults; calls = h.disk } };
      done = record {
        leads = (h.leads, ap (λ (t : AllocatorState). t.raft_server.store.term) (same_server h.server leads.server (sym h.runs ∙ leads.runs)) ∙ leads.its_term);
        log_is = h.log_is;
        committed = h.committed;
        told = h.told;
      };
      clock = h.clock;
      status = h.status;
      accepts = s.requests;
      requests = let e = ap (λ (l : List Accepted). last_moment l) s.requests in let r = h.requests in omega (arith, e, r);
      offline = λ other e. h.known other (ap (λ (l : List Entry). is_on_list (members_of h.server) other || is_recorded l other) h.log_is ∙ e);
      discovery = h.discovery;
    }

-- and who does has settled
pub is_settled : (n top : ℕ) (log : List Entry) (accepted : List Accepted) (now : ℕ) (w : Cluster) (t : AllocatorState)
    → Settles (IsDone top log) log accepted now (w.member n) t → IsSettled n log accepted now w
is_settled n top log accepted now w t h = record {
  settled = record {
    server = t;
    runs = h.up.status;
    faults = h.up.quiet.faults;
    disk = h.up.quiet.calls;
    leads = h.done.leads.0;
    log_is = h.done.log_is;
    committed = h.done.committed;
    told = h.done.told;
    clock = h.clock;
    status = h.status;
    requests = let e = ap (λ (l : List Accepted). last_moment l) h.accepts in let r = h.requests in omega (arith, e, r);
    known = λ other e. h.offline other (ap (λ (l : List Entry). is_on_list (members_of t) other || is_recorded l other) (sym h.done.log_is) ∙ e);
    discovery = h.discovery;
  };
  requests = h.accepts;
}

module _ (frame : FrameLaws) (group : List Party) (clocks : Party → ℕ) (pace : Pace) (n top : ℕ) (log : List Entry) (accepted : List Accepted) (before moment : ℕ)
    (traffic : Traffic) (w : Cluster) (nodes : (p : ℕ) → In (OfMember p) group → (1 ≤ p) × (p ≤ 125)) (member : In (OfMember n) group)
    (flies : (party : Party) → AreOfGroup group w.frames (traffic.to party)) (lists : (p : ℕ) → In (OfMember p) group → p ≢ n → Lists n p w)
    (later : before ≤ moment + clocks (OfMember n)) (t : AllocatorState) (h : Settles (IsDone top log) log accepted before (w.member n) t) (me : t.me ≡ n)
    (row : Row) (calm : IsCalmRow group clocks pace traffic w moment row) where
  abbrev now : ℕ
  now = moment + clocks (OfMember n)

  abbrev LeavesIt : List Accepted → Row → Type 0
  LeavesIt = Leaves frame group clocks pace n top log (IsDone top log) Anyone (done_office top log) accepted before moment traffic w nodes member flies lists later

  abbrev GrewIt : (message : Allocation) → IsAsked n message w row → Type 0
  GrewIt = Grew frame group clocks pace n top log (IsDone top log) Anyone (done_office top log) accepted before moment traffic w nodes member flies lists later row

  -- it has settled behind it
  settled : (then_accepted : List Accepted) → LeavesIt then_accepted row → IsSettled n log then_accepted now (after_row w row)
  settled then_accepted leaves = is_settled n top log then_accepted now (after_row w row) leaves.0 leaves.1

  module _ (message : Allocation) (is : IsAsked n message w row) where
    -- who has settled gives follow-ups
    follows : Settles (IsDone top log) log accepted before (w.member n) is.comes.server → may_follow is.comes.server ≡ true
    follows had = may is.comes.server (record { leads = had.done.leads.0; committed = all_committed top log is.comes.server.raft_server had.done })

    recorded : GrewIt message is → IsRecorded n message w row is
    recorded g = record {
      uid = g.growth.uid;
      preferred = g.growth.preferred;
      node = g.growth.node;
      whole = (λ i. answer (g.had.accepts i) message (g.now_is i) (sym (follows g.had) i)) ∙ g.growth.whole;
      may = its_may;
      records = records is.comes.server (w.rows + 1) (arrival_at (frame_at w.frames is.comes.k) is.comes.ms) message g.growth.uid g.growth.preferred g.growth.node
          g.request ((λ i. answer (g.had.accepts i) message (g.now_is i) (may_follow is.comes.server)) ∙ g.growth.whole) its_may;
      runs = g.up.status;
    }
      where
        its_may : MayRecord is.comes.server (max is.comes.server.now is.comes.ms) g.growth.preferred g.growth.uid g.growth.node
        its_may = may_record (w.rows + 1) is.comes.server (arrival_at (frame_at w.frames is.comes.k) is.comes.ms) message _ g.growth

    asked_settled : IsRecorded n message w row is ⊎ IsSettled n log (after accepted message (max is.comes.server.now is.comes.ms) true) now (after_row w row)
    asked_settled = elim (asked_row frame group clocks pace n top log (IsDone top log) Anyone (done_office top log) accepted before moment traffic w nodes member flies lists
        later t h me row calm message is) [
          | inl g ↦ inl (recorded g)
          | inr leaves ↦ inr (subst (λ (b : Bool). IsSettled n log (after accepted message (max is.comes.server.now is.comes.ms) b) now (after_row w row))
              (follows (subst (Settles (IsDone top log) log accepted before (w.member n)) (same_server t is.comes.server (sym h.up.status ∙ is.comes.runs)) h))
              (settled _ leaves))
        ]

  -- each calm row leaves it settled, unless a request makes its log grow
  pub stays_settled : ((k ms : ℕ) → row ≡ Rx n k ms → (d : Delivery) → received (setting_for t.me) t.sessions (arrival_at (frame_at w.frames k) (max t.now ms)) ≡ Gives d
      → TellsWithin top d) → MissesNobody n w row → StaysSettled n log accepted now w row
  stays_settled within missed = record {
    unasked = λ not_asked. settled accepted (unasked_in frame group clocks pace n top log (IsDone top log) Anyone (done_office top log) accepted before moment traffic w nodes
        member flies lists later t h me row tt calm within missed not_asked);
    asked = asked_settled;
  }
