-- What a calm row leaves of a leader that waits with its blank: it waits on, the blank has come behind its log, or a
-- request of a device makes the log grow.
use Rattle.std.proofs.Common.{◌≡◌, ◌≢◌, ℕ, ◌+◌, ◌≤◌, ◌<◌, Bool, true, List, [], ◌∷◌, ◌++◌, length, refl, sym, ◌∙◌, ap, subst, arith, inl, inr, max}
use Rattle.std.specs.Prelude.{◌⊎◌}
use Rattle.alloc_exchange.specs.Exchange.{Accepted, after}
use Rattle.can_frame.specs.declared.entry.Entry.{Entry}
use Rattle.can_frame.specs.Log.{blank, last_term, log_limit}
use Rattle.cluster_discovery.specs.Members.{IsMemberList}
use Rattle.dsdl_codec.specs.declared.allocation.Allocation.{Allocation}
use Rattle.raft_model.specs.Lists.{In}
use Rattle.raft_model.specs.Members.{IsAll}
use Rattle.raft_model.specs.Moves.Elections.{has_quorum}
use Rattle.raft_model.specs.Moves.Leading.{has_matched}
use Rattle.raft_model.specs.Server.{RaftServer}
use Rattle.raft_model.specs.Server.Role.{Leader}
use Rattle.raft_model.proofs.Apart.{leader_no_follower}
use Rattle.raft_model.proofs.Members.{same_quorum}
use Rattle.bus_rows.specs.declared.row.Row.{Row}
use Rattle.bus_rows.specs.declared.row.Row.TheVariants.{Rx}
use Rattle.transfer_rx.specs.Reassembly.{Delivery, Gives, answer as received}
use Rattle.alloc_spec.specs.Accepted.{setting_for}
use Rattle.alloc_spec.specs.AllocatorState.{AllocatorState, members_of, start_of}
use Rattle.alloc_spec.specs.Exchange.{may_follow}
use Rattle.bus_agreement.specs.LawsBelow.{FrameLaws}
use Rattle.bus_agreement.specs.Shows.{ShowsMember, ShowsUp}
use Rattle.bus_agreement.specs.StepLaws.{MoreLaws}
use Rattle.bus_agreement.proofs.Lists.{equal, none_twice}
use Rattle.service_alone.specs.Calm.{Pace}
use Rattle.service_calm.specs.Calm.{IsCalmRow, Member as OfMember, Party, Traffic}
use Rattle.service_calm.specs.Calls.{Lists}
use Rattle.service_device.specs.Recorded.{Grows, LeadsWith}
use Rattle.service_device.specs.Settled.{IsAsked, MissesNobody}
use Rattle.service_leader.proofs.LeadsOnWays.{AreOfGroup}
use Rattle.service_calm.proofs.Pair.{same_server}
use Rattle.service_steps.proofs.Alone.{last_entry}
use Rattle.service_device.proofs.RecordedStays.{grows_by, leads_with}
use Rattle.service_device.proofs.RecordedSteps.{no_stranger_longer}
use Rattle.service_device.proofs.SettledRows.{asked_row, unasked_in}
use Rattle.service_device.proofs.SettledServers.{Settles}
use Rattle.service_device.proofs.SettledStays.{AsksOrNot, asked_or_not}
use Rattle.service_device.proofs.SettlesOffice.{IsAtBlank, IsWaiting, WaitsOver, blank_office}
use Rattle.service_leader.proofs.TermsHeard.{IsOfRun}
use Rattle.service_leader.proofs.TermsKept.{TellsWithin}
use Rattle.alloc_spec.specs.ClusterMembers.{AreMembers}
use Rattle.bus_spec.specs.Cluster.{Cluster, after_row, arrival_at, frame_at}
use Rattle.bus_spec.specs.Members.{MemberStatus}
use Rattle.bus_spec.specs.Members.MemberStatus.{Up}

-- ---- the list of a leader

-- what the server of a member is, in a world that rows reach
pub its_server : (w : Cluster) (shown : IsOfRun w) (n : ℕ) (t : AllocatorState) → In n w.ids → (w.member n).status ≡ Up t
    → ShowsUp shown.made w.ids w.frames shown.run n t (w.member n).disk
its_server w shown n t listed up =
    subst (λ (status : MemberStatus). ShowsMember shown.choice shown.made w.ids w.frames shown.run n status (w.member n).disk) up (shown.shows.lives n listed)

-- whoever leads lists all members, each once
pub lists_all : MoreLaws → (w : Cluster) → IsOfRun w → AreMembers w.ids → (n : ℕ) (t : AllocatorState) → In n w.ids → (w.member n).status ≡ Up t
    → t.raft_server.memory.role ≡ Leader → IsAll (members_of t) w.ids
lists_all more w shown members n t listed up leads = record {
  once = none_twice (members_of t) its_list.different;
  among = its.works.among;
  as_many = equal (length (members_of t)) t.size (its.runs.order.counting (leader_no_follower t.raft_server.memory.role leads)) ∙ its.runs.size;
}
  where
    its : ShowsUp shown.made w.ids w.frames shown.run n t (w.member n).disk
    its = its_server w shown n t listed up

    its_list : IsMemberList t.me t.size (members_of t)
    its_list = more.list (start_of t) t.heard (record {
      numbered = subst (λ (k : ℕ). 1 ≤ k) (sym its.runs.me) (members.nodes n listed).0;
      device = subst (λ (k : ℕ). k ≤ 125) (sym its.runs.me) (members.nodes n listed).1;
      least = let s = its.runs.size in let some = members.some in omega (arith, some, s);
      most = let s = its.runs.size in let few = members.few in omega (arith, few, s);
    })

-- who waits over a list waits over another of the same members
pub waits_over : (a b : List ℕ) (me : ℕ) (log : List Entry) (t : AllocatorState)
    → ((votes : ℕ → Bool) → has_quorum a votes ≡ has_quorum b votes) → IsWaiting a me log t.raft_server → IsWaiting b me log t.raft_server
waits_over a b me log t same w = record {
  log_is = w.log_is;
  some = w.some;
  not_heard = sym (same (has_matched me t.raft_server (length log))) ∙ w.not_heard;
}

-- ---- who waits in a world

module _ (ids : List ℕ) (n top : ℕ) (log : List Entry) where
  -- member n leads in this term, and waits with its blank behind this log
  pub record IsInWait (now : ℕ) (w : Cluster) : Type 0 where
    pub server : AllocatorState
    pub accepted : List Accepted
    pub its : Settles (IsAtBlank ids n top log) log accepted now (w.member n) server
    pub waits : IsWaiting ids n log server.raft_server

  -- it leads with the blank behind this log
  pub record HasBlank (now : ℕ) (w : Cluster) : Type 0 where
    pub accepted : List Accepted
    pub leads : LeadsWith n (log ++ blank top ∷ []) accepted now w

  -- a request that comes in this row makes this log grow
  pub record GrowsIn (now : ℕ) (w : Cluster) (row : Row) : Type 0 where
    pub message : Allocation
    pub asked : IsAsked n message w row
    pub grows : Grows n log now message w row asked

-- ---- a row

module _ (frame : FrameLaws) (group : List Party) (clocks : Party → ℕ) (pace : Pace) (n top : ℕ) (log : List Entry)
    (earlier : last_term log < top) (room : length log < log_limit) (before moment : ℕ)
    (traffic : Traffic) (w : Cluster) (nodes : (p : ℕ) → In (OfMember p) group → (1 ≤ p) × (p ≤ 125)) (member : In (OfMember n) group)
    (flies : (party : Party) → AreOfGroup group w.frames (traffic.to party)) (lists : (p : ℕ) → In (OfMember p) group → p ≢ n → Lists n p w)
    (later : before ≤ moment + clocks (OfMember n)) (ids : List ℕ) (h : IsInWait ids n top log before w)
    (me : h.server.me ≡ n) (told : h.server.times.waits ≡ true) (all : IsAll (members_of h.server) ids)
    (row : Row) (calm : IsCalmRow group clocks pace traffic w moment row) where
  abbrev now : ℕ
  now = moment + clocks (OfMember n)

  abbrev list : List ℕ
  list = members_of h.server

  abbrev Holds : RaftServer → Type 0
  Holds = IsAtBlank list n top log

  abbrev Left : Type 0
  Left = (taken : List Accepted) × (u : AllocatorState) × Settles Holds log taken now ((after_row w row).member n) u

  same_list : (votes : ℕ → Bool) → has_quorum list votes ≡ has_quorum ids votes
  same_list votes = same_quorum list ids votes all

  waits_here : IsWaiting list n log h.server.raft_server
  waits_here = waits_over ids list n log h.server (λ votes. sym (same_list votes)) h.waits

  its : Settles Holds log h.accepted before (w.member n) h.server
  its = record {
    up = h.its.up;
    done = record { leads = h.its.done.leads; which = inl waits_here };
    clock = h.its.clock;
    status = h.its.status;
    accepts = h.its.accepts;
    requests = h.its.requests;
    offline = h.its.offline;
    discovery = h.its.discovery;
  }

  sees : WaitsOver list n (members_of h.server) h.server.me h.server.times.waits
  sees = (refl, me, told)

  module _ (within : (k ms : ℕ) → row ≡ Rx n k ms → (d : Delivery)
      → received (setting_for h.server.me) h.server.sessions (arrival_at (frame_at w.frames k) (max h.server.now ms)) ≡ Gives d → TellsWithin top d)
      (missed : MissesNobody n w row) where
    -- a request is taken, or makes the log grow
    asked_left : (message : Allocation) → IsAsked n message w row → Left ⊎ GrowsIn ids n top log now w row
    asked_left message is = elim (asked_row frame group clocks pace n top log Holds (WaitsOver list n) (blank_office list n top log earlier room) h.accepted before moment
        traffic w nodes member flies lists later h.server its me row calm message is) [
          | inl g ↦ inr (record {
            message = message;
            asked = is;
            grows = grows_by frame group clocks pace n top log Holds (WaitsOver list n) (blank_office list n top log earlier room) h.accepted before moment traffic w nodes
                member flies lists later row message is g
                (ap (λ (t : AllocatorState). t.raft_server.store.log) (sym (same_server h.server is.comes.server (sym h.its.up.status ∙ is.comes.runs))) ∙ h.waits.log_is);
          })
          | inr leaves ↦ inl (after h.accepted message (max is.comes.server.now is.comes.ms) (may_follow is.comes.server), leaves.0, leaves.1)
        ]

    left : Left ⊎ GrowsIn ids n top log now w row
    left = by (asked_or_not n w h.server h.its.up.status row)
      where
        by : AsksOrNot n w row → Left ⊎ GrowsIn ids n top log now w row
        by (inl (message, is)) = asked_left message is
        by (inr not_asked) =
            let leaves = unasked_in frame group clocks pace n top log Holds (WaitsOver list n) (blank_office list n top log earlier room) h.accepted before moment traffic w
            nodes member flies lists later h.server its me row sees calm within missed not_asked in
            inl (h.accepted, leaves.0, leaves.1)

    abbrev Behind : Type 0
    Behind = IsInWait ids n top log now (after_row w row) ⊎ HasBlank ids n top log now (after_row w row)

    left_so : (taken : List Accepted) (u : AllocatorState) → Settles Holds log taken now ((after_row w row).member n) u → Behind
    left_so taken u s = elim s.done.which [
      | inl waits ↦ inl (record {
        server = u;
        accepted = taken;
        its = record {
          up = s.up;
          done = record { leads = s.done.leads; which = inl (waits_over list ids n log u same_list waits) };
          clock = s.clock;
          status = s.status;
          accepts = s.accepts;
          requests = s.requests;
          offline = s.offline;
          discovery = s.discovery;
        };
        waits = waits_over list ids n log u same_list waits;
      })
      | inr added ↦ inr (record {
        accepted = taken;
        leads = leads_with n top (log ++ blank top ∷ []) taken now (after_row w row) u (record {
          up = s.up;
          done = record { leads = s.done.leads; log_is = added; no_blank = inr (ap (λ (e : Entry). e.term) (last_entry log (blank top))) };
          clock = s.clock;
          status = s.status;
          accepts = s.accepts;
          requests = s.requests;
          offline = no_stranger_longer log (blank top ∷ []) (members_of u) u.watch u.now s.offline;
          discovery = s.discovery;
        });
      })
    ]

    -- it waits on, or the blank has come, or a request makes the log grow
    pub waits_or_adds : Behind ⊎ GrowsIn ids n top log now w row
    waits_or_adds = elim left [ inl l ↦ inl (left_so l.0 l.1 l.2) | inr g ↦ inr g ]
