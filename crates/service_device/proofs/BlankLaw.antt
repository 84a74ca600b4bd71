-- A leader adds its blank as soon as it may: in the world of lawful rows it has none to add, or waits with it.
use Rattle.std.proofs.Common.{◌≡◌, ℕ, ◌<◌, ◌≤◌, true, false, List, ◌++◌, length, refl, sym, ◌∙◌, subst, arith, inl, inr}
use Rattle.std.specs.Prelude.{◌⊎◌, nat_eq}
use Rattle.std.proofs.lemmas.Bool.{le-leb}
use Rattle.can_frame.specs.declared.entry.Entry.{Entry}
use Rattle.can_frame.specs.Log.{last_term, log_limit}
use Rattle.cluster_discovery.specs.Members.{is_on_list}
use Rattle.raft_model.specs.Lists.{In, how_many}
use Rattle.raft_model.specs.Members.{IsAll}
use Rattle.raft_model.specs.Moves.Elections.{has_quorum}
use Rattle.raft_model.specs.Moves.Leading.{has_matched}
use Rattle.raft_model.specs.Server.{RaftServer, Store, quorum}
use Rattle.raft_model.specs.Server.Role.{Leader}
use Rattle.raft_model.proofs.Apart.{leader_no_follower}
use Rattle.raft_model.proofs.Members.{same_quorum}
use Rattle.bus_rows.specs.declared.row.Row.{Row}
use Rattle.alloc_spec.specs.AllocatorState.{AllocatorState, is_recorded, knows_all, members_of}
use Rattle.alloc_spec.specs.Rules.{Rules, opening_by}
use Rattle.alloc_spec.specs.Step.{Event, after_pop, step}
use Rattle.alloc_spec_laws.specs.Blanks.{IsHeard}
use Rattle.alloc_spec_laws.proofs.Choices.{lt_tells}
use Rattle.alloc_spec_laws.proofs.LeadersBlanks.{goes_on_to_wait}
use Rattle.bus_agreement.specs.StepLaws.{MoreLaws, StepLaws}
use Rattle.service_calm.proofs.EachServer.{in_each}
use Rattle.service_alone.proofs.Choosing.{left_false}
use Rattle.service_device.specs.Settles.{HasComeToLead, LeadersAddTheirBlanks, WaitsWithBlank}
use Rattle.service_device.specs.Tidy.{IsFit, WhoLeadsHasComeToLead}
use Rattle.service_leader.proofs.Stretches.{harmless_both}
use Rattle.service_alone.proofs.Goes.{after_both}
use Rattle.service_device.proofs.AllocationsTold.{VerdictsAre}
use Rattle.service_device.proofs.BlankRaft.{HasNoBlank}
use Rattle.service_device.proofs.BlankSteps.{IsDueAt, due_on}
use Rattle.service_device.proofs.SettlesLaw.{IsFitting}
use Rattle.bus_spec.specs.Cluster.{Cluster, cluster, world_of}
use Rattle.bus_spec.specs.Lawful.{DoNoHarm}
use Rattle.bus_spec.specs.Members.MemberStatus.{Up}

-- ---- each server of the world

module _ (judged : VerdictsAre) (more : MoreLaws) (in_step : StepLaws)
    (whole : (t : AllocatorState) (number : ℕ) (event : Event) → knows_all t ≡ true → members_of (step t number event).step_state.allocator ≡ members_of t) where
  abbrev pub Holds : AllocatorState → Type 0
  Holds t = IsDueAt judged t t.raft_server

  opened : (n : ℕ) (rules : Rules) (store : Store) (moment word : ℕ) → Holds (opening_by n rules store moment word)
  opened n rules store moment word = record { counting = λ apart. absurd (apart refl); fine = λ leads. absurd (cc (leads)) }

  -- a step leaves it so, by the list as it is then: one that is complete does not change
  stepped : (t : AllocatorState) (number : ℕ) (event : Event) → Holds t → Holds (step t number event).step_state.allocator
  stepped t number event h = record {
    counting = λ apart. complete_then (then_.counting apart);
    fine = λ leads. elim (then_.fine leads) [
      | inl z ↦ inl z
      | inr z ↦ inr (
        goes_on_to_wait t number event ∙ z.0,
        (λ i. has_quorum (whole t number event (then_.counting (leader_no_follower u.raft_server.memory.role leads)) i)
            (has_matched (in_step.me t number event i) u.raft_server (length u.raft_server.store.log))) ∙ z.1,
      )
    ];
  }
    where
      u : AllocatorState
      u = (step t number event).step_state.allocator

      then_ : IsDueAt judged t (step t number event).step_state.allocator.raft_server
      then_ = due_on judged number t h event

      complete_then : knows_all t ≡ true → knows_all (step t number event).step_state.allocator ≡ true
      complete_then e = (λ i. nat_eq (length (whole t number event e i)) (more.size t number event i)) ∙ e

  popped : (t : AllocatorState) → Holds t → Holds (after_pop t)
  popped t h = record { counting = h.counting; fine = h.fine }

  pub due_in : (ids : List ℕ) (rows : List Row) (n : ℕ) (t : AllocatorState) → ((world_of ids rows).member n).status ≡ Up t → Holds t
  due_in ids rows n t up = in_each Holds opened stepped popped ids rows n t up

-- ---- who leads

module _ (judged : VerdictsAre) (ids : List ℕ) (n : ℕ) (t : AllocatorState) (due : IsDueAt judged t t.raft_server) (fitting : IsFitting t) (me : t.me ≡ n)
    (leads : t.raft_server.memory.role ≡ Leader) (all : IsAll (members_of t) ids) where
  abbrev s : RaftServer
  s = t.raft_server

  abbrev log : List Entry
  log = s.store.log

  abbrev Ends : Type 0
  Ends = (s.store.commit ≡ length log) ⊎ (WaitsWithBlank ids n log t ⊎ (last_term log ≡ s.store.term))

  module _ (room : s.store.commit < length log → length log < log_limit) where
    own : s.store.term ≤ last_term log → last_term log ≡ s.store.term
    own high = let low = fitting.terms in omega (arith, high, low)

    not_heard : has_quorum (members_of t) (has_matched t.me s (length log)) ≡ false → IsHeard ids n s → ⊥
    not_heard e heard = cc (
      sym ((λ i. has_quorum (members_of t) (has_matched (me i) s (length log))) ∙ same_quorum (members_of t) ids (has_matched n s (length log)) all) ∙ e,
      le-leb (quorum ids) (how_many (has_matched n s (length log)) ids) heard.matched,
    )

    waits : t.times.waits ≡ true → has_quorum (members_of t) (has_matched t.me s (length log)) ≡ false → s.store.commit < length log → Ends
    waits told e some = elim (lt_tells (last_term log) s.store.term) [
      | inl z ↦ inr (inl (record { waits = told; not_yet = not_heard e; earlier = z.1; room = room some }))
      | inr z ↦ inr (inr (own z.1))
    ]

    -- where something is not committed
    by_due : s.store.commit < length log → HasNoBlank s ⊎ ((t.times.waits ≡ true) × (has_quorum (members_of t) (has_matched t.me s (length log)) ≡ false)) → Ends
    by_due some (inl (inl all_done)) = absurd (omega (arith, some, all_done))
    by_due some (inl (inr (inl full))) = let r = room some in absurd (omega (arith, r, full))
    by_due some (inl (inr (inr high))) = inr (inr (own high))
    by_due some (inr (told, e)) = waits told e some

    pub has_added : Ends
    has_added = elim (lt_tells s.store.commit (length log)) [
      | inr z ↦ inl (let c = fitting.commit in let h = z.1 in omega (arith, c, h))
      | inl z ↦ by_due z.1 (due.fine leads)
    ]

-- ---- who is fit

-- whoever is fit, and leads in this world, has come to lead
abbrev ComesToLead : (ids : List ℕ) (n now : ℕ) → Cluster → Type 0
ComesToLead ids n now w = (h : IsFit n now w) → h.server.raft_server.memory.role ≡ Leader
    → (h.server.raft_server.store.commit < length h.server.raft_server.store.log → length h.server.raft_server.store.log < log_limit)
    → HasComeToLead ids n h.server.raft_server.store.log now w

comes_to_lead : (ids : List ℕ) (rows : List Row) (n now : ℕ) → In n ids → ((t : AllocatorState) → ((world_of ids rows).member n).status ≡ Up t → IsFitting t)
    → LeadersAddTheirBlanks ids rows → ComesToLead ids n now (world_of ids rows)
comes_to_lead ids rows n now listed fitting added h leads room = record {
  server = h.server;
  runs = h.runs;
  faults = h.faults;
  disk = h.disk;
  leads = leads;
  log_is = refl;
  told = (fitting h.server h.runs).told;
  waits = λ some. by some (added n h.server listed h.runs leads room);
  requests = h.last_request;
  clock = h.clock;
  status = h.status;
  known = λ other e. h.listed other (left_false (is_on_list (members_of h.server) other) (is_recorded h.server.raft_server.store.log other) e);
  discovery = h.discovery;
}
  where
    by : h.server.raft_server.store.commit < length h.server.raft_server.store.log
        → (h.server.raft_server.store.commit ≡ length h.server.raft_server.store.log)
        ⊎ (WaitsWithBlank ids n h.server.raft_server.store.log h.server ⊎ (last_term h.server.raft_server.store.log ≡ h.server.raft_server.store.term))
        → WaitsWithBlank ids n h.server.raft_server.store.log h.server ⊎ (last_term h.server.raft_server.store.log ≡ h.server.raft_server.store.term)
    by some (inl all_done) = absurd (omega (arith, some, all_done))
    by some (inr which) = which

-- so it is behind more rows
pub has_come_to_lead : (ids : List ℕ) (rows : List Row) → DoNoHarm (cluster ids) rows
    → ((list : List Row) → DoNoHarm (cluster ids) list → (n : ℕ) (t : AllocatorState) → In n ids → ((world_of ids list).member n).status ≡ Up t → IsFitting t)
    → ((list : List Row) → DoNoHarm (cluster ids) list → LeadersAddTheirBlanks ids list) → WhoLeadsHasComeToLead ids rows
has_come_to_lead ids rows harmless fitting added more n now no_harm listed =
    let all = rows ++ more in
    let fine : DoNoHarm (cluster ids) all = harmless_both (cluster ids) rows more harmless no_harm in
    subst (ComesToLead ids n now) (after_both (cluster ids) rows more)
    (comes_to_lead ids all n now listed (λ t up. fitting all fine n t listed up) (added all fine))
