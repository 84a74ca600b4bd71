-- What a calm row does to a member: its clock, its wait, and that it stands for election.
use Rattle.std.proofs.Common.{◌≡◌, ◌≢◌, ℕ, ◌+◌, ◌≤◌, arith, true, List, [], ◌∷◌, length, max, refl, sym, ◌∙◌, ap, subst, inl, inr, Option, None, Some}
use Rattle.std.specs.Prelude.{◌⊎◌}
use Rattle.raft_model.specs.Lists.{In}
use Rattle.bus_rows.specs.declared.row.Row.{Row}
use Rattle.bus_rows.specs.declared.row.Row.TheVariants.{AEnd, AOpen, ARx, ASend, ATick, Crash, Ext, Fault, Open, Rx, Send, Tick}
use Rattle.alloc_spec.specs.AllocatorState.{AllocatorState, knows_all, members_of, start_of}
use Rattle.alloc_spec.specs.Step.{Event, moment_of, step}
use Rattle.alloc_spec_laws.proofs.Choices.{eq_true}
use Rattle.alloc_spec_laws.proofs.Peers.{IsList, members_list}
use Rattle.service_candidate.specs.Votes.{Stands}
use Rattle.service_candidate.proofs.RowsLeave.{IsLeft, row_leaves}
use Rattle.service_candidate.proofs.WaitsFrames.{frame_leaves}
use Rattle.service_candidate.proofs.WaitsRows.{has_waited_long, is_candidate_then, knows_then}
use Rattle.service_candidate.proofs.WaitsTicks.{tick_leaves}
use Rattle.service_calm.specs.Calm.{IsCalmRow, Member as OfMember, Party, Traffic}
use Rattle.service_calm.proofs.Counting.{now_after}
use Rattle.service_calm.proofs.Pair.{same_event, same_server, same_stepper}
use Rattle.bus_rows.specs.Timed.{Timed}
use Rattle.service_alone.specs.Calm.{Pace}
use Rattle.service_alone.proofs.Members.{IsQuiet}
use Rattle.bus_spec.specs.Cluster.{Cluster, after_row, arrival_at, frame_at, receipt_of, step_of, tick_of}
use Rattle.bus_spec.specs.Lawful.{DoesNoHarm}
use Rattle.bus_spec.specs.Members.MemberStatus.{Up}

-- a server that lists another node has two on its list
two_in : (me m : ℕ) (peers : List ℕ) → In m (me ∷ peers) → m ≢ me → 2 ≤ length (me ∷ peers)
two_in me m [] (inl same) other = absurd (other same)
two_in me m [] (inr i) other = absurd i
two_in me m (p ∷ peers) i other = omega arith

two_listed : (t : AllocatorState) (m : ℕ) → In m (members_of t) → m ≢ t.me → 2 ≤ length (members_of t)
two_listed t m i other =
    let list : IsList t.size t.me (members_of t) = members_list (start_of t) t.heard in
    subst (λ (l : List ℕ). 2 ≤ length l) (sym list.is) (two_in t.me m list.peers (subst (λ (l : List ℕ). In m l) list.is i) other)

no_tick : (n ms word k moment : ℕ) (row : Row) → row ≡ Tick n ms word → row ≡ Rx n k moment → ⊥
no_tick n ms word k moment row e f = cc (sym e ∙ f)

same_ms : (n ms word moment other : ℕ) (row : Row) → row ≡ Tick n ms word → row ≡ Tick n moment other → ms ≡ moment
same_ms n ms word moment other row e f = cc (sym e ∙ f)

no_step : (n : ℕ) (event : Event) → ◌≡◌ {A = Option (ℕ × Event)} None (Some (n, event)) → ⊥
no_step n event e = cc e

-- a calm step of a member is at the moment of the row, by its clock
step_moment : (group : List Party) (clocks : Party → ℕ) (pace : Pace) (traffic : Traffic) (w : Cluster) (at n : ℕ) (event : Event) (row : Row)
    → IsCalmRow group clocks pace traffic w at row → step_of w row ≡ Some (n, event) → moment_of event ≡ at + clocks (OfMember n)
step_moment group clocks pace traffic w at n event (Tick p ms word) calm e =
    ap moment_of (sym (same_event p n (tick_of ms word) event e)) ∙ (calm.1 ∙ ap (λ (j : ℕ). at + clocks (OfMember j)) (same_stepper p n (tick_of ms word) event e))
step_moment group clocks pace traffic w at n event (Rx p k ms) calm e =
    ap moment_of (sym (same_event p n (receipt_of w k ms) event e)) ∙ (calm.1 ∙ ap (λ (j : ℕ). at + clocks (OfMember j)) (same_stepper p n (receipt_of w k ms) event e))
step_moment group clocks pace traffic w at n event (Send p) calm e = absurd (no_step n event e)
step_moment group clocks pace traffic w at n event (ATick a ms word) calm e = absurd (no_step n event e)
step_moment group clocks pace traffic w at n event (ARx a k ms word) calm e = absurd (no_step n event e)
step_moment group clocks pace traffic w at n event (ASend a) calm e = absurd (no_step n event e)
step_moment group clocks pace traffic w at n event (Open p told ms word) calm e = elim calm [ ]
step_moment group clocks pace traffic w at n event (Ext frame) calm e = elim calm [ ]
step_moment group clocks pace traffic w at n event (Crash p calls pattern) calm e = elim calm [ ]
step_moment group clocks pace traffic w at n event (Fault p call) calm e = elim calm [ ]
step_moment group clocks pace traffic w at n event (AOpen a uid pref ms word) calm e = elim calm [ ]
step_moment group clocks pace traffic w at n event (AEnd a) calm e = elim calm [ ]

-- What is known of member n before a calm row that does no harm: it runs, it lists the other, and its clock reads no
-- more than the moment of the row before.
pub record Known (group : List Party) (clocks : Party → ℕ) (pace : Pace) (n m : ℕ) (traffic : Traffic) (w : Cluster) (timed : Timed) : Type 0 where
  pub calm : IsCalmRow group clocks pace traffic w timed.at timed.row
  pub later : traffic.at ≤ timed.at
  pub harm : DoesNoHarm w timed.row
  pub t : AllocatorState
  pub up : (w.member n).status ≡ Up t
  pub quiet : IsQuiet (w.member n).disk
  pub me : t.me ≡ n
  pub clock : t.now ≤ traffic.at + clocks (OfMember n)
  pub listed : In m (members_of t)
  pub other : m ≢ n

module _ (group : List Party) (clocks : Party → ℕ) (pace : Pace) (n m : ℕ) (traffic : Traffic) (w : Cluster) (timed : Timed)
    (known : Known group clocks pace n m traffic w timed) (u : AllocatorState) (up_then : ((after_row w timed.row).member n).status ≡ Up u) where
  abbrev t : AllocatorState
  t = known.t

  abbrev number : ℕ
  number = w.rows + 1

  abbrev pub its_moment : ℕ
  its_moment = timed.at + clocks (OfMember n)

  pub left : IsLeft w n timed.row t u
  left = row_leaves w n t u known.up timed.row known.harm up_then

  -- a step is at this moment
  pub step_at : (event : Event) → step_of w timed.row ≡ Some (n, event) → max t.now (moment_of event) ≡ its_moment
  step_at event e =
      let k = step_moment group clocks pace traffic w timed.at n event timed.row known.calm e in
      let c = known.clock in let l = known.later in omega (arith, k, c, l)

  pub tick_at : (ms word : ℕ) → timed.row ≡ Tick n ms word → max t.now ms ≡ its_moment
  tick_at ms word e = step_at (tick_of ms word) (ap (λ (r : Row). step_of w r) e)

  pub receipt_at : (k ms : ℕ) → timed.row ≡ Rx n k ms → max t.now ms ≡ its_moment
  receipt_at k ms e = step_at (receipt_of w k ms) (ap (λ (r : Row). step_of w r) e)

  -- the clock reads no more than this moment
  pub clock_then : u.now ≤ its_moment
  clock_then = elim left [
    | inl x ↦ let a = ap (λ (s : AllocatorState). s.now) x.is ∙ now_after t number (tick_of x.ms x.word) in let b = tick_at x.ms x.word x.reads in omega (arith, a, b)
    | inr (inl x) ↦ let a = ap (λ (s : AllocatorState). s.now) x.is ∙ now_after t number (receipt_of w x.k x.ms) in let b = receipt_at x.k x.ms x.comes in omega (arith, a, b)
    | inr (inr (inl e)) ↦ let a = ap (λ (s : AllocatorState). s.now) e in let c = known.clock in let l = known.later in omega (arith, a, c, l)
    | inr (inr (inr e)) ↦ let a = ap (λ (s : AllocatorState). s.now) e in let c = known.clock in let l = known.later in omega (arith, a, c, l)
  ]

  -- the wait goes on, or begins anew
  pub since_then : (u.times.since ≡ t.times.since) ⊎ (its_moment ≤ u.times.since)
  since_then = elim left [
    | inl x ↦ elim (tick_leaves t number x.ms x.word) [
      | inl same ↦ inl (ap (λ (s : AllocatorState). s.times.since) x.is ∙ same.1)
      | inr stood ↦ inr (let a = ap (λ (s : AllocatorState). s.times.since) x.is ∙ stood.1 in let b = tick_at x.ms x.word x.reads in omega (arith, a, b))
    ]
    | inr (inl x) ↦ elim (frame_leaves t number (arrival_at (frame_at w.frames x.k) x.ms)).0 [
      | inl same ↦ inl (ap (λ (s : AllocatorState). s.times.since) x.is ∙ same)
      | inr why ↦ inr (let a = ap (λ (s : AllocatorState). s.times.since) x.is ∙ why.0 in let b = receipt_at x.k x.ms x.comes in omega (arith, a, b))
    ]
    | inr (inr (inl e)) ↦ inl (ap (λ (s : AllocatorState). s.times.since) e)
    | inr (inr (inr e)) ↦ inl (ap (λ (s : AllocatorState). s.times.since) e)
  ]

  -- a tick at which the term rises by one is one at which it stands
  pub stands_then : (ms word : ℕ) → timed.row ≡ Tick n ms word → u ≡ (step t number (tick_of ms word)).step_state.allocator
      → u.raft_server.store.term ≡ t.raft_server.store.term + 1 → (term : ℕ) × Stands n term w timed.row
  stands_then ms word reads is higher = elim (tick_leaves t number ms word) [
    | inl same ↦ absurd (let a = ap (λ (s : AllocatorState). s.raft_server.store.term) is ∙ same.3 in omega (arith, a, higher))
    | inr stood ↦
        let knows : knows_all t ≡ true = knows_then t (max t.now ms) stood.0 in
        let many : 2 ≤ t.size =
        let a = two_listed t m known.listed (λ e. known.other (e ∙ known.me)) in let b = eq_true (length (members_of t)) t.size knows in omega (arith, a, b) in (
          t.raft_server.store.term + 1,
          record {
            ms = ms;
            word = word;
            reads = reads;
            before = t;
            runs = known.up;
            next = refl;
            after = u;
            runs_then = up_then;
            stands = ap (λ (s : AllocatorState). s.raft_server.memory.role) is ∙ (stood.3 ∙ is_candidate_then t knows many);
            its_term = higher;
          },
        )
  ]

  -- where it stands, its wait was over, and begins anew
  pub stood_then : (term : ℕ) → Stands n term w timed.row → (t.times.since + 2000 ≤ its_moment) × (its_moment ≤ u.times.since)
  stood_then term s = (
    (let e = same_server s.before t (sym s.runs ∙ known.up) in let h = has_waited_long w n timed.row known.harm term s in let b = tick_at s.ms s.word s.reads in
        let c = ap (λ (a : AllocatorState). a.times.since) e in let d = ap (λ (a : AllocatorState). max a.now s.ms) e in omega (arith, h, b, c, d)),
    elim left [
      | inl x ↦ elim (tick_leaves t number x.ms x.word) [
        | inl same ↦ absurd (risen (ap (λ (a : AllocatorState). a.raft_server.store.term) x.is ∙ same.3))
        | inr stood ↦ let a = ap (λ (a : AllocatorState). a.times.since) x.is ∙ stood.1 in let b = tick_at x.ms x.word x.reads in omega (arith, a, b)
      ]
      | inr (inl x) ↦ absurd (no_tick n s.ms s.word x.k x.ms timed.row s.reads x.comes)
      | inr (inr (inl e)) ↦ absurd (risen (ap (λ (a : AllocatorState). a.raft_server.store.term) e))
      | inr (inr (inr e)) ↦ absurd (risen (ap (λ (a : AllocatorState). a.raft_server.store.term) e))
    ],
  )
    where
      risen : u.raft_server.store.term ≡ t.raft_server.store.term → ⊥
      risen same =
          let a = ap (λ (a : AllocatorState). a.raft_server.store.term) (same_server s.before t (sym s.runs ∙ known.up)) in
          let b = ap (λ (a : AllocatorState). a.raft_server.store.term) (same_server s.after u (sym s.runs_then ∙ up_then)) in
          let c = s.next in let d = s.its_term in omega (arith, same, a, b, c, d)
