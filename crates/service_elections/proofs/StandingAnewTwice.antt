-- A member that stands for election twice waits for the least wait in between.
use Rattle.std.proofs.Common.{◌≡◌, ℕ, ◌+◌, ◌≤◌, arith, List, [], ◌∷◌, ◌++◌, max, inl, inr, sym, ◌∙◌, ap, subst}
use Rattle.std.proofs.lemmas.List.{append_assoc}
use Rattle.can_frame.specs.Timing.{election_wait}
use Rattle.raft_model.specs.Lists.{In}
use Rattle.bus_rows.specs.declared.row.Row.{Row}
use Rattle.bus_rows.specs.declared.row.Row.TheVariants.{Tick}
use Rattle.alloc_spec.specs.AllocatorState.{AllocatorState}
use Rattle.alloc_spec.specs.Step.{Event, moment_of, step}
use Rattle.service_candidate.specs.Votes.{Stands}
use Rattle.service_candidate.proofs.WaitsFrames.{frame_leaves}
use Rattle.service_candidate.proofs.WaitsRows.{waited_then}
use Rattle.service_candidate.proofs.WaitsTicks.{tick_leaves}
use Rattle.service_candidate.proofs.WinsScene.{NoLater}
use Rattle.service_leader.proofs.RowsOfOne.{stepped_up}
use Rattle.service_elections.specs.Running.{IsCalmOf}
use Rattle.service_elections.proofs.CalmFronts.{Calm, at, at_more, before_row, calm_of, clock_at, end_before, goes_at, kept_from, runs_at}
use Rattle.service_calm.specs.Calm.{IsCalmRow, Member as OfMember, Party}
use Rattle.service_calm.proofs.CallsKept.{IsKept, RunsWith}
use Rattle.service_calm.proofs.Counting.{now_after}
use Rattle.service_calm.proofs.Pair.{same_server}
use Rattle.bus_rows.specs.Timed.{Timed}
use Rattle.service_alone.specs.Calm.{Pace}
use Rattle.service_alone.proofs.Members.{IsQuiet}
use Rattle.bus_spec.specs.Cluster.{Cluster, step_of, tick_of}

-- who stands has waited, and its wait begins anew
pub record HasWaited (c term : ℕ) (w : Cluster) (row : Row) (s : Stands c term w row) : Type 0 where
  pub waited : s.before.times.since + election_wait ≤ max s.before.now s.ms
  pub anew : s.after.times.since ≡ max s.before.now s.ms
  pub now : s.after.now ≡ max s.before.now s.ms

pub has_waited_so : (c term : ℕ) (w : Cluster) (row : Row) → IsQuiet (w.member c).disk → (s : Stands c term w row) → HasWaited c term w row s
has_waited_so c term w row quiet s = elim (tick_leaves s.before (w.rows + 1) s.ms s.word) [
  | inl same ↦
      let a = ap (λ (t : AllocatorState). t.raft_server.store.term) is in
      let b = same.3 in
      let d = s.its_term in
      let e = s.next in absurd (omega (arith, a, b, d, e))
  | inr stood ↦ record {
    waited = waited_then s.before (max s.before.now s.ms) stood.0;
    anew = ap (λ (t : AllocatorState). t.times.since) is ∙ stood.1;
    now = ap (λ (t : AllocatorState). t.now) is ∙ now_after s.before (w.rows + 1) (tick_of s.ms s.word);
  }
]
  where
    is : s.after ≡ (step s.before (w.rows + 1) (tick_of s.ms s.word)).step_state.allocator
    is = same_server s.after (step s.before (w.rows + 1) (tick_of s.ms s.word)).step_state.allocator (sym s.runs_then
        ∙ (stepped_up w c s.before (record { status = s.runs; quiet = quiet }) row (tick_of s.ms s.word) (ap (λ (r : Row). step_of w r) s.reads)).status)

-- a wait that began at this moment or later, by the server's clock, which shows it
abbrev pub WaitsFrom : (low : ℕ) → AllocatorState → Type 0
WaitsFrom low t = (low ≤ t.times.since) × (low ≤ t.now)

pub waits_kept : (low high : ℕ) → IsKept (NoLater high) (WaitsFrom low)
waits_kept low high = record { stepped = stepped; popped = λ t is. is }
  where
    stepped : (t : AllocatorState) (number : ℕ) (event : Event) → NoLater high (moment_of event) → WaitsFrom low t → WaitsFrom low (step t number event).step_state.allocator
    stepped t number (Event.Tick now word) may is = (
      elim (tick_leaves t number now word) [
        | inl same ↦ let k = same.1 in let l = is.0 in omega (arith, k, l)
        | inr stood ↦ let k = stood.1 in let l = is.1 in omega (arith, k, l)
      ],
      let k = now_after t number (Event.Tick now word) in let l = is.1 in omega (arith, k, l),
    )
    stepped t number (Event.Rx arrival) may is = (
      elim (frame_leaves t number arrival).0 [
        | inl same ↦ let l = is.0 in omega (arith, same, l)
        | inr (since, why) ↦ let l = is.1 in omega (arith, since, l)
      ],
      let k = now_after t number (Event.Rx arrival) in let l = is.1 in omega (arith, k, l),
    )

module _ (ids : List ℕ) (rows : List Row) (group : List Party) (clocks : Party → ℕ) (pace : Pace) (start : ℕ) (whole : List Timed)
    (calm : IsCalmOf ids rows group clocks pace start whole) where
  abbrev cut_calm : Calm
  cut_calm = calm_of ids rows group clocks pace start whole calm

  -- a row in which a member reads its clock shows the moment
  reads_clock : (a b : List Timed) (x : Timed) → whole ≡ a ++ x ∷ b → (p ms word : ℕ) → x.row ≡ Tick p ms word → ms ≡ x.at + clocks (OfMember p)
  reads_clock a b x e p ms word reads = (subst (λ (r : Row). IsCalmRow group clocks pace (goes_at cut_calm a (x ∷ b) e).traffic
      (at cut_calm a) x.at r) reads ((goes_at cut_calm a (x ∷ b) e).calm.1)).1

  -- between two standings of a member the least wait passes
  pub twice : (c term later : ℕ) (a mid b : List Timed) (one two : Timed) → whole ≡ a ++ one ∷ (mid ++ two ∷ b) → In (OfMember c) group
      → Stands c term (at cut_calm a) one.row
      → Stands c later (at cut_calm (a ++ one ∷ mid)) two.row → one.at + election_wait ≤ two.at
  twice c term later a mid b one two e i s again =
      let l = (has_waited_so c later (at cut_calm (a ++ one ∷ mid)) two.row quiet_then again).waited in
      let ms = reads_clock (a ++ one ∷ mid) b two cut_two c again.ms again.word again.reads in
      let clock = clock_at cut_calm c i (a ++ one ∷ mid) (two ∷ b) cut_two again.before again.runs in
      let ends = end_before cut_calm (a ++ one ∷ mid) b two cut_two in
      let waits = (subst (WaitsFrom (one.at + clocks (OfMember c))) (same_server later_runs.server again.before (sym later_runs.up.status ∙ again.runs)) later_runs.holds).0 in
      omega (arith, l, ms, clock, ends, waits)
    where
      cut_two : whole ≡ (a ++ one ∷ mid) ++ two ∷ b
      cut_two = e ∙ sym (append_assoc a (one ∷ mid) (two ∷ b))

      cut_mid : whole ≡ (a ++ one ∷ []) ++ (mid ++ two ∷ b)
      cut_mid = e ∙ sym (append_assoc a (one ∷ []) (mid ++ two ∷ b))

      quiet_first : IsQuiet ((at cut_calm a).member c).disk
      quiet_first = (runs_at cut_calm c i a (one ∷ (mid ++ two ∷ b)) e).up.quiet

      quiet_then : IsQuiet ((at cut_calm (a ++ one ∷ mid)).member c).disk
      quiet_then = (runs_at cut_calm c i (a ++ one ∷ mid) (two ∷ b) cut_two).up.quiet

      first : HasWaited c term (at cut_calm a) one.row s
      first = has_waited_so c term (at cut_calm a) one.row quiet_first s

      ms_one : s.ms ≡ one.at + clocks (OfMember c)
      ms_one = reads_clock a (mid ++ two ∷ b) one e c s.ms s.word s.reads

      first_runs : RunsWith (WaitsFrom (one.at + clocks (OfMember c))) ((at cut_calm (a ++ one ∷ [])).member c)
      first_runs =
          let runs = runs_at cut_calm c i (a ++ one ∷ []) (mid ++ two ∷ b) cut_mid in
          let up = ap (λ (w : Cluster). (w.member c).status) (at_more cut_calm a (one ∷ [])) ∙ s.runs_then in
          record {
            server = s.after;
            up = record { status = up; quiet = runs.up.quiet };
            holds = (let k = first.anew in let m = ms_one in omega (arith, k, m), let k = first.now in let m = ms_one in omega (arith, k, m));
          }

      later_runs : RunsWith (WaitsFrom (one.at + clocks (OfMember c))) ((at cut_calm (a ++ one ∷ mid)).member c)
      later_runs = subst (λ (l : List Timed). RunsWith (WaitsFrom (one.at + clocks (OfMember c))) ((at cut_calm l).member c)) (append_assoc a (one ∷ []) mid)
          (kept_from cut_calm c i (NoLater (two.at + clocks (OfMember c))) (WaitsFrom (one.at + clocks (OfMember c))) (waits_kept (one.at + clocks (OfMember c)) (two.at + clocks (OfMember c)))
          (a ++ one ∷ []) mid (two ∷ b) cut_mid first_runs
          (λ x j. let k = before_row cut_calm (a ++ one ∷ mid) b two cut_two x (behind a one mid x j) in omega (arith, k)))
        where
          behind : (a : List Timed) (one : Timed) (mid : List Timed) (x : Timed) → In x mid → In x (a ++ one ∷ mid)
          behind [] one mid x j = inr j
          behind (y ∷ a) one mid x j = inr (behind a one mid x j)
