-- In a stretch in which nobody leads from a moment on, and nobody stands, there is silence, so waits go on. That stretch is
-- no longer than the longest wait.
use Rattle.std.proofs.Common.{◌≡◌, ◌≢◌, ℕ, ◌+◌, ◌*◌, ◌<◌, ◌≤◌, arith, true, List, [], ◌∷◌, ◌++◌, length, refl, sym, ◌∙◌, ap, subst, inl, inr}
use Rattle.std.specs.Prelude.{◌%◌}
use Rattle.std.proofs.lemmas.Bool.Decides.{leb_tells}
use Rattle.std.proofs.lemmas.List.{append_assoc}
use Rattle.can_frame.specs.Timing.{election_spread, election_wait}
use Rattle.raft_core.specs.Times.{Times, wait}
use Rattle.raft_model.specs.Lists.{In}
use Rattle.raft_model.specs.Server.Role.{Leader}
use Rattle.bus_rows.specs.declared.row.Row.{Row}
use Rattle.alloc_spec.specs.AllocatorState.{AllocatorState, knows_all, opening}
use Rattle.alloc_spec.specs.Rules.{times_with}
use Rattle.alloc_spec.specs.Step.{Event, step}
use Rattle.alloc_spec.specs.Step.Event.{Rx, Tick}
use Rattle.bus_rows.specs.Timed.{Timed, rows_in}
use Rattle.service_alone.specs.Calm.{Pace, end_of}
use Rattle.service_alone.proofs.Goes.{after_both}
use Rattle.service_calm.specs.Calm.{AreCalm, IsRunning, Member as OfMember, Party, Traffic}
use Rattle.service_calm.specs.Comes.{Throughout}
use Rattle.service_calm.proofs.CallsKept.{RunsWith}
use Rattle.service_calm.proofs.Counting.{now_after}
use Rattle.service_calm.proofs.EachServer.{in_each}
use Rattle.service_leader.specs.CallsAsk.{CallsAskNext}
use Rattle.service_leader.specs.CallsComeBack.{LeadsNotIfUp}
use Rattle.service_leader.proofs.Stretches.{GoesOnFrom, calm_first, end_both, not_before, throughout_rest, world_both}
use Rattle.service_candidate.specs.Elections.{longest_wait}
use Rattle.service_candidate.specs.Votes.{Stands}
use Rattle.service_candidate.specs.Waits.{HasTermLeft, StandsBy, WaitsAnew, WhoWaitsStands}
use Rattle.service_candidate.proofs.WaitsFrames.{frame_leaves}
use Rattle.service_candidate.proofs.WaitsTicks.{tick_leaves}
use Rattle.service_candidate.proofs.WinsFronts.{part_of}
use Rattle.service_candidate.proofs.WinsStays.{in_middle}
use Rattle.service_elections.specs.Sent.{IsAsItWas, NothingChangesInSilence, WhoAsksStands}
use Rattle.service_elections.proofs.CalmFronts.{harm_front, is_running, recut}
use Rattle.service_elections.proofs.NobodyCalls.{UnledSince, is_silent}
use Rattle.service_elections.proofs.NobodyScene.{Course, IsKnown, Stretch, cut_at, ends, goes_there, here, known_at, nobody_there, the_calm, there, w}
use Rattle.bus_spec.specs.Cluster.{Cluster, after_rows, cluster, world_of}
use Rattle.bus_spec.specs.Lawful.{DoNoHarm}
use Rattle.bus_spec.specs.Members.MemberStatus.{Up}

-- ---- no wait begins later than its server's clock reads

told_since : (nodes : List ℕ) (times : Times) → (times_with nodes times).since ≡ times.since
told_since [] times = refl
told_since (node ∷ nodes) times = refl

abbrev IsPast : AllocatorState → Type 0
IsPast t = t.times.since ≤ t.now

past_kept : (t : AllocatorState) (number : ℕ) (event : Event) → IsPast t → IsPast (step t number event).step_state.allocator
past_kept t number (Tick now word) past = let after = now_after t number (Tick now word) in elim (tick_leaves t number now word) [
  | inl same ↦ let is = same.1 in omega (arith, is, after, past)
  | inr stood ↦ let is = stood.1 in omega (arith, is, after)
]
past_kept t number (Rx arrival) past = let after = now_after t number (Rx arrival) in elim (frame_leaves t number arrival).0 [
  | inl same ↦ omega (arith, same, after, past)
  | inr anew ↦ let is = anew.0 in omega (arith, is, after)
]

pub waits_are_past : (ids : List ℕ) (list : List Row) (p : ℕ) (t : AllocatorState) → ((world_of ids list).member p).status ≡ Up t → t.times.since ≤ t.now
waits_are_past = in_each IsPast (λ n rules store moment word. let is = told_since rules.told (opening n rules.size store moment word).times in omega (arith, is)) past_kept (λ t past. past)

-- a wait is over within the longest wait
within_longest : (since reading word : ℕ) → since ≤ reading → since + wait word ≤ reading + longest_wait
within_longest since reading word low = elim (leb_tells (since + (election_wait + word % election_spread)) (reading + longest_wait)) [
  | inl z ↦ z.1
  | inr z ↦ absurd (omega (arith, z.1, low))
]

-- ---- who waits stands, from a world on

abbrev WaitsIn : List ℕ → Cluster → Type 0
WaitsIn ids v = (group : List Party) (clocks : Party → ℕ) (pace : Pace) (traffic : Traffic) (m due : ℕ) (whole : List Timed) → (running : IsRunning m v)
    → In m ids → In (OfMember m) group → 2 ≤ length ids → knows_all running.server ≡ true → running.server.raft_server.memory.role ≢ Leader
    → Throughout (HasTermLeft m) v whole → AreCalm group clocks pace traffic v whole
    → running.server.times.since + wait running.server.times.word ≤ due + clocks (OfMember m)
    → traffic.at ≤ due → traffic.ticked (OfMember m) ≤ due → due + pace.period < end_of traffic.at whole → StandsBy m (due + pace.period) v whole

module _ (s : Course) (asks_stands : WhoAsksStands s.ids s.rows) (nothing : NothingChangesInSilence s.ids s.rows) (calls_ask : CallsAskNext)
    (waits : (more : List Row) → DoNoHarm (w s) more → WhoWaitsStands s.ids (s.rows ++ more)) (p : Stretch s)
    (since : ℕ) (begun : end_of s.start p.first < since) (unled : UnledSince s calls_ask p since) (k : ℕ) (in_k : In (OfMember k) s.group)
    (a b : List Timed) (cut : p.few ≡ a ++ b) (quiet : since + 4 * s.pace.delay < ends s p a)
    (rest_late : (x : Timed) → In x p.rest → ends s p a + longest_wait + s.pace.period < x.at)
    (long : ends s p a + longest_wait + s.pace.period < end_of (ends s p a) (b ++ p.rest)) where
  abbrev due : ℕ
  due = ends s p a + longest_wait

  abbrev v : Cluster
  v = there s p a

  goes : GoesOnFrom s.group s.clocks s.pace (ends s p a) v (b ++ p.rest)
  goes = goes_there s p a b cut

  whole_cut : s.whole ≡ (p.first ++ a) ++ (b ++ p.rest)
  whole_cut = cut_at s p a b cut

  abbrev run : RunsWith (IsKnown k (ends s p a + s.clocks (OfMember k))) (v.member k)
  run = known_at s k in_k (p.first ++ a) (b ++ p.rest) whole_cut

  past : run.server.times.since ≤ run.server.now
  past = waits_are_past s.ids (s.rows ++ rows_in (p.first ++ a)) k run.server
      (subst (λ (u : Cluster). (u.member k).status ≡ Up run.server) (sym (after_both (cluster s.ids) s.rows (rows_in (p.first ++ a)))) run.up.status)

  left : Throughout (HasTermLeft k) v (b ++ p.rest)
  left = throughout_rest (HasTermLeft k) (p.first ++ a) (b ++ p.rest) (w s) (subst (Throughout (HasTermLeft k) (w s)) whole_cut (s.calm.left k in_k))

  waits_here : WaitsIn s.ids v
  waits_here = subst (WaitsIn s.ids) (after_both (cluster s.ids) s.rows (rows_in (p.first ++ a)))
      (waits (rows_in (p.first ++ a)) (harm_front (the_calm s) (p.first ++ a) (b ++ p.rest) whole_cut))

  stands_by : StandsBy k (due + s.pace.period) v (b ++ p.rest)
  stands_by = waits_here s.group s.clocks s.pace goes.traffic k due (b ++ p.rest) (is_running k v run)
      (s.calm.listed k in_k) in_k s.calm.others run.holds.knows
      (unled a b cut (let q = quiet in omega (arith, q)) k in_k run.server run.up.status) left goes.calm
      (let low = past in let clock = run.holds.clock in
      let over = within_longest run.server.times.since (ends s p a + s.clocks (OfMember k)) run.server.times.word (omega (arith, low, clock)) in
      omega (arith, over))
      (let e = goes.at_end in omega (arith, e)) (let t = goes.ticked (OfMember k) in omega (arith, t))
      (let e = ap (λ (j : ℕ). end_of j (b ++ p.rest)) goes.at_end in omega (arith, e, long))

  -- ---- it does not stand in the stretch, nor does its wait begin anew

  module _ (tail : List Timed) (split : b ≡ stands_by.front ++ stands_by.timed ∷ tail) where
    abbrev f : List Timed
    f = a ++ stands_by.front

    its_cut : p.few ≡ f ++ stands_by.timed ∷ tail
    its_cut = cut ∙ (ap (λ (l : List Timed). a ++ l) split ∙ sym (append_assoc a stands_by.front (stands_by.timed ∷ tail)))

    same : after_rows v (rows_in stands_by.front) ≡ there s p f
    same = sym (ap (here s) (sym (append_assoc p.first a stands_by.front)) ∙ world_both (w s) (p.first ++ a) stands_by.front)

    goes_f : GoesOnFrom s.group s.clocks s.pace (ends s p f) (there s p f) ((stands_by.timed ∷ tail) ++ p.rest)
    goes_f = goes_there s p f (stands_by.timed ∷ tail) its_cut

    later : ends s p a ≤ ends s p f
    later =
        let both = end_both s.start (p.first ++ a) stands_by.front in
        let e = ap (end_of s.start) (append_assoc p.first a stands_by.front) in
        let more = not_before s.group s.clocks s.pace stands_by.front (ends s p a) v
        (calm_first s.group s.clocks s.pace stands_by.front ((stands_by.timed ∷ tail) ++ p.rest) (ends s p a) v
        (subst (GoesOnFrom s.group s.clocks s.pace (ends s p a) v)
        (ap (λ (l : List Timed). l ++ p.rest) split ∙ append_assoc stands_by.front (stands_by.timed ∷ tail) p.rest) goes)) in
        omega (arith, both, e, more)

    late : since + 4 * s.pace.delay < stands_by.timed.at
    late = let on = later in let moments = goes_f.calm.0.moments in let e = goes_f.at_end in omega (arith, quiet, on, moments, e)

    unled_here : LeadsNotIfUp k (there s p f)
    unled_here = unled f (stands_by.timed ∷ tail) its_cut (let on = later in omega (arith, quiet, on)) k in_k

    stands_not : (term : ℕ) → Stands k term (there s p f) stands_by.timed.row → ⊥
    stands_not term stands = (nobody_there s p f tail stands_by.timed its_cut).0 k term in_k stands

    not_anew : WaitsAnew k (there s p f) stands_by.timed.row → ⊥
    not_anew anew = anew.anew as_it_was.since
      where
        as_it_was : IsAsItWas anew.before anew.after
        as_it_was = nothing s.group s.clocks s.pace s.start since k (p.first ++ f) (tail ++ p.rest) stands_by.timed anew.before anew.after
            (recut (the_calm s) _ (cut_at s p f (stands_by.timed ∷ tail) its_cut)) in_k late
            (is_silent s calls_ask p asks_stands since begun unled f (stands_by.timed ∷ tail) its_cut) anew.runs anew.runs_then
            (unled_here anew.before anew.runs) stands_not

    does_not : ⊥
    does_not = elim stands_by.stands [
      | inl stands ↦ stands_not stands.0 (subst (λ (u : Cluster). Stands k stands.0 u stands_by.timed.row) same stands.1)
      | inr (inl anew) ↦ not_anew (subst (λ (u : Cluster). WaitsAnew k u stands_by.timed.row) same anew)
      | inr (inr leads) ↦ leads (subst (LeadsNotIfUp k) (sym same) unled_here)
    ]

  pub cannot_wait : ⊥
  cannot_wait = elim (part_of b p.rest stands_by.front stands_by.rest stands_by.timed stands_by.split) [
    | inl tail ↦ does_not tail.0 tail.1
    | inr tail ↦
        let late = rest_late stands_by.timed (subst (In stands_by.timed) (sym tail.1) (in_middle tail.0 stands_by.rest stands_by.timed)) in
        let soon = stands_by.soon in absurd (omega (arith, late, soon))
  ]
