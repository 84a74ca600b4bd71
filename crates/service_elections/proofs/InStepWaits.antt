-- One whose log is furthest stands when its wait is over, unless it gives its vote before, or steps down.
use Rattle.std.proofs.Common.{◌≡◌, ◌≢◌, ℕ, ◌+◌, ◌*◌, ◌<◌, ◌≤◌, arith, List, [], ◌∷◌, ◌++◌, length, sym, ◌∙◌, ap, subst, inl, inr, append_assoc}
use Rattle.std.specs.Prelude.{◌⊎◌, ◌%◌}
use Rattle.std.proofs.lemmas.Bool.Decides.{leb_tells}
use Rattle.can_frame.specs.Timing.{election_spread, election_wait}
use Rattle.raft_core.specs.Times.{wait}
use Rattle.raft_model.specs.Lists.{In}
use Rattle.raft_model.specs.Server.Role.{Follower}
use Rattle.alloc_spec.specs.AllocatorState.{AllocatorState}
use Rattle.bus_rows.specs.Timed.{Timed, rows_in}
use Rattle.service_alone.specs.Calm.{end_of}
use Rattle.service_calm.specs.Calm.{Member as OfMember}
use Rattle.service_calm.specs.Comes.{Throughout}
use Rattle.service_calm.proofs.CallsKept.{RunsWith}
use Rattle.service_calm.proofs.Pair.{same_server}
use Rattle.service_leader.specs.CallsComeBack.{LeadsNotIfUp}
use Rattle.service_leader.proofs.Stretches.{GoesOnFrom, end_both, harmless_rest, rows_both, throughout_rest}
use Rattle.service_candidate.specs.Elections.{longest_wait}
use Rattle.service_candidate.specs.Votes.{HearsAppend, Stands}
use Rattle.service_candidate.specs.Waits.{GivesVote, HasTermLeft, StandsBy, WaitsAnew}
use Rattle.service_candidate.proofs.OneStands.{IsOfSize}
use Rattle.service_candidate.proofs.Unled.{HasStood, has_stood}
use Rattle.service_elections.proofs.CalmFronts.{clock_at, end_before, goes_at, harm_front, harm_row, running_at}
use Rattle.service_elections.proofs.InStepFronts.{facts, knows_at, row_before, runs_at, the_calm, there, there_both, there_more, w0}
use Rattle.service_elections.proofs.InStepGiven.{Ground}
use Rattle.service_elections.proofs.InStepLogs.{Held, hears_none, hold}
use Rattle.service_elections.proofs.InStepScene.{IsLedFrom, leads_not}
use Rattle.service_elections.proofs.InStepWins.{IsFar, furthest_stands, votes}
use Rattle.bus_spec.specs.Cluster.{Cluster, after_rows}
use Rattle.bus_spec.specs.Lawful.{DoNoHarm}
use Rattle.bus_spec.specs.Members.MemberStatus.{Up}

-- a wait is over within the longest one
over_by : (since word now reading : ℕ) → since ≤ now → now ≤ reading → since + wait word ≤ reading + longest_wait
over_by since word now reading past low = elim (leb_tells (since + (election_wait + word % election_spread)) (reading + longest_wait)) [
  | inl z ↦ z.1
  | inr z ↦ absurd (omega (arith, z.1, past, low))
]

module _ (g : Ground) (base : List Timed) (top last : ℕ) (long : last + 8 * g.pace.delay < end_of g.start g.whole) (begun behind : List Timed)
    (begun_cut : g.whole ≡ begun ++ behind) (held : Held g base top last long begun begun) (moment : ℕ)
    (fresh : (x y : List Timed) (z : Timed) (n its : ℕ) → begun ≡ x ++ z ∷ y → In (OfMember n) g.group → Stands n its (there g x) z.row → z.at ≤ moment)
    (later : (x y : List Timed) (z : Timed) → g.whole ≡ (begun ++ x) ++ z ∷ y → moment + 2 * g.pace.delay < z.at)
    (f : ℕ) (in_f : In (OfMember f) g.group) (far : IsFar g base top last long begun behind begun_cut f) where
  abbrev Led : Type 0
  Led = IsLedFrom g base (last + 8 * g.pace.delay)

  abbrev HeldAt : List Timed → Type 0
  HeldAt = Held g base top last long begun

  -- in a row behind these it comes to follow, by this moment
  pub record Turned (due : ℕ) (front : List Timed) : Type 0 where
    pub few : List Timed
    pub timed : Timed
    pub rest : List Timed
    pub cut : g.whole ≡ (front ++ few) ++ timed ∷ rest
    pub soon : timed.at ≤ due
    pub held_there : HeldAt (front ++ few)
    pub before : AllocatorState
    pub runs : ((there g (front ++ few)).member f).status ≡ Up before
    pub follows_not : before.raft_server.memory.role ≢ Follower
    pub after : AllocatorState
    pub runs_then : ((there g ((front ++ few) ++ timed ∷ [])).member f).status ≡ Up after
    pub follows : after.raft_server.memory.role ≡ Follower

  module _ (more rest : List Timed) (cut : g.whole ≡ (begun ++ more) ++ rest) (h : HeldAt (begun ++ more))
      (soon : end_of g.start (begun ++ more) + longest_wait + g.pace.period + 4 * g.pace.delay ≤ last) where
    abbrev front : List Timed
    front = begun ++ more

    abbrev from : ℕ
    from = end_of g.start (begun ++ more)

    abbrev due : ℕ
    due = end_of g.start (begun ++ more) + longest_wait

    -- ---- its wait

    ends : end_of g.start g.whole ≡ end_of (end_of g.start (begun ++ more)) rest
    ends = ap (end_of g.start) cut ∙ end_both g.start (begun ++ more) rest

    stands_by : StandsBy f (end_of g.start (begun ++ more) + longest_wait + g.pace.period) (there g (begun ++ more)) rest
    stands_by =
        let goes = goes_at (the_calm g) (begun ++ more) rest cut in
        let is = running_at (the_calm g) f in_f (begun ++ more) rest cut in
        let its = facts g (begun ++ more) rest cut in
        its.stands_in_time g.group g.clocks g.pace goes.traffic f (end_of g.start (begun ++ more) + longest_wait) rest is (g.calm.listed f in_f) in_f g.calm.others
        (knows_at g (begun ++ more) rest cut f in_f is.server is.runs)
        (leads_not g base top (begun ++ more) h.scene f is.server in_f is.runs (h.high f is.server in_f is.runs))
        (throughout_rest (HasTermLeft f) (begun ++ more) rest (w0 g) (subst (Throughout (HasTermLeft f) (w0 g)) cut (g.calm.left f in_f)))
        goes.calm
        (let o = over_by is.server.times.since is.server.times.word is.server.now (end_of g.start (begun ++ more) + g.clocks (OfMember f))
        (its.past f is.server (g.calm.listed f in_f) is.runs) (clock_at (the_calm g) f in_f (begun ++ more) rest cut is.server is.runs) in omega (arith, o))
        (let e = goes.at_end in omega (arith, e)) (let e = goes.ticked (OfMember f) in omega (arith, e))
        (let e = ends in let a = goes.at_end in
        let b = ap (λ (k : ℕ). end_of k rest) a in omega (arith, e, b, soon, long))

    abbrev s : StandsBy f (end_of g.start (begun ++ more) + longest_wait + g.pace.period) (there g (begun ++ more)) rest
    s = stands_by

    cut_row : g.whole ≡ ((begun ++ more) ++ s.front) ++ s.timed ∷ s.rest
    cut_row = cut ∙ (ap (λ (l : List Timed). (begun ++ more) ++ l) s.split ∙ sym (append_assoc (begun ++ more) s.front (s.timed ∷ s.rest)))

    row_soon : s.timed.at + 4 * g.pace.delay ≤ last
    row_soon = let a = s.soon in omega (arith, a, soon)

    world_is : after_rows (there g (begun ++ more)) (rows_in s.front) ≡ there g ((begun ++ more) ++ s.front)
    world_is = sym (there_both g (begun ++ more) s.front)

    module _ (then_ : HeldAt ((begun ++ more) ++ s.front)) where
      -- the wait begins anew
      anew_so : WaitsAnew f (there g ((begun ++ more) ++ s.front)) s.timed.row
          → Led ⊎ Turned (end_of g.start (begun ++ more) + longest_wait + g.pace.period) (begun ++ more)
      anew_so anew = by ((facts g ((begun ++ more) ++ s.front) (s.timed ∷ s.rest) cut_row).reasons f s.timed.row (g.calm.listed f in_f) g.calm.others
          (harm_row (the_calm g) ((begun ++ more) ++ s.front) s.rest s.timed cut_row) anew)
        where
          by : HearsAppend f (there g ((begun ++ more) ++ s.front)) s.timed.row
              ⊎ (((anew.before.raft_server.memory.role ≢ Follower) × (anew.after.raft_server.memory.role ≡ Follower))
              ⊎ GivesVote f (there g ((begun ++ more) ++ s.front)) s.timed.row)
              → Led ⊎ Turned (end_of g.start (begun ++ more) + longest_wait + g.pace.period) (begun ++ more)
          by (inl hears) = absurd (hears_none g base top last long begun ((begun ++ more) ++ s.front) s.rest s.timed then_ cut_row f in_f hears)
          by (inr (inl roles)) = inr (record {
            few = s.front;
            timed = s.timed;
            rest = s.rest;
            cut = cut_row;
            soon = s.soon;
            held_there = then_;
            before = anew.before;
            runs = anew.runs;
            follows_not = roles.0;
            after = anew.after;
            runs_then = ap (λ (u : Cluster). (u.member f).status) (there_more g ((begun ++ more) ++ s.front) s.timed) ∙ anew.runs_then;
            follows = roles.1;
          })
          by (inr (inr gives)) = inl (votes g base top last long begun behind begun_cut moment fresh held (more ++ s.front) s.rest s.timed
              (subst HeldAt (append_assoc begun more s.front) then_)
              (cut_row ∙ ap (λ (l : List Timed). l ++ s.timed ∷ s.rest) (append_assoc begun more s.front))
              (later (more ++ s.front) s.rest s.timed (cut_row ∙ ap (λ (l : List Timed). l ++ s.timed ∷ s.rest) (append_assoc begun more s.front)))
              row_soon f in_f far
              (subst (λ (l : List Timed). GivesVote f (there g l) s.timed.row) (append_assoc begun more s.front) gives))

      by_stands : ((term : ℕ) × Stands f term (there g ((begun ++ more) ++ s.front)) s.timed.row)
          ⊎ (WaitsAnew f (there g ((begun ++ more) ++ s.front)) s.timed.row ⊎ (LeadsNotIfUp f (there g ((begun ++ more) ++ s.front)) → ⊥))
          → Led ⊎ Turned (end_of g.start (begun ++ more) + longest_wait + g.pace.period) (begun ++ more)
      by_stands (inl (term, stands)) = inl (furthest_stands g base top last long begun behind begun_cut ((begun ++ more) ++ s.front) s.rest s.timed then_ cut_row
          row_soon f term in_f stands far)
      by_stands (inr (inl anew)) = anew_so anew
      by_stands (inr (inr leads)) = absurd (leads (λ server up.
          leads_not g base top ((begun ++ more) ++ s.front) then_.scene f server in_f up (then_.high f server in_f up)))

    -- it wins, or another one does, or it comes to follow
    pub waits : Led ⊎ Turned (end_of g.start (begun ++ more) + longest_wait + g.pace.period) (begun ++ more)
    waits = elim (hold g base top last long begun (begun ++ more) s.front (s.timed ∷ s.rest) h cut_row
        (let a = end_before (the_calm g) ((begun ++ more) ++ s.front) s.rest s.timed cut_row in let b = row_soon in omega (arith, a, b))) [
          | inl led ↦ inl led
          | inr then_ ↦ by_stands then_ (subst (λ (u : Cluster). ((term : ℕ) × Stands f term u s.timed.row)
              ⊎ (WaitsAnew f u s.timed.row ⊎ (LeadsNotIfUp f u → ⊥))) world_is s.stands)
        ]

    -- ---- who follows does not come to follow: it stood before

    follower_wins : (server : AllocatorState) → ((there g (begun ++ more)).member f).status ≡ Up server → server.raft_server.memory.role ≡ Follower
        → Turned (end_of g.start (begun ++ more) + longest_wait + g.pace.period) (begun ++ more) → Led
    follower_wins server up role t = by (has_stood g.given.keeps_size g.given.frames_leave (length g.ids) g.calm.others g.group g.clocks g.pace f t.few (t.timed ∷ t.rest)
        (there g (begun ++ more)) (record { traffic = goes.traffic; calm = goes.calm; runs = is }) harm
        (ap (λ (u : AllocatorState). u.raft_server.memory.role) (same_server is.server server (sym is.up.status ∙ up)) ∙ role)
        t.before (ap (λ (u : Cluster). (u.member f).status) (sym (there_both g (begun ++ more) t.few)) ∙ t.runs) t.follows_not)
      where
        cut_few : g.whole ≡ (begun ++ more) ++ (t.few ++ t.timed ∷ t.rest)
        cut_few = t.cut ∙ append_assoc (begun ++ more) t.few (t.timed ∷ t.rest)

        goes : GoesOnFrom g.group g.clocks g.pace (end_of g.start (begun ++ more)) (there g (begun ++ more)) (t.few ++ t.timed ∷ t.rest)
        goes = goes_at (the_calm g) (begun ++ more) (t.few ++ t.timed ∷ t.rest) cut_few

        is : RunsWith (IsOfSize (length g.ids)) ((there g (begun ++ more)).member f)
        is = runs_at g (begun ++ more) (t.few ++ t.timed ∷ t.rest) cut_few f in_f

        harm : DoNoHarm (there g (begun ++ more)) (rows_in t.few)
        harm = harmless_rest (w0 g) (rows_in (begun ++ more)) (rows_in t.few)
            (subst (DoNoHarm (w0 g)) (rows_both (begun ++ more) t.few) (harm_front (the_calm g) ((begun ++ more) ++ t.few) (t.timed ∷ t.rest) t.cut))

        by : HasStood f (there g (begun ++ more)) t.few → Led
        by stood =
            let few_is = ap (λ (l : List Timed). (begun ++ more) ++ l) stood.split ∙ sym (append_assoc (begun ++ more) stood.first (stood.timed ∷ stood.more)) in
            let cut_stood : g.whole ≡ ((begun ++ more) ++ stood.first) ++ stood.timed ∷ (stood.more ++ t.timed ∷ t.rest)
            = t.cut ∙ (ap (λ (l : List Timed). l ++ t.timed ∷ t.rest) few_is
            ∙ append_assoc ((begun ++ more) ++ stood.first) (stood.timed ∷ stood.more) (t.timed ∷ t.rest)) in
            let a = row_before g ((begun ++ more) ++ stood.first) stood.more (t.timed ∷ t.rest) stood.timed
            (t.cut ∙ ap (λ (l : List Timed). l ++ t.timed ∷ t.rest) few_is) in
            let b = end_before (the_calm g) ((begun ++ more) ++ t.few) t.rest t.timed t.cut in
            let e = ap (end_of g.start) few_is in
            let k = t.soon in
            let in_time : stood.timed.at + 4 * g.pace.delay ≤ last = omega (arith, a, b, e, k, soon) in
            elim (hold g base top last long begun (begun ++ more) stood.first (stood.timed ∷ (stood.more ++ t.timed ∷ t.rest)) h cut_stood
            (let c = end_before (the_calm g) ((begun ++ more) ++ stood.first) (stood.more ++ t.timed ∷ t.rest) stood.timed cut_stood in omega (arith, c, in_time))) [
              | inl led ↦ led
              | inr then_ ↦ furthest_stands g base top last long begun behind begun_cut ((begun ++ more) ++ stood.first) (stood.more ++ t.timed ∷ t.rest) stood.timed then_
                  cut_stood in_time f stood.term in_f
                  (subst (λ (u : Cluster). Stands f stood.term u stood.timed.row) (sym (there_both g (begun ++ more) stood.first)) stood.stands) far
            ]

    -- where it follows somebody leads in time
    pub follower_leads : (server : AllocatorState) → ((there g (begun ++ more)).member f).status ≡ Up server → server.raft_server.memory.role ≡ Follower → Led
    follower_leads server up role = elim waits [ inl led ↦ led | inr turned ↦ follower_wins server up role turned ]
