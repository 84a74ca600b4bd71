-- Once all members have come to a term in which nobody led: their logs stay, until somebody leads.
use Rattle.std.proofs.Common.{◌≡◌, ◌≢◌, ℕ, ◌+◌, ◌*◌, ◌<◌, ◌≤◌, arith, List, [], ◌∷◌, ◌++◌, sym, ◌∙◌, ap, subst, inl, inr, append_assoc, append-nil}
use Rattle.std.specs.Prelude.{◌⊎◌}
use Rattle.raft_model.specs.Lists.{In}
use Rattle.raft_model.specs.Server.{RaftServer}
use Rattle.raft_model.specs.Server.Role.{Leader}
use Rattle.transfer_rx.specs.Reassembly.{Arrival}
use Rattle.alloc_spec.specs.AllocatorState.{AllocatorState}
use Rattle.alloc_spec.specs.Step.Event.{Rx, Tick}
use Rattle.bus_rows.specs.Timed.{Timed}
use Rattle.service_alone.specs.Calm.{end_of}
use Rattle.service_calm.specs.Calm.{Member as OfMember}
use Rattle.service_steps.specs.InTime.{HearsLeader}
use Rattle.service_leader.specs.LeadsOn.{LeadsIn}
use Rattle.service_candidate.specs.Votes.{HearsAppend}
use Rattle.service_candidate.proofs.LogsChange.{log_or_hears}
use Rattle.service_candidate.proofs.WaitsRows.{Takes, takes}
use Rattle.service_elections.specs.Sent.{HasCalled}
use Rattle.service_elections.proofs.CalmFronts.{harm_row}
use Rattle.service_elections.proofs.InStepFronts.{calm_at, next_cut, row_before, runs_at, term_rises, the_calm, there, there_more, w0}
use Rattle.service_elections.proofs.InStepGiven.{Ground}
use Rattle.service_elections.proofs.InStepLists.{one_more}
use Rattle.service_elections.proofs.InStepScene.{IsLedFrom, Scene, leads_not}
use Rattle.service_elections.proofs.InStepWalk.{one_row}
use Rattle.bus_spec.specs.Cluster.{Cluster, after_row, arrival_at, frame_at, receipt_of, tick_of}
use Rattle.bus_spec.specs.Members.MemberStatus.{Up}

no_frame : (ms word : ℕ) (arrival : Arrival) → Tick ms word ≡ Rx arrival → ⊥
no_frame ms word arrival e = cc (e)

same_arrival : (a b : Arrival) → Rx a ≡ Rx b → a ≡ b
same_arrival a b e = cc (e)

module _ (g : Ground) (base : List Timed) (top last : ℕ) (long : last + 8 * g.pace.delay < end_of g.start g.whole) (begun : List Timed) where
  -- Behind these rows all members are in the term `top` at least, and their logs are as they were behind the rows
  -- `begun`.
  pub record Held (front : List Timed) : Type 0 where
    pub scene : Scene g base top front
    pub high : (m : ℕ) (server : AllocatorState) → In (OfMember m) g.group → ((there g front).member m).status ≡ Up server → top ≤ server.raft_server.store.term
    pub logs : (m : ℕ) (before after : AllocatorState) → In (OfMember m) g.group → ((there g begun).member m).status ≡ Up before
        → ((there g front).member m).status ≡ Up after → after.raft_server.store.log ≡ before.raft_server.store.log

  module _ (front rest : List Timed) (timed : Timed) (h : Held front) (cut : g.whole ≡ front ++ timed ∷ rest) where
    -- no append request is heard
    pub hears_none : (m : ℕ) → In (OfMember m) g.group → HearsAppend m (there g front) timed.row → ⊥
    hears_none m i hears = by (g.given.hears_called g.group g.clocks g.pace g.start m front rest timed (calm_at g front (timed ∷ rest) cut) i hears)
      where
        by : (n : ℕ) × In (OfMember n) g.group × (n ≢ m) × HasCalled n m hears.request.term timed.at (2 * g.pace.delay) (w0 g) front → ⊥
        by (n, j, differs, x) =
            let low = h.scene.never (x.front ++ x.timed ∷ []) x.rest n hears.request.term (x.split ∙ one_more x.front x.rest x.timed) j
            (subst (LeadsIn n hears.request.term) (sym (there_more g x.front x.timed)) x.leads) in
            let high = h.high m hears.server i hears.runs in
            elim hears.hears.current [ inl above ↦ omega (arith, low, high, above) | inr same ↦ let e = same.0 in omega (arith, low, high, e) ]

    -- so who does not lead behind the row has the log that it had
    log_kept : (m : ℕ) → In (OfMember m) g.group → (t u : AllocatorState) → ((there g front).member m).status ≡ Up t
        → ((after_row (there g front) timed.row).member m).status ≡ Up u → u.raft_server.memory.role ≢ Leader
        → u.raft_server.store.log ≡ t.raft_server.store.log
    log_kept m i t u up up_then leads_so = by (takes (there g front) m t u up timed.row (harm_row (the_calm g) front rest timed cut) up_then)
      where
        by : Takes (there g front) timed.row m t u → u.raft_server.store.log ≡ t.raft_server.store.log
        by (Takes.Rests times server queue) = ap (λ (s : RaftServer). s.store.log) server
        by (Takes.Ticks ms word is after_is) = elim (log_or_hears t ((there g front).rows + 1) (tick_of ms word)
            (subst (λ (s : AllocatorState). s.raft_server.memory.role ≢ Leader) after_is leads_so)) [
              | inl same ↦ ap (λ (s : AllocatorState). s.raft_server.store.log) after_is ∙ same
              | inr heard ↦ absurd (no_frame ms word heard.arrival heard.comes)
            ]
        by (Takes.Receives k ms is after_is) = elim (log_or_hears t ((there g front).rows + 1) (receipt_of (there g front) k ms)
            (subst (λ (s : AllocatorState). s.raft_server.memory.role ≢ Leader) after_is leads_so)) [
              | inl same ↦ ap (λ (s : AllocatorState). s.raft_server.store.log) after_is ∙ same
              | inr heard ↦ absurd (hears_none m i (record {
                k = k;
                ms = ms;
                comes = is;
                server = t;
                runs = up;
                delivery = heard.one.delivery;
                request = heard.one.request;
                hears = subst (λ (a : Arrival). HearsLeader t a heard.one.delivery heard.one.request)
                    (sym (same_arrival (arrival_at (frame_at (there g front).frames k) ms) heard.arrival heard.comes)) heard.one.hears;
              }))
            ]

    pub held_on : Scene g base top (front ++ timed ∷ []) → Held (front ++ timed ∷ [])
    held_on scene = record {
      scene = scene;
      high = high_then;
      logs = λ m before after i up up_then.
          let is = runs_at g front (timed ∷ rest) cut m i in
          log_kept m i is.server after is.up.status (ap (λ (u : Cluster). (u.member m).status) (sym (there_more g front timed)) ∙ up_then)
          (leads_not g base top (front ++ timed ∷ []) scene m after i up_then (high_then m after i up_then))
          ∙ h.logs m before is.server i up is.up.status;
    }
      where
        high_then : (m : ℕ) (server : AllocatorState) → In (OfMember m) g.group → ((there g (front ++ timed ∷ [])).member m).status ≡ Up server
            → top ≤ server.raft_server.store.term
        high_then m server i up =
            let is = runs_at g front (timed ∷ rest) cut m i in
            let a = h.high m is.server i is.up.status in
            let b = term_rises g front (timed ∷ []) rest (next_cut g front rest timed cut) m i is.server server is.up.status up in
            omega (arith, a, b)

  -- so it is behind more rows, or somebody leads
  pub hold : (front more rest : List Timed) → Held front → g.whole ≡ (front ++ more) ++ rest → end_of g.start (front ++ more) ≤ last
      → IsLedFrom g base (last + 8 * g.pace.delay) ⊎ Held (front ++ more)
  hold front [] rest h cut soon = inr (subst Held (sym (append-nil front)) h)
  hold front (timed ∷ more) rest h cut soon = elim (one_row g base top last long front (more ++ rest) timed h.scene cut_here
      (let k = row_before g front more rest timed cut in omega (arith, k, soon))) [
        | inl led ↦ inl led
        | inr next ↦ elim (hold (front ++ timed ∷ []) more rest (held_on front (more ++ rest) timed h cut_here next)
            (cut ∙ ap (λ (l : List Timed). l ++ rest) (one_more front more timed))
            (let e = ap (end_of g.start) (one_more front more timed) in omega (arith, e, soon))) [
              | inl led ↦ inl led
              | inr then_ ↦ inr (subst Held (sym (one_more front more timed)) then_)
            ]
      ]
    where
      cut_here : g.whole ≡ front ++ timed ∷ (more ++ rest)
      cut_here = cut ∙ append_assoc front (timed ∷ more) rest
