-- A device that asks is served in time, whatever state the members are in.
use Rattle.std.proofs.Common.{◌≡◌, ℕ, ◌+◌, ◌*◌, ◌<◌, ◌≤◌, arith, List, [], ◌∷◌, ◌++◌, length, append_assoc, sym, ◌∙◌, ap, subst, inl, inr}
use Rattle.can_frame.specs.declared.entry.Entry.{Entry}
use Rattle.can_frame.specs.Log.{HasUid, blank}
use Rattle.raft_core.specs.Taken.{proposal}
use Rattle.bus_rows.specs.declared.row.Row.{Row}
use Rattle.alloc_spec.specs.AllocatorState.{AllocatorState}
use Rattle.alloc_spec.specs.Exchange.{may_follow}
use Rattle.alloc_spec_laws.proofs.Logs.{no_zeros}
use Rattle.bus_rows.specs.Timed.{Timed, rows_in}
use Rattle.service_alone.specs.Calm.{Pace, end_of}
use Rattle.service_calm.specs.Calm.{Member as OfMember, Party}
use Rattle.service_calm.proofs.Pair.{same_server}
use Rattle.service_leader.specs.NoElection.{heard_within}
use Rattle.service_leader.proofs.Stretches.{GoesOnFrom, calm_first, end_both, end_last, not_before, world_both}
use Rattle.service_cluster.specs.ComeBack.{DevicesAreServed, IsCalmOfDevice, served_within, settled_in}
use Rattle.service_cluster.specs.Restart.{settled_within}
use Rattle.service_cluster.proofs.BackFronts.{FirstLater}
use Rattle.service_cluster.proofs.BackGiven.{BackGiven, IsFine, Scene, there, w0}
use Rattle.service_cluster.proofs.BackScenes.{has_called, scene}
use Rattle.service_cluster.proofs.BackSettles.{cut_all, fine_at, goes_from, is_fit, log, settles_or_grows}
use Rattle.service_cluster.proofs.ServesHeard.{ServesGiven, serves, whole_in}
use Rattle.service_cluster.proofs.ServesLogs.{had_not, has_last, has_more}
use Rattle.service_elections.specs.Rounds.{LeadersCome, led_within}
use Rattle.service_elections.specs.Running.{IsLedBy}
use Rattle.service_device.specs.Asking.{HasIdBy}
use Rattle.service_device.specs.Settles.{GrowsBy, HasSettledBy, MayHaveBlank}
use Rattle.bus_spec.specs.Cluster.{Cluster, after_row, after_rows, world_of}

-- a log, with a blank or not, has what it had
may_have : (had then_log : List Entry) (term : ℕ) (uid : List ℕ) → MayHaveBlank had term then_log → HasUid had uid → HasUid then_log uid
may_have had then_log term uid (inl e) h = subst (λ (l : List Entry). HasUid l uid) (sym e) h
may_have had then_log term uid (inr e) h = subst (λ (l : List Entry). HasUid l uid) (sym e) (has_more had (blank term ∷ []) uid h)

module _ (g : Scene) (s : ServesGiven g.ids g.rows) (a : ℕ) (uid : List ℕ) (preferred : ℕ)
    (d : IsCalmOfDevice g.ids g.rows g.group g.clocks g.pace g.start g.longest a uid preferred g.whole)
    (old : end_of g.start g.front ≤ g.start + led_within g.pace (length g.ids))
    (long : g.start + served_within g.pace (length g.ids) g.longest < end_of g.start g.whole) where
  abbrev spent : ℕ
  spent = settled_within g.pace g.longest

  abbrev Serves : Type 0
  Serves = HasIdBy a g.start (g.start + served_within g.pace (length g.ids) g.longest) (w0 g) g.whole

  -- behind a front that is soon enough to settle once more
  abbrev Grows : List Timed → List Entry → List Timed → Type 0
  Grows first its later = GrowsBy g.n g.term its (g.clocks (OfMember g.n)) (end_of g.start first) (end_of g.start first + spent) (there g first) later

  module _ (few later : List Timed) (cut : g.rest ≡ few ++ later)
      (late : end_of g.start g.front + heard_within g.pace + 2 * g.pace.delay < end_of (end_of g.start g.front) few)
      (soon : end_of g.start (g.front ++ few) + spent ≤ g.start + led_within g.pace (length g.ids) + settled_in g.pace g.longest + settled_within g.pace g.longest) where
    goes_on : end_of g.start (g.front ++ few) + spent < end_of g.start g.whole
    goes_on = omega (arith, soon, long)

    -- where it settles, the device is served
    on_settled : HasSettledBy g.n g.term (log g few later cut late) (g.clocks (OfMember g.n)) (end_of g.start (g.front ++ few))
        (end_of g.start (g.front ++ few) + spent) (there g (g.front ++ few)) later → Serves
    on_settled by = serves g s a uid preferred d few later cut late by.front by.rest by.split by.log_then by.settled (let q = by.soon in omega (arith, q, soon)) long

    -- or its log grows
    serves_or : (Grows (g.front ++ few) (log g few later cut late) later → Serves) → Serves
    serves_or grows = elim (settles_or_grows g few later cut late goes_on) [
      | inl by ↦ on_settled by
      | inr by ↦ grows by
    ]

    module _ (by : Grows (g.front ++ few) (log g few later cut late) later) where
      cut_row : g.whole ≡ ((g.front ++ few) ++ by.front) ++ (by.timed ∷ by.rest)
      cut_row = cut_all g few later cut ∙ (ap (λ (l : List Timed). (g.front ++ few) ++ l) by.split ∙ sym (append_assoc (g.front ++ few) by.front (by.timed ∷ by.rest)))

      row_world : there g ((g.front ++ few) ++ by.front) ≡ after_rows (there g (g.front ++ few)) (rows_in by.front)
      row_world = world_both (w0 g) (g.front ++ few) by.front

      -- what makes it grow is the device's unique ID
      its_uid : by.grows.uid ≡ uid
      its_uid = whole_in g s a uid preferred d g.n g.member ((g.front ++ few) ++ by.front) by.rest by.timed cut_row (after_rows (there g (g.front ++ few)) (rows_in by.front))
          row_world by.message by.asked (may_follow by.asked.comes.server) by.grows.uid by.grows.preferred by.grows.whole

      -- ---- behind that row

      abbrev more : List Timed
      more = few ++ (by.front ++ by.timed ∷ [])

      cut_more : g.rest ≡ (few ++ (by.front ++ by.timed ∷ [])) ++ by.rest
      cut_more = cut ∙ (ap (λ (l : List Timed). few ++ l) (by.split ∙ sym (append_assoc by.front (by.timed ∷ []) by.rest))
          ∙ sym (append_assoc few (by.front ++ by.timed ∷ []) by.rest))

      end_led : end_of (end_of g.start g.front) more ≡ by.timed.at
      end_led = end_both (end_of g.start g.front) few (by.front ++ by.timed ∷ []) ∙ end_last (end_of (end_of g.start g.front) few) by.front by.timed

      end_more : end_of g.start (g.front ++ more) ≡ by.timed.at
      end_more = end_both g.start g.front more ∙ end_led

      not_sooner : end_of g.start (g.front ++ few) ≤ by.timed.at
      not_sooner =
          let from = goes_from g (g.front ++ few) later (cut_all g few later cut) in
          let e = end_last (end_of g.start (g.front ++ few)) by.front by.timed in
          let low = not_before g.group g.clocks g.pace (by.front ++ by.timed ∷ []) (end_of g.start (g.front ++ few)) (there g (g.front ++ few))
          (calm_first g.group g.clocks g.pace (by.front ++ by.timed ∷ []) by.rest (end_of g.start (g.front ++ few)) (there g (g.front ++ few))
          (subst (GoesOnFrom g.group g.clocks g.pace (end_of g.start (g.front ++ few)) (there g (g.front ++ few))) (by.split ∙ sym (append_assoc by.front (by.timed ∷ []) by.rest)) from)) in
          omega (arith, e, low)

      late_more : end_of g.start g.front + heard_within g.pace + 2 * g.pace.delay < end_of (end_of g.start g.front) more
      late_more = let e = end_led in let f = end_both g.start g.front few in let h = not_sooner in omega (arith, e, f, h, late)

      world_more : there g (g.front ++ more) ≡ after_row (after_rows (there g (g.front ++ few)) (rows_in by.front)) by.timed.row
      world_more = ap (there g) (sym (append_assoc g.front few (by.front ++ by.timed ∷ [])))
          ∙ (world_both (w0 g) (g.front ++ few) (by.front ++ by.timed ∷ []) ∙ world_both (there g (g.front ++ few)) by.front (by.timed ∷ []))

      abbrev log_more : List Entry
      log_more = log g more by.rest cut_more late_more

      log_is : log_more ≡ by.log_then ++ proposal by.asked.comes.server.raft_server.store.term by.grows.uid by.grows.node ∷ []
      log_is =
          let is = is_fit g more by.rest cut_more late_more in
          ap (λ (t : AllocatorState). t.raft_server.store.log) (same_server is.server by.grows.leads.server
          (sym is.runs ∙ (ap (λ (v : Cluster). (v.member g.n).status) world_more ∙ by.grows.leads.runs))) ∙ by.grows.leads.log_is

      has_uid : HasUid log_more uid
      has_uid = subst (λ (l : List Entry). HasUid l uid) (sym log_is)
          (subst (HasUid (by.log_then ++ proposal by.asked.comes.server.raft_server.store.term by.grows.uid by.grows.node ∷ [])) its_uid
          (has_last by.log_then (proposal by.asked.comes.server.raft_server.store.term by.grows.uid by.grows.node)))

      -- it does not grow once more
      module _ (twice : Grows (g.front ++ more) log_more by.rest) where
        cut_twice : g.whole ≡ ((g.front ++ more) ++ twice.front) ++ (twice.timed ∷ twice.rest)
        cut_twice = cut_all g more by.rest cut_more
            ∙ (ap (λ (l : List Timed). (g.front ++ more) ++ l) twice.split ∙ sym (append_assoc (g.front ++ more) twice.front (twice.timed ∷ twice.rest)))

        row_twice : there g ((g.front ++ more) ++ twice.front) ≡ after_rows (there g (g.front ++ more)) (rows_in twice.front)
        row_twice = world_both (w0 g) (g.front ++ more) twice.front

        same_uid : twice.grows.uid ≡ uid
        same_uid = whole_in g s a uid preferred d g.n g.member ((g.front ++ more) ++ twice.front) twice.rest twice.timed cut_twice
            (after_rows (there g (g.front ++ more)) (rows_in twice.front)) row_twice twice.message twice.asked (may_follow twice.asked.comes.server) twice.grows.uid
            twice.grows.preferred twice.grows.whole

        world_twice : there g (((g.front ++ more) ++ twice.front) ++ twice.timed ∷ []) ≡ after_row (after_rows (there g (g.front ++ more)) (rows_in twice.front)) twice.timed.row
        world_twice = world_both (w0 g) ((g.front ++ more) ++ twice.front) (twice.timed ∷ []) ∙ ap (λ (v : Cluster). after_row v twice.timed.row) row_twice

        is_fine : IsFine twice.grows.leads.server
        is_fine = fine_at g g.n g.member (((g.front ++ more) ++ twice.front) ++ twice.timed ∷ []) twice.rest
            (cut_twice ∙ sym (append_assoc ((g.front ++ more) ++ twice.front) (twice.timed ∷ []) twice.rest)) twice.grows.leads.server
            (ap (λ (v : Cluster). (v.member g.n).status) world_twice ∙ twice.grows.leads.runs)

        never_twice : ⊥
        never_twice = had_not twice.grows.leads.server.raft_server.store is_fine.store twice.log_then
            (proposal twice.asked.comes.server.raft_server.store.term twice.grows.uid twice.grows.node) twice.grows.leads.log_is
            (no_zeros twice.grows.uid twice.grows.may.device)
            (subst (HasUid twice.log_then) (sym same_uid) (may_have log_more twice.log_then g.term uid twice.its_log has_uid))

  -- the device is served behind the front at which all were called
  module _ (f : FirstLater g.pace.period (end_of g.start g.front) (end_of g.start g.front + heard_within g.pace + 2 * g.pace.delay) g.rest) where
    soon_twice : end_of g.start (g.front ++ f.front) + 2 * spent ≤ g.start + led_within g.pace (length g.ids) + settled_in g.pace g.longest + settled_within g.pace g.longest
    soon_twice = let e = end_both g.start g.front f.front in let n = f.near in omega (arith, e, n, old)

    again : Grows (g.front ++ f.front) (log g f.front f.rest f.split f.late) f.rest → Serves
    again by = serves_or (more f.front f.rest f.split f.late soon by) by.rest (cut_more f.front f.rest f.split f.late soon by)
        (late_more f.front f.rest f.split f.late soon by)
        (let e = end_more f.front f.rest f.split f.late soon by in let q = by.soon in let h = soon_twice in omega (arith, e, q, h))
        (λ twice. absurd (never_twice f.front f.rest f.split f.late soon by twice))
      where
        soon : end_of g.start (g.front ++ f.front) + spent ≤ g.start + led_within g.pace (length g.ids) + settled_in g.pace g.longest + settled_within g.pace g.longest
        soon = let h = soon_twice in omega (arith, h)

    pub served : Serves
    served = serves_or f.front f.rest f.split f.late (let h = soon_twice in omega (arith, h)) again

module _ (ids : List ℕ) (rows : List Row) (given : BackGiven ids rows) (come : LeadersCome ids rows) (s : ServesGiven ids rows) (group : List Party)
    (clocks : Party → ℕ) (pace : Pace) (start longest a : ℕ) (uid : List ℕ) (preferred : ℕ) (whole : List Timed)
    (d : IsCalmOfDevice ids rows group clocks pace start longest a uid preferred whole) (long : start + served_within pace (length ids) longest < end_of start whole) where
  long_led : start + led_within pace (length ids) < end_of start whole
  long_led = omega (arith, long)

  abbrev led : IsLedBy group clocks pace start (start + led_within pace (length ids)) (world_of ids rows) whole
  led = come group clocks pace start whole d.calm.calm long_led

  pub is_served : HasIdBy a start (start + served_within pace (length ids) longest) (world_of ids rows) whole
  is_served = served (scene ids rows given group clocks pace start whole longest d.calm led) s a uid preferred d led.soon long
      (has_called (scene ids rows given group clocks pace start whole longest d.calm led) (let b = led.soon in omega (arith, b, long)))

-- the law
pub devices_are_served : (ids : List ℕ) (rows : List Row) → BackGiven ids rows → LeadersCome ids rows → ServesGiven ids rows → DevicesAreServed ids rows
devices_are_served ids rows given come s group clocks pace start longest a uid preferred whole d long =
    is_served ids rows given come s group clocks pace start longest a uid preferred whole d long
