-- On a quiet bus an allocator that is alone comes to rest in time, once it is started.
use Rattle.std.proofs.Common.{◌≡◌, ◌≢◌, ◌⊎◌, ℕ, zero, suc, ◌+◌, ◌*◌, ◌<◌, ◌≤◌, true, List, [], ◌∷◌, length, inl, inr, refl, sym, ◌∙◌, ap, subst, arith, None}
use Rattle.std.specs.Prelude.{◌-◌, is_some}
use Rattle.std.proofs.Math.Nat.{suc-mul}
use Rattle.can_frame.specs.declared.entry.Entry.{Entry}
use Rattle.can_frame.specs.Log.{last_term, log_limit}
use Rattle.node_discovery.specs.History.{is_online}
use Rattle.node_discovery.specs.Watch.{Watched, history}
use Rattle.raft_core.specs.Times.{wait}
use Rattle.raft_model.specs.Moves.Elections.{term_limit}
use Rattle.raft_model.specs.Server.{Store}
use Rattle.bus_rows.specs.declared.row.Row.{Row}
use Rattle.bus_rows.specs.declared.row.Row.TheVariants.{Send, Tick}
use Rattle.transfer_tx.specs.Queue.{Queued, left_behind}
use Rattle.alloc_spec.specs.AllocatorState.{AllocatorState}
use Rattle.alloc_spec.specs.Step.{after_pop, step}
use Rattle.alloc_spec.specs.Step as server
use Rattle.alloc_spec_laws.proofs.Choices.{lt_tells}
use Rattle.service_steps.specs.ComingBack.{HasGrown}
use Rattle.bus_rows.specs.Timed.{Timed, rows_in}
use Rattle.service_alone.specs.Calm.{HappensBy, HasComeToRest, IsReady, NothingWaits, Pace, queue_of, waits_after}
use Rattle.service_alone.specs.CalmRecovery.{AreQuiet, HasSettledWith, IsQuietRow, KeepsPace, OwnTraffic, own_traffic_after, time_to_settle}
use Rattle.service_alone.proofs.CalmSide.{fewer_left, waits_before, waits_on as wait_on}
use Rattle.service_alone.proofs.Fronts.{happens_behind}
use Rattle.service_alone.proofs.Members.{IsUp, steps_up}
use Rattle.service_alone.proofs.QuietRows.{by_quiet_rows, longer_waits, none_or_some, quiet_lawful, some_waited}
use Rattle.service_alone.proofs.Scenes.{own_is}
use Rattle.service_alone.proofs.CalmRest.{Serves}
use Rattle.service_alone.proofs.Settled.{settled_by}
use Rattle.service_alone.proofs.StaysSettled.{IsSettled, at_first, ends as settled_ends, ready_at_end}
use Rattle.service_alone.proofs.Starting.{HasTicked, HasWholeUids, Leads, Waits, grown_whole, hears_nobody_still, leads_at_once, tells_then, waits_on}
use Rattle.bus_spec.specs.Cluster.{Cluster, after_row, after_rows}
use Rattle.bus_spec.specs.Lawful.{AreLawful, cause}
use Rattle.bus_spec.specs.Members.{Member, MemberStatus, after_sending, member_after_step, next_frame}

one_turn_more : (left turn : ℕ) → 0 < left → left * turn ≡ (left - 1) * turn + turn
one_turn_more zero turn some = absurd (omega (arith, some))
one_turn_more (suc left) turn some = suc-mul left turn ∙ ap (λ (k : ℕ). k * turn + turn) (omega arith)

module _ (n ahead start word : ℕ) (store : Store) (pace : Pace) where
  -- a tick that finds room comes in this time
  abbrev pub turn : ℕ
  turn = pace.period + pace.delay

  -- from this moment on the allocator rests
  abbrev pub settle_by : ℕ
  settle_by = start + time_to_settle pace word store

  -- ---- the two phases: it waits for its election, and it tells what it committed

  pub record Common (t : AllocatorState) (traffic : OwnTraffic) (w : Cluster) : Type 0 where
    pub ids : w.ids ≡ n ∷ []
    pub up : IsUp t (w.member n)
    pub now : t.now ≤ traffic.ticked + ahead
    pub status : t.status_at ≤ traffic.ticked + ahead
    pub ticked : traffic.ticked ≤ traffic.at
    pub waits : traffic.waits ≤ traffic.at

  pub record IsWaiting (t : AllocatorState) (traffic : OwnTraffic) : Type 0 where
    pub waiting : Waits n (start + ahead) word store t
    pub early : traffic.ticked < start + wait word

  -- Where places are left to tell, it was elected or told one at the moment `since`; then frames wait in its queue since
  -- then, or none does, and it has not read its clock since.
  pub record IsTelling (t : AllocatorState) (traffic : OwnTraffic) : Type 0 where
    pub log : List Entry
    pub grown : HasGrown store.log log
    pub left : ℕ
    pub leads : Leads n left log t
    pub since : ℕ
    pub soon : 0 < left → since + left * turn < settle_by
    pub some : 0 < left → t.queue ≢ [] → traffic.waits ≤ since
    pub none : 0 < left → t.queue ≡ [] → traffic.ticked ≤ since + pace.delay

  abbrev pub Phase : OwnTraffic → Cluster → Type 0
  Phase traffic w = (t : AllocatorState) × Common t traffic w × (IsWaiting t traffic ⊎ IsTelling t traffic)

  -- ---- what a row leaves

  module _ (low : store.term < term_limit) (inside : store.commit ≤ length store.log) (rising : last_term store.log ≤ store.term)
      (room : store.commit < length store.log → length store.log < log_limit) (whole : HasWholeUids store.log) where
    module _ (traffic : OwnTraffic) (w : Cluster) (t : AllocatorState) (c : Common t traffic w) (at : ℕ) (in_time : KeepsPace n ahead pace traffic w at) where
      abbrev traffic_then : Row → OwnTraffic
      traffic_then row = own_traffic_after n traffic w (record { at = at; row = row })

      queue_is : queue_of (w.member n).status ≡ t.queue
      queue_is = ap queue_of c.up.status

      sends_by : t.queue ≢ [] → at ≤ traffic.waits + pace.delay
      sends_by some = in_time.sends (λ e. some (sym queue_is ∙ e))

      -- the next place is told by then
      tells_by : (s : IsTelling t traffic) → 0 < s.left → at ≤ s.since + turn
      tells_by s left = elim (none_or_some t.queue) [
        | inl z ↦ let a = s.none left z in let b = in_time.ticks in omega (arith, a, b)
        | inr z ↦ let a = s.some left z in let b = sends_by z in omega (arith, a, b)
      ]

      -- ---- a tick

      module _ (number : ℕ) where
        abbrev row : Row
        row = Tick n (at + ahead) number

        abbrev u : AllocatorState
        u = (step t (w.rows + 1) (server.Tick (at + ahead) number)).step_state.allocator

        later : t.now ≤ at + ahead
        later = let a = c.now in let b = c.ticked in let d = in_time.moments in omega (arith, a, b, d)

        up_then : IsUp u ((after_row w row).member n)
        up_then = subst (IsUp u) (sym (own_is w n (member_after_step (w.rows + 1) (server.Tick (at + ahead) number) (w.member n).status (w.member n))))
            (steps_up (w.rows + 1) (server.Tick (at + ahead) number) t (w.member n) c.up)

        queue_then : queue_of ((after_row w row).member n).status ≡ u.queue
        queue_then = ap queue_of up_then.status

        waits_then : (traffic_then row).waits ≤ at
        waits_then = waits_before at traffic.waits (queue_of (w.member n).status) (queue_of ((after_row w row).member n).status)
            (let a = c.waits in let b = in_time.moments in omega (arith, a, b))

        common_then : HasTicked (at + ahead) t u → Common u (traffic_then row) (after_row w row)
        common_then h = record {
          ids = c.ids;
          up = up_then;
          now = let e = h.now in omega (arith, e);
          status = status_then h.status;
          ticked = omega arith;
          waits = waits_then;
        }
          where
            status_then : (u.status_at ≡ t.status_at) ⊎ (u.status_at ≡ at + ahead) → u.status_at ≤ at + ahead
            status_then (inl z) = let a = c.status in let b = c.ticked in let d = in_time.moments in omega (arith, z, a, b, d)
            status_then (inr z) = omega (arith, z)

        ticks_waiting : IsWaiting t traffic → Phase (traffic_then row) (after_row w row)
        ticks_waiting s = elim (lt_tells at (start + wait word)) [
          | inl z ↦
              let r = waits_on n t s.waiting.nobody (w.rows + 1) (at + ahead) number later (start + ahead) word store s.waiting (omega (arith, z.1)) in
              (u, common_then r.1, inl (record { waiting = r.0; early = z.1 }))
          | inr z ↦
              let r = leads_at_once n t s.waiting.nobody (w.rows + 1) (at + ahead) number later (start + ahead) word store s.waiting low inside rising room whole
              (omega (arith, z.1)) short in (
                u,
                common_then r.2,
                inr (record {
                  log = r.0;
                  grown = r.1;
                  left = length store.log - store.commit;
                  leads = r.3;
                  since = at;
                  soon = λ left. let a = in_time.ticks in let b = s.early in omega (arith, a, b);
                  some = λ left some. waits_then;
                  none = λ left none. omega arith;
                }),
              )
        ]
          where
            short : length t.queue ≤ 28
            short = let a = s.waiting.few in let b = c.status in let d = s.early in omega (arith, a, b, d)

        ticks_telling : IsTelling t traffic → Phase (traffic_then row) (after_row w row)
        ticks_telling s = (u, common_then r.0, inr (tells_more r.1))
          where
            r : HasTicked (at + ahead) t u × (Leads n (s.left - 1) s.log u ⊎ (Leads n s.left s.log u × (0 < s.left) × (28 < length t.queue)))
            r = tells_then n t s.leads.nobody (w.rows + 1) (at + ahead) number later s.left s.log (grown_whole store.log s.log s.grown whole) s.leads

            tells_more : Leads n (s.left - 1) s.log u ⊎ (Leads n s.left s.log u × (0 < s.left) × (28 < length t.queue)) → IsTelling u (traffic_then row)
            tells_more (inl leads) = record {
              log = s.log;
              grown = s.grown;
              left = s.left - 1;
              leads = leads;
              since = at;
              soon = λ left.
                  let some : 0 < s.left = omega (arith, left) in
                  let a = tells_by s some in let b = s.soon some in let d = one_turn_more s.left turn some in omega (arith, a, b, d);
              some = λ left some. waits_then;
              none = λ left none. omega arith;
            }
            tells_more (inr (leads, left, full)) = record {
              log = s.log;
              grown = s.grown;
              left = s.left;
              leads = leads;
              since = s.since;
              soon = s.soon;
              some = λ l some.
                  let a = s.some left waited in
                  let b : (traffic_then row).waits ≡ traffic.waits = wait_on at traffic.waits (queue_of (w.member n).status) (queue_of ((after_row w row).member n).status)
                  (λ e. waited (sym queue_is ∙ e)) (λ e. some (sym queue_then ∙ e)) in
                  omega (arith, a, b);
              none = λ l none. absurd (longer_waits t.queue u.queue r.0.queue waited none);
            }
              where
                waited : t.queue ≢ []
                waited e = let l = ap length e in absurd (omega (arith, l, full))

      -- ---- a frame goes out

      module _ (goes : is_some (next_frame (w.member n).status) ≡ true) where
        waited : t.queue ≢ []
        waited = some_waited t.queue (ap (λ (status : MemberStatus). is_some (next_frame status)) (sym c.up.status) ∙ goes)

        up_sent : IsUp (after_pop t) ((after_row w (Send n)).member n)
        up_sent = subst (IsUp (after_pop t)) (sym (own_is w n sent)) (record { status = ap after_sending c.up.status; quiet = c.up.quiet })
          where
            sent : Member
            sent = record (w.member n) { status = after_sending (w.member n).status }

        common_sent : Common (after_pop t) (traffic_then (Send n)) (after_row w (Send n))
        common_sent = record {
          ids = c.ids;
          up = up_sent;
          now = c.now;
          status = c.status;
          ticked = let a = c.ticked in let b = in_time.moments in omega (arith, a, b);
          waits = waits_before at traffic.waits (queue_of (w.member n).status) (queue_of ((after_row w (Send n)).member n).status)
              (let a = c.waits in let b = in_time.moments in omega (arith, a, b));
        }

        abbrev PhaseSent : Type 0
        PhaseSent = Phase (traffic_then (Send n)) (after_row w (Send n))

        sends_phase : IsWaiting t traffic ⊎ IsTelling t traffic → PhaseSent
        sends_phase (inl s) = (
          after_pop t,
          common_sent,
          inl (record {
            waiting = record {
              nobody = hears_nobody_still n t (left_behind t.queue) s.waiting.nobody;
              raft_server = s.waiting.raft_server;
              since_is = s.waiting.since_is;
              word_is = s.waiting.word_is;
              sending = s.waiting.sending;
              few = let a = s.waiting.few in let b = fewer_left t.queue in omega (arith, a, b);
            };
            early = s.early;
          }),
        )
        sends_phase (inr s) = (
          after_pop t,
          common_sent,
          inr (record {
            log = s.log;
            grown = s.grown;
            left = s.left;
            leads = record {
              nobody = hears_nobody_still n t (left_behind t.queue) s.leads.nobody;
              role = s.leads.role;
              log_is = s.leads.log_is;
              committed = s.leads.committed;
              told = s.leads.told;
            };
            since = s.since;
            soon = s.soon;
            some = λ left some.
                let a = s.some left waited in
                let b : (traffic_then (Send n)).waits ≡ traffic.waits = wait_on at traffic.waits (queue_of (w.member n).status) (queue_of ((after_row w (Send n)).member n).status)
                (λ e. waited (sym queue_is ∙ e)) (λ e. some (sym (ap queue_of up_sent.status) ∙ e)) in
                omega (arith, a, b);
            none = λ left none.
                let a = s.some left waited in let b = sends_by waited in let d = c.ticked in let f = in_time.moments in omega (arith, a, b, d, f);
          }),
        )

      -- ---- each quiet row

      tick_phase : IsWaiting t traffic ⊎ IsTelling t traffic → (number : ℕ) → Phase (traffic_then (Tick n (at + ahead) number)) (after_row w (Tick n (at + ahead) number))
      tick_phase (inl s) number = ticks_waiting number s
      tick_phase (inr s) number = ticks_telling number s

      pub phase_then : IsWaiting t traffic ⊎ IsTelling t traffic → (row : Row) → IsQuietRow n ahead pace w at row → Phase (traffic_then row) (after_row w row)
      phase_then s = by_quiet_rows n ahead pace w at (λ row. Phase (traffic_then row) (after_row w row))
          (λ number. tick_phase s number) (λ goes. sends_phase goes s)

      -- ---- settled

      -- where nothing is left to tell
      serves_on : (s : IsTelling t traffic) → s.left ≡ 0 → Serves n s.log [] t.ids.alloc t
      serves_on s told = record {
        me = s.leads.nobody.me;
        size = s.leads.nobody.size;
        offline = λ other e. ap (λ (watch : List Watched). is_online (history other watch) t.now) s.leads.nobody.watch;
        discovery = s.leads.nobody.discovery;
        accepts = s.leads.nobody.accepted;
        id = refl;
        role = s.leads.role;
        log_is = s.leads.log_is;
        committed = s.leads.committed;
        told = let e = s.leads.told in omega (arith, e, told);
      }

      pub is_settled : (s : IsTelling t traffic) → s.left ≡ 0 → IsSettled n ahead s.log traffic t w
      is_settled s told = record {
        ids = c.ids;
        accepted = [];
        next = t.ids.alloc;
        serves = serves_on s told;
        up = c.up;
        clock = let a = c.now in let b = c.ticked in omega (arith, a, b);
        status = let a = c.status in let b = c.ticked in omega (arith, a, b);
        requests = omega arith;
        waits = c.waits;
      }

      -- before that it is early
      pub before : IsWaiting t traffic ⊎ IsTelling t traffic → (at < settle_by) ⊎ ((s : IsTelling t traffic) × (s.left ≡ 0))
      before (inl s) = let a = in_time.ticks in let b = s.early in inl (omega (arith, a, b))
      before (inr s) = elim (lt_tells 0 s.left) [
        | inl z ↦ let a = tells_by s z.1 in let b = s.soon z.1 in let d = one_turn_more s.left turn z.1 in inl (omega (arith, a, b, d))
        | inr z ↦ inr (s, omega (arith, z.1))
      ]

      pub settles : IsWaiting t traffic ⊎ IsTelling t traffic → settle_by ≤ at → (moment : ℕ) → traffic.at ≤ moment → HasSettledWith n store.log (moment + ahead) w
      settles phase late moment by = elim (before phase) [
        | inl z ↦ absurd (omega (arith, z, late))
        | inr z ↦ let h = is_settled z.0 z.1 in let a = h.clock in let b = h.status in let d = h.requests in (
          z.0.log,
          z.0.grown,
          settled_by n z.0.log [] t.ids.alloc t (moment + ahead) w (serves_on z.0 z.1) c.up (omega (arith, a, by)) (omega (arith, b, by)) (omega (arith, d, by)),
        )
      ]

      pub rests : IsWaiting t traffic ⊎ IsTelling t traffic → settle_by ≤ at → NothingWaits n w → HasComeToRest n store.log (traffic.at + ahead) w
      rests s late none = let h = settles s late traffic.at (omega arith) in record { log = h.0; grown = h.1; rests = record { settled = h.2; sent = none } }

    -- ---- all rows

    -- what is so at their end
    pub record Ends (last : ℕ) (w : Cluster) (rows : List Timed) : Type 0 where
      pub traffic : OwnTraffic
      pub phase : Phase traffic (after_rows w (rows_in rows))
      pub in_time : KeepsPace n ahead pace traffic (after_rows w (rows_in rows)) last
      pub lawful : AreLawful w (rows_in rows)

    pub ends : (last : ℕ) (traffic : OwnTraffic) (w : Cluster) (rows : List Timed) → Phase traffic w → AreQuiet n ahead pace last traffic w rows → Ends last w rows
    ends last traffic w [] phase quiet = record { traffic = traffic; phase = phase; in_time = quiet; lawful = tt }
    ends last traffic w (timed ∷ rows) phase quiet =
        let e = ends last (own_traffic_after n traffic w timed) (after_row w timed.row) rows (phase_then traffic w phase.0 phase.1 timed.at quiet.0 phase.2 timed.row quiet.1) quiet.2 in record {
          traffic = e.traffic;
          phase = e.phase;
          in_time = e.in_time;
          lawful = (quiet_lawful n ahead pace w timed.at phase.1.ids phase.0 phase.1.up timed.row quiet.1, e.lawful);
        }

    -- it has settled at their end
    pub settles_at_end : (last : ℕ) (traffic : OwnTraffic) (w : Cluster) (rows : List Timed) → Phase traffic w → AreQuiet n ahead pace last traffic w rows → settle_by ≤ last
        → HasSettledWith n store.log (last + ahead) (after_rows w (rows_in rows))
    settles_at_end last traffic w rows phase quiet late =
        let e = ends last traffic w rows phase quiet in
        settles e.traffic (after_rows w (rows_in rows)) e.phase.0 e.phase.1 last e.in_time e.phase.2 late last e.in_time.moments

    -- and is ready a delay later
    abbrev IsReadyWith : ℕ → Cluster → Type 0
    IsReadyWith last w = (log : List Entry) × HasGrown store.log log × IsReady n log (last + ahead) w

    ready_behind : (last : ℕ) (traffic : OwnTraffic) (w : Cluster) (rows : List Timed) (t : AllocatorState) (c : Common t traffic w) (at : ℕ) (in_time : KeepsPace n ahead pace traffic w at)
        (s : IsTelling t traffic) → s.left ≡ 0 → AreQuiet n ahead pace last traffic w rows → pace.delay ≤ 2000 → traffic.at + pace.delay < last → IsReadyWith last (after_rows w (rows_in rows))
    ready_behind last traffic w rows t c at in_time s told quiet short late = (
      s.log,
      s.grown,
      ready_at_end n ahead s.log traffic.at last pace w rows
          (settled_ends n ahead s.log traffic.at last pace traffic w rows t (is_settled traffic w t c at in_time s told) (λ slow. at_first n ahead s.log traffic.at traffic.waits t c.waits) quiet) short late,
    )

    pub ready_at_last : (last : ℕ) (traffic : OwnTraffic) (w : Cluster) (rows : List Timed) → Phase traffic w → AreQuiet n ahead pace last traffic w rows → pace.delay ≤ 2000
        → settle_by + pace.delay ≤ last → traffic.at < settle_by → IsReadyWith last (after_rows w (rows_in rows))
    ready_at_last last traffic w [] phase quiet short late early = elim (before traffic w phase.0 phase.1 last quiet phase.2) [
      | inl z ↦ absurd (omega (arith, z, late))
      | inr z ↦ ready_behind last traffic w [] phase.0 phase.1 last quiet z.0 z.1 quiet short (omega (arith, early, late))
    ]
    ready_at_last last traffic w (timed ∷ rows) phase quiet short late early = elim (before traffic w phase.0 phase.1 timed.at quiet.0 phase.2) [
      | inl z ↦ ready_at_last last (own_traffic_after n traffic w timed) (after_row w timed.row) rows
          (phase_then traffic w phase.0 phase.1 timed.at quiet.0 phase.2 timed.row quiet.1) quiet.2 short late z
      | inr z ↦ ready_behind last traffic w (timed ∷ rows) phase.0 phase.1 timed.at quiet.0 z.0 z.1 quiet short (omega (arith, early, late))
    ]

    -- ---- a moment at which nothing waits

    abbrev SoonAt : ℕ → Cluster → List Timed → Type 0
    SoonAt from w rows = HappensBy from (settle_by + pace.delay) w rows (λ moment. HasComeToRest n store.log (moment + ahead))

    -- nothing waits, or not since the allocator was to rest
    abbrev WaitsBefore : OwnTraffic → Cluster → Type 0
    WaitsBefore traffic w = NothingWaits n w ⊎ (traffic.waits < settle_by)

    waits_early : (at since : ℕ) (before now : List Queued) → ((before ≡ []) × (at < settle_by)) ⊎ ((before ≢ []) × (since < settle_by)) → (now ≡ []) ⊎ (waits_after at since before now < settle_by)
    waits_early at since [] now (inl z) = inr z.1
    waits_early at since [] now (inr z) = absurd (z.0 refl)
    waits_early at since (frame ∷ frames) [] h = inl refl
    waits_early at since (frame ∷ frames) (other ∷ others) (inl z) = let l = ap length z.0 in absurd (omega (arith, l))
    waits_early at since (frame ∷ frames) (other ∷ others) (inr z) = inr z.1

    behind : (traffic : OwnTraffic) (w : Cluster) (timed : Timed) (rows : List Timed) → cause w timed.row ≡ None → SoonAt timed.at (after_row w timed.row) rows
        → SoonAt traffic.at w (timed ∷ rows)
    behind traffic w timed rows = happens_behind traffic.at (settle_by + pace.delay) w timed rows (λ moment. HasComeToRest n store.log (moment + ahead))

    pub rests_soon : (last : ℕ) (traffic : OwnTraffic) (w : Cluster) (rows : List Timed) → Phase traffic w → AreQuiet n ahead pace last traffic w rows
        → settle_by + pace.delay ≤ last → traffic.at ≤ settle_by + pace.delay → WaitsBefore traffic w → SoonAt traffic.at w rows
    rests_soon last traffic w [] phase quiet late soon waits = elim (none_or_some (queue_of (w.member n).status)) [
      | inl z ↦ record {
        front = [];
        rest = [];
        split = refl;
        soon = soon;
        lawful = tt;
        happens = rests traffic w phase.0 phase.1 last quiet phase.2 (omega (arith, late)) z;
      }
      | inr z ↦ absurd (elim waits [
        | inl y ↦ absurd (z y)
        | inr y ↦ let a = quiet.sends z in absurd (omega (arith, a, y, late))
      ])
    ]
    rests_soon last traffic w (timed ∷ rows) phase quiet late soon waits = elim (none_or_some (queue_of (w.member n).status)) [
      | inl z ↦ elim (lt_tells timed.at settle_by) [
        | inl y ↦ behind traffic w timed rows (quiet_lawful n ahead pace w timed.at phase.1.ids phase.0 phase.1.up timed.row quiet.1)
            (rests_soon last (own_traffic_after n traffic w timed) (after_row w timed.row) rows (phase_then traffic w phase.0 phase.1 timed.at quiet.0 phase.2 timed.row quiet.1) quiet.2 late
            (omega (arith, y.1)) (waits_early timed.at traffic.waits (queue_of (w.member n).status) (queue_of ((after_row w timed.row).member n).status) (inl (z, y.1))))
        | inr y ↦ record {
          front = [];
          rest = timed ∷ rows;
          split = refl;
          soon = soon;
          lawful = tt;
          happens = rests traffic w phase.0 phase.1 timed.at quiet.0 phase.2 y.1 z;
        }
      ]
      | inr z ↦ elim waits [
        | inl y ↦ absurd (z y)
        | inr y ↦ behind traffic w timed rows (quiet_lawful n ahead pace w timed.at phase.1.ids phase.0 phase.1.up timed.row quiet.1)
            (rests_soon last (own_traffic_after n traffic w timed) (after_row w timed.row) rows (phase_then traffic w phase.0 phase.1 timed.at quiet.0 phase.2 timed.row quiet.1) quiet.2 late
            (let a = quiet.0.sends z in omega (arith, a, y))
            (waits_early timed.at traffic.waits (queue_of (w.member n).status) (queue_of ((after_row w timed.row).member n).status) (inr (z, y))))
      ]
    ]
