-- On a quiet bus an allocator that has settled stays so, and is ready a delay later.
use Rattle.std.proofs.Common.{◌≡◌, ◌≢◌, ◌⊎◌, ℕ, ◌+◌, ◌*◌, ◌<◌, ◌≤◌, true, List, [], ◌∷◌, length, length-append, inl, inr, sym, ◌∙◌, ap, subst, arith}
use Rattle.std.specs.Prelude.{is_some}
use Rattle.alloc_exchange.specs.Exchange.{Accepted, last_moment}
use Rattle.can_frame.specs.declared.entry.Entry.{Entry}
use Rattle.raft_model.specs.Lists.{In}
use Rattle.bus_rows.specs.declared.row.Row.{Row}
use Rattle.bus_rows.specs.declared.row.Row.TheVariants.{Send, Tick}
use Rattle.transfer_tx.specs.Queue.{Queued, left_behind}
use Rattle.alloc_spec.specs.AllocatorState.{AllocatorState}
use Rattle.alloc_spec.specs.Step.{after_pop, step}
use Rattle.alloc_spec.specs.Step as server
use Rattle.bus_agreement.proofs.Lists.{in_append}
use Rattle.bus_agreement.proofs.RowsWithoutEvents.{left_in_queue}
use Rattle.bus_rows.specs.Timed.{Timed, rows_in}
use Rattle.service_alone.specs.Calm.{HasSettled, IsReady, Pace, queue_of}
use Rattle.service_alone.specs.CalmRecovery.{AreQuiet, IsQuietRow, KeepsPace, OwnTraffic, no_own_traffic, own_traffic_after}
use Rattle.service_alone.proofs.CalmRest.{Serves, StillServes, Tells, ticks as calm_ticks, ticks_on, whatever_waits}
use Rattle.service_alone.proofs.Leads.{status_number}
use Rattle.service_alone.proofs.CalmSide.{fewer_left, waits_before, waits_on as wait_on}
use Rattle.service_alone.proofs.Members.{IsUp, steps_up}
use Rattle.service_alone.proofs.QuietRows.{by_quiet_rows, longer_waits, none_or_some, quiet_lawful, some_waited}
use Rattle.service_alone.proofs.Reached.{IsShown}
use Rattle.service_alone.proofs.Scenes.{own_is}
use Rattle.service_alone.proofs.Settled.{serves_it, settled_by}
use Rattle.bus_spec.specs.Cluster.{Cluster, after_row, after_rows}
use Rattle.bus_spec.specs.Lawful.{AreLawful}
use Rattle.bus_spec.specs.Members.{Member, MemberStatus, after_sending, member_after_step, next_frame}

module _ (n ahead : ℕ) (log : List Entry) where
  -- ---- what is so at a moment

  pub record IsSettled (traffic : OwnTraffic) (t : AllocatorState) (w : Cluster) : Type 0 where
    pub ids : w.ids ≡ n ∷ []
    pub accepted : List Accepted
    pub next : ℕ
    pub serves : Serves n log accepted next t
    pub up : IsUp t (w.member n)
    pub clock : t.now ≤ traffic.at + ahead
    pub status : t.status_at ≤ traffic.at + ahead
    pub requests : last_moment accepted ≤ traffic.at + ahead
    pub waits : traffic.waits ≤ traffic.at

  -- Frames wait since no later than the moment `from`; or frames of NodeStatus alone wait, one for each second at most
  -- since frames wait.
  pub record IsClean (waits : ℕ) (t : AllocatorState) : Type 0 where
    pub statuses : (frame : Queued) → In frame t.queue → frame.id ≡ status_number n
    pub few : t.queue ≢ [] → 1000 * length t.queue + waits + ahead ≤ t.status_at + 1000

  abbrev pub Queues : (from waits : ℕ) → AllocatorState → Type 0
  Queues from waits t = ((t.queue ≢ []) × (waits ≤ from)) ⊎ IsClean waits t

  -- whatever waits
  pub at_first : (from waits : ℕ) (t : AllocatorState) → waits ≤ from → Queues from waits t
  at_first from waits t by = elim (none_or_some t.queue) [
    | inl z ↦ inr (record { statuses = λ frame i. absurd (subst (λ (q : List Queued). In frame q) z i); few = λ some. absurd (some z) })
    | inr z ↦ inl (z, by)
  ]

  module _ (pace : Pace) (traffic : OwnTraffic) (w : Cluster) (t : AllocatorState) (s : IsSettled traffic t w) (at : ℕ) (time : KeepsPace n ahead pace traffic w at) where
    later : traffic.at ≤ at
    later = time.moments

    queue_is : queue_of (w.member n).status ≡ t.queue
    queue_is = ap queue_of s.up.status

    abbrev traffic_then : Row → OwnTraffic
    traffic_then row = own_traffic_after n traffic w (record { at = at; row = row })

    abbrev waits_then : Row → ℕ
    waits_then row = (traffic_then row).waits

    no_later : (row : Row) → waits_then row ≤ at
    no_later row = waits_before at traffic.waits (queue_of (w.member n).status) (queue_of ((after_row w row).member n).status) (let a = s.waits in let l = later in omega (arith, a, l))

    -- frames that waited, and still do
    waits_on_as : (row : Row) (u : AllocatorState) → IsUp u ((after_row w row).member n) → t.queue ≢ [] → u.queue ≢ [] → waits_then row ≡ traffic.waits
    waits_on_as row u up before then_ = wait_on at traffic.waits (queue_of (w.member n).status) (queue_of ((after_row w row).member n).status)
        (λ e. before (sym queue_is ∙ e)) (λ e. then_ (sym (ap queue_of up.status) ∙ e))

    -- a row leaves it so
    abbrev Then : ℕ → Row → Type 0
    Then from row = (u : AllocatorState) × IsSettled (traffic_then row) u (after_row w row) × (pace.delay ≤ 2000 → Queues from traffic.waits t → Queues from (waits_then row) u)

    -- few frames of NodeStatus wait
    two_at_most : pace.delay ≤ 2000 → IsClean traffic.waits t → length t.queue ≤ 3
    two_at_most short clean = elim (none_or_some t.queue) [
      | inl z ↦ let e = ap length z in omega (arith, e)
      | inr z ↦ let f = clean.few z in let a = s.status in let b = time.sends (λ e. z (sym queue_is ∙ e)) in let l = later in omega (arith, f, a, b, l, short)
    ]

    ticks : (from word : ℕ) → Then from (Tick n (at + ahead) word)
    ticks from word = (
      u,
      record {
        ids = s.ids;
        accepted = s.accepted;
        next = s.next;
        serves = h.serves;
        up = up_then;
        clock = let e = h.now in omega (arith, e);
        status = status_then h.status;
        requests = let e = s.requests in let l = later in omega (arith, e, l);
        waits = no_later row;
      },
      queues,
    )
      where
        row : Row
        row = Tick n (at + ahead) word

        u : AllocatorState
        u = (step t (w.rows + 1) (server.Tick (at + ahead) word)).step_state.allocator

        after_now : t.now ≤ at + ahead
        after_now = let e = s.clock in let l = later in omega (arith, e, l)

        h : StillServes n log s.accepted s.next t s.serves (w.rows + 1) (at + ahead) word after_now u
        h = ticks_on n log s.accepted s.next t s.serves (w.rows + 1) (at + ahead) word after_now

        up_then : IsUp u ((after_row w row).member n)
        up_then = subst (IsUp u) (sym (own_is w n (member_after_step (w.rows + 1) (server.Tick (at + ahead) word) (w.member n).status (w.member n))))
            (steps_up (w.rows + 1) (server.Tick (at + ahead) word) t (w.member n) s.up)

        status_then : (u.status_at ≡ t.status_at) ⊎ (u.status_at ≡ at + ahead) → u.status_at ≤ at + ahead
        status_then (inl z) = let e = s.status in let l = later in omega (arith, z, e, l)
        status_then (inr z) = omega (arith, z)

        clean_then : (clean : IsClean traffic.waits t) → ((u.queue ≡ t.queue) × (u.status_at ≡ t.status_at)) ⊎ Tells n (at + ahead) t u → IsClean (waits_then row) u
        clean_then clean (inl z) = record {
          statuses = subst (λ (q : List Queued). (frame : Queued) → In frame q → frame.id ≡ status_number n) (sym z.0) clean.statuses;
          few = λ some.
              let before = λ (e : t.queue ≡ []). some (z.0 ∙ e) in
              let f = clean.few before in let v = waits_on_as row u up_then before some in let l = ap length z.0 in omega (arith, f, v, l, z.1);
        }
        clean_then clean (inr told) = record {
          statuses = λ frame i. elim (in_append frame t.queue (told.frame ∷ []) (subst (λ (q : List Queued). In frame q) told.queue i)) [
            | inl z ↦ clean.statuses frame z
            | inr (inl z) ↦ ap (λ (f : Queued). f.id) z ∙ told.id
            | inr (inr z) ↦ absurd z
          ];
          few = λ some. elim (none_or_some t.queue) [
            | inl z ↦
                let k = ap length told.queue in let l = length-append t.queue (told.frame ∷ []) in let e = ap length z in
                let v = no_later row in
                omega (arith, k, l, e, v, told.at)
            | inr z ↦
                let f = clean.few z in let k = ap length told.queue in let l = length-append t.queue (told.frame ∷ []) in
                let v = waits_on_as row u up_then z some in omega (arith, f, k, l, v, told.at, told.late)
          ];
        }

        queues : pace.delay ≤ 2000 → Queues from traffic.waits t → Queues from (waits_then row) u
        queues short (inl z) =
            let some = longer_waits t.queue u.queue h.queue z.0 in
            let v = waits_on_as row u up_then z.0 some in inl (some, omega (arith, z.1, v))
        queues short (inr clean) = inr (clean_then clean (calm_ticks n log s.accepted s.next t s.serves (w.rows + 1) (at + ahead) word after_now
            (let l = two_at_most short clean in omega (arith, l))).queue)

    sends : (from : ℕ) → is_some (next_frame (w.member n).status) ≡ true → Then from (Send n)
    sends from goes = (
      after_pop t,
      record {
        ids = s.ids;
        accepted = s.accepted;
        next = s.next;
        serves = whatever_waits n log s.accepted s.next t (left_behind t.queue) s.serves;
        up = up_then;
        clock = let e = s.clock in let l = later in omega (arith, e, l);
        status = let e = s.status in let l = later in omega (arith, e, l);
        requests = let e = s.requests in let l = later in omega (arith, e, l);
        waits = no_later (Send n);
      },
      λ short q. queues q,
    )
      where
        sent : Member
        sent = record (w.member n) { status = after_sending (w.member n).status }

        up_then : IsUp (after_pop t) ((after_row w (Send n)).member n)
        up_then = subst (IsUp (after_pop t)) (sym (own_is w n sent)) (record { status = ap after_sending s.up.status; quiet = s.up.quiet })

        waited : t.queue ≢ []
        waited = some_waited t.queue (ap (λ (status : MemberStatus). is_some (next_frame status)) (sym s.up.status) ∙ goes)

        nothing_left : left_behind t.queue ≡ [] → IsClean (waits_then (Send n)) (after_pop t)
        nothing_left none = record {
          statuses = λ frame i. absurd (subst (λ (q : List Queued). In frame q) none i);
          few = λ some. absurd (some none);
        }

        queues : Queues from traffic.waits t → Queues from (waits_then (Send n)) (after_pop t)
        queues (inl z) = elim (none_or_some (left_behind t.queue)) [
          | inl none ↦ inr (nothing_left none)
          | inr some ↦ let v = waits_on_as (Send n) (after_pop t) up_then waited some in inl (some, omega (arith, z.1, v))
        ]
        queues (inr clean) = inr (record {
          statuses = λ frame i. clean.statuses frame (left_in_queue t.queue frame i);
          few = λ some.
              let f = clean.few waited in let l = fewer_left t.queue in let v = waits_on_as (Send n) (after_pop t) up_then waited some in omega (arith, f, l, v);
        })

    stays : (from : ℕ) (row : Row) → IsQuietRow n ahead pace w at row → Then from row
    stays from = by_quiet_rows n ahead pace w at (Then from) (ticks from) (sends from)

  -- ---- all rows

  -- what is so at their end
  pub record Ends (from last : ℕ) (pace : Pace) (w : Cluster) (whole : List Timed) : Type 0 where
    pub server : AllocatorState
    pub traffic : OwnTraffic
    pub settled : IsSettled traffic server (after_rows w (rows_in whole))
    pub in_time : KeepsPace n ahead pace traffic (after_rows w (rows_in whole)) last
    pub lawful : AreLawful w (rows_in whole)
    pub queues : pace.delay ≤ 2000 → Queues from traffic.waits server

  pub ends : (from last : ℕ) (pace : Pace) (traffic : OwnTraffic) (w : Cluster) (whole : List Timed) (t : AllocatorState) → IsSettled traffic t w
      → (pace.delay ≤ 2000 → Queues from traffic.waits t) → AreQuiet n ahead pace last traffic w whole → Ends from last pace w whole
  ends from last pace traffic w [] t s queues quiet = record { server = t; traffic = traffic; settled = s; in_time = quiet; lawful = tt; queues = queues }
  ends from last pace traffic w (timed ∷ whole) t s queues quiet =
      let r = stays pace traffic w t s timed.at quiet.0 from timed.row quiet.1 in
      let e = ends from last pace (own_traffic_after n traffic w timed) (after_row w timed.row) whole r.0 r.1 (λ short. r.2 short (queues short)) quiet.2 in record {
        server = e.server;
        traffic = e.traffic;
        settled = e.settled;
        in_time = e.in_time;
        lawful = (quiet_lawful n ahead pace w timed.at s.ids t s.up timed.row quiet.1, e.lawful);
        queues = e.queues;
      }

  -- behind a world in which it has settled
  pub goes_on : (start last : ℕ) (pace : Pace) (w : Cluster) (whole : List Timed) → IsShown w → w.ids ≡ n ∷ [] → HasSettled n log (start + ahead) w
      → AreQuiet n ahead pace last (no_own_traffic start) w whole → Ends start last pace w whole
  goes_on start last pace w whole shown ids h quiet = ends start last pace (no_own_traffic start) w whole h.server (record {
    ids = ids;
    accepted = h.server.accepted;
    next = h.server.ids.alloc;
    serves = serves_it n log (start + ahead) w shown ids h;
    up = record { status = h.runs; quiet = record { faults = h.faults; calls = h.disk } };
    clock = h.clock;
    status = h.status;
    requests = h.requests;
    waits = omega arith;
  }) (λ short. at_first start start h.server (omega arith)) quiet

  module _ (from last : ℕ) (pace : Pace) (w : Cluster) (whole : List Timed) (e : Ends from last pace w whole) where
    pub settled_at_end : HasSettled n log (last + ahead) (after_rows w (rows_in whole))
    settled_at_end = let s = e.settled in let by = e.in_time.moments in let a = s.clock in let b = s.status in let d = s.requests in
        settled_by n log s.accepted s.next e.server (last + ahead) (after_rows w (rows_in whole)) s.serves s.up (omega (arith, a, by)) (omega (arith, b, by)) (omega (arith, d, by))

    -- frames of Allocations are gone a delay after they came into the queue
    pub ready_at_end : pace.delay ≤ 2000 → from + pace.delay < last → IsReady n log (last + ahead) (after_rows w (rows_in whole))
    ready_at_end short late = by (e.queues short)
      where
        queue_is : queue_of ((after_rows w (rows_in whole)).member n).status ≡ e.server.queue
        queue_is = ap queue_of e.settled.up.status

        by : Queues from e.traffic.waits e.server → IsReady n log (last + ahead) (after_rows w (rows_in whole))
        by (inl z) = let a = e.in_time.sends (λ none. z.0 (sym queue_is ∙ none)) in absurd (omega (arith, a, z.1, late))
        by (inr clean) = record {
          settled = settled_at_end;
          statuses = subst (λ (q : List Queued). (frame : Queued) → In frame q → frame.id ≡ status_number n) (sym queue_is) clean.statuses;
          few = let l = two_at_most pace e.traffic (after_rows w (rows_in whole)) e.server e.settled last e.in_time short clean in let q = ap length queue_is in omega (arith, l, q);
        }
