-- Quiet rows can always go on, to any later moment.
use Rattle.std.proofs.Common.{◌≡◌, ℕ, zero, suc, ◌+◌, ◌≤◌, List, [], ◌∷◌, ◌++◌, length, refl, ap, subst, arith}
use Rattle.bus_rows.specs.declared.row.Row.{Row}
use Rattle.bus_rows.specs.declared.row.Row.TheVariants.{Send, Tick}
use Rattle.transfer_tx.specs.Queue.{Queued}
use Rattle.bus_rows.specs.Timed.{Timed, rows_in}
use Rattle.service_alone.specs.Calm.{NothingWaits, Pace, queue_of}
use Rattle.service_alone.specs.CalmRecovery.{AreQuiet, IsQuietRow, KeepsPace, OwnTraffic, own_traffic_after}
use Rattle.service_alone.proofs.CalmGoesOn.{member_less, member_next, waits_fine}
use Rattle.service_alone.proofs.Scenes.{own_is}
use Rattle.bus_spec.specs.Cluster.{Cluster, after_row, after_rows}
use Rattle.bus_spec.specs.Members.{Member, after_sending}

module _ (n ahead : ℕ) (pace : Pace) where
  -- rows lead to a moment, and nothing waits then
  pub record Reaches (last : ℕ) (traffic : OwnTraffic) (w : Cluster) : Type 0 where
    pub more : List Timed
    pub quiet : AreQuiet n ahead pace last traffic w more
    pub none : NothingWaits n (after_rows w (rows_in more))

  behind : (last : ℕ) (traffic : OwnTraffic) (w : Cluster) (at : ℕ) (row : Row) → KeepsPace n ahead pace traffic w at → IsQuietRow n ahead pace w at row
      → Reaches last (own_traffic_after n traffic w (record { at = at; row = row })) (after_row w row) → Reaches last traffic w
  behind last traffic w at row time quiet r = record { more = (record { at = at; row = row }) ∷ r.more; quiet = (time, quiet, r.quiet); none = r.none }

  -- all that waits goes out at one moment
  drains : (last moment ticked : ℕ)
      → ((traffic : OwnTraffic) (w : Cluster) → KeepsPace n ahead pace traffic w moment → traffic.ticked ≡ ticked → NothingWaits n w → Reaches last traffic w)
      → (count : ℕ) (traffic : OwnTraffic) (w : Cluster) → KeepsPace n ahead pace traffic w moment → traffic.ticked ≡ ticked
      → length (queue_of (w.member n).status) ≡ count → Reaches last traffic w
  drains last moment ticked then_ zero traffic w time now size = then_ traffic w time now (none (queue_of (w.member n).status) size)
    where
      none : (l : List Queued) → length l ≡ 0 → l ≡ []
      none [] e = refl
      none (x ∷ l) e = absurd (omega (arith, e))
  drains last moment ticked then_ (suc count) traffic w time now size =
      let some = λ (e : queue_of (w.member n).status ≡ []). (let l = ap length e in absurd (omega (arith, l, size))) in
      behind last traffic w moment (Send n) time (refl, member_next (w.member n).status some)
      (drains last moment ticked then_ count (own_traffic_after n traffic w (record { at = moment; row = Send n })) (after_row w (Send n))
      (record {
        moments = omega arith;
        ticks = time.ticks;
        sends = waits_fine pace.delay moment traffic.waits (queue_of (w.member n).status) (queue_of ((after_row w (Send n)).member n).status) time.sends;
      }) now
      (let e = ap (λ (x : Member). length (queue_of x.status)) (own_is w n (record (w.member n) { status = after_sending (w.member n).status })) in
      let f = member_less (w.member n).status some in omega (arith, e, f, size)))

  -- the allocator reads its clock, all goes out, and so again a millisecond later
  goes_far : 1 ≤ pace.period → (more moment : ℕ) (traffic : OwnTraffic) (w : Cluster) → KeepsPace n ahead pace traffic w moment → Reaches (moment + more) traffic w
  goes_far some zero moment traffic w time =
      drains (moment + zero) moment traffic.ticked
      (λ t v fine now none. record { more = []; quiet = subst (λ (m : ℕ). KeepsPace n ahead pace t v m) (omega arith) fine; none = none })
      (length (queue_of (w.member n).status)) traffic w time refl refl
  goes_far some (suc more) moment traffic w time =
      let row : Row = Tick n (moment + ahead) 0 in
      behind (moment + suc more) traffic w moment row time (refl, refl)
      (drains (moment + suc more) moment moment
      (λ t v fine now none.
      subst (λ (m : ℕ). Reaches m t v) (omega arith)
      (goes_far some more (moment + 1) t v (record {
        moments = let a = fine.moments in omega (arith, a);
        ticks = omega (arith, now, some);
        sends = λ waits. absurd (waits none);
      })))
      (length (queue_of ((after_row w row).member n).status)) (own_traffic_after n traffic w (record { at = moment; row = row })) (after_row w row)
      (record {
        moments = omega arith;
        ticks = omega arith;
        sends = waits_fine pace.delay moment traffic.waits (queue_of (w.member n).status) (queue_of ((after_row w row).member n).status) time.sends;
      }) refl refl)

  -- behind any quiet rows
  pub goes_on : 1 ≤ pace.period → (last more : ℕ) (traffic : OwnTraffic) (w : Cluster) (whole : List Timed) → AreQuiet n ahead pace last traffic w whole
      → (rest : List Timed) × AreQuiet n ahead pace (last + more) traffic w (whole ++ rest) × NothingWaits n (after_rows w (rows_in (whole ++ rest)))
  goes_on some last more traffic w [] quiet = let r = goes_far some more last traffic w quiet in (r.more, r.quiet, r.none)
  goes_on some last more traffic w (timed ∷ whole) quiet =
      let r = goes_on some last more (own_traffic_after n traffic w timed) (after_row w timed.row) whole quiet.2 in (r.0, (quiet.0, quiet.1, r.1), r.2)
