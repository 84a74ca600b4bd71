-- Calls that come back, from a row on.
use Rattle.std.proofs.Common.{◌≡◌, ℕ, ◌+◌, ◌*◌, ◌<◌, ◌≤◌, List, ◌∷◌, ◌++◌, length, length-append, append_assoc, sym, ◌∙◌, ap, subst, inl, inr, arith}
use Rattle.dsdl_codec.specs.declared.append_request.AppendRequest.{AppendRequest}
use Rattle.bus_rows.specs.declared.row.Row.{Row}
use Rattle.alloc_spec.specs.Transfers.{Offer}
use Rattle.bus_rows.specs.Timed.{Timed, rows_in}
use Rattle.service_alone.specs.Calm.{end_of}
use Rattle.service_calm.specs.Calls.{Calls, Lists}
use Rattle.service_calm.specs.Calm.{AreCalm, no_traffic}
use Rattle.service_calm.specs.Comes.{HasMemory, Throughout, sent_by}
use Rattle.service_leader.specs.CallsComeBack.{CallsComeBack, ComesBack, HasPlace, LeadsOn}
use Rattle.service_leader.specs.Entries.{CallsReturnToWhoLeadsOn, KeepsCalling, PendsSince}
use Rattle.service_leader.proofs.EntriesParts.{in_either, rows_counted}
use Rattle.service_leader.proofs.Stretches.{world_both}
use Rattle.bus_spec.specs.Cluster.{Cluster, after_rows, world_of}
use Rattle.bus_spec.specs.Lawful.{DoNoHarm}

-- Member n lists member m, and in these rows, which begin in the world w, each call of n to m that is made behind so many
-- rows in all comes back.
pub record GetsAnswers (n m delay : ℕ) (w : Cluster) (whole : List Timed) : Type 0 where
  pub lists_it : Lists n m w
  pub number : ℕ
  pub above : w.rows ≤ number
  pub back : (front rest : List Timed) (timed : Timed) (offer : Offer) (request : AppendRequest) → whole ≡ front ++ timed ∷ rest
      → number ≤ (after_rows w (rows_in front)).rows → Calls n m (after_rows w (rows_in front)) timed.row offer request
      → timed.at + 4 * delay < end_of timed.at rest
      → ComesBack n m (sent_by n (after_rows w (rows_in front)) offer) request timed.at delay (after_rows w (rows_in front)) (timed ∷ rest)

-- a leader that keeps calling gets its answers from some row of the first ones on, and each call that pends behind them was
-- made behind that row
module _ (n m delay : ℕ) (w : Cluster) (first later : List Timed) (keeps : KeepsCalling n m delay w first later) where
  abbrev led : Cluster
  led = after_rows w (rows_in keeps.early)

  above : w.rows ≤ led.rows
  above = let count = rows_counted w keeps.early in omega (arith, count)

  inside : led.rows ≤ (after_rows w (rows_in first)).rows
  inside =
      let count = rows_counted w keeps.early in
      let also = rows_counted w first in
      let size = ap length keeps.split ∙ length-append keeps.early keeps.since in
      omega (arith, count, also, size)

  back : (front rest : List Timed) (timed : Timed) (offer : Offer) (request : AppendRequest) → first ++ later ≡ front ++ timed ∷ rest
      → led.rows ≤ (after_rows w (rows_in front)).rows → Calls n m (after_rows w (rows_in front)) timed.row offer request
      → timed.at + 4 * delay < end_of timed.at rest
      → ComesBack n m (sent_by n (after_rows w (rows_in front)) offer) request timed.at delay (after_rows w (rows_in front)) (timed ∷ rest)
  back front rest timed offer request cut late calls long = elim (in_either keeps.early (keeps.since ++ later) front rest timed
      (sym (append_assoc keeps.early keeps.since later) ∙ (ap (λ (l : List Timed). l ++ later) (sym keeps.split) ∙ cut))) [
        | inl z ↦
            let count = rows_counted w keeps.early in
            let also = rows_counted w front in
            let size = ap length z.split ∙ length-append front (timed ∷ z.tail) in
            absurd (omega (arith, late, count, also, size))
        | inr z ↦ subst (λ (v : Cluster). Calls n m v timed.row offer request → ComesBack n m (sent_by n v offer) request timed.at delay v (timed ∷ rest))
            (sym (ap (λ (l : List Timed). after_rows w (rows_in l)) z.split ∙ world_both w keeps.early z.tail))
            (λ calls_there. keeps.back z.tail rest timed offer request z.rest calls_there long) calls
      ]

  pub gets_answers : (can : GetsAnswers n m delay w (first ++ later)) × (can.number ≤ (after_rows w (rows_in first)).rows)
      × PendsSince n m can.number (after_rows w (rows_in first))
  gets_answers = (record { lists_it = keeps.lists_it; number = led.rows; above = above; back = back }, inside, keeps.pends)

-- the calls of who leads on come back
pub calls_return : (ids : List ℕ) (rows : List Row) → CallsComeBack ids rows → CallsReturnToWhoLeadsOn ids rows
calls_return ids rows back group clocks pace start n m term first later listed running in_n in_m other short calm harmless can on
    front rest timed offer request cut calls long = subst
    (λ (v : Cluster). Calls n m v timed.row offer request → ComesBack n m (sent_by n v offer) request timed.at pace.delay v (timed ∷ rest))
    (world_both (world_of ids rows) first front)
    (λ calls_then. back group clocks pace start n m term (first ++ front) rest timed offer request listed running in_n in_m (λ e. other (sym e)) short
    can.calls_it can.hears_it can.calls can.first_call can.answers can.first_answer
    (subst (AreCalm group clocks pace (no_traffic start) (world_of ids rows)) whole calm) (subst (λ (l : List Timed). DoNoHarm (world_of ids rows) (rows_in l)) whole harmless)
    (subst (Throughout (HasMemory n) (world_of ids rows)) whole can.memory) (subst (Throughout (HasMemory m) (world_of ids rows)) whole can.its_memory)
    (subst (Throughout (HasPlace m) (world_of ids rows)) whole can.place) (subst (LeadsOn n term (world_of ids rows)) whole on) calls_then long) calls
  where
    whole : first ++ later ≡ (first ++ front) ++ timed ∷ rest
    whole = ap (λ (l : List Timed). first ++ l) cut ∙ sym (append_assoc first front (timed ∷ rest))
