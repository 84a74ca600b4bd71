-- Who has settled stays settled: from where a calm begins.
use Rattle.std.proofs.Common.{◌≡◌, ◌≢◌, ℕ, List, [], ◌∷◌, ◌++◌, append_assoc, refl, sym, ◌∙◌, ap, subst}
use Rattle.raft_model.specs.Lists.{In}
use Rattle.bus_rows.specs.declared.row.Row.{Row}
use Rattle.bus_rows.specs.Timed.{Timed, rows_in}
use Rattle.service_alone.specs.Calm.{Pace, end_of}
use Rattle.service_calm.specs.Calm.{AreCalm, Member as OfMember, Party, no_traffic}
use Rattle.service_calm.specs.Calls.{Lists}
use Rattle.service_leader.specs.LeadsOn.{IsLed}
use Rattle.service_device.specs.Settled.{AllRowsLeaveItSettled, EachRowLeavesItSettled, IsCalmUnder, NobodyIsMissed}
use Rattle.service_device.proofs.SettledStays.{IsReached, harmless_first, missed_first, reach_on, row_leaves, settled_on, unasked_on}
use Rattle.service_leader.proofs.Stretches.{world_both}
use Rattle.service_device.specs.ServiceBelow.{ServiceGrounds}
use Rattle.service_calm.proofs.Grounds.{well}
use Rattle.alloc_spec.specs.ClusterMembers.{AreMembers}
use Rattle.bus_spec.specs.Cluster.{Cluster, after_rows, cluster, world_of}
use Rattle.bus_spec.specs.Lawful.{DoNoHarm}

module _ (below : ServiceGrounds) (ids : List ℕ) (members : AreMembers ids) (rows : List Row) (harmless : DoNoHarm (cluster ids) rows) where
  abbrev w : Cluster
  w = world_of ids rows

  module _ (group : List Party) (clocks : Party → ℕ) (pace : Pace) (start n term : ℕ) where
    abbrev Reached : (listed : (p : ℕ) → In (OfMember p) group → In p ids) → ℕ → Cluster → List Timed → Type 0
    Reached listed = IsReached below group clocks pace ids members listed

    module _ (first later : List Timed) (under : IsCalmUnder ids rows group clocks pace start n term first later) where
      -- where the calm begins
      begins : Reached under.listed start w (first ++ later)
      begins = record {
        rows = rows;
        reached = refl;
        harmless = harmless;
        traffic = no_traffic start;
        calm = under.calm;
        at_end = refl;
        well = well below.calm ids members rows harmless group under.listed under.running;
        flies = λ party. refl;
      }

      lists_at : (front rest : List Timed) → first ++ later ≡ front ++ rest → (m : ℕ) → In (OfMember m) group → m ≢ n → Lists n m (after_rows w (rows_in front))
      lists_at front rest cut m i apart = below.lists_stay group clocks pace (no_traffic start) n m front rest w (under.running n under.member)
          (subst (AreCalm group clocks pace (no_traffic start) w) cut under.calm) (under.lists m i apart)

    module _ (first early front rest : List Timed) (under : IsCalmUnder ids rows group clocks pace start n term first (early ++ (front ++ rest))) where
      -- the world from which on n leads, and the one behind more rows
      abbrev led_from : Cluster
      led_from = after_rows w (rows_in first)

      abbrev there : Cluster
      there = after_rows led_from (rows_in early)

      harm_first : DoNoHarm w (rows_in first) × DoNoHarm led_from (rows_in (early ++ (front ++ rest)))
      harm_first = harmless_first first (early ++ (front ++ rest)) w under.harmless

      -- what holds where these rows end
      pub harm : DoNoHarm led_from (rows_in early) × DoNoHarm there (rows_in (front ++ rest))
      harm = harmless_first early (front ++ rest) led_from harm_first.1

      pub reached : Reached under.listed (end_of (end_of start first) early) there (front ++ rest)
      reached = reach_on below group clocks pace ids members under.listed early (front ++ rest) (end_of start first) led_from
          (reach_on below group clocks pace ids members under.listed
          first (early ++ (front ++ rest)) start w (begins first (early ++ (front ++ rest)) under) harm_first.0)
          harm.0

      pub led : (a b : List Timed) → front ≡ a ++ b → IsLed group n term (after_rows there (rows_in a))
      led a b e = subst (IsLed group n term) (world_both led_from early a) (under.led (early ++ a) (b ++ rest)
          (ap (λ (l : List Timed). early ++ (l ++ rest)) e ∙ (ap (λ (l : List Timed). early ++ l) (append_assoc a b rest) ∙ sym (append_assoc early a (b ++ rest)))))

      pub missed : NobodyIsMissed n there front
      missed = (missed_first n front rest there (missed_first n early (front ++ rest) led_from under.missed).1).0

      pub lists : (m : ℕ) → In (OfMember m) group → m ≢ n → Lists n m there
      lists m i apart = subst (Lists n m) (world_both w first early)
          (lists_at first (early ++ (front ++ rest)) under (first ++ early) (front ++ rest) (sym (append_assoc first early (front ++ rest))) m i apart)

  pub each_row : EachRowLeavesItSettled ids rows
  each_row group clocks pace start n term log accepted first front rest timed under is =
      row_leaves below group clocks pace ids members under.listed
      n term log under.member (end_of (end_of start first) front) (after_rows (after_rows w (rows_in first)) (rows_in front)) timed rest
      (reached group clocks pace start n term first front (timed ∷ []) rest under)
      (harm group clocks pace start n term first front (timed ∷ []) rest under).1.0 accepted
      (led group clocks pace start n term first front (timed ∷ []) rest under [] (timed ∷ []) refl)
      (lists group clocks pace start n term first front (timed ∷ []) rest under)
      (missed group clocks pace start n term first front (timed ∷ []) rest under).0 is

  pub all_rows : AllRowsLeaveItSettled ids rows
  all_rows group clocks pace start n term log first early front rest under =
      let there = after_rows (after_rows w (rows_in first)) (rows_in early) in
      let moment = end_of (end_of start first) early in (
        λ is none. settled_on below group clocks pace ids members under.listed n term log under.member front rest moment there
            (reached group clocks pace start n term first early front rest under)
            (harmless_first front rest there (harm group clocks pace start n term first early front rest under).1).0
            (led group clocks pace start n term first early front rest under)
            (lists group clocks pace start n term first early front rest under)
            (missed group clocks pace start n term first early front rest under) none is,
        λ accepted is none. unasked_on below group clocks pace ids members under.listed n term log under.member accepted front rest moment there
            (reached group clocks pace start n term first early front rest under)
            (harmless_first front rest there (harm group clocks pace start n term first early front rest under).1).0
            (led group clocks pace start n term first early front rest under)
            (lists group clocks pace start n term first early front rest under)
            (missed group clocks pace start n term first early front rest under) none is,
      )
