-- A cluster of members only comes back in time, whatever state its members are in.
use Rattle.std.proofs.Common.{◌≡◌, ℕ, ◌+◌, ◌*◌, ◌<◌, arith, List, [], ◌++◌, length, append_assoc, append-nil, sym, ◌∙◌, ap, subst}
use Rattle.bus_rows.specs.declared.row.Row.{Row}
use Rattle.bus_rows.specs.Timed.{Timed, rows_in}
use Rattle.service_alone.specs.Calm.{HasSettled, Pace, end_of}
use Rattle.service_calm.specs.Calm.{Member as OfMember, Party}
use Rattle.service_leader.specs.NoElection.{heard_within}
use Rattle.service_leader.proofs.Stretches.{end_both, world_both}
use Rattle.service_cluster.specs.ComeBack.{ClustersComeBack, IsBackBy, IsCalmOfFit, SettlesBy, back_within}
use Rattle.service_cluster.specs.Restart.{settled_within}
use Rattle.service_cluster.proofs.Fronts.{asks_rest}
use Rattle.service_device.proofs.SettlesLaw.{settles_unasked}
use Rattle.service_cluster.proofs.BackFronts.{FirstLater}
use Rattle.service_cluster.proofs.BackGiven.{BackGiven, Scene, there, w0}
use Rattle.service_cluster.proofs.BackScenes.{has_called, scene}
use Rattle.service_cluster.proofs.BackSettles.{calm_cut, cut_all, log, none_due, settles_or_grows}
use Rattle.service_elections.specs.Rounds.{LeadersCome, led_within}
use Rattle.service_elections.specs.Running.{IsLedBy}
use Rattle.service_device.specs.Settled.{NobodyAsks}
use Rattle.service_device.specs.Settles.{HasSettledBy}
use Rattle.service_device.specs.Tidy.{AreMembersOnly, MembersAskNobody}
use Rattle.bus_spec.specs.Cluster.{Cluster, after_rows, world_of}

-- in the later rows nobody asks the leader
none_asks : (g : Scene) → MembersAskNobody g.ids g.rows → AreMembersOnly g.group → (first later : List Timed) → g.whole ≡ first ++ later
    → NobodyAsks g.n (there g first) later
none_asks g nobody only first later cut = asks_rest g.n first later (w0 g) (subst (NobodyAsks g.n (w0 g)) cut all)
  where
    no_more : g.whole ≡ g.whole ++ []
    no_more = sym (append-nil g.whole)

    all : NobodyAsks g.n (w0 g) g.whole
    all = nobody g.group g.clocks g.pace g.start g.n g.whole [] g.calm.calm.listed only (calm_cut g g.whole [] no_more) (none_due g) g.calm.none_waits

module _ (ids : List ℕ) (rows : List Row) (given : BackGiven ids rows) (come : LeadersCome ids rows) (nobody : MembersAskNobody ids rows) (group : List Party)
    (clocks : Party → ℕ) (pace : Pace) (start longest : ℕ) (whole : List Timed) (k : IsCalmOfFit ids rows group clocks pace start longest whole) (only : AreMembersOnly group)
    (long : start + back_within pace (length ids) longest < end_of start whole) where
  long_led : start + led_within pace (length ids) < end_of start whole
  long_led = omega (arith, long)

  abbrev led : IsLedBy group clocks pace start (start + led_within pace (length ids)) (world_of ids rows) whole
  led = come group clocks pace start whole k.calm long_led

  abbrev g : Scene
  g = scene ids rows given group clocks pace start whole longest k led

  module _ (f : FirstLater pace.period (end_of start led.front) (end_of start led.front + heard_within pace + 2 * pace.delay) led.rest) where
    long_settled : end_of start (led.front ++ f.front) + settled_within pace longest < end_of start whole
    long_settled = let e = end_both start led.front f.front in let a = f.near in let b = led.soon in omega (arith, e, a, b, long)

    settles : HasSettledBy g.n g.term (log g f.front f.rest f.split f.late) (clocks (OfMember g.n)) (end_of start (led.front ++ f.front))
        (end_of start (led.front ++ f.front) + settled_within pace longest) (there g (led.front ++ f.front)) f.rest
    settles = settles_unasked g.n g.term (log g f.front f.rest f.split f.late) (clocks (OfMember g.n)) (end_of start (led.front ++ f.front))
        (end_of start (led.front ++ f.front) + settled_within pace longest) (there g (led.front ++ f.front)) f.rest
        (none_asks g nobody only (led.front ++ f.front) f.rest (cut_all g f.front f.rest f.split)) (settles_or_grows g f.front f.rest f.split f.late long_settled)

    same_end : end_of (end_of start led.front) (f.front ++ settles.front) ≡ end_of (end_of start (led.front ++ f.front)) settles.front
    same_end = end_both (end_of start led.front) f.front settles.front ∙ ap (λ (m : ℕ). end_of m settles.front) (sym (end_both start led.front f.front))

    same_world : after_rows (after_rows (world_of ids rows) (rows_in led.front)) (rows_in (f.front ++ settles.front))
        ≡ after_rows (there g (led.front ++ f.front)) (rows_in settles.front)
    same_world = world_both (there g led.front) f.front settles.front
        ∙ ap (λ (v : Cluster). after_rows v (rows_in settles.front)) (sym (world_both (world_of ids rows) led.front f.front))

    back : SettlesBy led.n (clocks (OfMember led.n)) (end_of start led.front) (start + back_within pace (length ids) longest)
        (after_rows (world_of ids rows) (rows_in led.front)) led.rest
    back = record {
      front = f.front ++ settles.front;
      rest = settles.rest;
      split = f.split ∙ (ap (λ (l : List Timed). f.front ++ l) settles.split ∙ sym (append_assoc f.front settles.front settles.rest));
      soon =
          let e = same_end in
          let d = end_both start led.front f.front in
          let a = f.near in
          let b = led.soon in
          let q = settles.soon in omega (arith, e, d, a, b, q);
      log = settles.log_then;
      settled = subst (λ (m : ℕ). HasSettled led.n settles.log_then (m + clocks (OfMember led.n))
          (after_rows (after_rows (world_of ids rows) (rows_in led.front)) (rows_in (f.front ++ settles.front)))) (sym same_end)
          (subst (HasSettled led.n settles.log_then (end_of (end_of start (led.front ++ f.front)) settles.front + clocks (OfMember led.n))) (sym same_world) settles.settled);
    }

  pub is_back : IsBackBy group clocks pace start (start + led_within pace (length ids)) (start + back_within pace (length ids) longest) (world_of ids rows) whole
  is_back = record { led = led; settles = back (has_called g (let b = led.soon in omega (arith, b, long))) }

-- the law
pub clusters_come_back : (ids : List ℕ) (rows : List Row) → BackGiven ids rows → LeadersCome ids rows → MembersAskNobody ids rows → ClustersComeBack ids rows
clusters_come_back ids rows given come nobody group clocks pace start longest whole k only long =
    is_back ids rows given come nobody group clocks pace start longest whole k only long
