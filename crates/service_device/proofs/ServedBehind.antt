-- A calm in which a member leads behind its first rows: it leads behind more of them; and what it has committed stays so.
use Rattle.std.proofs.Common.{◌≡◌, ℕ, ◌≤◌, List, [], ◌++◌, length, append_assoc, sym, ◌∙◌, ap, subst}
use Rattle.bus_rows.specs.declared.row.Row.{Row}
use Rattle.alloc_spec.specs.AllocatorState.{AllocatorState}
use Rattle.bus_rows.specs.Timed.{Timed, rows_in}
use Rattle.service_alone.specs.Calm.{Pace}
use Rattle.service_calm.specs.Calm.{AreCalm, IsRunning, Party, no_traffic}
use Rattle.service_leader.specs.LeadsOn.{IsLed}
use Rattle.service_alone.proofs.Goes.{after_both}
use Rattle.service_leader.proofs.Stretches.{harmless_both, world_both}
use Rattle.service_device.specs.Settled.{IsCalmUnder, NobodyIsMissed}
use Rattle.service_device.proofs.AllocationsTold.{VerdictsAre}
use Rattle.service_device.proofs.LosesNothing.{CommitsStay}
use Rattle.service_device.proofs.SettledStays.{harmless_first, missed_first}
use Rattle.service_device.proofs.SettlesFrom.{carry}
use Rattle.service_device.proofs.SettlesKnown.{HasCommitted, commit_kept}
use Rattle.bus_spec.specs.Cluster.{Cluster, after_rows, cluster, world_of}
use Rattle.bus_spec.specs.Lawful.{DoNoHarm}
use Rattle.bus_spec.specs.Members.MemberStatus.{Up}

-- the rows up to a front of those that do no harm do none
pub harmless_to : (ids : List ℕ) (rows : List Row) (whole : List Timed) → DoNoHarm (cluster ids) rows → DoNoHarm (world_of ids rows) (rows_in whole)
    → (front rest : List Timed) → whole ≡ front ++ rest → DoNoHarm (cluster ids) (rows ++ rows_in front)
harmless_to ids rows whole harmless fine front rest cut = harmless_both (cluster ids) rows (rows_in front) harmless
    (harmless_first front rest (world_of ids rows) (subst (λ (l : List Timed). DoNoHarm (world_of ids rows) (rows_in l)) cut fine)).0

-- who runs behind a front runs in the world of all rows up to it
pub up_to : (ids : List ℕ) (rows : List Row) (n : ℕ) (front : List Timed) (t : AllocatorState)
    → ((after_rows (world_of ids rows) (rows_in front)).member n).status ≡ Up t → ((world_of ids (rows ++ rows_in front)).member n).status ≡ Up t
up_to ids rows n front t = subst (λ (v : Cluster). (v.member n).status ≡ Up t) (sym (after_both (cluster ids) rows (rows_in front)))

-- more rows are first ones
pub under_behind : (ids : List ℕ) (rows : List Row) (group : List Party) (clocks : Party → ℕ) (pace : Pace) (start n term : ℕ) (first early later : List Timed)
    → IsCalmUnder ids rows group clocks pace start n term first (early ++ later) → IsCalmUnder ids rows group clocks pace start n term (first ++ early) later
under_behind ids rows group clocks pace start n term first early later under = record {
  listed = under.listed;
  running = under.running;
  member = under.member;
  calm = subst (AreCalm group clocks pace (no_traffic start) w) (sym (append_assoc first early later)) under.calm;
  harmless = subst (λ (l : List Timed). DoNoHarm w (rows_in l)) (sym (append_assoc first early later)) under.harmless;
  led = λ front rest cut. subst (IsLed group n term) (world_both led_from early front ∙ ap (λ (v : Cluster). after_rows v (rows_in front)) same)
      (under.led (early ++ front) rest (ap (λ (l : List Timed). early ++ l) cut ∙ sym (append_assoc early front rest)));
  lists = under.lists;
  missed = subst (λ (v : Cluster). NobodyIsMissed n v later) same (missed_first n early later led_from under.missed).1;
}
  where
    w : Cluster
    w = world_of ids rows

    led_from : Cluster
    led_from = after_rows w (rows_in first)

    same : after_rows led_from (rows_in early) ≡ after_rows w (rows_in (first ++ early))
    same = sym (world_both w first early)

-- a commit does not go back
pub commits_stay : VerdictsAre → (w : Cluster) (group : List Party) (clocks : Party → ℕ) (pace : Pace) (start n : ℕ) (whole : List Timed)
    → AreCalm group clocks pace (no_traffic start) w whole → IsRunning n w
    → ((front rest : List Timed) (t : AllocatorState) → whole ≡ front ++ rest → ((after_rows w (rows_in front)).member n).status ≡ Up t
    → t.raft_server.store.commit ≤ length t.raft_server.store.log) → CommitsStay n w whole
commits_stay judged w group clocks pace start n whole calm running sane front middle rest before after least cut up then_up low =
    (carry w group clocks pace start n [] whole calm running (λ (s : AllocatorState). HasCommitted judged least s.raft_server) (commit_kept judged least)
    front middle rest cut before up (record { sane = sane front (middle ++ rest) before cut up; commit = low }) after then_up).commit
