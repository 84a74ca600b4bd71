-- Where a member is in step with a leader, and no call to it pends, when a calm begins: what the laws of entries ask of the
-- two, and that the member stays in step.
use Rattle.std.proofs.Common.{◌≡◌, ℕ, ◌+◌, ◌≤◌, List, [], ◌++◌, length, refl, sym, ◌∙◌, ap, inr, arith}
use Rattle.bus_rows.specs.declared.row.Row.{Row}
use Rattle.alloc_spec.specs.AllocatorState.{AllocatorState}
use Rattle.bus_rows.specs.Timed.{Timed, rows_in}
use Rattle.service_alone.specs.Calm.{Pace}
use Rattle.service_calm.specs.Calm.{Party}
use Rattle.service_calm.proofs.Pair.{same_server}
use Rattle.service_leader.specs.CallsComeBack.{LeadsIfUp}
use Rattle.service_leader.specs.Entries.{AreInStep, GoesOnCalling, NoCallPends, PendsSince, calls_left}
use Rattle.service_leader.specs.EntriesBelow.{EntryLaws}
use Rattle.service_leader.proofs.EntriesRows.{IsLedCalm, goes_on}
use Rattle.bus_spec.specs.Cluster.{Cluster, after_rows, world_of}
use Rattle.bus_spec.specs.Members.MemberStatus.{Up}

-- where no call pends, each that pends was made behind any step
pub none_since : (n m number : ℕ) (w : Cluster) → NoCallPends n m w → PendsSince n m number w
none_since n m number w none leader request up pends = absurd (cc (sym (none leader up) ∙ pends))

-- a leader goes on calling a member that is in step
pub in_step_goes : (n m : ℕ) (w : Cluster) → AreInStep n m w → GoesOnCalling n m w
in_step_goes n m w in_step leader up = inr (let next = in_step leader up in omega (arith, next))

-- no more calls are left to such a member than it lacks places, as far as the leader knows
pub in_step_left : (n m more : ℕ) (w : Cluster) → AreInStep n m w → (leader : AllocatorState) → (w.member n).status ≡ Up leader
    → length leader.raft_server.store.log ≤ leader.raft_server.memory.matched m + more → calls_left leader m ≤ more
in_step_left n m more w in_step leader up few = let next = in_step leader up in omega (arith, next, few)

-- such a member stays in step as long as the leader leads
module _ (ids : List ℕ) (rows : List Row) (laws : EntryLaws ids rows) (group : List Party) (clocks : Party → ℕ) (pace : Pace) (start n term : ℕ)
    (whole : List Timed) (calm : IsLedCalm ids rows group clocks pace start n term whole) (leads : LeadsIfUp n term (world_of ids rows)) (m : ℕ)
    (in_step : AreInStep n m (world_of ids rows)) where
  abbrev w : Cluster
  w = world_of ids rows

  abbrev t : AllocatorState
  t = (calm.running n calm.member).server

  pub in_step_on : (front rest : List Timed) → whole ≡ front ++ rest → AreInStep n m (after_rows w (rows_in front))
  in_step_on front rest cut leader up =
      let few = (goes_on ids rows laws group clocks pace start n term whole calm m 0 [] 0 (t.raft_server.memory.next m) front [] rest cut
      (λ u is_up. record {
        its_term = (leads u is_up).1;
        leads = (leads u is_up).0;
        matched_is = omega arith;
        few = let next = in_step u is_up in omega (arith, next);
        near = let same = ap (λ (s : AllocatorState). s.raft_server.memory.next m) (same_server t u (sym (calm.running n calm.member).runs ∙ is_up)) in omega (arith, same);
        more = u.raft_server.store.log;
        log_is = refl;
      }) leader up).few in
      omega (arith, few)
