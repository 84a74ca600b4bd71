-- The pair of a new device is committed in time, where followers have the leader's whole log when the calm begins.
use Rattle.std.proofs.Common.{◌≡◌, ℕ, ◌+◌, ◌*◌, ◌<◌, ◌≤◌, List, [], ◌∷◌, ◌++◌, length, append_assoc, refl, sym, ◌∙◌, ap, subst, arith}
use Rattle.can_frame.specs.declared.entry.Entry.{Entry}
use Rattle.raft_core.specs.Taken.{proposal}
use Rattle.raft_model.specs.Lists.{In}
use Rattle.bus_rows.specs.declared.row.Row.{Row}
use Rattle.alloc_spec.specs.AllocatorState.{AllocatorState}
use Rattle.service_steps.proofs.Alone.{one_longer}
use Rattle.bus_rows.specs.Timed.{Timed, rows_in}
use Rattle.service_alone.specs.Calm.{Pace, end_of}
use Rattle.service_calm.specs.Calm.{IsRunning, Party}
use Rattle.service_leader.specs.CallsComeBack.{LeadsOn}
use Rattle.service_leader.specs.Entries.{AreInStep, CallsReturnToWhoLeadsOn, EntriesAreCommittedInTime, calls_left}
use Rattle.service_leader.specs.EntriesBelow.{EntryLaws}
use Rattle.service_leader.specs.NoElection.{CallsFit}
use Rattle.service_leader.proofs.EntriesPremises.{in_step_goes, in_step_left, in_step_on, none_since}
use Rattle.service_leader.proofs.EntriesRows.{leads_if_up, leads_throughout, led_from_start}
use Rattle.service_leader.proofs.Stretches.{world_both}
use Rattle.service_device.specs.AskingServed.{CanCommitWith}
use Rattle.service_device.specs.Dialog.{time_to_be_heard}
use Rattle.service_device.specs.Served.{HasCommittedBy, HasFollowers, IsCommittedPairBy, IsRecordedBy, LeadersLoseNothing, time_to_be_committed}
use Rattle.service_device.specs.Settled.{IsCalmUnder}
use Rattle.service_device.proofs.LosesNothing.{CommitsStay, LogGrows, log_grows}
use Rattle.service_device.proofs.ServedCommitted.{as_recorded}
use Rattle.bus_spec.specs.Cluster.{Cluster, after_rows, world_of}
use Rattle.bus_spec.specs.Members.MemberStatus.{Up}

-- followers that have the whole log when the calm begins, and are in step then
module _ (ids : List ℕ) (rows : List Row) (committed : EntriesAreCommittedInTime ids rows) (return : CallsReturnToWhoLeadsOn ids rows) (lose : LeadersLoseNothing ids rows) (laws : EntryLaws ids rows)
    (group : List Party) (clocks : Party → ℕ) (pace : Pace) (start n term : ℕ) (whole : List Timed) (under : IsCalmUnder ids rows group clocks pace start n term [] whole)
    (fits : CallsFit n (world_of ids rows) whole) (stays : CommitsStay n (world_of ids rows) whole) (quick : pace.period + 4 * pace.delay ≤ 100) (log : List Entry)
    (ahead : ℕ) (uid : List ℕ) (one : ℕ) (next : List ℕ) (followers : HasFollowers ids group n (length log) (one ∷ next) (world_of ids rows) whole)
    (long : start + time_to_be_committed pace < end_of start whole)
    (by : IsRecordedBy ids n term log ahead uid start (start + time_to_be_heard pace) (world_of ids rows) whole) where
  abbrev w : Cluster
  w = world_of ids rows

  at_start : IsRunning n w
  at_start = under.running n under.member

  leads_on : LeadsOn n term w whole
  leads_on = leads_throughout group n term w whole under.led

  grows_on : LogGrows n w whole
  grows_on = log_grows ids rows laws group clocks pace start n term [] whole under fits

  can : CanCommitWith ids group n pace.delay (one ∷ next) w [] whole
  can = record {
    apart = followers.apart;
    many = followers.many;
    calling = λ m i. record {
      lists_it = (followers.exchange m i).calls_it;
      early = [];
      since = [];
      split = refl;
      back = return group clocks pace start n m term [] whole under.listed under.running under.member (followers.apart m i).0 (followers.apart m i).1
          (omega (arith, quick)) under.calm under.harmless (followers.exchange m i) leads_on;
      pends = none_since n m w.rows w (followers.none_pends m i);
      goes_on = in_step_goes n m w (followers.in_step m i);
    };
  }

  early : List Timed
  early = by.front ++ by.timed ∷ []

  cut : whole ≡ early ++ by.rest
  unfolding early
  cut = by.split ∙ sym (append_assoc by.front (by.timed ∷ []) by.rest)

  abbrev leader : AllocatorState
  leader = by.recorded.server

  runs_then : ((after_rows w (rows_in early)).member n).status ≡ Up leader
  unfolding early
  runs_then = subst (λ (v : Cluster). (v.member n).status ≡ Up leader) (sym (world_both w by.front (by.timed ∷ []))) by.recorded.runs

  -- nothing that it knew is lost
  known : (m : ℕ) → In m (one ∷ next) → length leader.raft_server.store.log ≤ leader.raft_server.memory.matched m + 1
  known m i =
      let lost = lose group clocks pace start n m term [] early by.rest at_start.server leader
      (subst (IsCalmUnder ids rows group clocks pace start n term []) cut under) (subst (CallsFit n w) cut fits) (followers.apart m i).0 (followers.apart m i).1
      (followers.in_step m i) at_start.runs runs_then in
      let had = followers.have m i at_start.server at_start.runs in
      let kept = lost.1 in
      omega (arith, had, kept, ap length by.recorded.its_log, one_longer log (proposal term uid by.node))

  -- the followers are in step still
  in_step : (m : ℕ) → In m (one ∷ next) → AreInStep n m (after_rows w (rows_in early))
  in_step m i = in_step_on ids rows laws group clocks pace start n term whole
      (led_from_start ids rows group clocks pace start n term whole under.listed under.running under.member under.calm under.harmless under.led fits)
      (leads_if_up n term w (under.led [] whole refl).leader) m (followers.in_step m i) early by.rest cut

  left : (m : ℕ) → In m (one ∷ next) → calls_left leader m ≤ 1
  left m i = in_step_left n m 1 (after_rows w (rows_in early)) (in_step m i) leader runs_then (known m i)

  pub new_is_committed : HasCommittedBy n term (log ++ proposal term uid by.node ∷ []) start (start + time_to_be_committed pace) w whole
  new_is_committed = as_recorded ids rows committed group clocks pace start n term [] [] whole under fits one next can (omega (arith, quick)) stays
      (λ front rest cut. (under.led front rest cut).leader) grows_on log ahead uid 1 (start + time_to_be_heard pace) by left (omega (arith, long))
      (start + time_to_be_committed pace) (omega arith)

  pub is_committed_pair : IsCommittedPairBy ids n term log uid start (start + time_to_be_committed pace) w whole
  is_committed_pair = record { node = by.node; left = by.left; committed = new_is_committed }
