-- That a leader's entries come in time, from the laws of calls and of steps.
use Rattle.std.proofs.Common.{◌≡◌, ◌≢◌, ℕ, ◌+◌, ◌*◌, ◌<◌, ◌≤◌, List, [], ◌∷◌, ◌++◌, length, append_assoc, append-nil, refl, sym, ◌∙◌, ap, subst, arith}
use Rattle.std.proofs.lemmas.List.{append_cancel_left}
use Rattle.can_frame.specs.Timing.{call_timeout}
use Rattle.raft_model.specs.Lists.{In}
use Rattle.raft_model.proofs.Lists.{same_less}
use Rattle.bus_rows.specs.declared.row.Row.{Row}
use Rattle.alloc_spec.specs.AllocatorState.{AllocatorState}
use Rattle.bus_agreement.proofs.Concatenations.{first_harmless}
use Rattle.bus_rows.specs.Timed.{Timed, rows_in}
use Rattle.service_alone.specs.Calm.{Pace, end_of}
use Rattle.service_alone.proofs.Goes.{after_both}
use Rattle.service_calm.specs.Calm.{AreCalm, AreRunning, Member as OfMember, Party, no_traffic}
use Rattle.service_leader.specs.CallsComeBack.{LeadsIfUp}
use Rattle.service_leader.specs.Entries.{GoesOnCalling, HasComeBy, PendsSince, calls_left, come_within}
use Rattle.service_leader.specs.LeadsOn.{FollowsWithin, IsLed, IsLedThroughout, LeadsIn}
use Rattle.service_leader.specs.NoElection.{CallsFit}
use Rattle.service_leader.proofs.EntriesComing.{cut_row}
use Rattle.service_leader.proofs.EntriesReturn.{GetsAnswers}
use Rattle.service_leader.specs.EntriesBelow.{EntryLaws, HasWhatIsKnown}
use Rattle.service_leader.proofs.EntriesRows.{IsLedCalm, leads_if_up}
use Rattle.service_leader.proofs.EntriesStart.{Done, comes}
use Rattle.service_leader.proofs.Stretches.{end_both, end_last, rows_both, world_both}
use Rattle.bus_spec.specs.Cluster.{Cluster, after_rows, cluster, world_of}
use Rattle.bus_spec.specs.Lawful.{DoNoHarm}
use Rattle.bus_spec.specs.Members.MemberStatus.{Up}

-- a calm in which a member leads from some rows on
pub is_led_calm : (ids : List ℕ) (rows : List Row) (group : List Party) (clocks : Party → ℕ) (pace : Pace) (start n term : ℕ) (first later : List Timed)
    → ((p : ℕ) → In (OfMember p) group → In p ids) → AreRunning group (world_of ids rows) → In (OfMember n) group
    → AreCalm group clocks pace (no_traffic start) (world_of ids rows) (first ++ later) → DoNoHarm (world_of ids rows) (rows_in (first ++ later))
    → IsLedThroughout group n term (after_rows (world_of ids rows) (rows_in first)) later
    → CallsFit n (world_of ids rows) (first ++ later) → IsLedCalm ids rows group clocks pace start n term (first ++ later)
is_led_calm ids rows group clocks pace start n term first later listed running member calm harmless led fit = record {
  listed = listed;
  running = running;
  member = member;
  calm = calm;
  harmless = harmless;
  at_end = subst (LeadsIfUp n term) (sym (world_both (world_of ids rows) first later))
      (leads_if_up n term (after_rows (after_rows (world_of ids rows) (rows_in first)) (rows_in later)) (led later [] (sym (append-nil later))).leader);
  fit = fit;
}

module _ (ids : List ℕ) (rows : List Row) (laws : EntryLaws ids rows) (group : List Party) (clocks : Party → ℕ) (pace : Pace) (start n term : ℕ)
    (first later : List Timed) (calm : IsLedCalm ids rows group clocks pace start n term (first ++ later))
    (led : IsLedThroughout group n term (after_rows (world_of ids rows) (rows_in first)) later) where
  abbrev w : Cluster
  w = world_of ids rows

  abbrev whole : List Timed
  whole = first ++ later

  abbrev there : Cluster
  there = after_rows w (rows_in first)

  -- the leader leads behind the first rows
  pub leading : LeadsIfUp n term there
  leading = leads_if_up n term there (led [] later refl).leader

  -- it is led behind each front that goes on behind them
  pub led_behind : (c b : List Timed) → whole ≡ (first ++ c) ++ b → IsLed group n term (after_rows w (rows_in (first ++ c)))
  led_behind c b cut = subst (IsLed group n term) (sym (world_both w first c))
      (led c b (append_cancel_left first later (c ++ b) (cut ∙ append_assoc first c b)))

  module _ (m : ℕ) (in_m : In (OfMember m) group) (other : m ≢ n) (short : 4 * pace.delay < call_timeout) (can : GetsAnswers n m pace.delay w whole)
      (late : can.number ≤ there.rows) (since : PendsSince n m can.number there) (goes : GoesOnCalling n m there) where
    -- what is known behind a step of the leader, and then is there: it is said from behind the first rows on
    come_from_there : (e : List Timed) (count last : ℕ)
        → Done ids rows laws group clocks pace start n term whole calm m in_m other short can first leading late since goes (first ++ e) count last
        → HasComeBy n m count last (end_of start first) there later
    come_from_there e count last done = record {
      front = front;
      rest = done.rest;
      split = cut;
      soon = let ends = end_last start done.before done.row in let soon = done.soon in let same = ap (end_of start) behind in
          let both = end_both start first front in omega (arith, ends, soon, same, both);
      leader = leads.server;
      leads = leads.runs;
      peer = follows.server;
      runs = follows.runs;
      known = known;
      has = same_less count (leads.server.raft_server.memory.matched m) leads.server.raft_server.store.log follows.server.raft_server.store.log known
          (subst (HasWhatIsKnown ids) (after_both (cluster ids) rows (rows_in done_rows) ∙ same_world) (laws.has (rows_in done_rows) harmless) n m leads.server follows.server
          (calm.listed n calm.member) (calm.listed m in_m) other leads.runs follows.runs leads.leads
          (let low = follows.its_term in let e = leads.its_term in omega (arith, low, e)));
    }
      where
        front : List Timed
        front = e ++ done.tail

        done_rows : List Timed
        done_rows = done.before ++ done.row ∷ []

        split : whole ≡ done_rows ++ done.rest
        split = cut_row ids rows laws group clocks pace start n term whole calm m in_m other short can done.before done.rest done.row done.cut

        behind : done_rows ≡ first ++ front
        behind = done.behind ∙ append_assoc first e done.tail

        cut : later ≡ front ++ done.rest
        cut = append_cancel_left first later (front ++ done.rest) (split ∙ ap (λ (l : List Timed). l ++ done.rest) behind ∙ append_assoc first front done.rest)

        same_world : after_rows w (rows_in done_rows) ≡ after_rows there (rows_in front)
        same_world = ap (λ (l : List Timed). after_rows w (rows_in l)) behind ∙ world_both w first front

        led_then : IsLed group n term (after_rows there (rows_in front))
        led_then = led front done.rest cut

        leads : LeadsIn n term (after_rows there (rows_in front))
        leads = led_then.leader

        follows : FollowsWithin m term (after_rows there (rows_in front))
        follows = led_then.others m in_m other

        known : count ≤ leads.server.raft_server.memory.matched m
        known = done.known leads.server (subst (λ (v : Cluster). (v.member n).status ≡ Up leads.server) (sym same_world) leads.runs)

        harmless : DoNoHarm w (rows_in done_rows)
        harmless = first_harmless w (rows_in done_rows) (rows_in done.rest) (subst (DoNoHarm w) (ap rows_in split ∙ rows_both done_rows done.rest) calm.harmless)

    pub come_in_time : (front rest : List Timed) → later ≡ front ++ rest → (leader : AllocatorState)
        → ((after_rows there (rows_in front)).member n).status ≡ Up leader → (more : ℕ)
        → calls_left leader m ≤ more → end_of (end_of start first) front + come_within pace more < end_of start whole
        → HasComeBy n m (length leader.raft_server.store.log) (end_of (end_of start first) front + come_within pace more) (end_of start first) there later
    come_in_time front rest cut leader up more few long = subst (λ (k : ℕ). HasComeBy n m (length leader.raft_server.store.log) (k + come_within pace more) (end_of start first) there later)
        (end_both start first front)
        (come_from_there front (length leader.raft_server.store.log) (end_of start (first ++ front) + come_within pace more)
        (comes ids rows laws group clocks pace start n term whole calm m in_m other short can first leading late since goes front rest
        (ap (λ (l : List Timed). first ++ l) cut ∙ sym (append_assoc first front rest)) leader
        (subst (λ (v : Cluster). (v.member n).status ≡ Up leader) (sym (world_both w first front)) up) more few
        (let e = end_both start first front in omega (arith, e, long))))
