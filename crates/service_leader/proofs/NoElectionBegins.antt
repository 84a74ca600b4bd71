-- What is asked of a calm when it begins, and behind its first rows, is what is asked of the world behind these: so from
-- there on no election comes.
use Rattle.std.proofs.Common.{◌≡◌, ◌≢◌, ℕ, ◌+◌, ◌*◌, ◌<◌, ◌≤◌, arith, List, ◌∷◌, ◌++◌, refl, sym, ◌∙◌, ap, subst}
use Rattle.std.proofs.lemmas.List.{append_assoc}
use Rattle.can_frame.specs.Timing.{election_wait, transfer_timeout}
use Rattle.raft_model.specs.Lists.{In}
use Rattle.bus_rows.specs.declared.row.Row.{Row}
use Rattle.alloc_spec.specs.AllocatorState.{AllocatorState}
use Rattle.alloc_spec.specs.Transfers.{id_of}
use Rattle.bus_agreement.proofs.Concatenations.{first_harmless}
use Rattle.service_steps.specs.InTime.{FramesLeaveFollowers, StaysFollower}
use Rattle.bus_rows.specs.Timed.{Timed, rows_in}
use Rattle.service_alone.specs.Calm.{Pace, end_of}
use Rattle.service_alone.proofs.Goes.{after_both}
use Rattle.service_calm.specs.Calls.{Calls, CallsAreHeard, HearsCallBy}
use Rattle.service_calm.specs.Calm.{AreCalm, AreRunning, Member as OfMember, Party, no_traffic}
use Rattle.can_frame.specs.declared.step.What.TheVariants.{AppQ}
use Rattle.service_calm.specs.Comes.{AreReady, HasMemory, MayComeFirst, Throughout, sent_by}
use Rattle.service_leader.specs.LeadsOn.{IsLed, LeadersLeadOn}
use Rattle.service_leader.specs.NoElection.{CallsFit, ClocksGoOn, NoElection, WillHear, greatest_wait, heard_within}
use Rattle.service_calm.proofs.CallsKept.{RunsWith}
use Rattle.service_calm.proofs.Pair.{same_server}
use Rattle.service_leader.proofs.NextCall.{CallLaws, HasRead, HearsCalls, runs_at}
use Rattle.service_leader.proofs.NoElection.{Begins, CanHear, no_election}
use Rattle.service_leader.proofs.Stretches.{GoesOnFrom, calm_front, calm_rest, harmless_rest, rows_both, throughout_front, world_both}
use Rattle.bus_spec.specs.Cluster.{Cluster, after_rows, cluster, world_of}
use Rattle.bus_spec.specs.Lawful.{DoNoHarm}
use Rattle.bus_spec.specs.Members.MemberStatus.{Up}

-- ---- a call behind the first rows comes as any call of the calm does

module _ (ids : List ℕ) (rows : List Row) (hear : CallsAreHeard ids rows) (group : List Party) (clocks : Party → ℕ) (pace : Pace) (start : ℕ)
    (listed : (p : ℕ) → In (OfMember p) group → In p ids) (running : AreRunning group (world_of ids rows)) (n m : ℕ) (in_n : In (OfMember n) group)
    (in_m : In (OfMember m) group) (differs : m ≢ n) (first later : List Timed) (quick : 2 * pace.delay ≤ transfer_timeout)
    (ready : AreReady n m AppQ m (world_of ids rows)) (first_call : MayComeFirst n AppQ m ready.receiver (id_of ready.sender.ids AppQ m))
    (memory : Throughout (HasMemory m) (world_of ids rows) (first ++ later))
    (calm : AreCalm group clocks pace (no_traffic start) (world_of ids rows) (first ++ later)) where
  cut_at : (front rest a b : List Timed) (x : Timed) → later ≡ front ++ rest → front ≡ a ++ x ∷ b → first ++ later ≡ ((first ++ a) ++ x ∷ b) ++ rest
  cut_at front rest a b x cut split = ap (λ (l : List Timed). first ++ l) (cut ∙ ap (λ (l : List Timed). l ++ rest) split)
      ∙ (sym (append_assoc first (a ++ x ∷ b) rest) ∙ ap (λ (l : List Timed). l ++ rest) (sym (append_assoc first a (x ∷ b))))

  pub hears_in_time : (front rest : List Timed) → later ≡ front ++ rest
      → HearsCalls clocks pace n m (after_rows (world_of ids rows) (rows_in first)) front
  hears_in_time front rest cut a b x offer request split calls long =
      let w = world_of ids rows in
      subst
      (λ (v : Cluster). HearsCallBy m (clocks (OfMember m)) (sent_by n v offer) request (x.at + 2 * pace.delay) v (x ∷ b))
      (world_both w first a)
      (hear group clocks pace start n m (first ++ a) b x offer request listed running in_n in_m (λ e. differs (sym e)) quick ready first_call
      (calm_front group clocks pace ((first ++ a) ++ x ∷ b) rest (no_traffic start) w
      (subst (AreCalm group clocks pace (no_traffic start) w) (cut_at front rest a b x cut split) calm))
      (throughout_front (HasMemory m) ((first ++ a) ++ x ∷ b) rest w
      (subst (Throughout (HasMemory m) w) (cut_at front rest a b x cut split) memory))
      (subst (λ (v : Cluster). Calls n m v x.row offer request) (sym (world_both w first a)) calls) long)

module _ (ids : List ℕ) (rows : List Row) (laws : CallLaws ids rows) (hear : CallsAreHeard ids rows) (leads_on : LeadersLeadOn ids rows)
    (group : List Party) (clocks : Party → ℕ) (pace : Pace) (start : ℕ)
    (listed : (p : ℕ) → In (OfMember p) group → In p ids) (running : AreRunning group (world_of ids rows))
    (server_me : (p : ℕ) → In (OfMember p) group → (server : AllocatorState) → ((world_of ids rows).member p).status ≡ Up server → server.me ≡ p)
    (clocks_go : ClocksGoOn group clocks start (world_of ids rows)) (n term : ℕ) (in_n : In (OfMember n) group) (first later : List Timed)
    (is_led : IsLed group n term (after_rows (world_of ids rows) (rows_in first))) (short : greatest_wait pace < election_wait)
    (will : (m : ℕ) → In (OfMember m) group → m ≢ n
    → WillHear n m (end_of start first + clocks (OfMember m) + heard_within pace) (world_of ids rows) first later)
    (calm : AreCalm group clocks pace (no_traffic start) (world_of ids rows) (first ++ later))
    (harmless : DoNoHarm (world_of ids rows) (rows_in (first ++ later)))
    (fits : CallsFit n (after_rows (world_of ids rows) (rows_in first)) later) where
  abbrev w : Cluster
  w = world_of ids rows

  abbrev there : Cluster
  there = after_rows w (rows_in first)

  abbrev moment : ℕ
  moment = end_of start first

  quick : 2 * pace.delay ≤ transfer_timeout
  quick = omega (arith, short)

  from : GoesOnFrom group clocks pace start w (first ++ later)
  from = record { traffic = no_traffic start; calm = calm; at_end = refl; ticked = λ party. omega arith }

  run : (p : ℕ) → In (OfMember p) group → RunsWith (HasRead p (moment + clocks (OfMember p))) (there.member p)
  run p i = runs_at ids rows laws group clocks pace start running server_me clocks_go p i first later from

  is_run : (p : ℕ) (i : In (OfMember p) group) (server : AllocatorState) → (there.member p).status ≡ Up server
      → HasRead p (moment + clocks (OfMember p)) server
  is_run p i server up = subst (HasRead p (moment + clocks (OfMember p)))
      (same_server (run p i).server server (sym (run p i).up.status ∙ up)) (run p i).holds

  -- ---- what each other member hears

  module _ (m : ℕ) (in_m : In (OfMember m) group) (differs : m ≢ n) where
    its : WillHear n m (moment + clocks (OfMember m) + heard_within pace) w first later
    its = will m in_m differs

    can_hear : CanHear group clocks pace moment n term later m there
    can_hear = record {
      calls = laws.stay group clocks pace (no_traffic start) n m first later w (running n in_n) calm its.calls;
      hears = laws.stay group clocks pace (no_traffic start) m n first later w (running m in_m) calm its.hears;
      in_time = hears_in_time ids rows hear group clocks pace start listed running n m in_n in_m differs first later quick its.ready its.first_call its.memory calm;
      waits = its.waits;
    }

  -- ---- the world behind the first rows

  begins : Begins group clocks pace moment n term later there
  begins = record {
    running = λ p i. record {
      server = (run p i).server;
      runs = (run p i).up.status;
      faults = (run p i).up.quiet.faults;
      disk = (run p i).up.quiet.calls;
    };
    server_me = λ p i server up. (is_run p i server up).me;
    clocks_go = λ p i server up. (is_run p i server up).clock;
    from = calm_rest group clocks pace first later start w from;
    harmless = harmless_rest w (rows_in first) (rows_in later) (subst (DoNoHarm w) (rows_both first later) harmless);
    fits = fits;
    leads_on = λ front rest cut nobody. leads_on group clocks pace start n term first front rest listed running in_n is_led
        (subst (λ (l : List Timed). AreCalm group clocks pace (no_traffic start) w (first ++ l)) cut calm)
        (first_harmless w (rows_in (first ++ front)) (rows_in rest)
        (subst (DoNoHarm w) (ap rows_in (ap (λ (l : List Timed). first ++ l) cut ∙ sym (append_assoc first front rest))
        ∙ rows_both (first ++ front) rest) harmless)) nobody;
    will = can_hear;
  }

  -- so no election comes from there on
  pub no_election_behind : CallLaws ids (rows ++ rows_in first) → StaysFollower → FramesLeaveFollowers
      → NoElection group clocks pace moment n term there later
  no_election_behind laws_there ticks frames = subst (λ (v : Cluster). NoElection group clocks pace moment n term v later)
      (after_both (cluster ids) rows (rows_in first))
      (no_election ids (rows ++ rows_in first) laws_there ticks frames group clocks pace moment n term in_n short later
      (subst (Begins group clocks pace moment n term later) (sym (after_both (cluster ids) rows (rows_in first))) begins))
