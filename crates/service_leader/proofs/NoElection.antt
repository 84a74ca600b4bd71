-- No election comes in a calm, from a world on in which a member leads: row by row, each member that reads its clock has
-- heard the leader lately.
use Rattle.std.proofs.Common.{◌≡◌, ◌≢◌, ℕ, ◌+◌, ◌<◌, ◌≤◌, arith, List, [], ◌∷◌, ◌++◌, refl, sym, ◌∙◌, ap, subst, inl, inr}
use Rattle.std.proofs.lemmas.Bool.Decides.{leb_tells}
use Rattle.std.proofs.lemmas.List.{append_assoc, append-nil}
use Rattle.can_frame.specs.Timing.{election_wait}
use Rattle.raft_model.specs.Lists.{In}
use Rattle.bus_rows.specs.declared.row.Row.{Row}
use Rattle.bus_rows.specs.declared.row.Row.TheVariants.{AEnd, AOpen, ARx, ASend, ATick, Crash, Ext, Fault, Open, Rx, Send, Tick}
use Rattle.alloc_spec.specs.AllocatorState.{AllocatorState}
use Rattle.bus_agreement.proofs.Concatenations.{first_harmless}
use Rattle.service_steps.specs.InTime.{FramesLeaveFollowers, StaysFollower}
use Rattle.bus_rows.specs.Timed.{Timed, rows_in}
use Rattle.service_alone.specs.Calm.{Pace, end_of}
use Rattle.service_calm.specs.Calm.{AreRunning, IsCalmRow, Member as OfMember, Party}
use Rattle.service_calm.specs.Calls.{Lists}
use Rattle.service_calm.specs.Comes.{Throughout}
use Rattle.service_leader.specs.LeadsOn.{FollowsWithin, IsLed, NobodyStands, WaitsOn}
use Rattle.service_leader.specs.NoElection.{CallsFit, ClocksGoOn, HasHeard, NoElection, greatest_wait, heard_within}
use Rattle.service_calm.proofs.CallsKept.{GoesOn, IsKept, RunsWith, further}
use Rattle.service_leader.proofs.FirstWait.{FollowsUntil, IsBetween, first_wait}
use Rattle.service_leader.proofs.NextCall.{CallLaws, FollowsLately, HearsCalls, IsHeeded, follows_lately, led_heeded, runs_at}
use Rattle.service_calm.proofs.Pair.{same_server}
use Rattle.service_leader.proofs.Stretches.{GoesOnFrom, HasLast, calm_first, calm_rest, end_last, fits_front, in_between, nobody_front, nobody_more, none_or_last, rows_both, throughout_by, throughout_more, throughout_so}
use Rattle.bus_spec.specs.Cluster.{Cluster, after_rows, world_of}
use Rattle.bus_spec.specs.Lawful.{DoNoHarm}
use Rattle.bus_spec.specs.Members.MemberStatus.{Up}

-- ---- what is asked of the world before the rows

module _ (group : List Party) (clocks : Party → ℕ) (pace : Pace) (start n term : ℕ) (whole : List Timed) where
  -- member n calls member m in these rows, and m hears it in time; its wait is not over before
  pub record CanHear (m : ℕ) (v : Cluster) : Type 0 where
    pub calls : Lists n m v
    pub hears : Lists m n v
    pub in_time : (front rest : List Timed) → whole ≡ front ++ rest → HearsCalls clocks pace n m v front
    pub waits : (server : AllocatorState) → (v.member m).status ≡ Up server
        → start + clocks (OfMember m) + heard_within pace < server.times.since + election_wait

  -- the rows go on calmly from this world, in which n leads, at this moment
  pub record Begins (v : Cluster) : Type 0 where
    pub running : AreRunning group v
    pub server_me : (p : ℕ) → In (OfMember p) group → (server : AllocatorState) → (v.member p).status ≡ Up server → server.me ≡ p
    pub clocks_go : ClocksGoOn group clocks start v
    pub from : GoesOnFrom group clocks pace start v whole
    pub harmless : DoNoHarm v (rows_in whole)
    pub fits : CallsFit n v whole
    pub leads_on : (front rest : List Timed) → whole ≡ front ++ rest → NobodyStands n v front → IsLed group n term (after_rows v (rows_in front))
    pub will : (m : ℕ) → In (OfMember m) group → m ≢ n → CanHear m v

module _ (ids : List ℕ) (rows : List Row) (laws : CallLaws ids rows) (ticks : StaysFollower)
    (frames : FramesLeaveFollowers) (group : List Party) (clocks : Party → ℕ) (pace : Pace) (start n term : ℕ) (in_n : In (OfMember n) group)
    (short : greatest_wait pace < election_wait) (whole : List Timed)
    (begins : Begins group clocks pace start n term whole (world_of ids rows)) where
  abbrev w : Cluster
  w = world_of ids rows

  abbrev here : List Timed → Cluster
  here front = after_rows w (rows_in front)

  -- ---- at a front

  from_start : (front rest : List Timed) → whole ≡ front ++ rest → GoesOnFrom group clocks pace start w (front ++ rest)
  from_start front rest cut = subst (GoesOnFrom group clocks pace start w) cut begins.from

  harmless_at : (front rest : List Timed) → whole ≡ front ++ rest → DoNoHarm w (rows_in front)
  harmless_at front rest cut = first_harmless w (rows_in front) (rows_in rest) (subst (DoNoHarm w) (ap rows_in cut ∙ rows_both front rest) begins.harmless)

  -- ---- at a row, where nobody stood before

  module _ (front rest : List Timed) (timed : Timed) (cut : whole ≡ front ++ timed ∷ rest) (nobody : NobodyStands n w front) where
    abbrev upto : List Timed
    upto = front ++ timed ∷ []

    upto_cut : whole ≡ upto ++ rest
    upto_cut = cut ∙ sym (append_assoc front (timed ∷ []) rest)

    led_upto : Throughout (IsHeeded group n term) w upto
    led_upto = throughout_so (IsLed group n term) (IsHeeded group n term) (led_heeded group n term) upto w
        (throughout_more (IsLed group n term) front timed w
        (throughout_by (IsLed group n term) front w (λ a b x same. begins.leads_on a (x ∷ b ++ timed ∷ rest)
        (cut ∙ ap (λ (l : List Timed). l ++ timed ∷ rest) same ∙ append_assoc a (x ∷ b) (timed ∷ rest))
        (nobody_front n a (x ∷ b) w (subst (NobodyStands n w) same nobody))))
        (begins.leads_on front (timed ∷ rest) cut nobody))

    module _ (m : ℕ) (in_m : In (OfMember m) group) (differs : m ≢ n) where
      abbrev base : ℕ
      base = start + clocks (OfMember m)

      abbrev last : ℕ
      last = base + heard_within pace

      its : CanHear group clocks pace start n term whole m w
      its = begins.will m in_m differs

      -- after the first call the member has heard the leader lately
      lately : start + heard_within pace < timed.at
          → FollowsLately ids rows laws group clocks pace start begins.running begins.server_me begins.clocks_go n term in_n front timed
          (calm_first group clocks pace upto rest start w (from_start upto rest upto_cut)) (harmless_at upto rest upto_cut)
          (fits_front n upto rest w (subst (CallsFit n w) upto_cut begins.fits)) led_upto m in_m differs
          its.calls its.hears (its.in_time upto rest upto_cut)
      lately long = follows_lately ids rows laws group clocks pace start begins.running begins.server_me begins.clocks_go n term in_n front timed _ _ _ _
          m in_m differs _ _ _ short long

      -- before, its first wait is not over
      at_first : timed.at ≤ start + heard_within pace
          → RunsWith (FollowsUntil last) ((here front).member m)
      at_first early = later.runs
        where
          from : GoesOnFrom group clocks pace start w (front ++ timed ∷ rest)
          from = from_start front (timed ∷ rest) cut

          goes : GoesOnFrom group clocks pace (end_of start front) (here front) (timed ∷ rest)
          goes = calm_rest group clocks pace front (timed ∷ rest) start w from

          between : (x : Timed) → In x front → IsBetween base last (x.at + clocks (OfMember m))
          between x i =
              let within = in_between group clocks pace front start w (calm_first group clocks pace front (timed ∷ rest) start w from) x i in
              let moments = goes.calm.0.moments in
              let ends = goes.at_end in
              (omega (arith, within.0), omega (arith, within.1, moments, ends, early))

          follows : FollowsWithin m term w
          follows = (begins.leads_on [] whole refl tt).others m in_m differs

          kept : IsKept (IsBetween base last) (FollowsUntil last)
          kept = first_wait ticks frames base last (omega (arith, short))

          later : GoesOn (IsBetween base last) (FollowsUntil last) kept group clocks pace m (here front) (timed ∷ rest)
          later = further (IsBetween base last) (FollowsUntil last) kept group clocks pace m front (timed ∷ rest) w between
              (record {
                traffic = from.traffic;
                calm = from.calm;
                runs = record {
                  server = follows.server;
                  up = record {
                    status = follows.runs;
                    quiet = record { faults = (begins.running m in_m).faults; calls = (begins.running m in_m).disk };
                  };
                  holds = record {
                    follows = follows.follows;
                    waits = its.waits follows.server follows.runs;
                    reads = let clock = begins.clocks_go m in_m follows.server follows.runs in omega (arith, clock);
                  };
                };
              })

      waits_yet : (server : AllocatorState) → ((here front).member m).status ≡ Up server → timed.at + clocks (OfMember m) < server.times.since + election_wait
      waits_yet server up = elim (leb_tells timed.at (start + heard_within pace)) [
        | inl z ↦
            let run = at_first z.1 in
            subst (λ (t : AllocatorState). timed.at + clocks (OfMember m) < t.times.since + election_wait)
            (same_server run.server server (sym run.up.status ∙ up))
            (let waits = run.holds.waits in let early = z.1 in omega (arith, waits, early))
        | inr z ↦
            let run = lately z.1 in
            subst (λ (t : AllocatorState). timed.at + clocks (OfMember m) < t.times.since + election_wait)
            (same_server run.before.server server (sym run.before.runs ∙ up))
            (let waits = run.before.waits in let late = run.late in omega (arith, waits, late, short))
      ]

    waits_on : WaitsOn n (here front) timed.row
    waits_on = by_row timed.row goes.calm.1
      where
        goes : GoesOnFrom group clocks pace (end_of start front) (here front) (timed ∷ rest)
        goes = calm_rest group clocks pace front (timed ∷ rest) start w (from_start front (timed ∷ rest) cut)

        by_row : (row : Row) → IsCalmRow group clocks pace goes.traffic (here front) timed.at row → WaitsOn n (here front) row
        by_row (Tick m ms word) reading = λ differs server up.
            let waits = waits_yet m reading.0 differs server up in
            let run = runs_at ids rows laws group clocks pace start begins.running begins.server_me begins.clocks_go m reading.0 front (timed ∷ rest)
            (from_start front (timed ∷ rest) cut) in
            let clock : server.now ≤ end_of start front + clocks (OfMember m)
            = subst (λ (t : AllocatorState). t.now ≤ end_of start front + clocks (OfMember m))
            (same_server run.server server (sym run.up.status ∙ up)) run.holds.clock in
            omega (arith, waits, reading.1, clock, goes.calm.0.moments, goes.at_end)
        by_row (Rx m k ms) reading = tt
        by_row (Send m) reading = tt
        by_row (ATick a ms word) reading = tt
        by_row (ARx a k ms word) reading = tt
        by_row (ASend a) reading = tt
        by_row (Open m told ms word) reading = tt
        by_row (Ext frame) reading = tt
        by_row (Crash m calls pattern) reading = tt
        by_row (Fault m call) reading = tt
        by_row (AOpen a uid pref ms word) reading = tt
        by_row (AEnd a) reading = tt

  -- ---- in all rows

  nobody_stands : (rest front : List Timed) → whole ≡ front ++ rest → NobodyStands n w front → NobodyStands n w whole
  nobody_stands [] front cut nobody = subst (NobodyStands n w) (sym (cut ∙ append-nil front)) nobody
  nobody_stands (timed ∷ rest) front cut nobody = nobody_stands rest (front ++ timed ∷ []) (cut ∙ sym (append_assoc front (timed ∷ []) rest))
      (nobody_more n front timed w nobody (waits_on front rest timed cut nobody))

  nobody : NobodyStands n w whole
  nobody = nobody_stands whole [] refl tt

  nobody_at : (front rest : List Timed) → whole ≡ front ++ rest → NobodyStands n w front
  nobody_at front rest cut = nobody_front n front rest w (subst (NobodyStands n w) cut nobody)

  has_heard : (m : ℕ) (front rest : List Timed) → In (OfMember m) group → m ≢ n → whole ≡ front ++ rest → start + heard_within pace < end_of start front
      → HasHeard m (greatest_wait pace) (end_of start front + clocks (OfMember m)) (here front)
  has_heard m front rest in_m differs cut long = elim (none_or_last front) [
    | inl none ↦ let ends = ap (end_of start) none in absurd (omega (arith, ends, long))
    | inr some ↦ by some
  ]
    where
      by : HasLast front → HasHeard m (greatest_wait pace) (end_of start front + clocks (OfMember m)) (here front)
      by some = let nobody_then = nobody_at some.front (some.last ∷ rest) split_at in
          let run = lately some.front rest some.last split_at nobody_then m in_m differs (omega (arith, ends, long)) in record {
            server = run.behind.server;
            runs = ap (λ (l : List Timed). ((here l).member m).status) some.split ∙ run.behind.runs;
            follows = run.behind.follows;
            lately = let late = run.late in let waits = run.behind.waits in omega (arith, late, waits, ends);
          }
        where
          ends : end_of start front ≡ some.last.at
          ends = ap (end_of start) some.split ∙ end_last start some.front some.last

          split_at : whole ≡ some.front ++ some.last ∷ rest
          split_at = cut ∙ ap (λ (l : List Timed). l ++ rest) some.split ∙ append_assoc some.front (some.last ∷ []) rest

  pub no_election : NoElection group clocks pace start n term w whole
  no_election = record { led = λ front rest cut. begins.leads_on front rest cut (nobody_at front rest cut); nobody = nobody; heard = has_heard }
