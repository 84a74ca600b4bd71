-- A leader from which on no election comes settles in a calm, once it has called all others, or its log grows.
use Rattle.std.proofs.Common.{◌≡◌, ◌≢◌, ℕ, ◌+◌, ◌*◌, ◌<◌, ◌≤◌, arith, List, [], ◌∷◌, ◌++◌, length, append_assoc, append-nil, refl, sym, ◌∙◌, ap, subst, inl, inr}
use Rattle.std.specs.Prelude.{◌⊎◌}
use Rattle.can_frame.specs.declared.entry.Entry.{Entry}
use Rattle.can_frame.specs.Log.{last_term}
use Rattle.raft_model.specs.Lists.{In, how_many}
use Rattle.raft_model.specs.Server.{quorum}
use Rattle.raft_model.specs.Server.Role.{Leader}
use Rattle.alloc_spec.specs.AllocatorState.{AllocatorState, is_recorded, members_of}
use Rattle.alloc_spec_laws.proofs.Proposals.{or_false}
use Rattle.bus_agreement.proofs.Concatenations.{first_harmless}
use Rattle.cluster_discovery.specs.Members.{is_on_list}
use Rattle.bus_rows.specs.Timed.{Timed, rows_in}
use Rattle.service_alone.specs.Calm.{end_of}
use Rattle.service_calm.specs.Calls.{Lists}
use Rattle.service_calm.specs.Calm.{AreCalm, Member as OfMember, no_traffic}
use Rattle.service_calm.specs.Comes.{Throughout}
use Rattle.service_calm.proofs.Pair.{same_server}
use Rattle.service_leader.specs.Entries.{GoesOnCalling, KeepsCalling, PendsSince, calls_left, is_one_of}
use Rattle.service_leader.specs.LeadsOn.{IsLed, IsLedThroughout}
use Rattle.service_leader.specs.NoElection.{CallsFit, NoElection, heard_within}
use Rattle.service_leader.proofs.Stretches.{GoesOnFrom, calm_rest, rows_both, throughout_at, world_both}
use Rattle.service_cluster.specs.ComeBack.{HasRoomForBlank}
use Rattle.service_cluster.specs.Restart.{settled_within}
use Rattle.service_cluster.proofs.BackGiven.{IsFine, Scene, there, w0}
use Rattle.service_cluster.proofs.Fronts.{missed_rest, room_rest}
use Rattle.service_cluster.proofs.Others.{apart_in, as_many, not_alone, others_in}
use Rattle.service_elections.specs.Running.{IsCalmOf}
use Rattle.service_device.specs.ServedTold.{HasRoomInSteps}
use Rattle.service_device.specs.Settled.{IsCalmUnder, NobodyIsMissed}
use Rattle.service_device.specs.Settles.{GrowsBy, HasComeToLead, HasSettledBy, IsToSettle, WaitsWithBlank}
use Rattle.service_device.specs.Tidy.{IsFit, NeedsNoDiscovery}
use Rattle.bus_spec.specs.Cluster.{Cluster, after_rows}
use Rattle.bus_spec.specs.Lawful.{DoNoHarm}
use Rattle.bus_spec.specs.Members.MemberStatus.{Up}

module _ (g : Scene) where
  -- ---- behind any front

  abbrev c : IsCalmOf g.ids g.rows g.group g.clocks g.pace g.start g.whole
  c = g.calm.calm

  pub calm_cut : (a b : List Timed) → g.whole ≡ a ++ b → AreCalm g.group g.clocks g.pace (no_traffic g.start) (w0 g) (a ++ b)
  calm_cut a b cut = subst (AreCalm g.group g.clocks g.pace (no_traffic g.start) (w0 g)) cut c.calm

  -- the rows go on calmly from there
  pub goes_from : (a b : List Timed) → g.whole ≡ a ++ b → GoesOnFrom g.group g.clocks g.pace (end_of g.start a) (there g a) b
  goes_from a b cut = calm_rest g.group g.clocks g.pace a b g.start (w0 g)
      (record { traffic = no_traffic g.start; calm = calm_cut a b cut; at_end = refl; ticked = λ party. omega arith })

  pub harmless_cut : (a b : List Timed) → g.whole ≡ a ++ b → DoNoHarm (w0 g) (rows_in a)
  harmless_cut a b cut = first_harmless (w0 g) (rows_in a) (rows_in b) (subst (DoNoHarm (w0 g)) (ap rows_in cut ∙ rows_both a b) c.harmless)

  pub lists : (n m : ℕ) → In (OfMember n) g.group → In (OfMember m) g.group → n ≢ m → Lists n m (w0 g)
  lists n m i j differs = (c.ask n m i j differs).asks_it

  -- each member owes no Discovery when the calm begins
  pub none_due : (p : ℕ) → In (OfMember p) g.group → NeedsNoDiscovery p (w0 g)
  none_due p j = let is = g.calm.fit p j in record {
    running = record { server = is.server; runs = is.runs; faults = is.faults; disk = is.disk };
    complete = is.complete;
    discovery = is.discovery;
  }

  -- each member is fit
  pub fit_at : (m : ℕ) → In (OfMember m) g.group → (a b : List Timed) → g.whole ≡ a ++ b → IsFit m (end_of g.start a + g.clocks (OfMember m)) (there g a)
  fit_at m i a b cut = g.given.fit g.group g.clocks g.pace g.start m a b c.listed (calm_cut a b cut)
      g.calm.fit lists g.calm.none_waits i

  pub fine_at : (m : ℕ) → In (OfMember m) g.group → (a b : List Timed) → g.whole ≡ a ++ b → (t : AllocatorState) → ((there g a).member m).status ≡ Up t → IsFine t
  fine_at m i a b cut t up = g.given.fine (rows_in a) m t (harmless_cut a b cut) (c.listed m i) up

  -- it has room for a blank, where the calm goes on
  room_at : (a b : List Timed) → g.whole ≡ a ++ b → end_of g.start a < end_of g.start g.whole → HasRoomForBlank g.n (there g a)
  room_at a [] cut long = let e = ap (end_of g.start) (cut ∙ append-nil a) in absurd (omega (arith, e, long))
  room_at a (x ∷ b) cut long = throughout_at (HasRoomForBlank g.n) a b x (w0 g) (subst (Throughout (HasRoomForBlank g.n) (w0 g)) cut (g.calm.blanks g.n g.member))

  -- ---- behind a front that is later than a call and its answer

  module _ (few later : List Timed) (cut : g.rest ≡ few ++ later) where
    abbrev pub G : List Timed
    G = g.front ++ few

    pub cut_all : g.whole ≡ (g.front ++ few) ++ later
    cut_all = g.split ∙ (ap (λ (l : List Timed). g.front ++ l) cut ∙ sym (append_assoc g.front few later))

    cut_parts : g.whole ≡ g.front ++ (few ++ later)
    cut_parts = g.split ∙ ap (λ (l : List Timed). g.front ++ l) cut

    -- n leads on
    pub led_on : IsLedThroughout g.group g.n g.term (there g (g.front ++ few)) later
    led_on a b e = subst (IsLed g.group g.n g.term)
        (world_both (there g g.front) few a ∙ ap (λ (v : Cluster). after_rows v (rows_in a)) (sym (world_both (w0 g) g.front few)))
        (g.led.led (few ++ a) b (cut ∙ (ap (λ (l : List Timed). few ++ l) e ∙ sym (append_assoc few a b))))

    pub under : IsCalmUnder g.ids g.rows g.group g.clocks g.pace g.start g.n g.term (g.front ++ few) later
    under = record {
      listed = c.listed;
      running = c.running;
      member = g.member;
      calm = calm_cut (g.front ++ few) later cut_all;
      harmless = subst (λ (l : List Timed). DoNoHarm (w0 g) (rows_in l)) cut_all c.harmless;
      led = led_on;
      lists = λ m i differs. lists g.n m g.member i (λ e. differs (sym e));
      missed = missed_rest g.n (g.front ++ few) later (w0 g) (subst (NobodyIsMissed g.n (w0 g)) cut_all none_missed);
    }
      where
        no_more : g.whole ≡ g.whole ++ []
        no_more = sym (append-nil g.whole)

        none_missed : NobodyIsMissed g.n (w0 g) g.whole
        none_missed = g.given.missed g.group g.clocks g.pace g.start g.n g.whole [] c.listed (calm_cut g.whole [] no_more) none_due g.calm.none_waits

    module _ (late : end_of g.start g.front + heard_within g.pace + 2 * g.pace.delay < end_of (end_of g.start g.front) few) where
      -- it keeps calling the others
      pub keeps : (m : ℕ) → In (OfMember m) g.group → m ≢ g.n → KeepsCalling g.n m g.pace.delay (w0 g) (g.front ++ few) later
      keeps m i differs = record {
        lists_it = lists g.n m g.member i (λ e. differs (sym e));
        early = g.front;
        since = few;
        split = refl;
        back = g.given.return g.group g.clocks g.pace g.start g.n m g.term g.front (few ++ later) calm_parts g.member i differs
            (subst (IsLedThroughout g.group g.n g.term (there g g.front)) cut g.led.led);
        pends = subst (λ (v : Cluster). PendsSince g.n m (there g g.front).rows v) (sym (world_both (w0 g) g.front few)) both.0;
        goes_on = subst (GoesOnCalling g.n m) (sym (world_both (w0 g) g.front few)) both.1;
      }
        where
          calm_parts : IsCalmOf g.ids g.rows g.group g.clocks g.pace g.start (g.front ++ (few ++ later))
          calm_parts = subst (IsCalmOf g.ids g.rows g.group g.clocks g.pace g.start) cut_parts c

          both : PendsSince g.n m (there g g.front).rows (after_rows (there g g.front) (rows_in few)) × GoesOnCalling g.n m (after_rows (there g g.front) (rows_in few))
          both = g.given.calling g.group g.clocks g.pace g.start g.n m g.term g.front few later calm_parts g.member i differs
              (subst (NoElection g.group g.clocks g.pace (end_of g.start g.front) g.n g.term (there g g.front)) cut g.led) late

      -- ---- it has come to lead

      abbrev pub is_fit : IsFit g.n (end_of g.start (g.front ++ few) + g.clocks (OfMember g.n)) (there g (g.front ++ few))
      is_fit = fit_at g.n g.member (g.front ++ few) later cut_all

      abbrev pub u : AllocatorState
      u = is_fit.server

      abbrev pub log : List Entry
      log = is_fit.server.raft_server.store.log

      leads : u.raft_server.memory.role ≡ Leader
      leads = let leader = (led_on [] later refl).leader in
          ap (λ (a : AllocatorState). a.raft_server.memory.role) (same_server u leader.server (sym is_fit.runs ∙ leader.runs)) ∙ leader.leads

      pub is_fine : IsFine u
      is_fine = fine_at g.n g.member (g.front ++ few) later cut_all u is_fit.runs

      module _ (long : end_of g.start (g.front ++ few) + settled_within g.pace g.longest < end_of g.start g.whole) where
        blank_waits : u.raft_server.store.commit < length log → WaitsWithBlank g.ids g.n log u ⊎ (last_term log ≡ u.raft_server.store.term)
        blank_waits some = elim (g.given.blanks (rows_in (g.front ++ few)) g.n u (harmless_cut (g.front ++ few) later cut_all) (c.listed g.n g.member) is_fit.runs leads
            (room_at (g.front ++ few) later cut_all (omega (arith, long)) u is_fit.runs)) [
              | inl all ↦ absurd (omega (arith, all, some))
              | inr x ↦ x
            ]

        abbrev new : HasComeToLead g.ids g.n log (end_of g.start (g.front ++ few) + g.clocks (OfMember g.n)) (there g (g.front ++ few))
        new = record {
          server = u;
          runs = is_fit.runs;
          faults = is_fit.faults;
          disk = is_fit.disk;
          leads = leads;
          log_is = refl;
          told = is_fine.fitting.told;
          waits = blank_waits;
          requests = is_fit.last_request;
          clock = is_fit.clock;
          status = is_fit.status;
          known = λ other no_one. is_fit.listed other (or_false (is_on_list (members_of u) other) (is_recorded u.raft_server.store.log other) no_one).0;
          discovery = is_fit.discovery;
        }

        -- its log is no longer than any log of the calm
        short : length log ≤ g.longest
        short = g.calm.logs (g.front ++ few) later g.n u cut_all g.member is_fit.runs

        few_left : (m : ℕ) → calls_left u m ≤ 2 * g.longest
        few_left m = let a = is_fine.fitting.next leads m in let b = short in omega (arith, a, b)

        module _ (one : ℕ) (next : List ℕ) (apart : (m : ℕ) → In m (one ∷ next) → In (OfMember m) g.group × (m ≢ g.n))
            (many : quorum g.ids ≤ how_many (is_one_of g.n (one ∷ next)) g.ids) where
          to_settle : IsToSettle g.ids g.rows g.group g.clocks g.pace g.start g.n g.term log (2 * g.longest) g.longest (one ∷ next) (g.front ++ few) later
          to_settle = record {
            under = under;
            new = new;
            few = let b = short in omega (arith, b);
            fits = subst (CallsFit g.n (w0 g)) cut_all (c.calls_fit g.n g.member);
            room = room_rest g.n (g.front ++ few) later (w0 g) (subst (HasRoomInSteps g.n (w0 g)) cut_all (g.calm.room g.n g.member));
            short = c.quick;
            catch_up = record {
              apart = apart;
              many = many;
              calling = λ m i. keeps m (apart m i).0 (apart m i).1;
              few = λ m i. few_left m;
            };
            long = let e = ap (end_of g.start) cut_all in omega (arith, e, long);
          }

        abbrev pub Settles : Type 0
        Settles = HasSettledBy g.n g.term log (g.clocks (OfMember g.n)) (end_of g.start (g.front ++ few))
            (end_of g.start (g.front ++ few) + settled_within g.pace g.longest) (there g (g.front ++ few)) later
            ⊎ GrowsBy g.n g.term log (g.clocks (OfMember g.n)) (end_of g.start (g.front ++ few))
            (end_of g.start (g.front ++ few) + settled_within g.pace g.longest) (there g (g.front ++ few)) later

        -- it settles in time, or its log grows by then
        pub settles_or_grows : Settles
        settles_or_grows = by (others_in g.group g.n) (λ m i. apart_in g.group g.n m i) (as_many g.group g.n g.ids c.many)
          where
            by : (others : List ℕ) → ((m : ℕ) → In m others → In (OfMember m) g.group × (m ≢ g.n)) → quorum g.ids ≤ how_many (is_one_of g.n others) g.ids → Settles
            by [] apart many = absurd (not_alone g.n g.ids g.given.members.once c.others many)
            by (one ∷ next) apart many = g.given.settle g.group g.clocks g.pace g.start g.n g.term log (2 * g.longest) g.longest one next (g.front ++ few) later
                (to_settle one next apart many)
