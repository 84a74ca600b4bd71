-- Members that are tidy, and Discoveries that miss nobody: from where a calm begins.
use Rattle.std.proofs.Common.{◌≡◌, ◌≢◌, ℕ, ◌+◌, ◌≤◌, Bool, false, List, [], ◌++◌, refl, sym, ◌∙◌, subst, arith}
use Rattle.std.specs.Prelude.{◌||◌}
use Rattle.alloc_exchange.specs.Exchange.{Accepted, last_moment}
use Rattle.cluster_discovery.specs.Members.{is_on_list}
use Rattle.raft_model.specs.Lists.{In}
use Rattle.bus_rows.specs.declared.row.Row.{Row}
use Rattle.alloc_spec.specs.AllocatorState.{AllocatorState, is_recorded, members_of}
use Rattle.bus_rows.specs.Timed.{Timed, rows_in}
use Rattle.service_alone.specs.Calm.{Pace, end_of}
use Rattle.service_alone.proofs.Choosing.{left_false}
use Rattle.service_calm.specs.Calm.{AreCalm, Member as OfMember, Party, no_traffic}
use Rattle.service_calm.specs.Calls.{Lists}
use Rattle.service_alone.proofs.Members.{IsUp}
use Rattle.service_calm.proofs.Group.{AreWell, IsServer, IsWell}
use Rattle.service_calm.proofs.Pair.{same_server}
use Rattle.service_device.specs.Tidy.{DiscoveriesMissNobody, IsFit, MembersAskNobody, MembersStayFit, MembersStayTidy, NeedsNoDiscovery, NoDiscoveryWaits, TidyMembersAreFit, TidyMembersMissNobody}
use Rattle.service_device.proofs.DialogOthers.{none_in}
use Rattle.service_device.proofs.SettledServers.{after_ends}
use Rattle.service_device.proofs.TidyCalm.{IsSteady, nobody_asks, nobody_missed}
use Rattle.service_device.proofs.TidyMembers.{AreKept, IsRested, rested_on}
use Rattle.service_device.proofs.TidyRows.{IsQuiet, number_from}
use Rattle.service_device.specs.ServiceBelow.{ServiceGrounds}
use Rattle.service_calm.proofs.Grounds.{calm_laws, well}
use Rattle.alloc_spec.specs.ClusterMembers.{AreMembers}
use Rattle.bus_spec.specs.Cluster.{Cluster, after_rows, cluster, world_of}
use Rattle.bus_spec.specs.Lawful.{DoNoHarm}

-- a tidy member is fit
unfoldable pub tidy_is_fit : TidyMembersAreFit
tidy_is_fit n now w h = record {
  server = h.server;
  runs = h.runs;
  faults = h.faults;
  disk = h.disk;
  clock = h.clock;
  status = h.status;
  last_request = let e = h.requests in rw (e) (omega arith);
  listed = h.listed;
  discovery = h.discovery;
  complete = h.complete;
}

-- a member that is fit needs no Discovery
pub fit_needs_none : (n now : ℕ) (w : Cluster) → IsFit n now w → NeedsNoDiscovery n w
fit_needs_none n now w h = record {
  running = record { server = h.server; runs = h.runs; faults = h.faults; disk = h.disk };
  complete = h.complete;
  discovery = h.discovery;
}

or_none : (b : Bool) → b ≡ false → (b || false) ≡ false
or_none b e = rw (e) refl

module _ (below : ServiceGrounds) (ids : List ℕ) (members : AreMembers ids) (rows : List Row) (harmless : DoNoHarm (cluster ids) rows) where
  abbrev w : Cluster
  w = world_of ids rows

  module _ (group : List Party) (listed : (p : ℕ) → In (OfMember p) group → In p ids) (needs : (p : ℕ) → In (OfMember p) group → NeedsNoDiscovery p w)
      (none : NoDiscoveryWaits group w) where
    nodes : (p : ℕ) → In (OfMember p) group → (1 ≤ p) × (p ≤ 125)
    nodes p i = members.nodes p (listed p i)

    all_well : AreWell group w
    all_well = well below.calm ids members rows harmless group listed (λ p i. (needs p i).running)

    -- each is quiet when the calm begins
    begins_quiet : (p : ℕ) (i : In (OfMember p) group) → IsQuiet p (needs p i).running.server w
    begins_quiet p i = record {
      up = subst (λ (t : AllocatorState). IsUp t (w.member p)) same its.up;
      its = subst (IsServer p) same its.its;
      none = none_in (number_from p) (needs p i).running.server.queue (none p i (needs p i).running.server (needs p i).running.runs);
      complete = (needs p i).complete;
      discovery = (needs p i).discovery;
    }
      where
        its : IsWell p (w.member p)
        its = all_well.members p i

        same : its.server ≡ (needs p i).running.server
        same = same_server its.server (needs p i).running.server (sym its.up.status ∙ (needs p i).running.runs)

    -- so the calm is steady from there
    begins_steady : (clocks : Party → ℕ) (pace : Pace) (start : ℕ) → IsSteady (calm_laws below.calm) group nodes clocks pace (no_traffic start) w
    begins_steady clocks pace start = record {
      well = all_well;
      flies = λ party. refl;
      quiet = λ p i. ((needs p i).running.server, begins_quiet p i);
    }

  pub miss_nobody : DiscoveriesMissNobody ids rows
  miss_nobody group clocks pace start m front rest listed calm needs none = nobody_missed (calm_laws below.calm) group (nodes group listed needs none) clocks pace m front rest
      (no_traffic start) w calm (begins_steady group listed needs none clocks pace start)

  pub ask_nobody : MembersAskNobody ids rows
  ask_nobody group clocks pace start m front rest listed only calm needs none = nobody_asks (calm_laws below.calm) group (nodes group listed needs none) clocks pace only m front rest
      (no_traffic start) w calm (begins_steady group listed needs none clocks pace start)

  pub tidy_miss_nobody : TidyMembersMissNobody ids rows
  tidy_miss_nobody group clocks pace start m front rest listed calm tidy none =
      miss_nobody group clocks pace start m front rest listed calm (λ p i. fit_needs_none p (start + clocks (OfMember p)) w (tidy_is_fit p (start + clocks (OfMember p)) w (tidy p i))) none

  -- where this holds of the requests that each has accepted, and is kept, it does behind each front
  module _ (group : List Party) (clocks : Party → ℕ) (pace : Pace) (start m : ℕ) (front rest : List Timed) (listed : (p : ℕ) → In (OfMember p) group → In p ids)
      (calm : AreCalm group clocks pace (no_traffic start) w (front ++ rest)) (fit : (p : ℕ) → In (OfMember p) group → IsFit p (start + clocks (OfMember p)) w)
      (lists : (p q : ℕ) → In (OfMember p) group → In (OfMember q) group → p ≢ q → Lists p q w) (none : NoDiscoveryWaits group w) (i : In (OfMember m) group)
      (Fits : ℕ → List Accepted → Type 0) (kept : AreKept group Fits)
      (fits : (p : ℕ) (j : In (OfMember p) group) → Fits (start + clocks (OfMember p)) (fit p j).server.accepted) where
    needs : (p : ℕ) → In (OfMember p) group → NeedsNoDiscovery p w
    needs p j = fit_needs_none p (start + clocks (OfMember p)) w (fit p j)

    rests_later : (t : AllocatorState) × IsRested (calm_laws below.calm) group (nodes group listed needs none) clocks pace Fits kept m (end_of start front + clocks (OfMember m)) t
        (after_rows w (rows_in front))
    unfolding fit_needs_none needs
    rests_later = rested_on (calm_laws below.calm) group (nodes group listed needs none) clocks pace Fits kept m i front rest (no_traffic start) w calm (record {
      well = all_well group listed needs none;
      flies = λ party. refl;
      rested = λ p j. (
        (fit p j).server,
        record {
          quiet = begins_quiet group listed needs none p j;
          clock = (fit p j).clock;
          status = (fit p j).status;
          requests = fits p j;
          offline = λ other e. (fit p j).listed other (left_false (is_on_list (members_of (fit p j).server) other) (is_recorded [] other) e);
          lists = λ q k apart. lists p q j k apart (fit p j).server (fit p j).runs;
        },
      );
    })

    fit_later : (h : IsFit m (end_of start front + clocks (OfMember m)) (after_rows w (rows_in front))) × Fits (end_of start front + clocks (OfMember m)) h.server.accepted
    fit_later = let later = rests_later in (
      record {
        server = later.0;
        runs = later.1.quiet.up.status;
        faults = later.1.quiet.up.quiet.faults;
        disk = later.1.quiet.up.quiet.calls;
        clock = later.1.clock;
        status = later.1.status;
        last_request = kept.ends (end_of start front + clocks (OfMember m)) later.0.accepted later.1.requests;
        listed = λ other e. later.1.offline other (or_none (is_on_list (members_of later.0) other) e);
        discovery = later.1.quiet.discovery;
        complete = later.1.quiet.complete;
      },
      later.1.requests,
    )

  -- the last request of each is not after the moment
  pub stay_fit : MembersStayFit ids rows
  stay_fit group clocks pace start m front rest listed calm fit lists none i =
      (fit_later group clocks pace start m front rest listed calm fit lists none i (λ now accepted. last_moment accepted ≤ now) (record {
        later = λ now later accepted after_it e. omega (arith, after_it, e);
        behind = λ a j now message accepted follows e. after_ends accepted message now now follows e (omega arith);
        ends = λ now accepted e. e;
      }) (λ p j. (fit p j).last_request)).0

  -- each has accepted none, where none comes
  pub stay_tidy : MembersStayTidy ids rows
  unfolding tidy_is_fit
  stay_tidy group clocks pace start m front rest listed only calm tidy lists none i =
      let later = fit_later group clocks pace start m front rest listed calm (λ p j. tidy_is_fit p (start + clocks (OfMember p)) w (tidy p j)) lists none i
      (λ now accepted. accepted ≡ []) (record {
        later = λ now later accepted after_it e. e;
        behind = λ a j now message accepted follows e. absurd (only a j);
        ends = λ now accepted e. rw (e) (omega arith);
      }) (λ p j. (tidy p j).requests) in
      record {
        server = later.0.server;
        runs = later.0.runs;
        faults = later.0.faults;
        disk = later.0.disk;
        clock = later.0.clock;
        status = later.0.status;
        requests = later.1;
        listed = later.0.listed;
        discovery = later.0.discovery;
        complete = later.0.complete;
      }
