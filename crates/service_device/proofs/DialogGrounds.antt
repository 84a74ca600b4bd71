-- The dialog of a device that has just come, from the beginning of the calm on.
use Rattle.std.proofs.Common.{◌≢◌, ℕ, List, [], ◌+◌, ◌*◌, ◌≤◌, arith, None, inl, refl, sym, subst}
use Rattle.can_frame.specs.declared.entry.Entry.{Entry}
use Rattle.can_frame.specs.declared.step.What.TheVariants.{Alloc}
use Rattle.raft_model.specs.Lists.{In}
use Rattle.bus_rows.specs.declared.row.Row.{Row}
use Rattle.transfer_tx.specs.Queue.{Queued}
use Rattle.allocatee.specs.Allocatee.{opening}
use Rattle.allocatee.specs.Asking.{request_wait, timer_from}
use Rattle.alloc_spec.specs.Transfers.{id_of}
use Rattle.bus_rows.specs.Timed.{Timed}
use Rattle.service_alone.specs.Calm.{Pace}
use Rattle.service_alone.proofs.CalmStages.{right_at_first}
use Rattle.service_calm.specs.Calm.{Device as OfDevice, Member as OfMember, Party, no_traffic}
use Rattle.service_calm.proofs.Pair.{Only}
use Rattle.service_calm.proofs.Ways.{Waiting}
use Rattle.service_device.specs.Dialog.{HasJustCome, HaveRoom}
use Rattle.service_device.specs.ServiceBelow.{ServiceGrounds}
use Rattle.service_device.specs.Settled.{EachRowLeavesItSettled, IsCalmUnder}
use Rattle.service_device.proofs.Dialog.{AllKnown, all_known}
use Rattle.service_device.proofs.DialogOthers.{IsSilent, is_silent}
use Rattle.service_device.proofs.DialogPhases.{Phase}
use Rattle.service_device.proofs.DialogScene.{Talk}
use Rattle.service_calm.proofs.Grounds.{calm_laws, is_server, well}
use Rattle.alloc_spec.specs.ClusterMembers.{AreMembers}
use Rattle.bus_spec.specs.Cluster.{Cluster, cluster, world_of}
use Rattle.bus_spec.specs.Lawful.{DoNoHarm}

module _ (below : ServiceGrounds) (ids : List ℕ) (rows : List Row) (members : AreMembers ids) (harmless : DoNoHarm (cluster ids) rows)
    (leaves : EachRowLeavesItSettled ids rows)
    (group : List Party) (clocks : Party → ℕ) (pace : Pace) (start n a term : ℕ) (uid : List ℕ) (preferred : ℕ) (log : List Entry) (whole : List Timed)
    (under : IsCalmUnder ids rows group clocks pace start n term [] whole)
    (come : HasJustCome group clocks start n a uid preferred log (world_of ids rows)) (undisturbed : HaveRoom n a (world_of ids rows) whole)
    (quick : pace.period + 4 * pace.delay ≤ 100) where
  abbrev w : Cluster
  w = world_of ids rows

  abbrev pub talk : Talk
  talk = record {
    below = below;
    group = group;
    clocks = clocks;
    pace = pace;
    nodes = λ p i. members.nodes p (under.listed p i);
    n = n;
    in_n = under.member;
    a = a;
    in_a = come.of_group;
    alone = come.alone;
    uid = uid;
    whole = come.whole;
    preferred = preferred;
    few = come.small;
    log = log;
    start = start;
    base = start + clocks (OfDevice a);
    quick = quick;
  }

  -- the others are silent
  are_silent : (m : ℕ) (i : In (OfMember m) group) → m ≢ n → IsSilent (calm_laws below.calm) group clocks pace m (talk.nodes m i) (start + clocks (OfMember m)) w
  are_silent m i differ =
      let of_m = under.running m i in
      is_silent (calm_laws below.calm) group clocks pace m (talk.nodes m i) (start + clocks (OfMember m)) w of_m.server
      (record { status = of_m.runs; quiet = record { faults = of_m.faults; calls = of_m.disk } })
      (is_server below.calm ids members rows harmless m of_m.server (under.listed m i) of_m.runs) (come.others m i differ)

  -- the device waits
  pub begins : Phase talk (no_traffic start) w
  begins =
      let of_n = under.running n under.member in
      let h = come.settled in (
        2,
        omega arith,
        inl (record {
          due = start + request_wait come.word;
          accepted = come.settled.server.accepted;
          scene = record {
            settled = record { settled = come.settled; requests = refl };
            well = well below.calm ids members rows harmless group under.listed under.running;
            front = [];
            expected = Only (id_of come.settled.server.ids Alloc 0);
            pair = record {
              sender = come.settled.server;
              sender_up = record { status = come.settled.runs; quiet = record { faults = come.settled.faults; calls = come.settled.disk } };
              sender_is = is_server below.calm ids members rows harmless n come.settled.server (under.listed n under.member) come.settled.runs;
              sessions = [];
              now = start + clocks (OfDevice a);
              hears = record {
                device = opening uid preferred (start + clocks (OfDevice a)) come.word;
                there = come.there;
                has = refl;
                reads = refl;
              };
              flying = [];
              waiting = [];
              pending = refl;
              flies = refl;
              waits = subst (λ (l : List Queued). Waiting start l []) (sym come.none_waits) tt;
              since = omega arith;
              mode = refl;
              stage = λ id small fits. tt;
              differ = tt;
              ones_are = λ x i. absurd i;
              past = λ x i. absurd i;
              low = omega arith;
              high = omega arith;
            };
            bears = refl;
            requests = refl;
          };
          stage = record {
            soon = omega arith;
            right = right_at_first uid come.whole preferred come.settled.server.accepted (start + clocks (OfMember n)) (start + request_wait come.word + clocks (OfMember n))
                (start + request_wait come.word + pace.period + 2 * pace.delay + clocks (OfMember n)) come.settled.requests (omega arith);
          };
          request = timer_from (start + clocks (OfDevice a)) (request_wait come.word);
          follow_up = None;
          asker = record {
            id = 0;
            moment = start + clocks (OfDevice a);
            sessions = [];
            there = come.there;
            small = omega arith;
            read = omega arith;
            past = omega arith;
          };
          waits_for = (refl, omega arith, omega arith);
          ticked = omega arith;
        }),
      )

  -- what is known of each row
  pub known : AllKnown talk start w whole
  known = all_known talk term whole (no_traffic start) w
      (well below.calm ids members rows harmless group under.listed under.running) under.calm
      are_silent
      (λ front rest e m i differ. (under.led front rest e).others m i differ) undisturbed.memory undisturbed.room
      (λ front rest timed e accepted is. leaves group clocks pace start n term log accepted [] front rest timed
      (subst (λ (l : List Timed). IsCalmUnder ids rows group clocks pace start n term [] l) e under) is)
