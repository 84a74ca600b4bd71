-- A device that asks already is heard out, from the middle of a calm on.
use Rattle.std.proofs.Common.{◌≡◌, ◌≢◌, ◌⊎◌, ℕ, ◌+◌, ◌*◌, ◌<◌, ◌≤◌, List, [], ◌∷◌, ◌++◌, append_assoc, refl, sym, ◌∙◌, ap, subst, arith, inl, inr, None, Some}
use Rattle.alloc_exchange.specs.Exchange.{Accepted}
use Rattle.can_frame.specs.declared.entry.Entry.{Entry}
use Rattle.can_frame.specs.declared.step.What.TheVariants.{Alloc}
use Rattle.raft_model.specs.Lists.{In}
use Rattle.bus_rows.specs.declared.row.Row.{Row}
use Rattle.transfer_rx.specs.Keys.{key_of}
use Rattle.transfer_tx.specs.Queue.{Queued}
use Rattle.allocatee.specs.Allocatee.{Device}
use Rattle.alloc_spec.specs.Transfers.{id_of, ident_of}
use Rattle.bus_rows.specs.Timed.{Timed, rows_in}
use Rattle.service_alone.specs.Calm.{HasSettled, Pace, end_of}
use Rattle.service_calm.specs.Calm.{AreCalm, AreRunning, Device as OfDevice, Member as OfMember, Party, Traffic, no_traffic, traffic_after}
use Rattle.service_calm.specs.Comes.{Throughout}
use Rattle.service_calm.specs.Devices.{AllocationMayBegin, AreReadyToTell, DeviceHasMemory, SendsShortAllocations}
use Rattle.service_calm.specs.Sessions.{AllAdmit}
use Rattle.service_device.specs.Asking.{AskingDevicesAreHeardOut, HasIdBy, HasNoId, IsAsking, RecordsBy, time_to_be_heard_again}
use Rattle.service_device.specs.Dialog.{HasNothingToSay, HasRoomToTell, HaveRoom, HearsWholeBy}
use Rattle.service_device.specs.Settled.{EachRowLeavesItSettled, IsCalmUnder, IsSettled, StaysSettled}
use Rattle.service_leader.specs.LeadsOn.{FollowsWithin}
use Rattle.service_leader.proofs.Stretches.{end_both, throughout_rest, world_both}
use Rattle.service_device.proofs.AskingBefore.{IsMeanwhile, flying_as, meanwhile}
use Rattle.service_device.proofs.AskingDevice.{AreWound, as_device, wound_rows, wound_there}
use Rattle.service_device.proofs.AskingExchange.{rank}
use Rattle.service_device.proofs.AskingGoes.{IsGoingOn, goes_end}
use Rattle.service_device.proofs.AskingRows.{each_row}
use Rattle.service_device.proofs.AskingTimes.{until_least}
use Rattle.service_calm.proofs.DevicesSteps.{small_rows, small_there}
use Rattle.service_device.proofs.Dialog.{AllKnown, all_known, heard_by}
use Rattle.service_device.proofs.DialogFrames.{HasSource, IsBearable}
use Rattle.service_device.proofs.DialogOthers.{IsSilent, is_silent}
use Rattle.service_device.proofs.DialogPhases.{ahead, its_clock}
use Rattle.service_device.proofs.DialogScene.{Talk}
use Rattle.service_calm.proofs.Pair.{Only}
use Rattle.service_calm.proofs.Ways.{Waiting}
use Rattle.service_device.specs.ServiceBelow.{ServiceGrounds}
use Rattle.service_calm.proofs.Grounds.{calm_laws, is_server, well}
use Rattle.alloc_spec.specs.ClusterMembers.{AreMembers}
use Rattle.bus_spec.specs.Cluster.{Cluster, after_row, after_rows, cluster, world_of}
use Rattle.bus_spec.specs.Lawful.{DoNoHarm}

-- ---- until it is heard out

module _ (g : Talk) where
  -- what is known of the rows does not depend on the moment from which a dialog is timed
  known_from : (start : ℕ) (rows : List Timed) (moment : ℕ) (w : Cluster) → AllKnown g moment w rows
      → AllKnown (record g { start = start }) moment w rows
  known_from start [] moment w known = tt
  known_from start (timed ∷ rest) moment w known = (
    record { leaves = known.0.leaves; memory = known.0.memory; room = known.0.room; others = known.0.others },
    known_from start rest timed.at (after_row w timed.row) known.1,
  )

  abbrev Last : ℕ → ℕ
  Last from = from + time_to_be_heard_again g.pace

  abbrev pub Outcome : ℕ → ℕ → Cluster → List Timed → Type 0
  Outcome last moment w rows = HearsWholeBy g.n g.a g.log (ahead g) (2 * g.pace.delay + its_clock g) g.uid g.preferred moment last w rows
      ⊎ (HasIdBy g.a moment last w rows ⊎ RecordsBy g.n g.log (ahead g) moment last w rows)

  behind : (last moment : ℕ) (w : Cluster) (timed : Timed) (rest : List Timed) → Outcome last timed.at (after_row w timed.row) rest → Outcome last moment w (timed ∷ rest)
  behind last moment w timed rest (inl by) = inl (record {
    front = timed ∷ by.front;
    timed = by.timed;
    rest = by.rest;
    split = ap (λ (l : List Timed). timed ∷ l) by.split;
    soon = by.soon;
    settled = by.settled;
    hears = by.hears;
    waits = by.waits;
  })
  behind last moment w timed rest (inr (inl by)) = inr (inl (record {
    front = timed ∷ by.front;
    rest = by.rest;
    split = ap (λ (l : List Timed). timed ∷ l) by.split;
    soon = by.soon;
    device = by.device;
    there = by.there;
    node = by.node;
    holds = by.holds;
  }))
  behind last moment w timed rest (inr (inr by)) = inr (inr (record {
    front = timed ∷ by.front;
    timed = by.timed;
    rest = by.rest;
    split = ap (λ (l : List Timed). timed ∷ l) by.split;
    soon = by.soon;
    settled = by.settled;
    uid = by.uid;
    preferred = by.preferred;
    hears = by.hears;
    recorded = by.recorded;
  }))

  pub heard_again : (from : ℕ) (rows : List Timed) (traffic : Traffic) (w : Cluster) → IsGoingOn g from traffic w → AreCalm g.group g.clocks g.pace traffic w rows
      → AllKnown g traffic.at w rows → SendsShortAllocations g.n w rows → traffic.at ≤ Last from → Last from < end_of traffic.at rows
      → Outcome (Last from) traffic.at w rows
  heard_again from [] traffic w goes calm known short now long = absurd (omega (arith, now, long))
  heard_again from (timed ∷ rest) traffic w goes calm known short now long =
      elim (each_row g from traffic w goes timed.at calm.0 timed.row calm.1 known.0 short.0) [
        | inl on ↦ behind (Last from) traffic.at w timed rest
            (heard_again from rest (traffic_after traffic w timed) (after_row w timed.row) on calm.2 known.1 short.1 by long)
        | inr y ↦ elim y [
          | inl held ↦ inr (inl (record {
            front = timed ∷ [];
            rest = rest;
            split = refl;
            soon = by;
            device = held.0;
            there = held.1;
            node = held.2;
            holds = held.3;
          }))
          | inr z ↦ elim z [
            | inl grows ↦ inr (inr (record {
              front = [];
              timed = timed;
              rest = rest;
              split = refl;
              soon = by;
              settled = grows.0;
              uid = grows.1;
              preferred = grows.2;
              hears = grows.3;
              recorded = grows.4;
            }))
            | inr anew ↦ behind (Last from) traffic.at w timed rest (inl (anew_heard anew.0 anew.1
                (heard_by (record g { start = anew.0 }) rest (traffic_after traffic w timed) (after_row w timed.row) anew.3 calm.2
                (known_from anew.0 rest timed.at (after_row w timed.row) known.1) (let s = anew.2 in omega (arith, s)) (let s = anew.1 in omega (arith, s, long)))))
          ]
        ]
      ]
    where
      by : timed.at ≤ Last from
      by = let e = goes_end g from traffic w goes timed.at calm.0 in let q = g.quick in omega (arith, e, q)

      anew_heard : (start : ℕ) → start ≤ from + 1300 + 3 * g.pace.period + 12 * g.pace.delay
          → HearsWholeBy g.n g.a g.log (ahead g) (2 * g.pace.delay + its_clock g) g.uid g.preferred timed.at (start + (1800 + 3 * g.pace.period + 10 * g.pace.delay)) (after_row w timed.row) rest
          → HearsWholeBy g.n g.a g.log (ahead g) (2 * g.pace.delay + its_clock g) g.uid g.preferred timed.at (Last from) (after_row w timed.row) rest
      anew_heard start low h = record {
        front = h.front;
        timed = h.timed;
        rest = h.rest;
        split = h.split;
        soon = let s = h.soon in omega (arith, s, low);
        settled = h.settled;
        hears = h.hears;
        waits = h.waits;
      }

-- ---- when it is to be heard out

module _ (g : Talk) (traffic : Traffic) (w : Cluster) (m : IsMeanwhile g traffic w) (settled : HasSettled g.n g.log (traffic.at + ahead g) w)
    (wound : AreWound m.device.asking) (small : m.device.asking.id < 32) (none : m.device.asking.holds ≡ None) where
  pub goes_on_from : IsGoingOn g traffic.at traffic w
  goes_on_from = record {
    accepted = settled.server.accepted;
    xs = m.xs;
    cs = m.to_leader.0;
    ss = m.to_device.0;
    road = record {
      settled = record { settled = settled; requests = refl };
      well = m.well;
      front = m.front;
      expected = m.expected;
      pair = m.pair;
      bears = flying_as (IsBearable g.n) g.pace.delay w.frames (traffic.to (OfDevice g.a)) m.to_device.0 m.to_device.1;
      requests = flying_as HasSource g.pace.delay w.frames (traffic.to (OfMember g.n)) m.to_leader.0 m.to_leader.1;
    };
    old = m.to_device.2;
    queue = m.device.asking.queue;
    request = m.device.asking.request;
    follow_up = m.device.asking.follow_up;
    asker = record {
      id = m.device.asking.id;
      moment = m.device.asking.moment;
      sessions = m.device.sessions;
      there = m.there ∙ ap (λ (d : Device). Some d) (as_device g.uid g.preferred m.device m.its_uid m.prefers none);
      small = small;
      read = m.clock;
      past = m.ticked;
    };
    times = record {
      least = wound.least;
      most = wound.most;
      behind = wound.behind;
      begun = let s = wound.since in let c = m.clock in omega (arith, s, c);
      asked = traffic.at;
      asked_past = omega arith;
      asked_by = inl (omega arith);
      sent = λ c i. let l = m.to_leader.2 c i in (l, inl (omega (arith, l)));
      waiting = inr (m.waits, λ f i. inl (let l = m.waits in omega (arith, l)));
      followed = λ f e. inl m.ticked;
      requested = inl (let l = m.ticked in omega (arith, l));
      past = m.pair.past;
      made_by = λ x i. let p = m.pair.past x i in let u = until_least g traffic.at (rank settled.server.accepted) in (omega (arith, p, u), omega (arith, p));
      since_by = let s = wound.since in let c = m.clock in let u = until_least g traffic.at (rank settled.server.accepted) in omega (arith, s, c, u);
      fresh = inl settled.requests;
    };
  }

  -- another member is silent
  pub silent_there : (p : ℕ) (i : In (OfMember p) g.group) → HasNothingToSay p (traffic.at + g.clocks (OfMember p)) w
      → IsSilent (calm_laws g.below.calm) g.group g.clocks g.pace p (g.nodes p i) (traffic.at + g.clocks (OfMember p)) w
  silent_there p i h = let its = m.well.members p i in
      is_silent (calm_laws g.below.calm) g.group g.clocks g.pace p (g.nodes p i) (traffic.at + g.clocks (OfMember p)) w its.server its.up its.its h

-- ---- when the calm begins

module _ (below : ServiceGrounds) (ids : List ℕ) (members : AreMembers ids) (list : List Row) (harmless : DoNoHarm (cluster ids) list) (g : Talk) (start : ℕ)
    (listed : (p : ℕ) → In (OfMember p) g.group → In p ids) (running : AreRunning g.group (world_of ids list)) (ready : AreReadyToTell g.n g.a (world_of ids list))
    (begins : g.base ≡ ready.device.asking.moment) (may : AllocationMayBegin g.n ready.device (id_of ready.sender.ids Alloc 0))
    (asks : IsAsking g.group g.a g.uid g.preferred (start + its_clock g) (world_of ids list)) where
  pub at_first : IsMeanwhile g (no_traffic start) (world_of ids list)
  at_first =
      let of_n = running g.n g.in_n in record {
        well = well below.calm ids members list harmless g.group listed running;
        xs = [];
        front = [];
        expected = Only (id_of ready.sender.ids Alloc 0);
        pair = record {
          sender = ready.sender;
          sender_up = record { status = ready.sends; quiet = record { faults = of_n.faults; calls = of_n.disk } };
          sender_is = is_server below.calm ids members list harmless g.n ready.sender (listed g.n g.in_n) ready.sends;
          sessions = ready.device.sessions;
          now = ready.device.asking.moment;
          hears = record { device = ready.device; there = ready.there; has = refl; reads = refl };
          flying = [];
          waiting = [];
          pending = refl;
          flies = refl;
          waits = subst (λ (l : List Queued). Waiting start l []) (sym ready.none_waits) tt;
          since = omega arith;
          mode = refl;
          stage = λ id small fits. subst (λ (base : ℕ). AllAdmit base (key_of (ident_of g.n Alloc 0)) id ready.device.sessions) (sym begins)
              (subst (AllocationMayBegin g.n ready.device) (sym fits) may);
          differ = tt;
          ones_are = λ x i. absurd i;
          past = λ x i. absurd i;
          low = omega (arith, begins);
          high = omega (arith, begins);
        };
        to_device = ([], refl, λ c i. absurd i);
        to_leader = ([], refl, λ c i. absurd i);
        device = asks.device;
        there = asks.there;
        its_uid = asks.its_uid;
        prefers = asks.prefers;
        clock = asks.clock;
        ticked = omega arith;
        waits = omega arith;
      }

-- ---- the law

module _ (below : ServiceGrounds) (ids : List ℕ) (members : AreMembers ids) (list : List Row) (harmless : DoNoHarm (cluster ids) list)
    (leaves : EachRowLeavesItSettled ids list) where
  module _ (group : List Party) (clocks : Party → ℕ) (pace : Pace) (start n a term : ℕ) (uid : List ℕ) (preferred : ℕ) (log : List Entry) (first early later : List Timed)
      (under : IsCalmUnder ids list group clocks pace start n term first (early ++ later))
      (asks : IsAsking group a uid preferred (start + clocks (OfDevice a)) (world_of ids list)) (ready : AreReadyToTell n a (world_of ids list))
      (may : AllocationMayBegin n ready.device (id_of ready.sender.ids Alloc 0)) (quick : pace.period + 4 * pace.delay ≤ 100)
      (undisturbed : HaveRoom n a (world_of ids list) (first ++ (early ++ later))) (short : SendsShortAllocations n (world_of ids list) (first ++ (early ++ later))) where
    abbrev w : Cluster
    w = world_of ids list

    -- the world from which on n leads, and the one behind more rows
    abbrev led : Cluster
    led = after_rows w (rows_in first)

    abbrev then_w : Cluster
    then_w = after_rows led (rows_in early)

    abbrev moment : ℕ
    moment = end_of (end_of start first) early

    abbrev g : Talk
    g = record {
      below = below;
      group = group;
      clocks = clocks;
      pace = pace;
      nodes = λ p i. members.nodes p (under.listed p i);
      n = n;
      in_n = under.member;
      a = a;
      in_a = asks.of_group;
      alone = asks.alone;
      uid = uid;
      whole = asks.whole;
      preferred = preferred;
      few = asks.small;
      log = log;
      start = start;
      base = ready.device.asking.moment;
      quick = quick;
    }

    -- what holds there
    abbrev There : Cluster → List Timed → ℕ → Type 0
    There v rest at = (t : Traffic) × (t.at ≡ at) × IsMeanwhile g t v × AreCalm group clocks pace t v rest × Throughout (DeviceHasMemory a) v rest × SendsShortAllocations n v rest

    at_led : There led (early ++ later) (end_of start first)
    at_led = meanwhile g first (early ++ later) (no_traffic start) w
        (at_first below ids members list harmless g start under.listed under.running ready refl may asks) under.calm undisturbed.memory short

    at_there : There then_w later moment
    at_there =
        let two = meanwhile g early later at_led.0 led at_led.2 at_led.3 at_led.4 at_led.5 in
        (two.0, two.1 ∙ ap (λ (k : ℕ). end_of k early) at_led.1, two.2, two.3, two.4, two.5)

    module _ (no_id : HasNoId a then_w) (settled : HasSettled n log (moment + clocks (OfMember n)) then_w)
        (others : (m : ℕ) → In (OfMember m) group → m ≢ n → HasNothingToSay m (moment + clocks (OfMember m)) then_w) where
      wound : AreWound at_there.2.device.asking
      wound = wound_there then_w.allocatee a at_there.2.device (wound_rows led (rows_in early) (wound_rows w (rows_in first) (wound_rows (cluster ids) list (λ b. tt)))) at_there.2.there

      small : at_there.2.device.asking.id < 32
      small = small_there then_w.allocatee a at_there.2.device (small_rows led (rows_in early) (small_rows w (rows_in first) (small_rows (cluster ids) list (λ b. tt)))) at_there.2.there

      settled_there : HasSettled n log (at_there.0.at + clocks (OfMember n)) then_w
      settled_there = subst (λ (k : ℕ). HasSettled n log (k + clocks (OfMember n)) then_w) (sym at_there.1) settled

      goes : IsGoingOn g at_there.0.at at_there.0 then_w
      goes = goes_on_from g at_there.0 then_w at_there.2 settled_there wound small (no_id at_there.2.device at_there.2.there)

      silent : (m : ℕ) (i : In (OfMember m) group) → m ≢ n → IsSilent (calm_laws below.calm) group clocks pace m (g.nodes m i) (at_there.0.at + clocks (OfMember m)) then_w
      silent m i differ = silent_there g at_there.0 then_w at_there.2 settled_there wound small (no_id at_there.2.device at_there.2.there) m i
          (subst (λ (k : ℕ). HasNothingToSay m (k + clocks (OfMember m)) then_w) (sym at_there.1) (others m i differ))

      follows : (front rest : List Timed) → later ≡ front ++ rest → (m : ℕ) → In (OfMember m) group → m ≢ n → FollowsWithin m term (after_rows then_w (rows_in front))
      follows front rest e m i differ = subst (FollowsWithin m term) (world_both led early front)
          ((under.led (early ++ front) rest (ap (λ (l : List Timed). early ++ l) e ∙ sym (append_assoc early front rest))).others m i differ)

      leaves_it : (front rest : List Timed) (timed : Timed) → later ≡ front ++ timed ∷ rest → (accepted : List Accepted)
          → IsSettled n log accepted (end_of at_there.0.at front + clocks (OfMember n)) (after_rows then_w (rows_in front))
          → StaysSettled n log accepted (timed.at + clocks (OfMember n)) (after_rows then_w (rows_in front)) timed.row
      leaves_it front rest timed e accepted its =
          let ends : end_of (end_of start first) (early ++ front) ≡ end_of at_there.0.at front
          = end_both (end_of start first) early front ∙ ap (λ (k : ℕ). end_of k front) (sym at_there.1) in
          subst (λ (v : Cluster). StaysSettled n log accepted (timed.at + clocks (OfMember n)) v timed.row) (world_both led early front)
          (leaves group clocks pace start n term log accepted first (early ++ front) rest timed
          (subst (λ (l : List Timed). IsCalmUnder ids list group clocks pace start n term first l)
          (ap (λ (l : List Timed). early ++ l) e ∙ sym (append_assoc early front (timed ∷ rest))) under)
          (subst (λ (v : Cluster). IsSettled n log accepted (end_of (end_of start first) (early ++ front) + clocks (OfMember n)) v) (sym (world_both led early front))
          (subst (λ (k : ℕ). IsSettled n log accepted (k + clocks (OfMember n)) (after_rows then_w (rows_in front))) (sym ends) its)))

      known : AllKnown g at_there.0.at then_w later
      known = all_known g term later at_there.0 then_w at_there.2.well at_there.3 silent follows at_there.4
          (throughout_rest (HasRoomToTell n) early later led (throughout_rest (HasRoomToTell n) first (early ++ later) w undisturbed.room)) leaves_it

      abbrev Heard : ℕ → Type 0
      Heard k = Outcome g (k + time_to_be_heard_again pace) k then_w later

      heard : moment + time_to_be_heard_again pace < end_of moment later → Heard moment
      heard long = subst Heard at_there.1 (heard_again g at_there.0.at later at_there.0 then_w goes at_there.3 known at_there.5 (omega arith)
          (subst (λ (k : ℕ). k + time_to_be_heard_again pace < end_of k later) (sym at_there.1) long))

  pub asking_heard : AskingDevicesAreHeardOut ids list
  asking_heard group clocks pace start n a term uid preferred log first early later under asks ready may no_id settled others undisturbed short quick long =
      heard group clocks pace start n a term uid preferred log first early later under asks ready may quick undisturbed short no_id settled others long
