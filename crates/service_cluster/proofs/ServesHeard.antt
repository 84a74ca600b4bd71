-- A device is served by a leader that has settled, long enough after the elections ended.
use Rattle.std.proofs.Common.{◌≡◌, ◌≢◌, ℕ, ◌+◌, ◌*◌, ◌<◌, ◌≤◌, arith, Bool, Option, None, Some, List, [], ◌∷◌, ◌++◌, length, append_assoc, refl, sym, ◌∙◌, ap, subst, inl, inr}
use Rattle.std.specs.Prelude.{◌⊎◌, is_some, max, slice_index_or, true}
use Rattle.std.proofs.lemmas.Nat.{mul-le}
use Rattle.alloc_exchange.specs.Exchange.{answer}
use Rattle.alloc_exchange.specs.declared.heard.Heard.TheVariants.{Whole}
use Rattle.can_frame.specs.declared.entry.Entry.{Entry}
use Rattle.can_frame.specs.Log.{HasPair, HasUid, blank}
use Rattle.dsdl_codec.specs.declared.allocation.Allocation.{Allocation}
use Rattle.raft_model.specs.Lists.{In, how_many}
use Rattle.raft_model.specs.Server.{quorum}
use Rattle.bus_rows.specs.declared.row.Row.{Row}
use Rattle.allocatee.specs.Allocatee.{Device}
use Rattle.alloc_spec.specs.AllocatorState.{AllocatorState}
use Rattle.alloc_spec_laws.proofs.Logs.{not_told}
use Rattle.bus_rows.specs.Timed.{Timed, rows_in}
use Rattle.service_alone.specs.Calm.{HasSettled, Pace, end_of}
use Rattle.service_calm.specs.Calm.{Device as OfDevice, Member as OfMember}
use Rattle.service_calm.specs.Comes.{Throughout}
use Rattle.service_calm.proofs.Pair.{same_server}
use Rattle.service_leader.specs.Entries.{KeepsCalling, is_one_of}
use Rattle.service_leader.specs.LeadsOn.{IsLedThroughout}
use Rattle.service_leader.specs.NoElection.{CallsFit, heard_within}
use Rattle.service_leader.proofs.Stretches.{calm_first, end_both, not_before, world_both}
use Rattle.service_cluster.specs.ComeBack.{IsCalmOfDevice, served_within, settled_in}
use Rattle.service_cluster.specs.Restart.{settled_within}
use Rattle.service_cluster.proofs.BackFronts.{pairs_rest}
use Rattle.service_cluster.proofs.BackGiven.{IsFine, Scene, there, w0}
use Rattle.service_cluster.proofs.BackSettles.{calm_cut, cut_all, fine_at, fit_at, goes_from, keeps, under}
use Rattle.service_cluster.proofs.Others.{apart_in, as_many, not_alone, others_in}
use Rattle.service_cluster.proofs.ServesLogs.{has_or_not, has_pair}
use Rattle.service_elections.specs.Rounds.{led_within}
use Rattle.service_device.specs.Asking.{AskingDevicesAreHeardOut, HasIdBy, HasNoId, RecordsBy, time_to_be_heard_again}
use Rattle.service_device.specs.AskingKnown.{HeardKnownDevicesAreTold, RecordedDevicesAreServed, WhoFollowsFallsSilent}
use Rattle.service_device.specs.AskingServed.{CanBeTold, CanCommitWith, HeardDevicesAreServed, serve_within}
use Rattle.service_device.specs.Dialog.{HasNothingToSay, HasRoomToTell, HearsWholeBy}
use Rattle.service_device.specs.Requests.{DevicesTellParts, IsTellingCalm, TellsAt, TellsParts, WholeIsTheDevices}
use Rattle.service_device.specs.Served.{HasPlaceFor, ListsAll, PairsFit}
use Rattle.service_device.specs.Settled.{IsAsked, IsCalmUnder}
use Rattle.service_device.specs.Tidy.{IsFit}
use Rattle.bus_spec.specs.Cluster.{Cluster, after_rows}
use Rattle.bus_spec.specs.Lawful.{DoNoHarm}
use Rattle.bus_spec.specs.Members.MemberStatus.{Up}

-- what it stands on, besides what the return of a cluster does
pub record ServesGiven (ids : List ℕ) (rows : List Row) : Type 0 where
  pub silent : WhoFollowsFallsSilent ids rows
  pub heard_out : AskingDevicesAreHeardOut ids rows
  pub served : HeardDevicesAreServed ids rows
  pub known : HeardKnownDevicesAreTold ids rows
  pub recorded : RecordedDevicesAreServed ids rows
  pub whole_is : WholeIsTheDevices ids rows
  pub tell : DevicesTellParts ids rows

-- a longer log takes longer
serve_low : (pace : Pace) (places longest : ℕ) → places ≤ longest → serve_within pace places ≤ serve_within pace longest
serve_low pace places longest low =
    let few : 2 * (places + 1) + 1 ≤ 2 * (longest + 1) + 1 = omega (arith, low) in
    let more = mul-le (4 * pace.delay) (2 * (places + 1) + 1) (4 * pace.delay) (2 * (longest + 1) + 1) (omega arith) few in
    sum_low (4 * pace.delay * (2 * (places + 1) + 1)) (4 * pace.delay * (2 * (longest + 1) + 1)) more
  where
    sum_low : (a b : ℕ) → a ≤ b → pace.period + a + 2 * pace.delay ≤ pace.period + b + 2 * pace.delay
    sum_low a b h = omega (arith, h)

same_device : (x y : Device) → Some x ≡ Some y → x ≡ y
same_device x y e = cc e

module _ (g : Scene) (s : ServesGiven g.ids g.rows) (a : ℕ) (uid : List ℕ) (preferred : ℕ)
    (d : IsCalmOfDevice g.ids g.rows g.group g.clocks g.pace g.start g.longest a uid preferred g.whole) where
  harmless_whole : (front rest : List Timed) → g.whole ≡ front ++ rest → DoNoHarm (w0 g) (rows_in (front ++ rest))
  harmless_whole front rest cut = subst (λ (l : List Timed). DoNoHarm (w0 g) (rows_in l)) cut g.calm.calm.harmless

  -- each member lists all
  lists_all : (m : ℕ) → In (OfMember m) g.group → ListsAll m g.ids (w0 g)
  lists_all m i p j server up = g.given.lists [] m server tt (g.calm.calm.listed m i) up (g.calm.calm.complete m server i up) p j

  -- the device tells parts of its unique ID
  tells : TellsAt a uid (w0 g)
  tells x there =
      let same : d.asks.device ≡ x = same_device d.asks.device x (sym d.asks.there ∙ there) in
      subst (λ (y : Device). TellsParts uid y.asking) same (subst (λ (u : List ℕ). TellsParts u d.asks.device.asking) d.asks.its_uid
      (s.tell a d.asks.device d.asks.there (ap length d.asks.its_uid ∙ d.asks.whole) (subst (λ (p : ℕ). p < 128) (sym d.asks.prefers) d.asks.small)))

  -- what a request makes whole is the device's unique ID
  pub whole_is : (m : ℕ) → In (OfMember m) g.group → (front rest : List Timed) (timed : Timed) → g.whole ≡ front ++ timed ∷ rest
      → (message : Allocation) (asked : IsAsked m message (there g front) timed.row) (follow : Bool) (whole : List ℕ) (node : ℕ)
      → answer asked.comes.server.accepted message (max asked.comes.server.now asked.comes.ms) follow ≡ Whole whole node → whole ≡ uid
  whole_is m i front rest timed cut message asked follow whole node e = s.whole_is g.group g.clocks g.pace g.start a m uid front rest timed message follow whole node
      telling i asked e
    where
      telling : IsTellingCalm g.ids g.rows g.group g.clocks g.pace g.start a uid (front ++ timed ∷ rest)
      telling = record {
        listed = g.calm.calm.listed;
        running = g.calm.calm.running;
        alone = d.asks.alone;
        size = d.asks.whole;
        calm = calm_cut g front (timed ∷ rest) cut;
        device = tells;
        harmless = harmless_whole front (timed ∷ rest) cut;
        begins = d.begun;
      }

  -- so it is in a world that is the same
  pub whole_in : (m : ℕ) → In (OfMember m) g.group → (front rest : List Timed) (timed : Timed) → g.whole ≡ front ++ timed ∷ rest
      → (v : Cluster) → there g front ≡ v
      → (message : Allocation) (asked : IsAsked m message v timed.row) (follow : Bool) (whole : List ℕ) (node : ℕ)
      → answer asked.comes.server.accepted message (max asked.comes.server.now asked.comes.ms) follow ≡ Whole whole node → whole ≡ uid
  whole_in m i front rest timed cut v e = subst (λ (z : Cluster). (message : Allocation) (asked : IsAsked m message z timed.row) (follow : Bool) (whole : List ℕ) (node : ℕ)
      → answer asked.comes.server.accepted message (max asked.comes.server.now asked.comes.ms) follow ≡ Whole whole node → whole ≡ uid) e
      (whole_is m i front rest timed cut)

  module _ (few later : List Timed) (cut : g.rest ≡ few ++ later)
      (late : end_of g.start g.front + heard_within g.pace + 2 * g.pace.delay < end_of (end_of g.start g.front) few)
      (early rest : List Timed) (split : later ≡ early ++ rest) (log : List Entry)
      (settled : HasSettled g.n log (end_of (end_of g.start (g.front ++ few)) early + g.clocks (OfMember g.n)) (after_rows (there g (g.front ++ few)) (rows_in early)))
      (soon : end_of (end_of g.start (g.front ++ few)) early ≤ g.start + led_within g.pace (length g.ids) + settled_in g.pace g.longest + settled_within g.pace g.longest)
      (long : g.start + served_within g.pace (length g.ids) g.longest < end_of g.start g.whole) where
    -- the moment at which it has settled, and the world then
    abbrev moment : ℕ
    moment = end_of (end_of g.start (g.front ++ few)) early

    abbrev here : Cluster
    here = after_rows (there g (g.front ++ few)) (rows_in early)

    cut_first : g.whole ≡ (g.front ++ few) ++ (early ++ rest)
    cut_first = cut_all g few later cut ∙ ap (λ (l : List Timed). (g.front ++ few) ++ l) split

    cut_early : g.whole ≡ ((g.front ++ few) ++ early) ++ rest
    cut_early = cut_first ∙ sym (append_assoc (g.front ++ few) early rest)

    moment_is : end_of g.start ((g.front ++ few) ++ early) ≡ moment
    moment_is = end_both g.start (g.front ++ few) early

    here_is : there g ((g.front ++ few) ++ early) ≡ here
    here_is = world_both (w0 g) (g.front ++ few) early

    under_early : IsCalmUnder g.ids g.rows g.group g.clocks g.pace g.start g.n g.term (g.front ++ few) (early ++ rest)
    under_early = subst (IsCalmUnder g.ids g.rows g.group g.clocks g.pace g.start g.n g.term (g.front ++ few)) split (under g few later cut)

    -- ---- times

    end_is : end_of moment rest ≡ end_of g.start g.whole
    end_is = ap (λ (m : ℕ). end_of m rest) (sym moment_is) ∙ (sym (end_both g.start ((g.front ++ few) ++ early) rest) ∙ ap (end_of g.start) (sym cut_early))

    abbrev last : ℕ
    last = moment + time_to_be_heard_again g.pace

    all_soon : last + serve_within g.pace g.longest ≤ g.start + served_within g.pace (length g.ids) g.longest
    all_soon = omega (arith, soon)

    is_short : length log ≤ g.longest
    is_short = subst (λ (l : List Entry). length l ≤ g.longest) settled.log_is (g.calm.logs ((g.front ++ few) ++ early) rest g.n settled.server cut_early g.member
        (subst (λ (v : Cluster). (v.member g.n).status ≡ Up settled.server) (sym here_is) settled.runs))

    abbrev served_at : ℕ
    served_at = last + serve_within g.pace (length log)

    served_soon : served_at ≤ g.start + served_within g.pace (length g.ids) g.longest
    served_soon = sums last (serve_within g.pace (length log)) (serve_within g.pace g.longest) (g.start + served_within g.pace (length g.ids) g.longest)
        (serve_low g.pace (length log) g.longest is_short) all_soon
      where
        sums : (a b c e : ℕ) → b ≤ c → a + c ≤ e → a + b ≤ e
        sums a b c e h k = omega (arith, h, k)

    before_end : (at : ℕ) → at ≤ g.start + served_within g.pace (length g.ids) g.longest → at < end_of moment rest
    before_end at low = let e = end_is in chain at (g.start + served_within g.pace (length g.ids) g.longest) (end_of g.start g.whole) (end_of moment rest) low long e
      where
        chain : (a b c e : ℕ) → a ≤ b → b < c → e ≡ c → a < e
        chain a b c e h k same = omega (arith, h, k, same)

    -- ---- the others have nothing to tell

    abbrev has_led : List Timed
    has_led = few ++ early

    cut_led : g.rest ≡ has_led ++ rest
    cut_led = cut ∙ (ap (λ (l : List Timed). few ++ l) split ∙ sym (append_assoc few early rest))

    led_end : end_of (end_of g.start g.front) has_led ≡ moment
    led_end = end_both (end_of g.start g.front) few early ∙ ap (λ (m : ℕ). end_of m early) (sym (end_both g.start g.front few))

    led_world : after_rows (there g g.front) (rows_in has_led) ≡ here
    led_world = world_both (there g g.front) few early ∙ ap (λ (v : Cluster). after_rows v (rows_in early)) (sym (world_both (w0 g) g.front few))

    not_sooner : end_of g.start (g.front ++ few) ≤ moment
    not_sooner = not_before g.group g.clocks g.pace early (end_of g.start (g.front ++ few)) (there g (g.front ++ few))
        (calm_first g.group g.clocks g.pace early rest (end_of g.start (g.front ++ few)) (there g (g.front ++ few)) (goes_from g (g.front ++ few) (early ++ rest) cut_first))

    silent : (m : ℕ) → In (OfMember m) g.group → m ≢ g.n → HasNothingToSay m (moment + g.clocks (OfMember m)) here
    silent m i differs = subst (λ (k : ℕ). HasNothingToSay m (k + g.clocks (OfMember m)) here) led_end
        (subst (HasNothingToSay m (end_of (end_of g.start g.front) has_led + g.clocks (OfMember m))) led_world
        (s.silent g.group g.clocks g.pace g.start g.n m g.term g.front has_led rest is.server g.calm.calm.listed g.calm.calm.running
        (calm_cut g g.front (has_led ++ rest) cut_whole) (harmless_whole g.front (has_led ++ rest) cut_whole)
        (subst (IsLedThroughout g.group g.n g.term (there g g.front)) cut_led g.led.led) i differs is.runs is.last_request
        (let e = led_end in let f = end_both g.start g.front few in let h = not_sooner in omega (arith, e, f, h, late))))
      where
        is : IsFit m (end_of g.start g.front + g.clocks (OfMember m)) (there g g.front)
        is = fit_at g m i g.front g.rest g.split

        cut_whole : g.whole ≡ g.front ++ (has_led ++ rest)
        cut_whole = g.split ∙ ap (λ (l : List Timed). g.front ++ l) cut_led

    -- ---- who can be told, and who commits

    told : CanBeTold g.group g.n a (w0 g) ((g.front ++ few) ++ (early ++ rest))
    told = subst (CanBeTold g.group g.n a (w0 g)) cut_first (d.told g.n g.member)

    room : Throughout (HasRoomToTell g.n) (w0 g) ((g.front ++ few) ++ (early ++ rest))
    room = subst (Throughout (HasRoomToTell g.n) (w0 g)) cut_first (d.room g.n g.member)

    pairs : PairsFit g.n here rest
    pairs = subst (λ (v : Cluster). PairsFit g.n v rest) here_is
        (pairs_rest g.n ((g.front ++ few) ++ early) rest (w0 g) (subst (PairsFit g.n (w0 g)) cut_early (d.fits g.n g.member)))

    fits : CallsFit g.n (w0 g) ((g.front ++ few) ++ (early ++ rest))
    fits = subst (CallsFit g.n (w0 g)) cut_first (g.calm.calm.calls_fit g.n g.member)

    abbrev Commits : List ℕ → Type 0
    Commits others = CanCommitWith g.ids g.group g.n g.pace.delay others (w0 g) (g.front ++ few) (early ++ rest)

    commits : (one : ℕ) × (next : List ℕ) × Commits (one ∷ next)
    commits = by (others_in g.group g.n) (λ m i. apart_in g.group g.n m i) (as_many g.group g.n g.ids g.calm.calm.many)
      where
        by : (others : List ℕ) → ((m : ℕ) → In m others → In (OfMember m) g.group × (m ≢ g.n)) → quorum g.ids ≤ how_many (is_one_of g.n others) g.ids
            → (one : ℕ) × (next : List ℕ) × Commits (one ∷ next)
        by [] apart many = absurd (not_alone g.n g.ids g.given.members.once g.calm.calm.others many)
        by (one ∷ next) apart many = (
          one,
          next,
          record {
            apart = apart;
            many = many;
            calling = λ m i. subst (KeepsCalling g.n m g.pace.delay (w0 g) (g.front ++ few)) split (keeps g few later cut late m (apart m i).0 (apart m i).1);
          },
        )

    -- ---- the device

    abbrev Serves : Type 0
    Serves = HasIdBy a g.start (g.start + served_within g.pace (length g.ids) g.longest) (w0 g) g.whole

    has_id : (at : ℕ) → at ≤ g.start + served_within g.pace (length g.ids) g.longest → HasIdBy a moment at here rest → Serves
    has_id at low by = record {
      front = ((g.front ++ few) ++ early) ++ by.front;
      rest = by.rest;
      split = cut_early ∙ (ap (λ (l : List Timed). ((g.front ++ few) ++ early) ++ l) by.split ∙ sym (append_assoc ((g.front ++ few) ++ early) by.front by.rest));
      soon =
          let e = end_both g.start ((g.front ++ few) ++ early) by.front ∙ ap (λ (m : ℕ). end_of m by.front) moment_is in
          let q = by.soon in chain (end_of g.start (((g.front ++ few) ++ early) ++ by.front)) (end_of moment by.front) at (g.start + served_within g.pace (length g.ids) g.longest) e q low;
      device = by.device;
      there = ap (λ (v : Cluster). v.allocatee a) (world_both (w0 g) ((g.front ++ few) ++ early) by.front ∙ ap (λ (v : Cluster). after_rows v (rows_in by.front)) here_is)
          ∙ by.there;
      node = by.node;
      holds = by.holds;
    }
      where
        chain : (a b c e : ℕ) → a ≡ b → b ≤ c → c ≤ e → a ≤ e
        chain a b c e same h k = omega (arith, same, h, k)

    abbrev Hears : Type 0
    Hears = HearsWholeBy g.n a log (g.clocks (OfMember g.n)) (2 * g.pace.delay + g.clocks (OfDevice a)) uid preferred moment last here rest

    abbrev Records : Type 0
    Records = RecordsBy g.n log (g.clocks (OfMember g.n)) moment last here rest

    up_there : ((there g ((g.front ++ few) ++ early)).member g.n).status ≡ Up settled.server
    up_there = subst (λ (v : Cluster). (v.member g.n).status ≡ Up settled.server) (sym here_is) settled.runs

    is_fine : IsFine settled.server
    is_fine = fine_at g g.n g.member ((g.front ++ few) ++ early) rest cut_early settled.server up_there

    -- where the log lacks the unique ID, there is a place for it
    place : (HasUid log uid → ⊥) → HasPlaceFor g.ids log uid
    place new = subst (λ (l : List Entry). HasPlaceFor g.ids l uid) settled.log_is
        (d.place ((g.front ++ few) ++ early) rest g.n settled.server cut_early g.member up_there (λ h. new (subst (λ (l : List Entry). HasUid l uid) settled.log_is h)))

    -- where it is heard whole
    on_heard : HasUid log uid ⊎ (HasUid log uid → ⊥) → Hears → Serves
    on_heard (inl has) hears =
        let store_has = subst (λ (l : List Entry). HasUid l uid) (sym settled.log_is) has in
        let pair = subst (λ (l : List Entry). HasPair l uid (slice_index_or settled.server.raft_server.store.log store_has.place (blank 0)).node) settled.log_is
        (has_pair settled.server.raft_server.store is_fine.store uid d.some store_has) in
        let quick = d.paced in
        let soon_told = all_soon in
        let told_at : last + 2 * g.pace.delay ≤ g.start + served_within g.pace (length g.ids) g.longest = omega (arith, soon_told) in
        has_id (last + 2 * g.pace.delay) told_at
        (s.known g.group g.clocks g.pace g.start g.n a g.term uid preferred (slice_index_or settled.server.raft_server.store.log store_has.place (blank 0)).node log last
        (2 * g.pace.delay + g.clocks (OfDevice a)) (g.front ++ few) early rest under_early (omega (arith, quick)) hears pair told room
        (before_end (last + 2 * g.pace.delay) told_at))
    on_heard (inr new) hears =
        let by = commits in
        let served = s.served g.group g.clocks g.pace g.start g.n a g.term uid preferred log by.0 by.1 last (2 * g.pace.delay + g.clocks (OfDevice a)) (g.front ++ few) early rest
        under_early hears (place new)
        (lists_all g.n g.member) fits pairs told by.2 g.calm.calm.quick (before_end served_at served_soon) in
        has_id served_at served_soon (record {
          front = served.front;
          rest = served.rest;
          split = served.split;
          soon = served.soon;
          device = served.holds.device;
          there = served.holds.there;
          node = served.node;
          holds = served.holds.its_node;
        })

    -- where the log grows by it meanwhile
    on_recorded : HasUid log uid ⊎ (HasUid log uid → ⊥) → Records → Serves
    on_recorded has r = by has
      where
        cut_row : g.whole ≡ (((g.front ++ few) ++ early) ++ r.front) ++ (r.timed ∷ r.rest)
        cut_row = cut_early ∙ (ap (λ (l : List Timed). ((g.front ++ few) ++ early) ++ l) r.split ∙ sym (append_assoc ((g.front ++ few) ++ early) r.front (r.timed ∷ r.rest)))

        row_world : after_rows here (rows_in r.front) ≡ there g (((g.front ++ few) ++ early) ++ r.front)
        row_world = sym (world_both (w0 g) ((g.front ++ few) ++ early) r.front ∙ ap (λ (v : Cluster). after_rows v (rows_in r.front)) here_is)

        is_uid : r.recorded.uid ≡ uid
        is_uid = whole_in g.n g.member (((g.front ++ few) ++ early) ++ r.front) r.rest r.timed cut_row (after_rows here (rows_in r.front)) (sym row_world)
            r.hears.message r.hears.asked true r.recorded.uid r.recorded.preferred r.recorded.whole

        by : HasUid log uid ⊎ (HasUid log uid → ⊥) → Serves
        by (inl is) = absurd (not_told r.hears.asked.comes.server.raft_server.store.log r.recorded.uid (ap (λ (o : Option ℕ). is_some o) r.recorded.may.new)
            (subst (HasUid r.hears.asked.comes.server.raft_server.store.log) (sym is_uid)
            (subst (λ (l : List Entry). HasUid l uid) (sym (ap (λ (t : AllocatorState). t.raft_server.store.log)
            (same_server r.hears.asked.comes.server r.settled.server (sym r.hears.asked.comes.runs ∙ r.settled.runs)) ∙ r.settled.log_is)) is)))
        by (inr new) =
            let them = commits in
            has_id served_at served_soon (s.recorded g.group g.clocks g.pace g.start g.n a g.term uid preferred log them.0 them.1 last (g.front ++ few) early rest
            under_early d.asks r is_uid (place new) (lists_all g.n g.member) fits pairs told them.2 g.calm.calm.quick (before_end served_at served_soon))

    asks : HasNoId a here → Serves
    asks none = elim (s.heard_out g.group g.clocks g.pace g.start g.n a g.term uid preferred log (g.front ++ few) early rest under_early d.asks told.ready told.begins none
        settled silent (record { memory = told.memory; room = room }) told.short d.paced
        (before_end last (let h = all_soon in omega (arith, h)))) [
          | inl hears ↦ on_heard (has_or_not log uid) hears
          | inr (inl by) ↦ has_id last (let h = all_soon in omega (arith, h)) by
          | inr (inr r) ↦ on_recorded (has_or_not log uid) r
        ]

    -- it holds a node ID in time
    pub serves : HasIdBy a g.start (g.start + served_within g.pace (length g.ids) g.longest) (w0 g) g.whole
    serves = by_device (here.allocatee a) refl
      where
        by_holds : (device : Device) → here.allocatee a ≡ Some device → (o : Option ℕ) → device.asking.holds ≡ o → Serves
        by_holds device e None h = asks (λ other f. ap (λ (x : Device). x.asking.holds) (same_device other device (sym f ∙ e)) ∙ h)
        by_holds device e (Some node) h = has_id moment (let k = all_soon in omega (arith, k)) (record {
          front = [];
          rest = rest;
          split = refl;
          soon = omega arith;
          device = device;
          there = e;
          node = node;
          holds = h;
        })

        by_device : (o : Option Device) → here.allocatee a ≡ o → Serves
        by_device None e = asks (λ device f. absurd (cc (sym e ∙ f)))
        by_device (Some device) e = by_holds device e device.asking.holds refl
