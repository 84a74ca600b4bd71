-- Who is heard out is served, from the middle of a calm on; and so is who is recorded.
use Rattle.std.proofs.Common.{◌≡◌, ℕ, ◌+◌, ◌*◌, ◌<◌, ◌≤◌, true, List, [], ◌∷◌, ◌++◌, length, append_assoc, max, sym, ◌∙◌, ap, subst, arith, Some}
use Rattle.alloc_exchange.specs.declared.heard.Heard.TheVariants.{Whole}
use Rattle.alloc_exchange.specs.Exchange.{answer}
use Rattle.can_frame.specs.declared.entry.Entry.{Entry}
use Rattle.can_frame.specs.Timing.{call_timeout}
use Rattle.dsdl_codec.specs.declared.allocation.Allocation.{Allocation}
use Rattle.dsdl_codec.specs.Allocation.{IsAllocation, allocation_bytes, allocation_of}
use Rattle.raft_core.specs.Taken.{proposal}
use Rattle.raft_model.specs.Lists.{In}
use Rattle.bus_rows.specs.declared.row.Row.{Row}
use Rattle.allocatee.specs.Allocatee.{Device, Event, step}
use Rattle.alloc_spec.specs.AllocatorState.{AllocatorState, members_of}
use Rattle.service_steps.proofs.Alone.{one_longer}
use Rattle.bus_rows.specs.Timed.{Timed, rows_in}
use Rattle.service_alone.specs.Calm.{Pace, end_of}
use Rattle.service_alone.proofs.Goes.{after_both}
use Rattle.service_calm.specs.Calm.{AreCalm, Member as OfMember, Party, no_traffic}
use Rattle.service_calm.specs.Devices.{AllocationsComeInCalm}
use Rattle.service_leader.specs.Entries.{EntriesAreCommittedInTime, calls_left, come_within}
use Rattle.service_leader.specs.EntriesBelow.{EntryLaws}
use Rattle.service_leader.specs.NoElection.{CallsFit}
use Rattle.service_leader.proofs.Stretches.{end_both, world_both}
use Rattle.service_device.specs.Asking.{HasIdBy, RecordsBy}
use Rattle.service_device.specs.AskingServed.{CanBeTold, CanCommitWith, serve_within}
use Rattle.service_device.specs.Dialog.{HearsWholeBy}
use Rattle.service_device.specs.Served.{HasCommittedBy, HasPlaceFor, IsRecordedBy, IsServedBy, IsToldBy, ListsAll, PairsFit}
use Rattle.service_device.specs.Settled.{IsCalmUnder}
use Rattle.service_device.proofs.AllocationsTold.{VerdictsAre}
use Rattle.service_device.proofs.LosesNothing.{LogGrows, log_grows}
use Rattle.service_device.proofs.Served.{ServedLaws, is_recorded_by, is_recorded_in}
use Rattle.service_device.proofs.ServedAgree.{AgreesBehind}
use Rattle.service_device.proofs.ServedBehind.{commits_stay, under_behind}
use Rattle.service_device.proofs.ServedCommitted.{as_recorded}
use Rattle.service_device.proofs.ServedDevice.{is_served}
use Rattle.service_device.proofs.ServedHolds.{IsDevice, its_uid_then}
use Rattle.service_device.proofs.ServedInTime.{is_told_by}
use Rattle.service_device.proofs.ServedOffered.{TellingLaws}
use Rattle.service_device.proofs.SettledStays.{harmless_first}
use Rattle.bus_spec.specs.Cluster.{Cluster, after_rows, cluster, world_of}
use Rattle.bus_spec.specs.Lawful.{DoNoHarm}
use Rattle.bus_spec.specs.Members.MemberStatus.{Up}

module _ (served_laws : ServedLaws) (telling : TellingLaws) (judged : VerdictsAre)
    (stays : (d : Device) (number : ℕ) (event : Event) → (step d number event).device.asking.uid ≡ d.asking.uid)
    (read : (value : Allocation) → IsAllocation value → allocation_of (allocation_bytes value) ≡ Some value) (ids : List ℕ) (rows : List Row)
    (committed : EntriesAreCommittedInTime ids rows) (laws : EntryLaws ids rows) (come_in : AllocationsComeInCalm ids rows)
    (group : List Party) (clocks : Party → ℕ) (pace : Pace) (start n a term : ℕ) (uid : List ℕ) (log : List Entry) (one : ℕ) (next : List ℕ)
    (heard : ℕ) (first early later : List Timed) (under : IsCalmUnder ids rows group clocks pace start n term first (early ++ later))
    (place : HasPlaceFor ids log uid) (lists : ListsAll n ids (world_of ids rows))
    (fits : CallsFit n (world_of ids rows) (first ++ (early ++ later))) (can : CanBeTold group n a (world_of ids rows) (first ++ (early ++ later)))
    (others : CanCommitWith ids group n pace.delay (one ∷ next) (world_of ids rows) first (early ++ later))
    (quick : 4 * pace.delay < call_timeout)
    (among : (front rest : List Timed) (t : AllocatorState) → first ++ (early ++ later) ≡ front ++ rest
    → ((after_rows (world_of ids rows) (rows_in front)).member n).status ≡ Up t → (p : ℕ) → In p (members_of t) → In p ids)
    (sane : (front rest : List Timed) (t : AllocatorState) → first ++ (early ++ later) ≡ front ++ rest
    → ((after_rows (world_of ids rows) (rows_in front)).member n).status ≡ Up t → t.raft_server.store.commit ≤ length t.raft_server.store.log)
    (agree : AgreesBehind ids n a term log uid (world_of ids rows) (first ++ (early ++ later))) where
  abbrev w : Cluster
  w = world_of ids rows

  -- all rows before those in which it is heard, the world behind them, and their moment
  abbrev before : List Timed
  before = first ++ early

  abbrev there : Cluster
  there = after_rows w (rows_in before)

  abbrev moment : ℕ
  moment = end_of start before

  under_there : IsCalmUnder ids rows group clocks pace start n term before later
  under_there = under_behind ids rows group clocks pace start n term first early later under

  whole_is : first ++ (early ++ later) ≡ before ++ later
  whole_is = sym (append_assoc first early later)

  -- a front of the later rows, and all rows up to its end
  cut_there : (front rest : List Timed) → later ≡ front ++ rest → first ++ (early ++ later) ≡ (before ++ front) ++ rest
  cut_there front rest cut = whole_is ∙ (ap (λ (l : List Timed). before ++ l) cut ∙ sym (append_assoc before front rest))

  up_there : (front : List Timed) (t : AllocatorState) → ((after_rows there (rows_in front)).member n).status ≡ Up t
      → ((after_rows w (rows_in (before ++ front))).member n).status ≡ Up t
  up_there front t = subst (λ (v : Cluster). (v.member n).status ≡ Up t) (sym (world_both w before front))

  sane_there : (front rest : List Timed) (t : AllocatorState) → later ≡ front ++ rest → ((after_rows there (rows_in front)).member n).status ≡ Up t
      → t.raft_server.store.commit ≤ length t.raft_server.store.log
  sane_there front rest t cut up = sane (before ++ front) rest t (cut_there front rest cut) (up_there front t up)

  grows : LogGrows n there later
  grows = log_grows ids rows laws group clocks pace start n term before later under_there (subst (CallsFit n w) whole_is fits)

  -- it is recorded by this moment
  module _ (by : IsRecordedBy ids n term log (clocks (OfMember n)) uid moment heard there later) (is_its : IsDevice uid (w.allocatee a)) (pairs : PairsFit n there later)
      (long : heard + serve_within pace (length log) < end_of moment later) where
    abbrev leader : AllocatorState
    leader = by.recorded.server

    row_end : List Timed
    row_end = by.front ++ by.timed ∷ []

    cut : later ≡ row_end ++ by.rest
    unfolding row_end
    cut = by.split ∙ sym (append_assoc by.front (by.timed ∷ []) by.rest)

    runs_then : ((world_of ids (rows ++ rows_in (before ++ row_end))).member n).status ≡ Up leader
    unfolding row_end
    runs_then = subst (λ (v : Cluster). (v.member n).status ≡ Up leader)
        (sym (world_both there by.front (by.timed ∷ [])) ∙ (sym (world_both w before row_end) ∙ sym (after_both (cluster ids) rows (rows_in (before ++ row_end)))))
        by.recorded.runs

    whole_harmless : DoNoHarm w (rows_in ((before ++ row_end) ++ by.rest))
    whole_harmless = subst (λ (l : List Timed). DoNoHarm w (rows_in l)) (cut_there row_end by.rest cut) under.harmless

    -- the next call to a peer begins at a place of the log, or just behind it
    left : (m : ℕ) → In m (one ∷ next) → calls_left leader m ≤ 2 * (length log + 1)
    left m i =
        let inside = (laws.inside (rows_in (before ++ row_end)) (harmless_first (before ++ row_end) by.rest w whole_harmless).0 n m leader
        (under.listed n under.member) runs_then by.recorded.leads).1 in
        omega (arith, inside, ap length by.recorded.its_log, one_longer log (proposal term uid by.node))

    abbrev by_commit : ℕ
    by_commit = heard + come_within pace (2 * (length log + 1))

    -- it is committed
    done : HasCommittedBy n term (log ++ proposal term uid by.node ∷ []) moment by_commit there later
    done = as_recorded ids rows committed group clocks pace start n term first early later under fits one next others quick
        (commits_stay judged w group clocks pace start n (first ++ (early ++ later)) under.calm (under.running n under.member) sane)
        (λ front rest cut. (under_there.led front rest cut).leader) grows log (clocks (OfMember n)) uid (2 * (length log + 1)) heard by left (omega (arith, long))
        by_commit (omega arith)

    -- it is told
    told : IsToldBy ids n term log uid moment by_commit there later
    told = is_told_by telling ids rows group clocks pace start n term before later under_there grows sane_there log (clocks (OfMember n)) uid place.device heard by_commit by done

    -- and it is served
    pub is_served_there : IsServedBy ids a log uid moment (heard + serve_within pace (length log)) there later
    is_served_there = is_served ids rows come_in stays read group clocks pace start n a term before later under_there uid place.whole log is_its
        (subst (CanBeTold group n a w) whole_is can) pairs quick by_commit told (omega (arith, long)) (subst (AgreesBehind ids n a term log uid w) whole_is agree)
        (heard + serve_within pace (length log)) (omega arith)

  -- the early rows stand behind the first ones
  abbrev led_from : Cluster
  led_from = after_rows w (rows_in first)

  same_world : there ≡ after_rows led_from (rows_in early)
  same_world = world_both w first early

  same_moment : moment ≡ end_of (end_of start first) early
  same_moment = end_both start first early

  abbrev early_there : Cluster
  early_there = after_rows led_from (rows_in early)

  abbrev early_moment : ℕ
  early_moment = end_of (end_of start first) early

  -- who is recorded is served
  served_early : IsRecordedBy ids n term log (clocks (OfMember n)) uid moment heard there later → IsDevice uid (w.allocatee a) → PairsFit n early_there later
      → heard + serve_within pace (length log) < end_of early_moment later
      → IsServedBy ids a log uid early_moment (heard + serve_within pace (length log)) early_there later
  served_early by is_its pairs long =
      subst (λ (v : Cluster). IsServedBy ids a log uid early_moment (heard + serve_within pace (length log)) v later) same_world
      (subst (λ (k : ℕ). IsServedBy ids a log uid k (heard + serve_within pace (length log)) there later) same_moment
      (is_served_there by is_its (subst (λ (v : Cluster). PairsFit n v later) (sym same_world) pairs)
      (subst (λ (k : ℕ). heard + serve_within pace (length log) < end_of k later) (sym same_moment) long)))

  among_there : (front rest : List Timed) (t : AllocatorState) → later ≡ front ++ rest → ((after_rows there (rows_in front)).member n).status ≡ Up t
      → (p : ℕ) → In p (members_of t) → In p ids
  among_there front rest t cut up = among (before ++ front) rest t (cut_there front rest cut) (up_there front t up)

  -- where the device waits when it is heard out
  module _ (preferred wait : ℕ) where
    heard_there : HearsWholeBy n a log (clocks (OfMember n)) wait uid preferred early_moment heard early_there later
        → HearsWholeBy n a log (clocks (OfMember n)) wait uid preferred moment heard there later
    heard_there hears = subst (λ (v : Cluster). HearsWholeBy n a log (clocks (OfMember n)) wait uid preferred moment heard v later) (sym same_world)
        (subst (λ (k : ℕ). HearsWholeBy n a log (clocks (OfMember n)) wait uid preferred k heard early_there later) (sym same_moment) hears)

    -- the device was there when the calm began
    is_its : HearsWholeBy n a log (clocks (OfMember n)) wait uid preferred moment heard there later → IsDevice uid (w.allocatee a)
    is_its hears = subst (λ (u : List ℕ). IsDevice u (w.allocatee a)) hears.waits.its_uid
        (its_uid_then stays group clocks pace start a w (before ++ hears.front) (hears.timed ∷ hears.rest)
        (subst (AreCalm group clocks pace (no_traffic start) w) (cut_there hears.front (hears.timed ∷ hears.rest) hears.split) under.calm)
        can.ready.device hears.waits.device can.ready.there
        (subst (λ (v : Cluster). v.allocatee a ≡ Some hears.waits.device) (sym (world_both w before hears.front)) hears.waits.there))

    pub heard_device_is_served : HearsWholeBy n a log (clocks (OfMember n)) wait uid preferred early_moment heard early_there later → PairsFit n early_there later
        → heard + serve_within pace (length log) < end_of early_moment later
        → IsServedBy ids a log uid early_moment (heard + serve_within pace (length log)) early_there later
    heard_device_is_served hears pairs long =
        let there_heard = heard_there hears in
        served_early (is_recorded_by served_laws ids rows group clocks pace start n term before later under_there among_there log uid preferred heard place lists there_heard)
        (is_its there_heard) pairs long

  -- where requests make its unique ID whole, whether or not it waits
  module _ (asked : IsDevice uid (w.allocatee a)) where
    abbrev RecordsIt : ℕ → Cluster → Type 0
    RecordsIt k v = (records : RecordsBy n log (clocks (OfMember n)) k heard v later) × (records.recorded.uid ≡ uid)

    it_is_recorded : RecordsIt moment there → IsRecordedBy ids n term log (clocks (OfMember n)) uid moment heard there later
    it_is_recorded (r, its) = is_recorded_in served_laws ids rows group clocks pace start n term before later under_there among_there log uid r.recorded.preferred heard
        place lists r.front r.rest r.timed r.split r.soon r.settled (record {
          message = r.hears.message;
          asked = r.hears.asked;
          clock = r.hears.clock;
          request = r.hears.request;
          whole = subst (λ (u : List ℕ). answer r.hears.asked.comes.server.accepted r.hears.message (max r.hears.asked.comes.server.now r.hears.asked.comes.ms) true
              ≡ Whole u r.recorded.preferred) its r.recorded.whole;
        })

    pub recorded_device_is_served : RecordsIt early_moment early_there → PairsFit n early_there later → heard + serve_within pace (length log) < end_of early_moment later
        → IsServedBy ids a log uid early_moment (heard + serve_within pace (length log)) early_there later
    recorded_device_is_served records pairs long =
        served_early (it_is_recorded (subst (λ (v : Cluster). RecordsIt moment v) (sym same_world) (subst (λ (k : ℕ). RecordsIt k early_there) (sym same_moment) records)))
        asked pairs long

-- who is served holds a node ID
pub has_id : (ids : List ℕ) (a : ℕ) (log : List Entry) (uid : List ℕ) (start last : ℕ) (w : Cluster) (whole : List Timed) → IsServedBy ids a log uid start last w whole
    → HasIdBy a start last w whole
has_id ids a log uid start last w whole served = record {
  front = served.front;
  rest = served.rest;
  split = served.split;
  soon = served.soon;
  device = served.holds.device;
  there = served.holds.there;
  node = served.node;
  holds = served.holds.its_node;
}
