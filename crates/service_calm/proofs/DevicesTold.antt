-- An Allocation that a member sends in a calm comes whole to a device, from the beginning of the calm on.
use Rattle.std.proofs.Common.{inl, length, ◌≡◌, ℕ, ◌+◌, ◌*◌, ◌<◌, ◌≤◌, Bool, List, [], ◌∷◌, ◌++◌, arith, inr, refl, sym, ◌∙◌, subst, Some}
use Rattle.std.specs.Prelude.{◌/◌, Ok}
use Rattle.std.proofs.lemmas.Bool.Decides.{leb_tells}
use Rattle.can_frame.specs.Cutting.{frame_count}
use Rattle.can_frame.specs.declared.step.What.{What}
use Rattle.can_frame.specs.declared.step.What.TheVariants.{Alloc}
use Rattle.can_frame.specs.Identifier.{identifier_number, identifier_of}
use Rattle.raft_model.specs.Lists.{In}
use Rattle.raft_model.specs.Runs as raft
use Rattle.bus_rows.specs.declared.row.Row.{Row}
use Rattle.bus_rows.specs.declared.row.Row.TheVariants.{AEnd, AOpen, ARx, ASend, ATick, Crash, Ext, Fault, Open, Rx, Send, Tick}
use Rattle.transfer_rx.specs.Acceptance.{wanted}
use Rattle.transfer_tx.specs.Queue.{Queued}
use Rattle.allocatee.specs.Accepted.{rows}
use Rattle.alloc_spec.specs.AllocatorState.{AllocatorState}
use Rattle.alloc_spec.specs.Step.{Event, step}
use Rattle.alloc_spec.specs.Transfers.{Offer, SentTransfer, id_of, ident_of, kind_of, signature_of}
use Rattle.alloc_spec_laws.proofs.Choices.{and_left, and_right}
use Rattle.alloc_spec_laws.specs.Sound.{IsDestination, IsOnTheBus}
use Rattle.bus_agreement.proofs.Idents.{ident_ok}
use Rattle.bus_agreement.specs.LawsBelow.{FrameLaws}
use Rattle.bus_agreement.specs.Shows.{Shows}
use Rattle.bus_rows.specs.Timed.{Timed, rows_in}
use Rattle.service_alone.specs.Calm.{Pace, end_of}
use Rattle.service_calm.specs.Calm.{AreCalm, AreRunning, Device as OfDevice, Member as OfMember, Party, Traffic, no_traffic, traffic_after}
use Rattle.service_calm.specs.Comes.{Sends, Throughout, sent_by}
use Rattle.service_calm.specs.Devices.{AllocationMayBegin, AreReadyToTell, ComesToBy, DeliversTo, DeviceHasMemory, SendsShortAllocations}
use Rattle.service_calm.proofs.Counting.{HasPlaces, is_one, is_to, is_to_true, ones}
use Rattle.service_calm.proofs.DevicesHear.{IsListening, SessionLaws, device_hears, device_receiver}
use Rattle.service_calm.proofs.Follows.{IsCounter, counter_follows}
use Rattle.service_calm.proofs.Group.{AreWell, CalmLaws, narrow_on_bus, well_after}
use Rattle.service_calm.proofs.Heard.{GetsBy, sent_comes}
use Rattle.service_calm.proofs.Pair.{AreShort, Only, out_ones, same_event, same_server}
use Rattle.service_calm.proofs.Start.{server_is, well_in}
use Rattle.service_calm.proofs.Ways.{Waiting}
use Rattle.bus_spec.specs.Cluster.{Cluster, after_row, after_rows, receipt_of, step_of, tick_of}
use Rattle.bus_spec.specs.Members.MemberStatus.{Up}

-- three frames have 19 bytes of a payload at most
three_frames : (count : ℕ) → frame_count count ≤ 3 → count ≤ 19
three_frames count few = elim (leb_tells count 7) [
  | inl z ↦ let h = z.1 in omega (arith, h)
  | inr z ↦ let e : frame_count count ≡ (count + 8) / 7 = rw (z.0) refl in omega (arith, e, few)
]

-- a device wants the Allocations of a member
pub device_wants : (laws : FrameLaws) (n : ℕ) → (1 ≤ n) × (n ≤ 125) → (signature : ℕ) → signature ≡ signature_of Alloc
    → wanted rows 0 (identifier_number (ident_of n Alloc 0)) ≡ Ok (record { ident = ident_of n Alloc 0; signature = signature })
unfolding wanted rows
device_wants laws n node signature same =
    let read : identifier_of (identifier_number (ident_of n Alloc 0)) ≡ Some (ident_of n Alloc 0)
    = laws.ident_read (ident_of n Alloc 0) (ident_ok n Alloc 0 node.0 node.1 refl) in
    rw (read) (λ i. Ok (record { ident = ident_of n Alloc 0; signature = sym same i }))

module _ (laws : CalmLaws) (group : List Party) (clocks : Party → ℕ) (pace : Pace) (nodes : (p : ℕ) → In (OfMember p) group → (1 ≤ p) × (p ≤ 125)) where
  -- a group stays well
  well_on : (front rest : List Timed) (traffic : Traffic) (w : Cluster) → AreWell group w → AreCalm group clocks pace traffic w (front ++ rest)
      → AreWell group (after_rows w (rows_in front))
  well_on [] rest traffic w are calm = are
  well_on (timed ∷ front) rest traffic w are calm = well_on front rest (traffic_after traffic w timed) (after_row w timed.row)
      (well_after laws group nodes w are clocks pace traffic timed.at timed.row calm.1) calm.2

  -- what a step of a member is given comes from the bus
  on_the_bus : (w : Cluster) → AreWell group w → (n : ℕ) (event : Event) (row : Row) → step_of w row ≡ Some (n, event) → IsOnTheBus event
  on_the_bus w are n event (Tick p ms word) e = subst IsOnTheBus (same_event p n (tick_of ms word) event e) tt
  on_the_bus w are n event (Rx p k ms) e = subst IsOnTheBus (same_event p n (receipt_of w k ms) event e) (narrow_on_bus w.frames are.narrow k)
  on_the_bus w are n event (Open p told ms word) e = absurd (cc (e))
  on_the_bus w are n event (Send p) e = absurd (cc (e))
  on_the_bus w are n event (Ext frame) e = absurd (cc (e))
  on_the_bus w are n event (Crash p calls pattern) e = absurd (cc (e))
  on_the_bus w are n event (Fault p call) e = absurd (cc (e))
  on_the_bus w are n event (AOpen b uid pref ms word) e = absurd (cc (e))
  on_the_bus w are n event (ATick b ms word) e = absurd (cc (e))
  on_the_bus w are n event (ARx b k ms word) e = absurd (cc (e))
  on_the_bus w are n event (ASend b) e = absurd (cc (e))
  on_the_bus w are n event (AEnd b) e = absurd (cc (e))

  -- an Allocation goes to 0
  goes_to_all : (w : Cluster) → AreWell group w → (n : ℕ) → In (OfMember n) group → (row : Row) (offer : Offer) → Sends n w row offer → offer.what ≡ Alloc → offer.to ≡ 0
  goes_to_all w are n in_n row offer sends what =
      let well = are.members n in_n in
      let same : sends.server ≡ well.server = same_server sends.server well.server (sym sends.runs ∙ well.up.status) in
      subst (λ (k : What). IsDestination (kind_of k) offer.to) what
      (laws.more.ranges well.server (w.rows + 1) sends.event well.its.sound (on_the_bus w are n sends.event row sends.in_step) offer
      (subst (λ (t : AllocatorState). In offer (step t (w.rows + 1) sends.event).step_state.offers) same sends.offered)).to

module _ (laws : CalmLaws) (session_laws : SessionLaws) (ids : List ℕ) (nodes : (p : ℕ) → In p ids → (1 ≤ p) × (p ≤ 125)) (choice : ℕ → Bool) (made : List SentTransfer)
    (w : Cluster) (run : raft.World) (shows : Shows choice made w run) (same : w.ids ≡ ids) (places : (p : ℕ) (t : AllocatorState) → (w.member p).status ≡ Up t → HasPlaces t.ids)
    (group : List Party) (clocks : Party → ℕ) (pace : Pace) (start n a : ℕ) (front rest : List Timed) (timed : Timed) (offer : Offer)
    (listed : (p : ℕ) → In (OfMember p) group → In p ids) (running : AreRunning group w) (in_n : In (OfMember n) group) (in_a : In (OfDevice a) group)
    (quick : 2 * pace.delay ≤ 2000) (ready : AreReadyToTell n a w) (may : AllocationMayBegin n ready.device (id_of ready.sender.ids Alloc 0))
    (calm : AreCalm group clocks pace (no_traffic start) w (front ++ timed ∷ rest)) (memory : Throughout (DeviceHasMemory a) w (front ++ timed ∷ rest))
    (short : SendsShortAllocations n w (front ++ timed ∷ rest)) (sends : Sends n (after_rows w (rows_in front)) timed.row offer) (what : offer.what ≡ Alloc)
    (long : timed.at + 2 * pace.delay < end_of timed.at rest) where
  there : (p : ℕ) → In (OfMember p) group → In p w.ids
  there p i = subst (λ (l : List ℕ). In p l) (sym same) (listed p i)

  node_of : (p : ℕ) → In (OfMember p) group → (1 ≤ p) × (p ≤ 125)
  node_of p i = nodes p (listed p i)

  well : AreWell group w
  well = well_in ids choice made w run shows places group there running

  abbrev Begins : ℕ → Type 0
  Begins = AllocationMayBegin n ready.device

  few_bytes : (v : Cluster) (now : Timed) (later_rows : List Timed) → SendsShortAllocations n v (now ∷ later_rows) → (t : AllocatorState) → (v.member n).status ≡ Up t
      → (event : Event) → step_of v now.row ≡ Some (n, event) → AreShort 19 (ones Alloc 0 (step t (v.rows + 1) event).step_state.offers)
  few_bytes v now later_rows follows t up event is_step o i =
      let one = out_ones (is_one Alloc 0) (step t (v.rows + 1) event).step_state.offers o i in
      three_frames (length o.payload) (follows.0 o (record {
        server = t;
        runs = up;
        event = event;
        in_step = is_step;
        offered = one.0;
        fitted = and_left o.fitted (is_to Alloc 0 o) one.1;
      }) (is_to_true Alloc 0 o (and_right o.fitted (is_to Alloc 0 o) one.1)).0)

  comes_by : GetsBy (DeliversTo a) (sent_by n (after_rows w (rows_in front)) offer) (timed.at + 2 * pace.delay) (after_rows w (rows_in front)) (timed ∷ rest)
      → ComesToBy a (sent_by n (after_rows w (rows_in front)) offer) (timed.at + 2 * pace.delay) (after_rows w (rows_in front)) (timed ∷ rest)
  comes_by by = record { front = by.front; timed = by.timed; rest = by.rest; split = by.split; soon = by.soon; delivers = by.gets }

  -- it comes whole
  pub allocation_comes : ComesToBy a (sent_by n (after_rows w (rows_in front)) offer) (timed.at + 2 * pace.delay) (after_rows w (rows_in front)) (timed ∷ rest)
  allocation_comes =
      let of_n = running n in_n in
      comes_by (sent_comes laws group clocks pace node_of n in_n (OfDevice a) in_a refl device_receiver Alloc 0 ready.device.asking.moment quick refl refl (inr refl) refl
      (device_wants laws.frame n (node_of n in_n)) Begins (IsCounter Alloc 0) (λ t expected mode. mode)
      (IsListening a) (DeliversTo a) (DeviceHasMemory a) (device_hears session_laws group clocks pace n a) (λ expected v list. SendsShortAllocations n v list)
      (λ expected v now list follows t up is mode event is_step bus.
      let f = counter_follows Begins n Alloc 0 refl (v.rows + 1) expected t is mode event in (f.0, f.1, f.2, follows.1))
      (λ expected v now list follows t up is event is_step. few_bytes v now list follows t up event is_step)
      (λ expected v now list follows none. follows.1)
      front rest timed offer what (goes_to_all laws group clocks pace node_of (after_rows w (rows_in front))
      (well_on laws group clocks pace node_of front (timed ∷ rest) (no_traffic start) w well calm) n in_n timed.row offer sends what) long
      (no_traffic start) w [] [] (Only (id_of ready.sender.ids Alloc 0))
      (record {
        sender = ready.sender;
        sender_up = record { status = ready.sends; quiet = record { faults = of_n.faults; calls = of_n.disk } };
        sender_is = server_is ids choice made w run shows places n ready.sender (there n in_n) ready.sends;
        sessions = ready.device.sessions;
        now = ready.device.asking.moment;
        hears = record { device = ready.device; there = ready.there; has = refl; reads = refl };
        flying = [];
        waiting = [];
        pending = refl;
        flies = refl;
        waits = subst (λ (l : List Queued). Waiting start l []) (sym ready.none_waits) tt;
        since = omega arith;
        mode = refl;
        stage = λ id small fits. subst Begins (sym fits) may;
        differ = tt;
        ones_are = λ x i. absurd i;
        past = λ x i. absurd i;
        low = omega arith;
        high = omega arith;
      })
      well short calm memory sends)
