-- A calm whose only device tells its unique ID part by part, row by row: what comes to members is of it, and so are the
-- requests that they have accepted.
use Rattle.std.proofs.Common.{◌≡◌, ◌⊎◌, ℕ, ◌+◌, ◌≤◌, Bool, List, [], ◌∷◌, ◌++◌, length, max, refl, sym, ◌∙◌, ap, subst, inl, inr, Option, Some}
use Rattle.alloc_exchange.specs.declared.heard.Heard.TheVariants.{Whole}
use Rattle.alloc_exchange.specs.Exchange.{answer}
use Rattle.can_frame.specs.declared.identifier.Kind.TheVariants.{Anonymous}
use Rattle.dsdl_codec.specs.declared.allocation.Allocation.{Allocation}
use Rattle.dsdl_codec.specs.Allocation.{allocation_of}
use Rattle.raft_model.specs.Lists.{In}
use Rattle.bus_rows.specs.declared.row.Row.{Row}
use Rattle.bus_rows.specs.declared.row.Row.TheVariants.{Rx}
use Rattle.transfer_rx.specs.Reassembly.{Arrival, Delivery, Gives, answer as received}
use Rattle.transfer_rx.specs.Sessions.{Session}
use Rattle.transfer_tx.specs.Queue.{Queued}
use Rattle.alloc_spec.specs.Accepted.{setting_for}
use Rattle.alloc_spec.specs.AllocatorState.{AllocatorState}
use Rattle.alloc_spec.specs.Step.{Event, after_pop, step}
use Rattle.alloc_spec.specs.Step as server
use Rattle.service_steps.specs.Devices.{RequestsAreRequests}
use Rattle.bus_rows.specs.Timed.{Timed, rows_in}
use Rattle.service_alone.specs.Calm.{Pace}
use Rattle.service_alone.proofs.Members.{IsUp, steps_up}
use Rattle.service_calm.specs.Calm.{AreCalm, Device as OfDevice, IsCalmRow, Member as OfMember, Party, Traffic, no_traffic, traffic_after}
use Rattle.service_calm.proofs.Group.{AreWell, CalmLaws, sent_own, well_after}
use Rattle.service_calm.proofs.Pair.{same_server}
use Rattle.service_device.specs.Requests.{DevicesGoOnTelling, HasAcceptedBeginning, IsRequestFor, IsTellingCalm, RequestsAreTheDevices, TellBeginning, TellsAt, TellsPart, WholeIsTheDevices}
use Rattle.service_device.specs.Settled.{IsAsked}
use Rattle.service_device.proofs.AllocationsOffered.{comes_to}
use Rattle.service_device.proofs.DialogFrames.{HasSource, has_source}
use Rattle.service_device.proofs.RequestsRows.{AllHearParts, HearsParts, sends_part, tells_then}
use Rattle.service_device.proofs.RequestsSteps.{accepted_on}
use Rattle.service_device.proofs.RequestsTell.{begin_behind, whole_is}
use Rattle.service_device.proofs.SettledAsked.{is_request}
use Rattle.service_device.proofs.TidyCalm.{comes_with}
use Rattle.service_device.proofs.TidyRows.{Does, does}
use Rattle.service_device.proofs.TidyRows.Does.{Hears, Sends, Stays, Ticks}
use Rattle.service_device.specs.ServiceBelow.{ServiceGrounds}
use Rattle.service_device.proofs.RequestsHeard.{all_hear}
use Rattle.service_calm.proofs.Grounds.{calm_laws, well}
use Rattle.service_leader.proofs.FramesFly.{Fly, fly_after, next_is}
use Rattle.service_leader.proofs.HeardIdents.{is_wanted}
use Rattle.bus_spec.specs.Allocatees.{next_from}
use Rattle.alloc_spec.specs.ClusterMembers.{AreMembers}
use Rattle.bus_spec.specs.Cluster.{Cluster, after_row, after_rows, arrival_at, cluster, frame_at, receipt_of, tick_of, world_of}
use Rattle.bus_spec.specs.Lawful.{DoNoHarm}
use Rattle.bus_spec.specs.Members.{Member, MemberStatus, after_sending, member_after_step}
use Rattle.bus_spec.specs.Members.MemberStatus.{Up}

one_allocation : (x y : Allocation) → ◌≡◌ {A = Option Allocation} (Some x) (Some y) → x ≡ y
one_allocation x y e = cc (e)

module _ (laws : CalmLaws) (requests : RequestsAreRequests) (group : List Party) (nodes : (p : ℕ) → In (OfMember p) group → (1 ≤ p) × (p ≤ 125)) (clocks : Party → ℕ) (pace : Pace) (a : ℕ)
    (alone : (b : ℕ) → In (OfDevice b) group → b ≡ a) (uid : List ℕ) (whole : length uid ≡ 16) where
  -- a frame has a source, or is a request for this unique ID
  abbrev IsTelling : Queued → Type 0
  IsTelling frame = HasSource frame ⊎ IsRequestFor uid frame

  -- what is delivered of such a frame and reads as a request tells a part
  tells_part : (me : ℕ) (sessions : List Session) (frame : Queued) (moment : ℕ) → IsTelling frame → (d : Delivery)
      → received (setting_for me) sessions (arrival_at frame moment) ≡ Gives d → d.ident.kind ≡ Anonymous → (message : Allocation) → allocation_of d.payload ≡ Some message
      → TellsPart uid message
  tells_part me sessions frame moment (inl source) d gives kind message says =
      absurd (source d.ident (is_wanted laws.frame me sessions (arrival_at frame moment) d gives).read kind)
  tells_part me sessions frame moment (inr request) d gives kind message says =
      let its = request moment in
      subst (TellsPart uid) (one_allocation its.0 message (sym its.1.says
      ∙ (is_request laws.frame me sessions (arrival_at frame moment) d gives kind message says).says)) its.2

  -- all frames on their way are so, and each member has accepted a beginning
  record AreTelling (traffic : Traffic) (w : Cluster) : Type 0 where
    pub well : AreWell group w
    pub flies : (party : Party) → Fly IsTelling w.frames (traffic.to party)
    pub begins : (p : ℕ) → In (OfMember p) group → HasAcceptedBeginning uid p w
    pub device : TellsAt a uid w

  module _ (traffic : Traffic) (w : Cluster) (timed : Timed) (calm : IsCalmRow group clocks pace traffic w timed.at timed.row) (s : AreTelling traffic w)
      (hears : HearsParts a w timed.row) where
    telling : (p k ms : ℕ) → timed.row ≡ Rx p k ms → IsTelling (frame_at w.frames k)
    telling p k ms is = next_is IsTelling w.frames k (traffic.to (OfMember p)) (subst (IsCalmRow group clocks pace traffic w timed.at) is calm).2 (s.flies (OfMember p))

    -- a request that comes tells a part
    asked_part : (m : ℕ) (message : Allocation) (asked : IsAsked m message w timed.row) → TellsPart uid message
    asked_part m message asked =
        let comes = asked.comes in
        tells_part m comes.server.sessions (frame_at w.frames comes.k) (max comes.server.now comes.ms) (telling m comes.k comes.ms comes.comes) asked.request comes.gives
        asked.anonymous message asked.says

    module _ (p : ℕ) (i : In (OfMember p) group) where
      t : AllocatorState
      t = (s.well.members p i).server

      up : IsUp (s.well.members p i).server (w.member p)
      up = (s.well.members p i).up

      before : TellBeginning uid (s.well.members p i).server.accepted
      before = s.begins p i (s.well.members p i).server (s.well.members p i).up.status

      -- so it is with this server then
      with_server : (u : AllocatorState) → TellBeginning uid u.accepted → (status : MemberStatus) → status ≡ Up u → ((after_row w timed.row).member p).status ≡ status
          → HasAcceptedBeginning uid p (after_row w timed.row)
      with_server u begins status is same v runs = subst (λ (x : AllocatorState). TellBeginning uid x.accepted) (same_server u v (sym is ∙ (sym same ∙ runs))) begins

      stepped : (event : Event) → (after_row w timed.row).member p ≡ member_after_step (w.rows + 1) event (w.member p).status (w.member p)
          → ((arrival : Arrival) → event ≡ server.Rx arrival → (d : Delivery) → comes_to (s.well.members p i).server arrival ≡ Gives d → d.ident.kind ≡ Anonymous
          → (message : Allocation) → allocation_of d.payload ≡ Some message → TellsPart uid message)
          → HasAcceptedBeginning uid p (after_row w timed.row)
      stepped event same tells =
          with_server (step (s.well.members p i).server (w.rows + 1) event).step_state.allocator
          (accepted_on (w.rows + 1) (TellBeginning uid) (s.well.members p i).server event (λ arrival is d gives kind message says accepted moment follows begins.
          begin_behind uid whole message (tells arrival is d gives kind message says) accepted begins moment follows) before)
          (member_after_step (w.rows + 1) event (w.member p).status (w.member p)).status
          (steps_up (w.rows + 1) event (s.well.members p i).server (w.member p) up).status (ap (λ (x : Member). x.status) same)

      begins_then : HasAcceptedBeginning uid p (after_row w timed.row)
      begins_then = by (does group clocks pace traffic w timed.at p timed.row calm)
        where
          by : Does p (timed.at + clocks (OfMember p)) w timed.row → HasAcceptedBeginning uid p (after_row w timed.row)
          by (Stays same) = with_server (s.well.members p i).server before (w.member p).status up.status (ap (λ (x : Member). x.status) same)
          by (Sends same) = with_server (after_pop (s.well.members p i).server) before (after_sending (w.member p).status) (ap after_sending up.status)
              (ap (λ (x : Member). x.status) same)
          by (Ticks ms word reads same) = stepped (tick_of ms word) same (λ arrival is. absurd (cc (is)))
          by (Hears k ms is reads same) = stepped (receipt_of w k ms) same (λ arrival is_rx d gives kind message says.
              tells_part (s.well.members p i).server.me (s.well.members p i).server.sessions (frame_at w.frames k) (max (s.well.members p i).server.now ms) (telling p k ms is) d
              (comes_with (s.well.members p i).server w k ms arrival is_rx d gives) kind message says)

    -- so it is behind the row
    telling_after : AreTelling (traffic_after traffic w timed) (after_row w timed.row)
    telling_after = record {
      well = well_after laws group nodes w s.well clocks pace traffic timed.at timed.row calm;
      flies = fly_after IsTelling group clocks pace traffic w s.flies timed.at timed.row calm
          (λ n g i is next. inl (has_source laws.frame n g (nodes n i) (sent_own laws n (w.member n) g (s.well.members n i) next)))
          (λ b g i is next. inr (sends_part requests uid whole a w s.device g (subst (λ (c : ℕ). next_from (w.allocatee c) ≡ Some g) (alone b i) next)));
      begins = λ p i. begins_then p i;
      device = tells_then requests uid whole a group clocks pace traffic w timed.at timed.row s.device calm hears;
    }

  -- behind each front
  telling_on : (front rest : List Timed) (traffic : Traffic) (w : Cluster) → AreCalm group clocks pace traffic w (front ++ rest)
      → AllHearParts a w (front ++ rest) → AreTelling traffic w → (later : Traffic) × AreTelling later (after_rows w (rows_in front))
  telling_on [] rest traffic w calm hears s = (traffic, s)
  telling_on (timed ∷ front) rest traffic w calm hears s = telling_on front rest (traffic_after traffic w timed) (after_row w timed.row) calm.2 hears.1
      (telling_after traffic w timed calm.1 s hears.0)

  -- what is made whole behind a front is the unique ID
  whole_on : (m : ℕ) (i : In (OfMember m) group) (message : Allocation) (follows : Bool) (other : List ℕ) (preferred : ℕ) (front rest : List Timed) (timed : Timed) (traffic : Traffic)
      (w : Cluster) → AreCalm group clocks pace traffic w (front ++ timed ∷ rest) → AllHearParts a w (front ++ timed ∷ rest) → AreTelling traffic w
      → (asked : IsAsked m message (after_rows w (rows_in front)) timed.row)
      → answer asked.comes.server.accepted message (max asked.comes.server.now asked.comes.ms) follows ≡ Whole other preferred → other ≡ uid
  whole_on m i message follows other preferred [] rest timed traffic w calm hears s asked =
      whole_is uid whole message (asked_part traffic w timed calm.1 s hears.0 m message asked) asked.comes.server.accepted
      (s.begins m i asked.comes.server asked.comes.runs) (max asked.comes.server.now asked.comes.ms) follows other preferred
  whole_on m i message follows other preferred (first ∷ front) rest timed traffic w calm hears s asked =
      whole_on m i message follows other preferred front rest timed (traffic_after traffic w first) (after_row w first.row) calm.2 hears.1
      (telling_after traffic w first calm.1 s hears.0) asked

-- ---- from where a calm begins

module _ (below : ServiceGrounds) (ids : List ℕ) (members : AreMembers ids) (rows : List Row) (harmless : DoNoHarm (cluster ids) rows) where
  hears : (a : ℕ) (whole : List Timed) → DoNoHarm (world_of ids rows) (rows_in whole) → AllHearParts a (world_of ids rows) whole
  hears a whole = all_hear below ids members a whole rows (world_of ids rows) refl harmless

  module _ (group : List Party) (clocks : Party → ℕ) (pace : Pace) (start a : ℕ) (uid : List ℕ) (all : List Timed)
      (is : IsTellingCalm ids rows group clocks pace start a uid all) where
    nodes : (p : ℕ) → In (OfMember p) group → (1 ≤ p) × (p ≤ 125)
    nodes p i = members.nodes p (is.listed p i)

    begun : AreTelling (calm_laws below.calm) below.requests group nodes clocks pace a is.alone uid is.size (no_traffic start) (world_of ids rows)
    begun = record { well = well below.calm ids members rows harmless group is.listed is.running; flies = λ party. refl; begins = is.begins; device = is.device }

    telling_at : (front rest : List Timed) → all ≡ front ++ rest
        → (later : Traffic) × AreTelling (calm_laws below.calm) below.requests group nodes clocks pace a is.alone uid is.size later (after_rows (world_of ids rows) (rows_in front))
    telling_at front rest split = telling_on (calm_laws below.calm) below.requests group nodes clocks pace a is.alone uid is.size front rest (no_traffic start) (world_of ids rows)
        (subst (AreCalm group clocks pace (no_traffic start) (world_of ids rows)) split is.calm)
        (subst (AllHearParts a (world_of ids rows)) split (hears a all is.harmless)) begun

  pub are_the_devices : RequestsAreTheDevices ids rows
  are_the_devices group clocks pace start a m uid front rest is i =
      (telling_at group clocks pace start a uid (front ++ rest) is front rest refl).1.begins m i

  pub goes_on_telling : DevicesGoOnTelling ids rows
  goes_on_telling group clocks pace start a uid front rest is = (telling_at group clocks pace start a uid (front ++ rest) is front rest refl).1.device

  pub wholes_are : WholeIsTheDevices ids rows
  wholes_are group clocks pace start a m uid front rest timed message follows other preferred is i asked =
      whole_on (calm_laws below.calm) below.requests group (nodes group clocks pace start a uid (front ++ timed ∷ rest) is) clocks pace a is.alone uid is.size m i message follows other preferred front rest timed
      (no_traffic start) (world_of ids rows) is.calm (hears a (front ++ timed ∷ rest) is.harmless) (begun group clocks pace start a uid (front ++ timed ∷ rest) is) asked
