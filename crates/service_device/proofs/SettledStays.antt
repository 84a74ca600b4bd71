-- A leader that has settled stays settled in a calm, row by row, until a request makes its log grow.
use Rattle.std.proofs.Common.{◌≡◌, ◌≢◌, ℕ, ◌+◌, ◌≤◌, List, [], ◌∷◌, ◌++◌, refl, sym, ◌∙◌, ap, subst, arith, inl, inr, Option, Some, None}
use Rattle.std.specs.Prelude.{◌⊎◌, max}
use Rattle.std.proofs.lemmas.Bool.Decides.{eqb_tells}
use Rattle.alloc_exchange.specs.Exchange.{Accepted}
use Rattle.can_frame.specs.declared.entry.Entry.{Entry}
use Rattle.can_frame.specs.declared.identifier.Kind.{Kind}
use Rattle.can_frame.specs.declared.identifier.Kind.TheVariants.{Anonymous, Message, Request as RequestKind, Response}
use Rattle.dsdl_codec.specs.declared.allocation.Allocation.{Allocation}
use Rattle.dsdl_codec.specs.Allocation.{allocation_of}
use Rattle.raft_model.specs.Lists.{In}
use Rattle.bus_rows.specs.declared.row.Row.{Row}
use Rattle.bus_rows.specs.declared.row.Row.TheVariants.{AEnd, AOpen, ARx, ASend, ATick, Crash, Ext, Fault, Open, Rx, Send, Tick}
use Rattle.transfer_rx.specs.Reassembly.{Answer as Received, Continues, Delivery, Drops, Gives, answer as received}
use Rattle.alloc_spec.specs.Accepted.{setting_for}
use Rattle.alloc_spec.specs.AllocatorState.{AllocatorState}
use Rattle.bus_rows.specs.Timed.{Timed, rows_in}
use Rattle.service_alone.specs.Calm.{HasSettled, Pace, end_of}
use Rattle.service_calm.specs.Calm.{AreCalm, AreRunning, IsCalmRow, Member as OfMember, Party, Traffic, traffic_after}
use Rattle.service_calm.specs.Calls.{Lists}
use Rattle.service_leader.specs.LeadsOn.{IsLed}
use Rattle.service_device.specs.Settled.{IsAsked, IsNotAsked, IsSettled, MissesNobody, NobodyAsks, NobodyIsMissed, NothingIsRecorded, StaysSettled}
use Rattle.service_calm.proofs.Group.{AreWell, IsWell, well_after}
use Rattle.service_leader.proofs.LeadsOn.{all_play, none_higher}
use Rattle.service_leader.proofs.LeadsOnWays.{AreOfGroup, next_of_group, of_group_after}
use Rattle.service_calm.proofs.Pair.{same_server}
use Rattle.service_device.proofs.SettledLeads.{settles, stays_settled}
use Rattle.service_leader.proofs.TermsHeard.{IsOfRun, tells_within}
use Rattle.service_leader.proofs.TermsKept.{TellsWithin}
use Rattle.service_device.specs.ServiceBelow.{ServiceGrounds}
use Rattle.service_calm.proofs.Grounds.{calm_laws}
use Rattle.service_leader.proofs.TermsRun.{of_run}
use Rattle.alloc_spec.specs.ClusterMembers.{AreMembers}
use Rattle.bus_spec.specs.Cluster.{Cluster, after_row, after_rows, arrival_at, cluster, frame_at, world_of}
use Rattle.bus_spec.specs.Lawful.{DoNoHarm, DoesNoHarm}
use Rattle.bus_spec.specs.Members.MemberStatus.{Up}

-- ---- rows in parts

-- what is so of rows is so of the first ones, and of the rest
pub harmless_first : (front rest : List Timed) (w : Cluster) → DoNoHarm w (rows_in (front ++ rest))
    → DoNoHarm w (rows_in front) × DoNoHarm (after_rows w (rows_in front)) (rows_in rest)
harmless_first [] rest w h = (tt, h)
harmless_first (first ∷ front) rest w h = let more = harmless_first front rest (after_row w first.row) h.1 in ((h.0, more.0), more.1)

pub missed_first : (n : ℕ) (front rest : List Timed) (w : Cluster) → NobodyIsMissed n w (front ++ rest)
    → NobodyIsMissed n w front × NobodyIsMissed n (after_rows w (rows_in front)) rest
missed_first n [] rest w h = (tt, h)
missed_first n (first ∷ front) rest w h = let more = missed_first n front rest (after_row w first.row) h.1 in ((h.0, more.0), more.1)

-- ---- whether a request comes

no_message : (message : Allocation) → None ≡ Some message → ⊥
no_message message e = cc (e)

-- one delivery
pub one_delivery : (x y : Delivery) → Gives x ≡ Gives y → x ≡ y
one_delivery x y e = cc (e)

-- a request comes to the member in this row, or none does
abbrev pub AsksOrNot : ℕ → Cluster → Row → Type 0
AsksOrNot n w row = ((message : Allocation) × IsAsked n message w row) ⊎ IsNotAsked n w row

module _ (n : ℕ) (w : Cluster) (t : AllocatorState) (runs : (w.member n).status ≡ Up t) where
  module _ (k ms : ℕ) where
    abbrev got : Received
    got = received (setting_for n) t.sessions (arrival_at (frame_at w.frames k) (max t.now ms))

    -- what comes is what is got
    pub its_got : (message : Allocation) (is : IsAsked n message w (Rx n k ms)) → got ≡ Gives is.request
    its_got message is =
        let same : t ≡ is.comes.server = same_server t is.comes.server (sym runs ∙ is.comes.runs) in
        let number : k ≡ is.comes.k = ap row_number is.comes.comes in
        let moment : ms ≡ is.comes.ms = ap row_moment is.comes.comes in
        (λ i. received (setting_for n) (same i).sessions (arrival_at (frame_at w.frames (number i)) (max (same i).now (moment i)))) ∙ is.comes.gives
      where
        row_number : Row → ℕ
        row_number (Rx p j moment) = j
        row_number row = 0

        row_moment : Row → ℕ
        row_moment (Rx p j moment) = moment
        row_moment row = 0

    by_message : (d : Delivery) → got ≡ Gives d → d.ident.kind ≡ Anonymous → (o : Option Allocation) → allocation_of d.payload ≡ o → AsksOrNot n w (Rx n k ms)
    by_message d gives kind (Some message) says = inl (
      message,
      record {
        request = d;
        comes = record { k = k; ms = ms; comes = refl; server = t; runs = runs; gives = gives };
        anonymous = kind;
        says = says;
      },
    )
    by_message d gives kind None says = inr (λ message is. no_message message (sym says
        ∙ (ap (λ (x : Delivery). allocation_of x.payload) (one_delivery d is.request (sym gives ∙ its_got message is)) ∙ is.says)))

    other_kind : (d : Delivery) → got ≡ Gives d → (kind : Kind) → d.ident.kind ≡ kind → kind ≢ Anonymous → AsksOrNot n w (Rx n k ms)
    other_kind d gives kind e apart = inr (λ message is. apart (sym e
        ∙ (ap (λ (x : Delivery). x.ident.kind) (one_delivery d is.request (sym gives ∙ its_got message is)) ∙ is.anonymous)))

    by_kind : (d : Delivery) → got ≡ Gives d → (kind : Kind) → d.ident.kind ≡ kind → AsksOrNot n w (Rx n k ms)
    by_kind d gives Anonymous e = by_message d gives e (allocation_of d.payload) refl
    by_kind d gives Message e = other_kind d gives Message e (λ f. cc (f))
    by_kind d gives RequestKind e = other_kind d gives RequestKind e (λ f. cc (f))
    by_kind d gives Response e = other_kind d gives Response e (λ f. cc (f))

    by_got : (x : Received) → got ≡ x → AsksOrNot n w (Rx n k ms)
    by_got (Gives d) e = by_kind d e d.ident.kind refl
    by_got Continues e = inr (λ message is. cc (sym e ∙ its_got message is))
    by_got (Drops why) e = inr (λ message is. cc (sym e ∙ its_got message is))

  -- each row tells
  pub asked_or_not : (row : Row) → AsksOrNot n w row
  asked_or_not (Rx p k ms) = elim (eqb_tells n p) [
    | inl z ↦ subst (λ (q : ℕ). AsksOrNot n w (Rx q k ms)) z.1 (by_got k ms (received (setting_for n) t.sessions (arrival_at (frame_at w.frames k) (max t.now ms))) refl)
    | inr z ↦ inr (λ message is. z.1 (sym (ap receiver is.comes.comes)))
  ]
    where
      receiver : Row → ℕ
      receiver (Rx q j moment) = q
      receiver row = p
  asked_or_not (Tick p ms word) = inr (λ message is. cc (is.comes.comes))
  asked_or_not (Send p) = inr (λ message is. cc (is.comes.comes))
  asked_or_not (ATick a ms word) = inr (λ message is. cc (is.comes.comes))
  asked_or_not (ARx a k ms word) = inr (λ message is. cc (is.comes.comes))
  asked_or_not (ASend a) = inr (λ message is. cc (is.comes.comes))
  asked_or_not (Open p told ms word) = inr (λ message is. cc (is.comes.comes))
  asked_or_not (Ext f) = inr (λ message is. cc (is.comes.comes))
  asked_or_not (Crash p calls pattern) = inr (λ message is. cc (is.comes.comes))
  asked_or_not (Fault p call) = inr (λ message is. cc (is.comes.comes))
  asked_or_not (AOpen a uid pref ms word) = inr (λ message is. cc (is.comes.comes))
  asked_or_not (AEnd a) = inr (λ message is. cc (is.comes.comes))

module _ (below : ServiceGrounds) (group : List Party) (clocks : Party → ℕ) (pace : Pace) (ids : List ℕ) (members : AreMembers ids)
    (listed : (p : ℕ) → In (OfMember p) group → In p ids) where
  pub nodes : (p : ℕ) → In (OfMember p) group → (1 ≤ p) × (p ≤ 125)
  nodes p i = members.nodes p (listed p i)

  -- ---- a world that harmless rows reach, from which calm rows go on

  pub record IsReached (moment : ℕ) (w : Cluster) (rest : List Timed) : Type 0 where
    pub rows : List Row
    pub reached : world_of ids rows ≡ w
    pub harmless : DoNoHarm (cluster ids) rows
    pub traffic : Traffic
    pub calm : AreCalm group clocks pace traffic w rest
    pub at_end : traffic.at ≡ moment
    pub well : AreWell group w
    pub flies : (party : Party) → AreOfGroup group w.frames (traffic.to party)

  -- so it is a row further on
  pub after_one : (moment : ℕ) (w : Cluster) (timed : Timed) (rest : List Timed) → IsReached moment w (timed ∷ rest) → DoesNoHarm w timed.row
      → IsReached timed.at (after_row w timed.row) rest
  after_one moment w timed rest h harm = record {
    rows = h.rows ++ timed.row ∷ [];
    reached = below.calm.grows (cluster ids) h.rows timed.row ∙ ap (λ (v : Cluster). after_row v timed.row) h.reached;
    harmless = below.calm.no_harm (cluster ids) h.rows timed.row h.harmless (subst (λ (v : Cluster). DoesNoHarm v timed.row) (sym h.reached) harm);
    traffic = traffic_after h.traffic w timed;
    calm = h.calm.2;
    at_end = refl;
    well = well_after (calm_laws below.calm) group nodes w h.well clocks pace h.traffic timed.at timed.row h.calm.1;
    flies = λ party. of_group_after group (calm_laws below.calm) nodes clocks pace h.traffic w h.well h.flies timed.at timed.row h.calm.1 party;
  }

  -- and any number of rows
  pub reach_on : (front rest : List Timed) (moment : ℕ) (w : Cluster) → IsReached moment w (front ++ rest) → DoNoHarm w (rows_in front)
      → IsReached (end_of moment front) (after_rows w (rows_in front)) rest
  reach_on [] rest moment w h harm = h
  reach_on (timed ∷ front) rest moment w h harm = reach_on front rest timed.at (after_row w timed.row) (after_one moment w timed (front ++ rest) h harm.0) harm.1

  module _ (n term : ℕ) (log : List Entry) (member : In (OfMember n) group) where
    -- n lists each other member
    abbrev pub ListsAll : Cluster → Type 0
    ListsAll w = (m : ℕ) → In (OfMember m) group → m ≢ n → Lists n m w

    abbrev pub clock : ℕ → ℕ
    clock moment = moment + clocks (OfMember n)

    -- ---- a row

    module _ (moment : ℕ) (w : Cluster) (timed : Timed) (rest : List Timed) (h : IsReached moment w (timed ∷ rest)) (harm : DoesNoHarm w timed.row) where
      running : AreRunning group w
      running p i = let x : IsWell p (w.member p) = h.well.members p i in record {
        server = x.server;
        runs = x.up.status;
        faults = x.up.quiet.faults;
        disk = x.up.quiet.calls;
      }

      -- n lists each of them behind the row
      pub lists_after : ListsAll w → ListsAll (after_row w timed.row)
      lists_after lists m i apart = below.lists_stay group clocks pace h.traffic n m (timed ∷ []) rest w (running n member) h.calm (lists m i apart)

      module _ (t : AllocatorState) (runs : (w.member n).status ≡ Up t) where
        -- the server is the member's
        pub its_me : t.me ≡ n
        its_me =
            let its : IsWell n (w.member n) = h.well.members n member in
            ap (λ (u : AllocatorState). u.me) (same_server t its.server (sym runs ∙ its.up.status)) ∙ its.its.me

        same_ids : w.ids ≡ ids
        same_ids = sym (ap (λ (v : Cluster). v.ids) h.reached) ∙ below.calm.same (cluster ids) h.rows

        shown : IsOfRun w
        shown = subst IsOfRun h.reached (of_run below.calm ids members h.rows h.harmless)

        -- what comes to it tells no higher term
        pub tells_low : IsLed group n term w → (k ms : ℕ) → timed.row ≡ Rx n k ms → (d : Delivery)
            → received (setting_for t.me) t.sessions (arrival_at (frame_at w.frames k) (max t.now ms)) ≡ Gives d → TellsWithin term d
        tells_low led k ms e d gives =
            let calm : IsCalmRow group clocks pace h.traffic w timed.at (Rx n k ms) = subst (IsCalmRow group clocks pace h.traffic w timed.at) e h.calm.1 in
            tells_within below.calm.frame below.calm.codec w shown
            (below.calm.one_transfer shown.choice shown.made w shown.run (subst AreMembers (sym same_ids) members) shown.shows) group
            (λ p i. subst (λ (l : List ℕ). In p l) (sym same_ids) (listed p i)) nodes term
            (none_higher group n term w (all_play group n term w led running))
            n k ms t runs (subst (DoesNoHarm w) e harm) d gives
            (next_of_group group w.frames k (h.traffic.to (OfMember n)) calm.2 (h.flies (OfMember n)))

      -- the row leaves it settled
      pub row_leaves : (accepted : List Accepted) → IsLed group n term w → ListsAll w → MissesNobody n w timed.row → IsSettled n log accepted (clock moment) w
          → StaysSettled n log accepted (clock timed.at) w timed.row
      row_leaves accepted led lists missed is =
          stays_settled below.calm.frame group clocks pace n term log accepted (clock moment) timed.at h.traffic w nodes member h.flies lists
          (omega (arith, h.calm.0.moments, h.at_end)) is.settled.server (settles n term log accepted (clock moment) w is led.leader)
          (its_me is.settled.server is.settled.runs) timed.row h.calm.1 (tells_low is.settled.server is.settled.runs led) missed

    -- ---- all rows

    -- in each world before one of these rows, and behind them, n leads, and the others follow
    abbrev pub LedIn : Cluster → List Timed → Type 0
    LedIn w front = (a b : List Timed) → front ≡ a ++ b → IsLed group n term (after_rows w (rows_in a))

    pub led_after : (w : Cluster) (timed : Timed) (front : List Timed) → LedIn w (timed ∷ front) → LedIn (after_row w timed.row) front
    led_after w timed front led a b e = led (timed ∷ a) b (ap (λ (l : List Timed). timed ∷ l) e)

    -- where nothing is recorded, it is settled behind the rows
    pub settled_on : (front rest : List Timed) (moment : ℕ) (w : Cluster) → IsReached moment w (front ++ rest) → DoNoHarm w (rows_in front) → LedIn w front → ListsAll w
        → NobodyIsMissed n w front → NothingIsRecorded n w front → HasSettled n log (clock moment) w
        → HasSettled n log (clock (end_of moment front)) (after_rows w (rows_in front))
    settled_on [] rest moment w h harm led lists missed none is = is
    settled_on (timed ∷ front) rest moment w h harm led lists missed none is =
        settled_on front rest timed.at (after_row w timed.row) (after_one moment w timed (front ++ rest) h harm.0) harm.1 (led_after w timed front led)
        (lists_after moment w timed (front ++ rest) h harm.0 lists) missed.1 none.1
        (by (asked_or_not n w is.server is.runs timed.row))
      where
        one : StaysSettled n log is.server.accepted (clock timed.at) w timed.row
        one = row_leaves moment w timed (front ++ rest) h harm.0 is.server.accepted (led [] (timed ∷ front) refl) lists missed.0
            (record { settled = is; requests = refl })

        by : AsksOrNot n w timed.row → HasSettled n log (clock timed.at) (after_row w timed.row)
        by (inl (message, asked)) = elim (one.asked message asked) [ inl z ↦ absurd (none.0 message asked z) | inr z ↦ z.settled ]
        by (inr not_asked) = (one.unasked not_asked).settled

    -- where nobody asks, it has accepted no more requests either
    pub unasked_on : (accepted : List Accepted) (front rest : List Timed) (moment : ℕ) (w : Cluster) → IsReached moment w (front ++ rest) → DoNoHarm w (rows_in front)
        → LedIn w front → ListsAll w → NobodyIsMissed n w front → NobodyAsks n w front → IsSettled n log accepted (clock moment) w
        → IsSettled n log accepted (clock (end_of moment front)) (after_rows w (rows_in front))
    unasked_on accepted [] rest moment w h harm led lists missed none is = is
    unasked_on accepted (timed ∷ front) rest moment w h harm led lists missed none is =
        unasked_on accepted front rest timed.at (after_row w timed.row) (after_one moment w timed (front ++ rest) h harm.0) harm.1 (led_after w timed front led)
        (lists_after moment w timed (front ++ rest) h harm.0 lists) missed.1 none.1
        ((row_leaves moment w timed (front ++ rest) h harm.0 accepted (led [] (timed ∷ front) refl) lists missed.0 is).unasked none.0)
