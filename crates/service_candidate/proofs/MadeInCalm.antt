-- What is delivered in a calm was made in it, where nothing waits when it begins.
use Rattle.std.proofs.Common.{◌≡◌, ℕ, suc, ◌+◌, ◌<◌, ◌≤◌, arith, Bool, true, false, List, [], ◌∷◌, ◌++◌, max, refl, sym, ◌∙◌, ap, subst, inl, inr, Some}
use Rattle.std.specs.Prelude.{◌⊎◌, ◌||◌, if◌then◌else◌}
use Rattle.can_frame.specs.declared.identifier.Ident.{Ident}
use Rattle.can_frame.specs.declared.identifier.Kind.{Kind}
use Rattle.can_frame.specs.declared.identifier.Kind.TheVariants.{Request as RequestKind}
use Rattle.can_frame.specs.Cutting.{Piece}
use Rattle.can_frame.specs.Identifier.{identifier_of}
use Rattle.raft_log.specs.KeyDisk.{are_put}
use Rattle.raft_model.specs.Lists.{In}
use Rattle.raft_model.specs.Runs as raft
use Rattle.bus_rows.specs.declared.row.Row.{Row}
use Rattle.bus_rows.specs.declared.row.Row.TheVariants.{AEnd, AOpen, ARx, ASend, ATick, Crash, Ext, Fault, Open, Rx, Send, Tick}
use Rattle.transfer_rx.specs.Reassembly.{Arrival, Delivery, Gives, answer}
use Rattle.transfer_rx.specs.Sound.{IsDelivered}
use Rattle.transfer_tx.specs.Queue.{Queued, marked, queued_frames}
use Rattle.allocatee.specs.Given.{IsAnonymous}
use Rattle.alloc_spec.specs.Accepted.{is_of_members, rows, setting_for}
use Rattle.alloc_spec.specs.AllocatorState.{AllocatorState}
use Rattle.alloc_spec.specs.Step.{Event, step}
use Rattle.alloc_spec.specs.StepState.{StepState}
use Rattle.alloc_spec.specs.Transfers.{Offer, SentTransfer, frames_of, ident_of, kind_of, number_of}
use Rattle.alloc_spec_laws.specs.Waiting.{all_frames_put}
use Rattle.bus_agreement.specs.Safe.{IsDeliveredTo, IsOneTransfer}
use Rattle.bus_agreement.proofs.Idents.{ident_ok, wanted_is}
use Rattle.bus_agreement.proofs.Lists.{in_append, is_any}
use Rattle.bus_agreement.proofs.MadeTransfers.{IsNew, frame_put, made_when}
use Rattle.bus_agreement.proofs.RowsWithoutEvents.{out_of_queue}
use Rattle.bus_rows.specs.Timed.{Timed, rows_in}
use Rattle.service_alone.specs.Calm.{Pace}
use Rattle.service_calm.specs.Calm.{AreCalm, IsCalmRow, Member as OfMember, Party, Traffic, traffic_after}
use Rattle.service_calm.proofs.Group.{AreWell, CalmLaws, IsOf, sent_anonymous, sent_own, well_after}
use Rattle.service_calm.proofs.Others.{some_ident}
use Rattle.service_calm.proofs.Pair.{same_server}
use Rattle.service_candidate.specs.Waits.{GivesVote}
use Rattle.service_leader.proofs.FramesFly.{Fly, fly_after, next_is}
use Rattle.service_candidate.proofs.WaitsRows.{Takes, takes}
use Rattle.bus_spec.specs.Cluster.{Cluster, after_row, after_rows, arrival_at, frame_at, receipt_of, step_of, tick_of}
use Rattle.bus_spec.specs.Lawful.{DoNoHarm, DoesNoHarm, is_forged, is_forged_by}
use Rattle.bus_spec.specs.Cluster.{is_member}
use Rattle.bus_spec.specs.Members.{MemberStatus, next_frame, puts_of}
use Rattle.bus_spec.specs.Members.MemberStatus.{Down, Failed, Up}
use Rattle.bus_spec.specs.Refinement.{transfers_of_offers, transfers_of_row, transfers_of_rows, transfers_of_step}

-- ---- the frames of a transfer are marked by its step

step_marked : (number step re place : ℕ) (pieces : List Piece) (frame : Queued) → In frame (marked number step re place pieces) → frame.mark.step ≡ step
step_marked number step re place [] frame i = absurd i
step_marked number step re place (piece ∷ pieces) frame (inl e) = ap (λ (f : Queued). f.mark.step) e
step_marked number step re place (piece ∷ pieces) frame (inr i) = step_marked number step re (suc place) pieces frame i

step_of_frame : (x : SentTransfer) (frame : Queued) → In frame (frames_of x) → frame.mark.step ≡ x.step
unfolding queued_frames
step_of_frame x frame i = step_marked _ x.step x.offer.re 0 _ frame i

-- ---- the transfers that rows make

-- in this row the transfer is made
pub record RowMakes (x : SentTransfer) (w : Cluster) (row : Row) : Type 0 where
  pub event : Event
  pub in_step : step_of w row ≡ Some (x.by, event)
  pub server : AllocatorState
  pub runs : (w.member x.by).status ≡ Up server
  pub offered : In x.offer (step server (w.rows + 1) event).step_state.offers
  pub fitted : x.offer.fitted ≡ true
  pub number : x.step ≡ w.rows + 1

step_makes : (w : Cluster) (row : Row) (n : ℕ) (event : Event) → step_of w row ≡ Some (n, event) → (earlier : List SentTransfer) (x : SentTransfer) (status : MemberStatus)
    → (w.member n).status ≡ status → In x (transfers_of_step (w.rows + 1) n event status (w.member n) earlier) → In x earlier ⊎ RowMakes x w row
step_makes w row n event is earlier x Down e i = inl i
step_makes w row n event is earlier x (Failed failure) e i = inl i
step_makes w row n event is earlier x (Up server) e i = by (are_put (puts_of (w.member n) g) (w.member n).disk.calls) i
  where
    g : StepState
    g = (step server (w.rows + 1) event).step_state

    new : IsNew (w.rows + 1) n (step server (w.rows + 1) event).step_state.offers x → RowMakes x w row
    new one = record {
      event = event;
      in_step = is ∙ ap (λ (k : ℕ). Some (k, event)) (sym (ap (λ (y : SentTransfer). y.by) one.is));
      server = server;
      runs = ap (λ (y : SentTransfer). (w.member y.by).status) one.is ∙ e;
      offered = subst (λ (o : Offer). In o (step server (w.rows + 1) event).step_state.offers) (sym (ap (λ (y : SentTransfer). y.offer) one.is)) one.offered;
      fitted = ap (λ (y : SentTransfer). y.offer.fitted) one.is ∙ one.fitted;
      number = ap (λ (y : SentTransfer). y.step) one.is;
    }

    by : (b : Bool) → In x (if b then transfers_of_offers (w.rows + 1) n g.offers earlier else earlier) → In x earlier ⊎ RowMakes x w row
    by true j = elim (made_when (w.rows + 1) n g.offers earlier x j) [ inl before ↦ inl before | inr one ↦ inr (new one) ]
    by false j = inl j

row_makes : (w : Cluster) (row : Row) (earlier : List SentTransfer) (x : SentTransfer) → In x (transfers_of_row w row earlier) → In x earlier ⊎ RowMakes x w row
row_makes w (Tick n ms word) earlier x i = step_makes w (Tick n ms word) n (tick_of ms word) refl earlier x (w.member n).status refl i
row_makes w (Rx n k ms) earlier x i = step_makes w (Rx n k ms) n (receipt_of w k ms) refl earlier x (w.member n).status refl i
row_makes w (Send n) earlier x i = inl i
row_makes w (ATick a ms word) earlier x i = inl i
row_makes w (ARx a k ms word) earlier x i = inl i
row_makes w (ASend a) earlier x i = inl i
row_makes w (Open n told ms word) earlier x i = inl i
row_makes w (Ext frame) earlier x i = inl i
row_makes w (Crash n calls pattern) earlier x i = inl i
row_makes w (Fault n call) earlier x i = inl i
row_makes w (AOpen a uid pref ms word) earlier x i = inl i
row_makes w (AEnd a) earlier x i = inl i

-- the transfer is made in one of these rows
pub record IsMadeIn (x : SentTransfer) (w : Cluster) (front : List Timed) : Type 0 where
  pub first : List Timed
  pub timed : Timed
  pub more : List Timed
  pub split : front ≡ first ++ timed ∷ more
  pub makes : RowMakes x (after_rows w (rows_in first)) timed.row

rows_make : (front : List Timed) (w : Cluster) (earlier : List SentTransfer) (x : SentTransfer) → In x (transfers_of_rows w (rows_in front) earlier)
    → In x earlier ⊎ IsMadeIn x w front
rows_make [] w earlier x i = inl i
rows_make (timed ∷ front) w earlier x i = elim (rows_make front (after_row w timed.row) (transfers_of_row w timed.row earlier) x i) [
  | inl j ↦ elim (row_makes w timed.row earlier x j) [
    | inl before ↦ inl before
    | inr makes ↦ inr (record { first = []; timed = timed; more = front; split = refl; makes = makes })
  ]
  | inr is ↦ inr (record {
    first = timed ∷ is.first;
    timed = is.timed;
    more = is.more;
    split = ap (λ (l : List Timed). timed ∷ l) is.split;
    makes = is.makes;
  })
]

both_make : (w : Cluster) (first more : List Row) (earlier : List SentTransfer)
    → transfers_of_rows w (first ++ more) earlier ≡ transfers_of_rows (after_rows w first) more (transfers_of_rows w first earlier)
both_make w [] more earlier = refl
both_make w (row ∷ first) more earlier = both_make (after_row w row) first more (transfers_of_row w row earlier)

-- what is made behind these rows is made in the calm rows
pub made_later : (w : Cluster) (first : List Row) (front : List Timed) (x : SentTransfer) → ((y : SentTransfer) → In y (transfers_of_rows w first []) → y.step ≤ (after_rows w first).rows)
    → (after_rows w first).rows < x.step → In x (transfers_of_rows w (first ++ rows_in front) []) → IsMadeIn x (after_rows w first) front
made_later w first front x past late i =
    elim (rows_make front (after_rows w first) (transfers_of_rows w first []) x (subst (In x) (both_make w first (rows_in front) []) i)) [
      | inl before ↦ let p = past x before in absurd (omega (arith, p, late))
      | inr is ↦ is
    ]

-- ---- the frames of a calm

module _ (laws : CalmLaws) (group : List Party) (nodes : (p : ℕ) → In (OfMember p) group → (1 ≤ p) × (p ≤ 125)) (clocks : Party → ℕ) (pace : Pace) (since : ℕ) where
  -- a member of the group made the frame behind row `since`, or a device sent it
  abbrev pub IsNewOfGroup : Queued → Type 0
  IsNewOfGroup frame = ((p : ℕ) × In (OfMember p) group × IsOf p frame × (since < frame.mark.step)) ⊎ IsAnonymous frame

  -- what waits in the queues of the members was made so
  pub record AreNew (w : Cluster) : Type 0 where
    pub on : since ≤ w.rows
    pub queues : (p : ℕ) → In (OfMember p) group → (t : AllocatorState) → (w.member p).status ≡ Up t → (frame : Queued) → In frame t.queue → since < frame.mark.step

  -- the rows go on calmly, and all that is on its way or waits was made so
  pub record Reaches (w : Cluster) (whole : List Timed) : Type 0 where
    pub traffic : Traffic
    pub calm : AreCalm group clocks pace traffic w whole
    pub are : AreWell group w
    pub flies : (party : Party) → Fly IsNewOfGroup w.frames (traffic.to party)
    pub new : AreNew w

  stepped_new : (t : AllocatorState) (number : ℕ) (event : Event) → since < number → ((frame : Queued) → In frame t.queue → since < frame.mark.step)
      → (frame : Queued) → In frame (step t number event).step_state.allocator.queue → since < frame.mark.step
  stepped_new t number event late all frame i = elim (in_append frame t.queue (all_frames_put number t.me (step t number event).step_state.offers)
      (subst (λ (l : List Queued). In frame l) (laws.in_step.queue t number event) i)) [
        | inl before ↦ all frame before
        | inr put ↦
            let one = frame_put number t.me (step t number event).step_state.offers frame put in
            let e = step_of_frame (record { step = number; by = t.me; offer = one.0 }) frame one.3 in
            omega (arith, e, late)
      ]

  new_after : (w : Cluster) (row : Row) → AreWell group w → AreWell group (after_row w row) → DoesNoHarm w row → AreNew w → AreNew (after_row w row)
  new_after w row are then_are harm new = record {
    on = let o = new.on in omega (arith, o);
    queues = λ p i t up frame j.
        let before = are.members p i in
        let all = new.queues p i before.server before.up.status in
        by p i before.server t all (takes w p before.server t before.up.status row harm up) frame j;
  }
    where
      late : since < w.rows + 1
      late = let o = new.on in omega (arith, o)

      by : (p : ℕ) → In (OfMember p) group → (before t : AllocatorState) → ((frame : Queued) → In frame before.queue → since < frame.mark.step)
          → Takes w row p before t → (frame : Queued) → In frame t.queue → since < frame.mark.step
      by p i before t all (Takes.Ticks ms word is after_is) frame j =
          stepped_new before (w.rows + 1) (tick_of ms word) late all frame (subst (λ (s : AllocatorState). In frame s.queue) after_is j)
      by p i before t all (Takes.Receives k ms is after_is) frame j =
          stepped_new before (w.rows + 1) (receipt_of w k ms) late all frame (subst (λ (s : AllocatorState). In frame s.queue) after_is j)
      by p i before t all (Takes.Rests times server queue) frame j = all frame (queue frame j)

  -- so it is behind each front of calm rows
  pub reach : (front rest : List Timed) (w : Cluster) → Reaches w (front ++ rest) → DoNoHarm w (rows_in front) → Reaches (after_rows w (rows_in front)) rest
  reach [] rest w r harm = r
  reach (timed ∷ front) rest w r harm = reach front rest (after_row w timed.row) (record {
    traffic = traffic_after r.traffic w timed;
    calm = r.calm.2;
    are = then_are;
    flies = fly_after IsNewOfGroup group clocks pace r.traffic w r.flies timed.at timed.row r.calm.1
        (λ n g i is e. let well = r.are.members n i in
        inl (n, i, sent_own laws n (w.member n) g well e, r.new.queues n i well.server well.up.status g (out_of_queue well.server.queue g (sym (ap next_frame well.up.status) ∙ e))))
        (λ a g i is e. inr (sent_anonymous laws group nodes w r.are a g i e));
    new = new_after w timed.row r.are then_are harm.0 r.new;
  }) harm.1
    where
      then_are : AreWell group (after_row w timed.row)
      then_are = well_after laws group nodes w r.are clocks pace r.traffic timed.at timed.row r.calm.1

  -- ---- a vote request that is delivered

  or_first : (a b : Bool) → a ≡ true → (a || b) ≡ true
  or_first true b e = e
  or_first false b e = absurd (cc (e))

  module _ (w : Cluster) (f : ℕ) (timed : Timed) (rest : List Timed) (r : Reaches w (timed ∷ rest)) (listed : (p : ℕ) → In (OfMember p) group → In p w.ids)
      (in_f : In (OfMember f) group) (gives : GivesVote f w timed.row) where
    -- it comes from a member of the group, which made it so late
    pub comes_new : (made : List SentTransfer) (run : raft.World)
        → ((k ms : ℕ) (d : Delivery) → DoesNoHarm w (Rx f k ms) → IsDeliveredTo w f k ms d → IsOneTransfer made run.bag f d) → DoesNoHarm w timed.row
        → (x : SentTransfer) × In x made × In (OfMember x.by) group × (since < x.step) × (kind_of x.offer.what ≡ RequestKind)
        × (x.offer.payload ≡ gives.delivery.payload) × (number_of x.offer.what ≡ gives.delivery.ident.number)
    comes_new made run one harm = by frame_new
      where
        frame_new : IsNewOfGroup (frame_at w.frames gives.k)
        frame_new = next_is IsNewOfGroup w.frames gives.k (r.traffic.to (OfMember f))
            (subst (λ (row : Row). IsCalmRow group clocks pace r.traffic w timed.at row) gives.comes r.calm.1).2 (r.flies (OfMember f))

        arrival : Arrival
        arrival = arrival_at (frame_at w.frames gives.k) (max gives.server.now gives.ms)

        its : IsDelivered (setting_for f) gives.server.sessions (arrival_at (frame_at w.frames gives.k) (max gives.server.now gives.ms)) gives.delivery
        its = laws.frame.delivered (setting_for f) gives.server.sessions (arrival_at (frame_at w.frames gives.k) (max gives.server.now gives.ms)) gives.delivery gives.gives

        reads : identifier_of (frame_at w.frames gives.k).id ≡ Some gives.delivery.ident
        reads = (wanted_is rows f (frame_at w.frames gives.k).id its.w its.accepted).read ∙ ap (λ (i : Ident). Some i) (sym its.ident)

        me : gives.server.me ≡ f
        me = let well = r.are.members f in_f in
            ap (λ (t : AllocatorState). t.me) (same_server gives.server well.server (sym gives.runs ∙ well.up.status)) ∙ well.its.me

        by : IsNewOfGroup (frame_at w.frames gives.k)
            → (x : SentTransfer) × In x made × In (OfMember x.by) group × (since < x.step) × (kind_of x.offer.what ≡ RequestKind)
            × (x.offer.payload ≡ gives.delivery.payload) × (number_of x.offer.what ≡ gives.delivery.ident.number)
        by (inl (p, i, own, late)) =
            let node = nodes p i in
            let same : gives.delivery.ident ≡ ident_of p own.what own.to = some_ident gives.delivery.ident (ident_of p own.what own.to)
            (sym reads ∙ (ap identifier_of own.id ∙ laws.frame.ident_read (ident_of p own.what own.to) (ident_ok p own.what own.to node.0 node.1 own.dest))) in
            let source : gives.delivery.ident.source ≡ p = ap (λ (ident : Ident). ident.source) same in
            let forged : is_forged w.ids (Some gives.delivery.ident) ≡ true = ap (λ (kind : Kind). is_forged_by w.ids kind gives.delivery.ident) gives.kind
            ∙ or_first (is_member w.ids gives.delivery.ident.source) (is_of_members RequestKind gives.delivery.ident.number)
            (ap (is_member w.ids) source ∙ is_any w.ids p (listed p i)) in
            let x = one gives.k gives.ms gives.delivery (subst (DoesNoHarm w) gives.comes harm) (record {
              server = gives.server;
              runs = gives.runs;
              gives = subst (λ (n : ℕ). answer (setting_for n) gives.server.sessions (arrival_at (frame_at w.frames gives.k) (max gives.server.now gives.ms)) ≡ Gives gives.delivery)
                  (sym me) gives.gives;
              member = forged;
            }) in
            let step_is : x.whose.step ≡ (frame_at w.frames gives.k).mark.step = x.its.step ∙ ap (λ m. m.step) its.mark in (
              x.whose,
              x.was_made,
              subst (λ (n : ℕ). In (OfMember n) group) (sym (x.its.by ∙ source)) i,
              omega (arith, step_is, late),
              x.its.kind ∙ gives.kind,
              x.its.payload,
              x.its.number,
            )
        by (inr none) = absurd (cc (sym (ap (λ (ident : Ident). ident.kind) (some_ident gives.delivery.ident none.ident (sym reads ∙ none.read)) ∙ none.kind) ∙ gives.kind))
