-- What waits and is on its way in a calm, by when it was made: each frame of a Raft message from one member of the group
-- to another one was made in one of the later rows; or frames wait since so long that it comes before a given moment.
use Rattle.std.proofs.Common.{◌≡◌, ◌≢◌, ℕ, suc, ◌+◌, ◌*◌, ◌<◌, ◌≤◌, arith, List, [], ◌∷◌, ◌++◌, refl, sym, ◌∙◌, ap, subst, inl, inr, Some}
use Rattle.std.specs.Prelude.{⊤, ◌⊎◌}
use Rattle.can_frame.specs.declared.step.What.{What}
use Rattle.can_frame.specs.declared.step.What.TheVariants.{App, AppQ, Vote, VoteQ}
use Rattle.can_frame.specs.Cutting.{Piece}
use Rattle.can_frame.specs.Identifier.{identifier_number}
use Rattle.raft_model.specs.Lists.{In}
use Rattle.transfer_tx.specs.Queue.{Queued, marked, queued_frames}
use Rattle.transfer_tx.specs.Run.{of_identifier}
use Rattle.allocatee.specs.Given.{IsAnonymous}
use Rattle.alloc_spec.specs.AllocatorState.{AllocatorState}
use Rattle.alloc_spec.specs.Step.{Event, step}
use Rattle.alloc_spec.specs.Transfers.{SentTransfer, frames_of, ident_of}
use Rattle.alloc_spec_laws.specs.Waiting.{all_frames_put}
use Rattle.alloc_spec_laws.proofs.Choices.{lt_tells}
use Rattle.bus_agreement.proofs.Lists.{in_append}
use Rattle.bus_agreement.proofs.MadeTransfers.{frame_put}
use Rattle.bus_agreement.proofs.RowsWithoutEvents.{out_of_queue}
use Rattle.bus_rows.specs.Timed.{Timed, rows_in}
use Rattle.service_alone.specs.Calm.{Pace, queue_of, waits_after}
use Rattle.service_calm.specs.Calm.{AreCalm, Member as OfMember, Party, Traffic, no_traffic, queue_in, traffic_after}
use Rattle.service_calm.proofs.Group.{AreWell, CalmLaws, IsOf, sent_anonymous, sent_own, well_after}
use Rattle.service_candidate.proofs.LogsFrames.{none_has}
use Rattle.service_candidate.proofs.WaitsRows.{Takes, takes}
use Rattle.service_leader.proofs.Stretches.{GoesOnFrom, calm_rest, in_between}
use Rattle.service_elections.proofs.HeardFrames.{AreOnWay, on_way_then}
use Rattle.bus_spec.specs.Cluster.{Cluster, after_row, after_rows, receipt_of, tick_of}
use Rattle.bus_spec.specs.Lawful.{DoNoHarm, DoesNoHarm}
use Rattle.bus_spec.specs.Members.{next_frame}
use Rattle.bus_spec.specs.Members.MemberStatus.{Up}

-- ---- the transfers of Raft

-- a transfer by which Raft servers speak to each other
abbrev pub IsOfRaft : What → Type 0
IsOfRaft what = ((what ≡ VoteQ) ⊎ (what ≡ Vote)) ⊎ ((what ≡ AppQ) ⊎ (what ≡ App))

-- a frame of member p is of no such transfer to another member of the group
abbrev pub IsNoneOfRaft : List Party → (p : ℕ) → Queued → Type 0
IsNoneOfRaft group p frame = (m : ℕ) → In (OfMember m) group → p ≢ m → (what : What) → IsOfRaft what → frame.id ≢ identifier_number (ident_of p what m)

-- ---- the frames of a transfer are marked by its step

step_marked : (number step re place : ℕ) (pieces : List Piece) (frame : Queued) → In frame (marked number step re place pieces) → frame.mark.step ≡ step
step_marked number step re place [] frame i = absurd i
step_marked number step re place (piece ∷ pieces) frame (inl e) = ap (λ (f : Queued). f.mark.step) e
step_marked number step re place (piece ∷ pieces) frame (inr i) = step_marked number step re (suc place) pieces frame i

step_of_frame : (x : SentTransfer) (frame : Queued) → In frame (frames_of x) → frame.mark.step ≡ x.step
unfolding queued_frames
step_of_frame x frame i = step_marked _ x.step x.offer.re 0 _ frame i

-- ---- since when frames wait

waits_either : (at since : ℕ) (before after : List Queued) → (waits_after at since before after ≡ at) ⊎ (waits_after at since before after ≡ since)
waits_either at since [] after = inl refl
waits_either at since (f ∷ fs) [] = inl refl
waits_either at since (f ∷ fs) (g ∷ gs) = inr refl

-- where a frame stays, they wait on
waits_still : (at since : ℕ) (before after : List Queued) (frame : Queued) → In frame before → In frame after → waits_after at since before after ≡ since
waits_still at since [] after frame i j = absurd i
waits_still at since (f ∷ fs) [] frame i j = absurd j
waits_still at since (f ∷ fs) (g ∷ gs) frame i j = refl

-- ---- a calm goes on

-- Rows up to number `base` come so early that what is made in them comes before the moment `last`.
module _ (laws : CalmLaws) (group : List Party) (nodes : (p : ℕ) → In (OfMember p) group → (1 ≤ p) × (p ≤ 125)) (clocks : Party → ℕ) (pace : Pace) (last base : ℕ) where
  -- a frame in the queue of member p, in which frames wait since this moment
  abbrev pub WaitsSo : (p since : ℕ) → Queued → Type 0
  WaitsSo p since frame = IsNoneOfRaft group p frame ⊎ ((base < frame.mark.step) ⊎ (since + 2 * pace.delay < last))

  -- a frame that is on its way since this moment
  abbrev pub FliesSo : (since : ℕ) → Queued → Type 0
  FliesSo since frame = ((p : ℕ) × In (OfMember p) group × IsOf p frame
      × (IsNoneOfRaft group p frame ⊎ ((base < frame.mark.step) ⊎ (since + pace.delay < last)))) ⊎ IsAnonymous frame

  -- the rows go on calmly, and all that waits or is on its way is so
  pub record GoesOn (w : Cluster) (whole : List Timed) : Type 0 where
    pub traffic : Traffic
    pub calm : AreCalm group clocks pace traffic w whole
    pub well : AreWell group w
    pub flies : (party : Party) → AreOnWay FliesSo w.frames (traffic.to party)
    pub queues : (p : ℕ) → In (OfMember p) group → (t : AllocatorState) → (w.member p).status ≡ Up t → (frame : Queued) → In frame t.queue
        → WaitsSo p (traffic.waits (OfMember p)) frame
    pub since : (p : ℕ) → traffic.waits (OfMember p) ≤ traffic.at

  -- the row comes early, or has a later number
  abbrev pub IsCounted : Cluster → Timed → Type 0
  IsCounted w timed = (timed.at + 2 * pace.delay < last) ⊎ (base ≤ w.rows)

  -- ---- one row

  module _ (w : Cluster) (timed : Timed) (rest : List Timed) (goes : GoesOn w (timed ∷ rest)) (harm : DoesNoHarm w timed.row) (counted : IsCounted w timed) where
    abbrev then_w : Cluster
    then_w = after_row w timed.row

    abbrev then_traffic : Traffic
    then_traffic = traffic_after goes.traffic w timed

    since_then : (p : ℕ) → then_traffic.waits (OfMember p) ≤ timed.at
    since_then p = elim (waits_either timed.at (goes.traffic.waits (OfMember p)) (queue_in w (OfMember p)) (queue_in then_w (OfMember p))) [
      | inl e ↦ omega (arith, e)
      | inr e ↦ let s = goes.since p in let m = goes.calm.0.moments in omega (arith, e, s, m)
    ]

    module _ (p : ℕ) (before after : AllocatorState) (runs : (w.member p).status ≡ Up before) (runs_then : (then_w.member p).status ≡ Up after)
        (all : (frame : Queued) → In frame before.queue → WaitsSo p (goes.traffic.waits (OfMember p)) frame) where
      -- a frame that waits on
      waits_on : (frame : Queued) → In frame before.queue → In frame after.queue → WaitsSo p (then_traffic.waits (OfMember p)) frame
      waits_on frame i j = subst (λ (n : ℕ). WaitsSo p n frame)
          (sym (waits_still timed.at (goes.traffic.waits (OfMember p)) (queue_in w (OfMember p)) (queue_in then_w (OfMember p)) frame
          (subst (In frame) (sym (ap queue_of runs)) i) (subst (In frame) (sym (ap queue_of runs_then)) j)))
          (all frame i)

      -- one that is put
      waits_new : (frame : Queued) → frame.mark.step ≡ w.rows + 1 → WaitsSo p (then_traffic.waits (OfMember p)) frame
      waits_new frame made = elim counted [
        | inl early ↦ inr (inr (let s = since_then p in omega (arith, early, s)))
        | inr late ↦ inr (inl (omega (arith, late, made)))
      ]

      stepped : (event : Event) → after ≡ (step before (w.rows + 1) event).step_state.allocator → (frame : Queued) → In frame after.queue
          → WaitsSo p (then_traffic.waits (OfMember p)) frame
      stepped event is frame j = elim (in_append frame before.queue (all_frames_put (w.rows + 1) before.me (step before (w.rows + 1) event).step_state.offers)
          (subst (λ (l : List Queued). In frame l) (laws.in_step.queue before (w.rows + 1) event) (subst (λ (s : AllocatorState). In frame s.queue) is j))) [
            | inl i ↦ waits_on frame i j
            | inr put ↦
                let one = frame_put (w.rows + 1) before.me (step before (w.rows + 1) event).step_state.offers frame put in
                waits_new frame (step_of_frame (record { step = w.rows + 1; by = before.me; offer = one.0 }) frame one.3)
          ]

      taken : Takes w timed.row p before after → (frame : Queued) → In frame after.queue → WaitsSo p (then_traffic.waits (OfMember p)) frame
      taken (Takes.Ticks ms word is after_is) frame j = stepped (tick_of ms word) after_is frame j
      taken (Takes.Receives k ms is after_is) frame j = stepped (receipt_of w k ms) after_is frame j
      taken (Takes.Rests times server queue) frame j = waits_on frame (queue frame j) j

    -- what goes out of the queue of a member
    sent_so : (n : ℕ) (g : Queued) → In (OfMember n) group → next_frame (w.member n).status ≡ Some g → FliesSo timed.at g
    sent_so n g i e =
        let well = goes.well.members n i in
        let there : In g well.server.queue = out_of_queue well.server.queue g (sym (ap next_frame well.up.status) ∙ e) in
        let soon : timed.at ≤ goes.traffic.waits (OfMember n) + pace.delay = goes.calm.0.sends_soon (OfMember n) i
        (λ none. subst (In g) none (subst (In g) (sym (ap queue_of well.up.status)) there)) in
        inl (
          n,
          i,
          sent_own laws n (w.member n) g well e,
          elim (goes.queues n i well.server well.up.status g there) [
            | inl none ↦ inl none
            | inr (inl late) ↦ inr (inl late)
            | inr (inr early) ↦ inr (inr (omega (arith, early, soon)))
          ],
        )

    -- so it is behind the row
    pub one_on : GoesOn then_w rest
    one_on = record {
      traffic = then_traffic;
      calm = goes.calm.2;
      well = well_after laws group nodes w goes.well clocks pace goes.traffic timed.at timed.row goes.calm.1;
      flies = λ party. on_way_then FliesSo group clocks pace goes.traffic w goes.flies timed.at sent_so
          (λ a g i e. inr (sent_anonymous laws group nodes w goes.well a g i e)) timed.row goes.calm.1 party;
      queues = λ p i t up.
          let before = goes.well.members p i in
          taken p before.server t before.up.status up (goes.queues p i before.server before.up.status) (takes w p before.server t before.up.status timed.row harm up);
      since = since_then;
    }

  -- ---- all rows

  -- so is each of these rows
  abbrev pub AreCounted : Cluster → List Timed → Type 0
  AreCounted w [] = ⊤
  AreCounted w (timed ∷ rest) = IsCounted w timed × AreCounted (after_row w timed.row) rest

  counted_early : (front : List Timed) (w : Cluster) → ((x : Timed) → In x front → x.at + 2 * pace.delay < last) → AreCounted w front
  counted_early [] w early = tt
  counted_early (timed ∷ front) w early = (inl (early timed (inl refl)), counted_early front (after_row w timed.row) (λ x i. early x (inr i)))

  counted_late : (front : List Timed) (w : Cluster) → base ≤ w.rows → AreCounted w front
  counted_late [] w late = tt
  counted_late (timed ∷ front) w late = (inr late, counted_late front (after_row w timed.row) (omega (arith, late)))

  counted_both : (front more : List Timed) (w : Cluster) → AreCounted w front → AreCounted (after_rows w (rows_in front)) more → AreCounted w (front ++ more)
  counted_both [] more w a b = b
  counted_both (timed ∷ front) more w a b = (a.0, counted_both front more (after_row w timed.row) a.1 b)

  -- early rows, and behind them rows with later numbers
  pub counted_so : (early late : List Timed) (w : Cluster) → ((x : Timed) → In x early → x.at + 2 * pace.delay < last)
      → base ≤ (after_rows w (rows_in early)).rows → AreCounted w (early ++ late)
  counted_so early late w before behind = counted_both early late w (counted_early early w before) (counted_late late (after_rows w (rows_in early)) behind)

  pub further : (front rest : List Timed) (w : Cluster) → GoesOn w (front ++ rest) → DoNoHarm w (rows_in front) → AreCounted w front
      → GoesOn (after_rows w (rows_in front)) rest
  further [] rest w goes harm counted = goes
  further (timed ∷ front) rest w goes harm counted =
      further front rest (after_row w timed.row) (one_on w timed (front ++ rest) goes harm.0 counted.0) harm.1 counted.1

  -- where a calm begins, in which no such frame waits
  pub begins : (start : ℕ) (w : Cluster) (whole : List Timed) → AreWell group w → AreCalm group clocks pace (no_traffic start) w whole
      → ((n m : ℕ) → In (OfMember n) group → In (OfMember m) group → n ≢ m → (t : AllocatorState) → (w.member n).status ≡ Up t → (what : What) → IsOfRaft what
      → of_identifier (identifier_number (ident_of n what m)) t.queue ≡ [])
      → GoesOn w whole
  begins start w whole are calm none = record {
    traffic = no_traffic start;
    calm = calm;
    well = are;
    flies = λ party. tt;
    queues = λ p i t up frame j. inl (λ m in_m apart what is.
        none_has (identifier_number (ident_of p what m)) frame t.queue (none p m i in_m apart t up what is) j);
    since = λ p. omega arith;
  }

-- ---- early rows and late ones

-- the rows from which what is made comes before a moment, and those behind them
pub record Halves (delay last : ℕ) (front : List Timed) : Type 0 where
  pub early : List Timed
  pub late : List Timed
  pub split : front ≡ early ++ late
  pub before : (x : Timed) → In x early → x.at + 2 * delay < last
  pub behind : (x : Timed) → In x late → last ≤ x.at + 2 * delay

pub halves : (group : List Party) (clocks : Party → ℕ) (pace : Pace) (last : ℕ) (front : List Timed) (moment : ℕ) (w : Cluster)
    → GoesOnFrom group clocks pace moment w front → Halves pace.delay last front
halves group clocks pace last [] moment w from = record { early = []; late = []; split = refl; before = λ x i. absurd i; behind = λ x i. absurd i }
halves group clocks pace last (timed ∷ front) moment w from =
    let behind : GoesOnFrom group clocks pace timed.at (after_row w timed.row) front = calm_rest group clocks pace (timed ∷ []) front moment w from in
    elim (lt_tells (timed.at + 2 * pace.delay) last) [
      | inl z ↦
          let more = halves group clocks pace last front timed.at (after_row w timed.row) behind in
          record {
            early = timed ∷ more.early;
            late = more.late;
            split = ap (λ (l : List Timed). timed ∷ l) more.split;
            before = λ x i. elim i [
              | inl e ↦ (let same = ap (λ (t : Timed). t.at) e in let soon = z.1 in omega (arith, same, soon))
              | inr j ↦ more.before x j
            ];
            behind = more.behind;
          }
      | inr z ↦ record {
        early = [];
        late = timed ∷ front;
        split = refl;
        before = λ x i. absurd i;
        behind = λ x i. elim i [
          | inl e ↦ (let same = ap (λ (t : Timed). t.at) e in let late = z.1 in omega (arith, same, late))
          | inr j ↦ (let within = (in_between group clocks pace front timed.at (after_row w timed.row) behind x j).0 in let late = z.1 in omega (arith, within, late))
        ];
      }
    ]
