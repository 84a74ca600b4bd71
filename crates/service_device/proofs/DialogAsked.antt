-- A request of the device comes to the leader, which gives a follow-up.
use Rattle.std.proofs.Common.{◌≡◌, ◌≢◌, ◌⊎◌, ℕ, suc, ◌+◌, ◌≤◌, Bool, true, false, List, [], ◌∷◌, length, max, refl, sym, ◌∙◌, ap, subst, arith, inl, inr, cond, Some}
use Rattle.std.specs.Prelude.{filter}
use Rattle.std.proofs.lemmas.Bool.Decides.{eqb_tells}
use Rattle.alloc_exchange.specs.declared.heard.Heard.TheVariants.{FollowUp}
use Rattle.alloc_exchange.specs.Exchange.{Accepted, after, answer}
use Rattle.can_frame.specs.declared.step.What.TheVariants.{Alloc}
use Rattle.can_frame.specs.Cutting.{frame_count}
use Rattle.dsdl_codec.specs.declared.allocation.Allocation.{Allocation}
use Rattle.raft_model.specs.Lists.{In}
use Rattle.bus_rows.specs.declared.row.Row.{Row}
use Rattle.bus_rows.specs.declared.row.Row.TheVariants.{AEnd, AOpen, ARx, ASend, ATick, Crash, Ext, Fault, Open, Rx, Send, Tick}
use Rattle.transfer_rx.specs.Reassembly.{answer as received}
use Rattle.transfer_tx.specs.Queue.{Queued}
use Rattle.allocatee.proofs.Requests.{le_is}
use Rattle.alloc_spec.specs.Accepted.{setting_for}
use Rattle.alloc_spec.specs.AllocatorState.{AllocatorState}
use Rattle.alloc_spec.specs.Exchange.{allocation_payload}
use Rattle.alloc_spec.specs.Step.{Event, step}
use Rattle.alloc_spec.specs.Transfers.{Offer, has_room}
use Rattle.alloc_spec_laws.proofs.Choices.{and_left, and_right}
use Rattle.alloc_spec_laws.specs.Apart.{AreAllApart}
use Rattle.service_steps.specs.Requests.{IsRequest}
use Rattle.service_steps.specs.Serving.{FollowsUp, IsFirst, IsReady, allocation_from}
use Rattle.service_alone.proofs.CalmGiving.{few_frames}
use Rattle.service_calm.specs.Calm.{IsCalmRow, IsInTime, Member as OfMember, Traffic, receives, traffic_after}
use Rattle.service_calm.specs.Comes.{sent_by}
use Rattle.service_device.proofs.DialogAlone.{sends_one as one_sent}
use Rattle.service_device.specs.Settled.{IsAsked, IsNotAsked, IsSettled}
use Rattle.service_calm.proofs.Counting.{is_one, is_to, is_to_true, ones}
use Rattle.service_device.proofs.DialogFrames.{HasSource, has_source, is_asked, not_asked}
use Rattle.service_device.proofs.DialogScene.{FlyOn, Known, PairOf, Scene, SceneThen, Talk, bears_then, brought, fly_on, is_sent, next_pair, offered, one_comes, well_then}
use Rattle.service_calm.proofs.Group.{AreWell, sent_own}
use Rattle.service_calm.proofs.Pair.{in_ones, is_one_of, made_of, made_one, out_ones, same_event, same_server}
use Rattle.service_calm.proofs.Pending.{Coming, Made}
use Rattle.service_calm.proofs.Ways.{Flying}
use Rattle.service_calm.proofs.Grounds.{calm_laws}
use Rattle.bus_spec.specs.Cluster.{Cluster, after_row, arrival_at, frame_at, receipt_of, step_of}

-- ---- the only Allocation of a step

filter_apart : (test : Offer → Bool) (offers : List Offer) → AreAllApart offers → AreAllApart (filter test offers)
filter_apart test [] apart = tt
filter_apart test (o ∷ offers) apart = by (filter_apart test offers apart.1) (test o)
  where
    by : AreAllApart (filter test offers) → (b : Bool) → AreAllApart (cond b (o ∷ filter test offers) (filter test offers))
    by rest true = (λ other i. apart.0 other (out_ones test offers other i).0, rest)
    by rest false = rest

-- where Allocations that fit are the same one, it is the only one
only_one : (offers : List Offer) (o : Offer) → AreAllApart offers → In o offers → is_one Alloc 0 o ≡ true
    → ((x y : Offer) → In x (ones Alloc 0 offers) → In y (ones Alloc 0 offers) → x ≡ y) → ones Alloc 0 offers ≡ o ∷ []
only_one offers o apart i is same = by (ones Alloc 0 offers) refl
  where
    here : In o (ones Alloc 0 offers)
    here = in_ones (is_one Alloc 0) offers o i is

    by : (l : List Offer) → ones Alloc 0 offers ≡ l → ones Alloc 0 offers ≡ o ∷ []
    by [] e = absurd (subst (λ (k : List Offer). In o k) e here)
    by (x ∷ []) e = e ∙ ap (λ (y : Offer). y ∷ []) (same x o (subst (λ (k : List Offer). In x k) (sym e) (inl refl)) here)
    by (x ∷ y ∷ l) e =
        let in_x : In x (ones Alloc 0 offers) = subst (λ (k : List Offer). In x k) (sym e) (inl refl) in
        let in_y : In y (ones Alloc 0 offers) = subst (λ (k : List Offer). In y k) (sym e) (inr (inl refl)) in
        let of_x = (out_ones (is_one Alloc 0) offers x in_x).1 in
        let of_y = (out_ones (is_one Alloc 0) offers y in_y).1 in
        let to_x = is_to_true Alloc 0 x (and_right x.fitted (is_to Alloc 0 x) of_x) in
        let to_y = is_to_true Alloc 0 y (and_right y.fitted (is_to Alloc 0 y) of_y) in
        let apart_ones = subst AreAllApart e (filter_apart (is_one Alloc 0) offers apart) in
        let differ = apart_ones.0 y (inl refl) (and_left x.fitted (is_to Alloc 0 x) of_x) (and_left y.fitted (is_to Alloc 0 y) of_y)
        (to_x.0 ∙ sym to_y.0) (to_x.1 ∙ sym to_y.1) in
        absurd (differ.1 (ap (λ (z : Offer). z.id) (same x y in_x in_y)))

module _ (g : Talk) where
  -- ---- what a row does with frames on their way to the leader

  module _ (cs : List Coming) (traffic : Traffic) (w : Cluster) (well : AreWell g.group w)
      (flying : Flying HasSource g.pace.delay w.frames (traffic.to (OfMember g.n)) cs) (at_ : ℕ) where
    abbrev pub FramesFly : Row → List Coming → Type 0
    FramesFly row ds = FlyOn g.group g.clocks g.pace (OfMember g.n) HasSource cs traffic w at_ flying row ds

    -- the first of those on their way comes to the leader
    abbrev pub OneComes : Row → Type 0
    OneComes row = (k : ℕ) × (ms : ℕ) × (row ≡ Rx g.n k ms) × (c : Coming) × (more : List Coming) × (cs ≡ c ∷ more) × (frame_at w.frames k ≡ c.frame) × FramesFly row more

    abbrev pub Out : Row → Type 0
    Out row = (IsNotAsked g.n w row × FramesFly row cs) ⊎ OneComes row

    flies : (row : Row) → IsCalmRow g.group g.clocks g.pace traffic w at_ row → receives row (OfMember g.n) ≡ false
        → ((f : Queued) → brought w row ≡ Some f → HasSource f) → FramesFly row cs
    flies row calm none other = fly_on g.group g.clocks g.pace (OfMember g.n) HasSource cs traffic w at_ flying row calm none (λ f e own. other f e)

    -- no request comes, and those on their way fly on, or the first of them comes
    pub frames_on : (row : Row) → IsCalmRow g.group g.clocks g.pace traffic w at_ row → row ≢ ASend g.a → Out row
    frames_on (Tick p ms word) calm other = inl (λ message is. cc (is.comes.comes), flies (Tick p ms word) calm refl (λ f e. absurd (cc (e))))
    frames_on (Rx p k ms) calm other = elim (eqb_tells p g.n) [
      | inl z ↦ subst (λ (q : ℕ). IsCalmRow g.group g.clocks g.pace traffic w at_ (Rx q k ms) → (receives (Rx q k ms) (OfMember g.n) ≡ true) → Out (Rx q k ms)) (sym z.1)
          (λ calm_ is. elim (one_comes g.group g.clocks g.pace (OfMember g.n) HasSource cs traffic w at_ flying (Rx g.n k ms) is refl k calm_.2) [
            | inl source ↦ inl (not_asked (calm_laws g.below.calm).frame g.n w k ms source.0, source.1)
            | inr own ↦ inr (k, ms, refl, own.0, own.1, own.2, own.3, own.4)
          ]) calm z.0
      | inr z ↦ inl (λ message is. z.1 (cc (is.comes.comes)), flies (Rx p k ms) calm z.0 (λ f e. absurd (cc (e))))
    ]
    frames_on (Send p) calm other = inl (
      λ message is. cc (is.comes.comes),
      flies (Send p) calm refl (λ f e. has_source (calm_laws g.below.calm).frame p f (g.nodes p calm.0) (sent_own (calm_laws g.below.calm) p (w.member p) f (well.members p calm.0) e)),
    )
    frames_on (ATick b ms word) calm other = inl (λ message is. cc (is.comes.comes), flies (ATick b ms word) calm refl (λ f e. absurd (cc (e))))
    frames_on (ARx b k ms word) calm other = inl (λ message is. cc (is.comes.comes), flies (ARx b k ms word) calm refl (λ f e. absurd (cc (e))))
    frames_on (ASend b) calm other = absurd (other (ap (λ (c : ℕ). ASend c) (g.alone b calm.0)))
    frames_on (Open p told ms word) calm other = absurd calm
    frames_on (Ext frame) calm other = absurd calm
    frames_on (Crash p calls pattern) calm other = absurd calm
    frames_on (Fault p call) calm other = absurd calm
    frames_on (AOpen b uid pref ms word) calm other = absurd calm
    frames_on (AEnd b) calm other = absurd calm

  module _ (accepted : List Accepted) (xs : List Made) (cs : List Coming) (traffic : Traffic) (w : Cluster) (s : Scene g accepted xs cs traffic w) (at_ : ℕ) where
    abbrev pub RequestsFly : Row → List Coming → Type 0
    RequestsFly = FramesFly cs traffic w s.well s.requests at_

    -- no request comes, and those on their way fly on, or the first of them comes
    pub requests_on : (row : Row) → IsCalmRow g.group g.clocks g.pace traffic w at_ row → row ≢ ASend g.a → Out cs traffic w s.well s.requests at_ row
    requests_on = frames_on cs traffic w s.well s.requests at_

  -- ---- a request comes

  module _ (accepted : List Accepted) (cs : List Coming) (traffic : Traffic) (w : Cluster)
      (s : Scene g accepted [] cs traffic w) (at_ k ms : ℕ) (in_time : IsInTime g.group g.clocks g.pace traffic w at_)
      (calm : IsCalmRow g.group g.clocks g.pace traffic w at_ (Rx g.n k ms)) (known : Known g traffic.at w (record { at = at_; row = Rx g.n k ms }))
      (message : Allocation) (request : (moment : ℕ) → IsRequest (arrival_at (frame_at w.frames k) moment) message) where
    -- the leader
    abbrev pub t : AllocatorState
    t = s.settled.settled.server

    -- the request comes to it
    abbrev pub its_asked : IsAsked g.n message w (Rx g.n k ms)
    its_asked = is_asked g.below.delivered g.n w k ms message t s.settled.settled.runs (request (max t.now ms))

    -- an Allocation with this node ID and these bytes
    abbrev pub answered : (node : ℕ) → List ℕ → Made
    answered node bytes = record { at = at_; transfer = sent_by g.n w (allocation_from t node bytes) }

    -- the queue has room for it
    pub has_place : (node : ℕ) (bytes : List ℕ) → length bytes ≤ 16 → has_room t.queue (allocation_payload node bytes) ≡ true
    has_place node bytes few = le_is (length t.queue + frame_count (suc (length bytes))) 32
        (let f : frame_count (suc (length bytes)) ≤ 3 = few_frames (suc (length bytes)) (omega (arith, few)) in
        let r = known.room t s.settled.settled.runs in omega (arith, f, r))

    -- the leader leads, and has nothing left to commit
    pub is_ready : IsReady t
    is_ready = record { leads = s.settled.settled.leads; committed = s.settled.settled.committed ∙ ap length (sym s.settled.settled.log_is) }

    -- ---- the leader offers such an Allocation first, and stays settled

    module _ (node : ℕ) (bytes : List ℕ) (few : length bytes ≤ 16) (first : IsFirst (allocation_from t node bytes) (step t (w.rows + 1) (receipt_of w k ms)).step_state.offers)
        (then_accepted : List Accepted) (settled_then : IsSettled g.n g.log then_accepted (at_ + g.clocks (OfMember g.n)) (after_row w (Rx g.n k ms))) where
      same : s.pair.sender ≡ t
      same = same_server s.pair.sender t (sym s.pair.sender_up.status ∙ s.settled.settled.runs)

      offered_is : offered g accepted [] cs traffic w s at_ (Rx g.n k ms) in_time calm known (receipt_of w k ms) ≡ allocation_from t node bytes ∷ []
      offered_is = only_one (step s.pair.sender (w.rows + 1) (receipt_of w k ms)).step_state.offers (allocation_from t node bytes)
          (g.below.calm.apart s.pair.sender (w.rows + 1) (receipt_of w k ms))
          (subst (λ (u : AllocatorState). In (allocation_from t node bytes) (step u (w.rows + 1) (receipt_of w k ms)).step_state.offers) (sym same)
          (subst (λ (l : List Offer). In (allocation_from t node bytes) l) (sym first.is) (inl refl)))
          (is_one_of Alloc 0 (allocation_from t node bytes) refl refl refl)
          (λ x y i j.
          let of_x = is_sent g accepted [] cs traffic w s at_ (Rx g.n k ms) in_time calm known (receipt_of w k ms) refl x i in
          let of_y = is_sent g accepted [] cs traffic w s at_ (Rx g.n k ms) in_time calm known (receipt_of w k ms) refl y j in
          one_sent g.below.judged g.n g.log w s.pair.sender s.pair.sender_up s.pair.sender_is.me (traffic.at + g.clocks (OfMember g.n)) s.settled.settled (Rx g.n k ms)
          (at_ + g.clocks (OfMember g.n)) settled_then.settled (receipt_of w k ms) refl (arrival_at (frame_at w.frames k) ms) refl its_asked.request message
          ((λ l. received (setting_for (s.pair.sender_is.me l)) (same l).sessions (arrival_at (frame_at w.frames k) (max (same l).now ms))) ∙ its_asked.comes.gives)
          its_asked.anonymous its_asked.says x y (out_ones (is_one Alloc 0) (step s.pair.sender (w.rows + 1) (receipt_of w k ms)).step_state.offers x i).0
          (out_ones (is_one Alloc 0) (step s.pair.sender (w.rows + 1) (receipt_of w k ms)).step_state.offers y j).0 of_x.1 of_y.1)

      short : (e : Event) → step_of w (Rx g.n k ms) ≡ Some (g.n, e) → (o : Offer) → In o (offered g accepted [] cs traffic w s at_ (Rx g.n k ms) in_time calm known e)
          → length o.payload ≤ 19
      short e is_step o i =
          let same_e : receipt_of w k ms ≡ e = same_event g.n g.n (receipt_of w k ms) e is_step in
          elim (subst (λ (l : List Offer). In o l) (ap (λ (d : Event). offered g accepted [] cs traffic w s at_ (Rx g.n k ms) in_time calm known d) (sym same_e) ∙ offered_is) i) [
            | inl is ↦ subst (λ (p : Offer). length p.payload ≤ 19) (sym is) (omega (arith, few))
            | inr none ↦ absurd none
          ]

      -- it is under way
      pub goes_out : (ds : List Coming) → RequestsFly accepted [] cs traffic w s at_ (Rx g.n k ms) ds
          → SceneThen g accepted [] cs traffic w s at_ (Rx g.n k ms) in_time calm known then_accepted (answered node bytes ∷ []) ds
      goes_out ds fly = elim (next_pair g accepted [] cs traffic w s at_ (Rx g.n k ms) in_time calm known short) [
        | inl on ↦ record {
          settled = settled_then;
          well = well_then g accepted [] cs traffic w s at_ (Rx g.n k ms) in_time calm known;
          front = on.1;
          expected = on.2;
          pair = subst (λ (l : List Made). PairOf g (traffic_after traffic w (record { at = at_; row = Rx g.n k ms })) (after_row w (Rx g.n k ms)) l on.1 on.2)
              (on.7.0 (receipt_of w k ms) refl
              ∙ (ap (made_of at_ (sent_by g.n w)) offered_is ∙ made_one at_ (sent_by g.n w) (allocation_from t node bytes))) on.3;
          bears = bears_then g accepted [] cs traffic w s at_ (Rx g.n k ms) in_time calm known;
          requests = fly;
        }
        | inr ends ↦ absurd (omega (arith, ap length ends.2))
      ]

    -- ---- the request is of the first or second stage

    module _ (bytes : List ℕ) (few : length bytes ≤ 16) (says : answer accepted message (max t.now ms) true ≡ FollowUp (record { items = bytes })) where
      says_it : answer t.accepted message (max t.now ms) true ≡ FollowUp (record { items = bytes })
      says_it = ap (λ (l : List Accepted). answer l message (max t.now ms) true) s.settled.requests ∙ says

      follows : FollowsUp t (arrival_at (frame_at w.frames k) ms) message bytes (step t (w.rows + 1) (receipt_of w k ms))
      follows = g.below.follow t (w.rows + 1) (arrival_at (frame_at w.frames k) ms) message bytes is_ready (request ms) says_it (has_place 0 bytes few)

      settled_then : IsSettled g.n g.log (after accepted message (max t.now ms) true) (at_ + g.clocks (OfMember g.n)) (after_row w (Rx g.n k ms))
      settled_then = elim ((known.leaves accepted s.settled).asked message its_asked) [
        | inl grown ↦ absurd (cc (sym says_it ∙ grown.whole))
        | inr is ↦ is
      ]

      -- its answer is under way
      pub answers_it : (ds : List Coming) → RequestsFly accepted [] cs traffic w s at_ (Rx g.n k ms) ds
          → SceneThen g accepted [] cs traffic w s at_ (Rx g.n k ms) in_time calm known (after accepted message (max t.now ms) true) (answered 0 bytes ∷ []) ds
      answers_it ds fly = goes_out 0 bytes few follows.offered (after accepted message (max t.now ms) true) settled_then ds fly
