-- Answers of a node to another one are made in the order of the calls, and behind the first frames of these.
use Rattle.std.proofs.Common.{◌≡◌, ℕ, zero, suc, ◌+◌, ◌≤◌, Bool, true, false, List, [], ◌∷◌, ◌++◌, map, refl, sym, ap, subst, ◌∙◌, arith, ◌⊎◌, inl, inr, Option, None, append_assoc}
use Rattle.std.specs.Prelude.{◌==◌, ◌&&◌, max, nat_eq, slice_index_or, if◌then◌else◌}
use Rattle.std.proofs.lemmas.Bool.Decides.{eqb_tells}
use Rattle.can_frame.specs.declared.identifier.Ident.{Ident}
use Rattle.can_frame.specs.declared.identifier.Kind.{Kind}
use Rattle.can_frame.specs.declared.identifier.Kind.TheVariants.{Request, Response}
use Rattle.can_frame.specs.declared.mark.Mark.{Mark}
use Rattle.can_frame.specs.declared.step.Judged.TheVariants.{Fine}
use Rattle.can_frame.specs.declared.step.What.{What}
use Rattle.can_frame.specs.declared.step.What.TheVariants.{App, Vote}
use Rattle.can_frame.specs.Cutting.{Piece, frames_before_last, frames_of as pieces_of, piece_from}
use Rattle.can_frame.specs.Identifier.{identifier_number}
use Rattle.can_frame.specs.Kinds.{is_anonymous}
use Rattle.raft_log.specs.KeyDisk.{are_put}
use Rattle.raft_model.specs.Lists.{In}
use Rattle.raft_model.specs.Runs as raft
use Rattle.bus_rows.specs.declared.row.Row.{Row}
use Rattle.bus_rows.specs.declared.row.Row.TheVariants.{AEnd, AOpen, ARx, ASend, ATick, Crash, Ext, Fault, Open, Rx, Send, Tick}
use Rattle.transfer_rx.specs.declared.key.Key.{Key}
use Rattle.transfer_rx.specs.Keys.{key_of}
use Rattle.transfer_rx.specs.Marks.{is_run, is_whole}
use Rattle.transfer_rx.specs.Origin.{IsIdleOrOf}
use Rattle.transfer_rx.specs.Reassembly.{Arrival, Gives, answer, piece_in}
use Rattle.transfer_rx.specs.Run.{is_of}
use Rattle.transfer_rx.specs.Sessions.{recent_sessions}
use Rattle.transfer_rx.specs.Sound.{Completes, IsAlone, IsDelivered}
use Rattle.transfer_rx.proofs.Completeness.{is_own}
use Rattle.transfer_tx.specs.Queue.{Queued}
use Rattle.alloc_spec.specs.Accepted.{rows, setting_for}
use Rattle.alloc_spec.specs.AllocatorState.{AllocatorState, members_of}
use Rattle.alloc_spec.specs.Judging.{arrival_judgement}
use Rattle.alloc_spec.specs.Services.{is_listed}
use Rattle.alloc_spec.specs.Step.{Event, step}
use Rattle.alloc_spec.specs.Step.Event.{Rx as Receives}
use Rattle.alloc_spec.specs.StepState.{StepState}
use Rattle.alloc_spec.specs.Transfers.{Offer, SentTransfer, ident_of, kind_of, number_of}
use Rattle.alloc_spec_laws.specs.Responses.{AnswersAsked, IsResponse, ResponsesAnswer}
use Rattle.bus_spec.specs.declared.unlawful.Unlawful.{Unlawful}
use Rattle.alloc_spec.specs.ClusterMembers.{AreMembers}
use Rattle.bus_spec.specs.Cluster.{Cluster, after_row, after_rows, arrival_at, cluster, frame_at, receipt_of, tick_of, world_of}
use Rattle.bus_spec.specs.Lawful.{AreLawful, arrival_refusal, cause, no_node, no_such_frame, not_running, or_else}
use Rattle.bus_spec.specs.Members.{Member, MemberStatus, puts_of}
use Rattle.bus_spec.specs.Members.MemberStatus.{Down, Failed, Up}
use Rattle.bus_spec.specs.Refinement.{transfers_of_offers, transfers_of_row, transfers_of_rows, transfers_of_step}
use Rattle.bus_agreement.specs.Frames.{AreHeard, CameFrom}
use Rattle.bus_agreement.specs.LawsBelow.{FrameLaws}
use Rattle.bus_agreement.specs.Said.{carrier}
use Rattle.bus_agreement.specs.Shows.{Shows, ShowsMember, ShowsUp}
use Rattle.bus_agreement.proofs.DeliveredTransfers.{HasTaken, IsOfKey, has_taken}
use Rattle.bus_agreement.proofs.Deliveries.{listed_in}
use Rattle.bus_agreement.proofs.Idents.{AreSame, IsWanted, one_what, to_for, wanted_is}
use Rattle.bus_agreement.proofs.Lists.{both, equal, in_append, in_back, in_front, never, tell}
use Rattle.bus_agreement.proofs.MadeTransfers.{IsNew, made_when, still_made}
use Rattle.bus_agreement.proofs.OneRow.{is_fine, stands}
use Rattle.bus_agreement.proofs.OneRowMore.{lawful as one_more}
use Rattle.bus_agreement.proofs.Pieces.{no_piece}
use Rattle.bus_agreement.proofs.RowsWithoutEvents.{is_one, past_first}
use Rattle.bus_agreement.proofs.WholeTransfers.{IsFrom, from_bus, members_own}
use Rattle.bus_rows.specs.Timed.{Timed}
use Rattle.bus_physics.specs.Physics.{ComeInOrder, ComesInOrder, HasKeyAt, IsInOrder, WhereIts, heard_by, heard_in, IsRecent, Limits}
use Rattle.bus_physics.proofs.Fine.{judged_fine, judges_fine}
use Rattle.bus_physics.proofs.Following.{KeepsIn, follows}
use Rattle.bus_physics.proofs.HeardOnBus.{grows, heard_now}
use Rattle.bus_physics.proofs.LawfulRows.{rows_joined}
use Rattle.bus_physics.proofs.Members.{MemberLaws}

-- the answer of a service
abbrev pub answerer : Bool → What
answerer true = App
answerer false = Vote

-- ---- what was asked

module _ (limits : Limits) (rows_at : List Timed) (append : Bool) (p n : ℕ) where
  abbrev pub asking_key : Key
  asking_key = record { kind = Request; number = number_of (carrier append); source = n }

  pub record IsAnswer (x : SentTransfer) : Type 0 where
    pub by : x.by ≡ p
    pub what : x.offer.what ≡ answerer append
    pub to : x.offer.to ≡ n

  -- node p heard a frame of the call that the answer answers
  pub record HasAsked (heard : List Queued) (re : ℕ) : Type 0 where
    pub frame : Queued
    pub came : In frame heard
    pub step : frame.mark.step ≡ re
    pub key : HasKeyAt p asking_key frame

  -- node p heard the first frame of a call under this transfer ID
  pub record HasBegun (heard : List Queued) (re id : ℕ) : Type 0 where
    pub frame : Queued
    pub came : In frame heard
    pub step : frame.mark.step ≡ re
    pub ident : frame.id ≡ identifier_number (ident_of n (carrier append) p)
    pub first : (piece_from frame.bytes).tail.start ≡ true
    pub named : (piece_from frame.bytes).tail.id ≡ id

  begun_more : (heard further : List Queued) → ((f : Queued) → In f heard → In f further) → (re id : ℕ) → HasBegun heard re id → HasBegun further re id
  begun_more heard further hears re id h = record {
    frame = h.frame;
    came = hears h.frame h.came;
    step = h.step;
    ident = h.ident;
    first = h.first;
    named = h.named;
  }

  asked_more : (heard further : List Queued) → ((f : Queued) → In f heard → In f further) → (re : ℕ) → HasAsked heard re → HasAsked further re
  asked_more heard further hears re h = record { frame = h.frame; came = hears h.frame h.came; step = h.step; key = h.key }

  pub record AreOrdered (made : List SentTransfer) (heard : List Queued) : Type 0 where
    pub asked : (x : SentTransfer) → In x made → IsAnswer x → HasAsked heard x.offer.re
    pub begun : (x : SentTransfer) → In x made → IsAnswer x → HasBegun heard x.offer.re x.offer.id
    pub order : (x y : SentTransfer) → In x made → In y made → IsAnswer x → IsAnswer y → IsRecent limits rows_at y.offer.re → x.step ≤ y.step → x.offer.re ≤ y.offer.re

  -- ---- a row

  module _ (w : Cluster) (made : List SentTransfer) (heard : List Queued) (past : (x : SentTransfer) → In x made → x.step ≤ w.rows)
      (old : AreOrdered made heard) where
    abbrev number : ℕ
    number = w.rows + 1

    quiet : (more : List SentTransfer) (further : List Queued) → ((x : SentTransfer) → In x made → In x more) → ((f : Queued) → In f heard → In f further)
        → ((x : SentTransfer) → In x more → IsAnswer x → In x made) → AreOrdered more further
    quiet more further grows hears only = record {
      asked = λ x i a. asked_more heard further hears x.offer.re (old.asked x (only x i a) a);
      begun = λ x i a. begun_more heard further hears x.offer.re x.offer.id (old.begun x (only x i a) a);
      order = λ x y i j a b recent less. old.order x y (only x i a) (only y j b) a b recent less;
    }

    nothing : AreOrdered made (heard ++ [])
    nothing = quiet made (heard ++ []) (λ x i. i) (λ f i. in_front f heard [] i) (λ x i a. i)

    -- a step of another member, or at a tick
    no_answer : (m : ℕ) (event : Event) (further : List Queued) → ((f : Queued) → In f heard → In f further)
        → ((t : AllocatorState) (offer : Offer) → In offer (step t number event).step_state.offers → m ≡ p → offer.what ≡ answerer append → ⊥)
        → (status : MemberStatus) (y : Member) → AreOrdered (transfers_of_step number m event status y made) further
    no_answer m event further hears none Down y = quiet made further (λ x i. i) hears (λ x i a. i)
    no_answer m event further hears none (Failed failure) y = quiet made further (λ x i. i) hears (λ x i a. i)
    no_answer m event further hears none (Up t) y = by (are_put (puts_of y g) y.disk.calls) where
      g : StepState
      g = (step t number event).step_state

      by : (b : Bool) → AreOrdered (if b then transfers_of_offers number m g.offers made else made) further
      by false = quiet made further (λ x i. i) hears (λ x i a. i)
      by true = quiet (transfers_of_offers number m g.offers made) further (still_made number m g.offers made) hears
          (λ x i a. elim (made_when number m g.offers made x i) [
            | inl j ↦ j
            | inr new ↦ absurd (none t new.offer new.offered (ap (λ (z : SentTransfer). z.by) (sym new.is) ∙ a.by)
                (ap (λ (z : SentTransfer). z.offer.what) (sym new.is) ∙ a.what))
          ])

    -- node p receives frame k
    module _ (k ms : ℕ) (in_order : ComesInOrder limits rows_at p heard (frame_at w.frames k))
        (asks : (t : AllocatorState) → (w.member p).status ≡ Up t → (offer : Offer) → In offer (step t number (receipt_of w k ms)).step_state.offers
        → offer.what ≡ answerer append → offer.to ≡ n → (re : ℕ) → re ≡ offer.re → HasAsked (frame_at w.frames k ∷ []) re)
        (begins : (t : AllocatorState) → (w.member p).status ≡ Up t → (offer : Offer) → In offer (step t number (receipt_of w k ms)).step_state.offers
        → offer.what ≡ answerer append → offer.to ≡ n → (re id : ℕ) → re ≡ offer.re → id ≡ offer.id → HasBegun (heard ++ frame_at w.frames k ∷ []) re id) where
      abbrev further : List Queued
      further = heard ++ frame_at w.frames k ∷ []

      hears : (f : Queued) → In f heard → In f further
      hears f i = in_front f heard (frame_at w.frames k ∷ []) i

      -- it is the call that this frame completes
      this_one : (re : ℕ) → HasAsked (frame_at w.frames k ∷ []) re → ((frame_at w.frames k).mark.step ≡ re) × HasKeyAt p asking_key (frame_at w.frames k)
      this_one re a = elim a.came [
        | inl e ↦ (ap (λ (f : Queued). f.mark.step) (sym e) ∙ a.step, subst (λ (f : Queued). HasKeyAt p asking_key f) e a.key)
        | inr i ↦ absurd i
      ]

      -- none that was answered was made later
      later : (re : ℕ) → HasAsked heard re → (then_ : ℕ) → HasAsked (frame_at w.frames k ∷ []) then_ → IsRecent limits rows_at then_ → re ≤ then_
      later re a then_ b recent = omega (
        arith,
        a.step,
        (this_one then_ b).0,
        in_order (subst (λ (m : ℕ). IsRecent limits rows_at m) (sym (this_one then_ b).0) recent) a.frame asking_key a.came a.key (this_one then_ b).1,
      )

      received : (status : MemberStatus) → (w.member p).status ≡ status → AreOrdered (transfers_of_step number p (receipt_of w k ms) status (w.member p) made) further
      received Down is_it = quiet made further (λ x i. i) hears (λ x i a. i)
      received (Failed failure) is_it = quiet made further (λ x i. i) hears (λ x i a. i)
      received (Up t) is_it = by (are_put (puts_of (w.member p) g) (w.member p).disk.calls) where
        g : StepState
        g = (step t number (receipt_of w k ms)).step_state

        more : List SentTransfer
        more = transfers_of_offers number p g.offers made

        new_asked : (x : SentTransfer) → IsNew number p g.offers x → IsAnswer x → HasAsked (frame_at w.frames k ∷ []) x.offer.re
        new_asked x new a =
            let same : x.offer ≡ new.offer = ap (λ (z : SentTransfer). z.offer) new.is in
            asks t is_it new.offer new.offered (ap (λ (o : Offer). o.what) (sym same) ∙ a.what) (ap (λ (o : Offer). o.to) (sym same) ∙ a.to)
            x.offer.re (ap (λ (o : Offer). o.re) same)

        new_begun : (x : SentTransfer) → IsNew number p g.offers x → IsAnswer x → HasBegun further x.offer.re x.offer.id
        new_begun x new a =
            let same : x.offer ≡ new.offer = ap (λ (z : SentTransfer). z.offer) new.is in
            begins t is_it new.offer new.offered (ap (λ (o : Offer). o.what) (sym same) ∙ a.what) (ap (λ (o : Offer). o.to) (sym same) ∙ a.to)
            x.offer.re x.offer.id (ap (λ (o : Offer). o.re) same) (ap (λ (o : Offer). o.id) same)

        new_step : (x : SentTransfer) → IsNew number p g.offers x → x.step ≡ number
        new_step x new = ap (λ (z : SentTransfer). z.step) new.is

        by : (b : Bool) → AreOrdered (if b then transfers_of_offers number p g.offers made else made) further
        by false = quiet made further (λ x i. i) hears (λ x i a. i)
        by true = record {
          asked = λ x i a. elim (made_when number p g.offers made x i) [
            | inl j ↦ asked_more heard further hears x.offer.re (old.asked x j a)
            | inr new ↦ asked_more (frame_at w.frames k ∷ []) further (λ f l. in_back f heard (frame_at w.frames k ∷ []) l) x.offer.re (new_asked x new a)
          ];
          begun = λ x i a. elim (made_when number p g.offers made x i) [
            | inl j ↦ begun_more heard further hears x.offer.re x.offer.id (old.begun x j a)
            | inr new ↦ new_begun x new a
          ];
          order = λ x y i j a b recent less. elim (made_when number p g.offers made x i) [
            | inl l ↦ elim (made_when number p g.offers made y j) [
              | inl m ↦ old.order x y l m a b recent less
              | inr new ↦ later x.offer.re (old.asked x l a) y.offer.re (new_asked y new b) recent
            ]
            | inr new ↦ elim (made_when number p g.offers made y j) [
              | inl m ↦ absurd (omega (arith, less, new_step x new, past y m))
              | inr new_too ↦ omega (arith, (this_one x.offer.re (new_asked x new a)).0, (this_one y.offer.re (new_asked y new_too b)).0)
            ]
          ];
        }

    -- ---- all of it

    module _ (row : Row) (in_order : IsInOrder limits rows_at p heard w row) (answers : (t : AllocatorState) (event : Event) → ResponsesAnswer t number event)
        (asks : (k ms : ℕ) → row ≡ Rx p k ms → (t : AllocatorState) → (w.member p).status ≡ Up t → (offer : Offer)
        → In offer (step t number (receipt_of w k ms)).step_state.offers → offer.what ≡ answerer append → offer.to ≡ n → (re : ℕ) → re ≡ offer.re
        → HasAsked (frame_at w.frames k ∷ []) re)
        (begins : (k ms : ℕ) → row ≡ Rx p k ms → (t : AllocatorState) → (w.member p).status ≡ Up t → (offer : Offer)
        → In offer (step t number (receipt_of w k ms)).step_state.offers → offer.what ≡ answerer append → offer.to ≡ n → (re id : ℕ) → re ≡ offer.re → id ≡ offer.id
        → HasBegun (heard ++ frame_at w.frames k ∷ []) re id) where
      After : Row → Type 0
      After r = AreOrdered (transfers_of_row w r made) (heard ++ heard_in p w r)

      is_answer : (a : Bool) → kind_of (answerer a) ≡ Response
      is_answer true = refl
      is_answer false = refl

      at_tick : (m ms word : ℕ) (t : AllocatorState) (offer : Offer) → In offer (step t number (tick_of ms word)).step_state.offers → m ≡ p → offer.what ≡ answerer append → ⊥
      at_tick m ms word t offer i same what = absurd (cc (none))
        where
          none : tick_of ms word ≡ Receives (answers t (tick_of ms word) offer i (ap kind_of what ∙ is_answer append)).delivered.arrival
          none = (answers t (tick_of ms word) offer i (ap kind_of what ∙ is_answer append)).delivered.comes

      other : (m : ℕ) → (p == m) ≡ false → m ≡ p → ⊥
      other m e same = elim (eqb_tells p m) [ inl s ↦ absurd (cc (sym e ∙ s.0)) | inr apart ↦ apart.1 (sym same) ]

      rx_row : (m k ms : ℕ) → row ≡ Rx m k ms → (same : Bool) → (p == m) ≡ same → WhereIts same (ComesInOrder limits rows_at p heard (frame_at w.frames k))
          → AreOrdered (transfers_of_step number m (receipt_of w k ms) (w.member m).status (w.member m) made) (heard ++ (if same then frame_at w.frames k ∷ [] else []))
      rx_row m k ms r false e order_ = no_answer m (receipt_of w k ms) (heard ++ []) (λ f i. in_front f heard [] i)
          (λ t offer i same what. other m e same) (w.member m).status (w.member m)
      rx_row m k ms r true e order_ =
          subst (λ (j : ℕ). row ≡ Rx j k ms → AreOrdered (transfers_of_step number j (receipt_of w k ms) (w.member j).status (w.member j) made) (heard ++ frame_at w.frames k ∷ []))
          is_same (λ r_. received k ms order_ (λ t up offer i what to re e_. asks k ms r_ t up offer i what to re e_)
          (λ t up offer i what to re id e_ f. begins k ms r_ t up offer i what to re id e_ f) (w.member p).status refl) r
        where
          is_same : p ≡ m
          is_same = elim (eqb_tells p m) [ inl s ↦ s.1 | inr apart ↦ absurd (cc (sym apart.0 ∙ e)) ]

      by_row : (r : Row) → row ≡ r → After r
      unfolding After
      by_row (Tick m ms word) e = no_answer m (tick_of ms word) (heard ++ []) (λ f i. in_front f heard [] i) (at_tick m ms word) (w.member m).status (w.member m)
      by_row (Rx m k ms) e = rx_row m k ms e (p == m) refl (subst (λ (r : Row). IsInOrder limits rows_at p heard w r) e in_order)
      by_row (Open m told ms word) e = nothing
      by_row (Send m) e = nothing
      by_row (Ext frame) e = nothing
      by_row (Crash m calls pattern) e = nothing
      by_row (Fault m call) e = nothing
      by_row (AOpen b uid pref ms word) e = nothing
      by_row (ATick b ms word) e = nothing
      by_row (ARx b k ms word) e = nothing
      by_row (ASend b) e = nothing
      by_row (AEnd b) e = nothing

      pub next_row : AreOrdered (transfers_of_row w row made) (heard ++ heard_in p w row)
      unfolding After
      next_row = by_row row refl

  -- ---- the call that an answer answers

  module _ (laws : FrameLaws) (choice : ℕ → Bool) (made : List SentTransfer) (w : Cluster) (run : raft.World) (members : AreMembers w.ids)
      (shows : Shows choice made w run) (answers : (t : AllocatorState) (event : Event) → ResponsesAnswer t (w.rows + 1) event) where
    low : (m : ℕ) → In m w.ids → 1 ≤ m
    low m i = (members.nodes m i).0

    high : (m : ℕ) → In m w.ids → m ≤ 125
    high m i = (members.nodes m i).1

    module _ (k ms : ℕ) (lawful : cause w (Rx p k ms) ≡ None) (t : AllocatorState) (runs : (w.member p).status ≡ Up t) (offer : Offer)
        (offered : In offer (step t (w.rows + 1) (receipt_of w k ms)).step_state.offers) (what : offer.what ≡ answerer append) (to : offer.to ≡ n) where
      is_response : (a : Bool) → kind_of (answerer a) ≡ Response
      is_response true = refl
      is_response false = refl

      is : IsResponse t (w.rows + 1) (receipt_of w k ms) offer
      is = answers t (receipt_of w k ms) offer offered (ap kind_of what ∙ is_response append)

      abbrev coming : Arrival
      coming = arrival_at (frame_at w.frames k) (max t.now ms)

      one_arrival : (a b : Arrival) → Receives a ≡ Receives b → a ≡ b
      one_arrival a b e = cc (e)

      gives : answer (setting_for t.me) t.sessions coming ≡ Gives is.d
      gives = subst (λ (a : Arrival). answer (setting_for t.me) t.sessions (record a { moment = max t.now ms }) ≡ Gives is.d)
          (sym (one_arrival (arrival_at (frame_at w.frames k) ms) is.delivered.arrival is.delivered.comes)) is.delivered.gives

      abbrev last_cause : Option Unlawful
      last_cause = arrival_refusal (w.member p).status (arrival_at (frame_at w.frames k) ms)

      first : (no_node w p ≡ None) × (or_else (not_running w p) (or_else (no_such_frame w k) last_cause) ≡ None)
      first = past_first (no_node w p) (or_else (not_running w p) (or_else (no_such_frame w k) last_cause)) lawful

      inside : In (frame_at w.frames k) w.frames
      inside = stands w k (past_first (no_such_frame w k) last_cause (past_first (not_running w p) (or_else (no_such_frame w k) last_cause) first.1).1).0

      there : ShowsUp made w.ids w.frames run p t (w.member p).disk
      there = subst (λ (status : MemberStatus). ShowsMember choice made w.ids w.frames run p status (w.member p).disk) runs (shows.lives p (is_one w p first.0))

      some : 1 ≤ t.me
      some = subst (λ (m : ℕ). 1 ≤ m) (sym there.runs.me) (low p (is_one w p first.0))

      its : IsDelivered (setting_for t.me) t.sessions coming is.d
      its = laws.delivered (setting_for t.me) t.sessions coming is.d gives

      listed_by : (a : Bool) → answerer a ≡ offer.what → is_listed is.d t ≡ true
      listed_by true e = (subst (λ (x : What). AnswersAsked is.d t x offer.says) (sym e) is.says).listed
      listed_by false e = (subst (λ (x : What). AnswersAsked is.d t x offer.says) (sym e) is.says).listed

      source : In is.d.ident.source w.ids
      source = there.works.among is.d.ident.source (listed_in (members_of t) is.d.ident.source (listed_by append (sym what)))

      known : is_anonymous its.w.ident.kind ≡ false
      known = ap (λ (i : Ident). is_anonymous i.kind) (sym its.ident) ∙ ap is_anonymous is.kind

      wants : IsWanted rows t.me coming.id is.d.ident
      wants = subst (λ (i : Ident). IsWanted rows t.me coming.id i) (sym its.ident) (wanted_is rows t.me coming.id its.w its.accepted)

      number_is : (a : Bool) → number_of (answerer a) ≡ number_of (carrier a)
      number_is true = refl
      number_is false = refl

      its_number : is.d.ident.number ≡ number_of (carrier append)
      its_number = is.service ∙ (ap number_of what ∙ number_is append)

      its_source : is.d.ident.source ≡ n
      its_source = sym is.to ∙ to

      its_key : HasKeyAt p asking_key (frame_at w.frames k)
      unfolding is_of
      its_key = subst (λ (m : ℕ). is_of (setting_for m) asking_key (arrival_at (frame_at w.frames k) 0) ≡ true) there.runs.me
          (subst (λ (key : Key). is_of (setting_for t.me) key (arrival_at (frame_at w.frames k) 0) ≡ true) key_is
          (is_own (setting_for t.me) its.w coming its.accepted known))
        where
          key_is : key_of its.w.ident ≡ asking_key
          key_is = ap key_of (sym its.ident) ∙ (ap (λ (kind : Kind). record { kind = kind; number = is.d.ident.number; source = is.d.ident.source }) is.kind
              ∙ (ap (λ (m : ℕ). record { kind = Request; number = m; source = is.d.ident.source }) its_number
              ∙ ap (λ (m : ℕ). record { kind = Request; number = number_of (carrier append); source = m }) its_source))

      pub has_asked : (re : ℕ) → re ≡ offer.re → HasAsked (frame_at w.frames k ∷ []) re
      has_asked re e = record {
        frame = frame_at w.frames k;
        came = inl refl;
        step = sym (e ∙ (is.re ∙ ap (λ (m : Mark). m.step) its.mark));
        key = its_key;
      }

      untorn : is.d.whole ≡ false → is.d.mark.step ≡ 0
      untorn = (judged_fine t (frame_at w.frames k).mark.step (max t.now ms) (answer (setting_for t.me) t.sessions (arrival_at (frame_at w.frames k) (max t.now ms))) is.d gives
          (judges_fine t (arrival_at (frame_at w.frames k) ms) fine) (ap (λ (m : Mark). m.step) its.mark)).untorn
        where
          last : arrival_refusal (w.member p).status (arrival_at (frame_at w.frames k) ms) ≡ None
          last = (past_first (no_such_frame w k) (arrival_refusal (w.member p).status (arrival_at (frame_at w.frames k) ms))
              (past_first (not_running w p) (or_else (no_such_frame w k) (arrival_refusal (w.member p).status (arrival_at (frame_at w.frames k) ms))) first.1).1).1

          fine : arrival_judgement t (arrival_at (frame_at w.frames k) ms) ≡ Fine
          fine = is_fine (arrival_judgement t (arrival_at (frame_at w.frames k) ms))
              (subst (λ (status : MemberStatus). arrival_refusal status (arrival_at (frame_at w.frames k) ms) ≡ None) runs last)

      abbrev key : Key
      key = key_of is.d.ident

      same_ident : AreSame key (key_of its.w.ident)
      same_ident = record {
        kind = ap (λ (i : Ident). i.kind) its.ident;
        number = ap (λ (i : Ident). i.number) its.ident;
        source = ap (λ (i : Ident). i.source) its.ident;
      }

      -- a frame of its key was made by node n, as one of a call to node p
      origin : (b : Arrival) → CameFrom w.frames b → IsOfKey (setting_for t.me) key b → IsFrom made t.me key b
      origin b from keyed = from_bus laws w.ids low high made shows.holds.transfers rows t.me w.frames shows.bus b from keyed.ident keyed.wants
          (members_own w.ids keyed.ident (subst (λ (m : ℕ). In m w.ids) keyed.same.source source)
          (ap is_anonymous (sym keyed.same.kind) ∙ ap is_anonymous is.kind)) key (inl some) (sym keyed.same.kind) (sym keyed.same.number) (sym keyed.same.source)

      call_kind : (a : Bool) → kind_of (carrier a) ≡ Request
      call_kind true = refl
      call_kind false = refl

      its_ident : (b : Arrival) → IsFrom made t.me key b → b.id ≡ identifier_number (ident_of n (carrier append) p)
      its_ident b from = from.piece.id
          ∙ (ap (λ (m : ℕ). identifier_number (ident_of m from.whose.offer.what from.whose.offer.to)) (from.by ∙ its_source)
          ∙ (ap (λ (x : What). identifier_number (ident_of n x from.whose.offer.to))
          (one_what from.whose.offer.what (carrier append) Request (number_of (carrier append)) (from.kind ∙ is.kind) (call_kind append) (from.number ∙ its_number) refl)
          ∙ ap (λ (m : ℕ). identifier_number (ident_of n (carrier append) m)) (from.to ∙ (ap (λ (kind : Kind). to_for kind t.me) is.kind ∙ there.runs.me))))

      -- the last of marks that are a run is of their step
      run_ends : (number_ place : ℕ) (ms_ : List Mark) (m : Mark) → is_run number_ place (ms_ ++ m ∷ []) ≡ true → m.step ≡ number_
      run_ends number_ place [] m e = equal m.step number_ (both (nat_eq m.step number_) (nat_eq m.place place)
          (both (nat_eq m.step number_ && nat_eq m.place place) true e).0).0
      run_ends number_ place (x ∷ ms_) m e = run_ends number_ (suc place) ms_ m
          (both (nat_eq x.step number_ && nat_eq x.place place) (is_run number_ (suc place) (ms_ ++ m ∷ [])) e).1

      -- the first piece of a transfer begins it, under its transfer ID
      begins_it : (signature id : ℕ) (payload : List ℕ) → ((slice_index_or (pieces_of signature id payload) 0 no_piece).tail.start ≡ true)
          × ((slice_index_or (pieces_of signature id payload) 0 no_piece).tail.id ≡ id)
      begins_it signature id payload = by (frames_before_last signature payload) refl where
        by : (count : ℕ) → frames_before_last signature payload ≡ count → ((slice_index_or (pieces_of signature id payload) 0 no_piece).tail.start ≡ true)
            × ((slice_index_or (pieces_of signature id payload) 0 no_piece).tail.id ≡ id)
        by zero e =
            let only = ap (λ (j : ℕ). slice_index_or (pieces_of signature id payload) j no_piece) (sym e) ∙ laws.last signature id payload no_piece in (
              ap (λ (x : Piece). x.tail.start) only ∙ ap (λ (j : ℕ). nat_eq j 0) e,
              ap (λ (x : Piece). x.tail.id) only,
            )
        by (suc count) e =
            let front = laws.before_last signature id 0 payload no_piece (omega (arith, e)) in
            (ap (λ (x : Piece). x.tail.start) front, ap (λ (x : Piece). x.tail.id) front)

      module _ (heard : List Queued) (on_bus : (f : Queued) → In f heard → In f w.frames) (kept : AreHeard heard (setting_for p) t.sessions) where
        kept_here : AreHeard heard (setting_for t.me) t.sessions
        kept_here = subst (λ (m : ℕ). AreHeard heard (setting_for m) t.sessions) (sym there.runs.me) kept

        its_frame : (b : Arrival) (f : Queued) → b.id ≡ f.id → b.bytes ≡ f.bytes → b.mark ≡ f.mark → In f (heard ++ frame_at w.frames k ∷ []) → IsFrom made t.me key b
            → b.mark.step ≡ is.d.mark.step → (piece_in b).tail.start ≡ true → (piece_in b).tail.id ≡ is.d.id → (re id : ℕ) → re ≡ offer.re → id ≡ offer.id
            → HasBegun (heard ++ frame_at w.frames k ∷ []) re id
        its_frame b f id bytes mark i from same start named re id_ e g = record {
          frame = f;
          came = i;
          step = ap (λ (m : Mark). m.step) (sym mark) ∙ (same ∙ sym (e ∙ is.re));
          ident = sym id ∙ its_ident b from;
          first = ap (λ (l : List ℕ). (piece_from l).tail.start) (sym bytes) ∙ start;
          named = ap (λ (l : List ℕ). (piece_from l).tail.id) (sym bytes) ∙ (named ∙ sym (g ∙ is.id));
        }

        completed : Completes (setting_for t.me) t.sessions its.w coming is.d → (re id : ℕ) → re ≡ offer.re → id ≡ offer.id
            → HasBegun (heard ++ frame_at w.frames k ∷ []) re id
        completed c = by taken.arrivals refl where
          taken : HasTaken heard (setting_for t.me) key c.session
          taken = has_taken heard (setting_for t.me) t.sessions kept_here (max t.now ms) key c.session
              (subst (λ (i : Ident). IsIdleOrOf (key_of i) (recent_sessions (max t.now ms) t.sessions) c.session) (sym its.ident)
              (laws.comes (setting_for t.me).sessions (max t.now ms) (key_of its.w.ident) (piece_in (arrival_at (frame_at w.frames k) (max t.now ms))).tail
              (recent_sessions (max t.now ms) t.sessions) c.session c.there))

          own : IsFrom made t.me key (arrival_at (frame_at w.frames k) (max t.now ms))
          own = origin (arrival_at (frame_at w.frames k) (max t.now ms)) (record { frame = frame_at w.frames k; there = inside; id = refl; bytes = refl; mark = refl })
              (record { ident = its.w.ident; wants = wanted_is rows t.me (arrival_at (frame_at w.frames k) (max t.now ms)).id its.w its.accepted; same = same_ident })

          whole : is.d.whole ≡ true
          whole = elim (tell is.d.whole) [
            | inl e ↦ e
            | inr e ↦ absurd (omega (arith, untorn e, shows.holds.transfers.numbered own.whose own.was_made, own.piece.step, ap (λ (m : Mark). m.step) its.mark))
          ]

          in_run : is_whole (map (λ (a : Arrival). a.mark) taken.arrivals ++ (frame_at w.frames k).mark ∷ []) ≡ true
          in_run = ap (λ (l : List Mark). is_whole (l ++ (frame_at w.frames k).mark ∷ [])) (sym taken.marks) ∙ (sym c.whole ∙ whole)

          cutting : map piece_in taken.arrivals ++ piece_in (arrival_at (frame_at w.frames k) (max t.now ms)) ∷ [] ≡ pieces_of its.w.signature is.d.id is.d.payload
          cutting = ap (λ (l : List Piece). l ++ piece_in (arrival_at (frame_at w.frames k) (max t.now ms)) ∷ []) (sym taken.taken) ∙ c.cutting.frames

          by : (arrivals : List Arrival) → taken.arrivals ≡ arrivals → (re id : ℕ) → re ≡ offer.re → id ≡ offer.id → HasBegun (heard ++ frame_at w.frames k ∷ []) re id
          by [] e =
              let first_piece = ap (λ (l : List Piece). slice_index_or l 0 no_piece)
              (ap (λ (l : List Arrival). map piece_in l ++ piece_in (arrival_at (frame_at w.frames k) (max t.now ms)) ∷ []) (sym e) ∙ cutting) in
              let its_tail = begins_it its.w.signature is.d.id is.d.payload in
              its_frame (arrival_at (frame_at w.frames k) (max t.now ms)) (frame_at w.frames k) refl refl refl
              (in_back (frame_at w.frames k) heard (frame_at w.frames k ∷ []) (inl refl)) own (ap (λ (m : Mark). m.step) (sym its.mark))
              (ap (λ (x : Piece). x.tail.start) first_piece ∙ its_tail.0) (ap (λ (x : Piece). x.tail.id) first_piece ∙ its_tail.1)
          by (b ∷ rest) e =
              let there_in : In b taken.arrivals = subst (λ (l : List Arrival). In b l) (sym e) (inl refl) in
              let from_heard = taken.each b there_in in
              let came : CameFrom heard b = from_heard.0 in
              let first_piece = ap (λ (l : List Piece). slice_index_or l 0 no_piece)
              (ap (λ (l : List Arrival). map piece_in l ++ piece_in (arrival_at (frame_at w.frames k) (max t.now ms)) ∷ []) (sym e) ∙ cutting) in
              let its_tail = begins_it its.w.signature is.d.id is.d.payload in
              let run_here : is_run b.mark.step 0 (b.mark ∷ (map (λ (a : Arrival). a.mark) rest ++ (frame_at w.frames k).mark ∷ [])) ≡ true =
              ap (λ (l : List Arrival). is_whole (map (λ (a : Arrival). a.mark) l ++ (frame_at w.frames k).mark ∷ [])) (sym e) ∙ in_run in
              its_frame b came.frame came.id came.bytes came.mark (in_front came.frame heard (frame_at w.frames k ∷ []) came.there)
              (origin b (record { frame = came.frame; there = on_bus came.frame came.there; id = came.id; bytes = came.bytes; mark = came.mark }) from_heard.1)
              (sym (run_ends b.mark.step 0 (b.mark ∷ map (λ (a : Arrival). a.mark) rest) (frame_at w.frames k).mark run_here) ∙ ap (λ (m : Mark). m.step) (sym its.mark))
              (ap (λ (x : Piece). x.tail.start) first_piece ∙ its_tail.0) (ap (λ (x : Piece). x.tail.id) first_piece ∙ its_tail.1)

        pub has_begun : (re id : ℕ) → re ≡ offer.re → id ≡ offer.id → HasBegun (heard ++ frame_at w.frames k ∷ []) re id
        has_begun = by its.frames where
          by : IsAlone its.w coming is.d ⊎ Completes (setting_for t.me) t.sessions its.w coming is.d → (re id : ℕ) → re ≡ offer.re → id ≡ offer.id
              → HasBegun (heard ++ frame_at w.frames k ∷ []) re id
          by (inl alone) = never (sym known ∙ alone.anonymous)
          by (inr c) = completed c

  -- ---- all rows

  -- what is known of the world of lawful rows, and of the row after them
  pub record Known (w : Cluster) (made : List SentTransfer) : Type 0 where
    pub past : (x : SentTransfer) → In x made → x.step ≤ w.rows
    pub asks : (row : Row) → cause w row ≡ None → (k ms : ℕ) → row ≡ Rx p k ms → (t : AllocatorState) → (w.member p).status ≡ Up t → (offer : Offer)
        → In offer (step t (w.rows + 1) (receipt_of w k ms)).step_state.offers → offer.what ≡ answerer append → offer.to ≡ n → (re : ℕ) → re ≡ offer.re
        → HasAsked (frame_at w.frames k ∷ []) re
    pub begins : (row : Row) → cause w row ≡ None → (k ms : ℕ) → row ≡ Rx p k ms → (t : AllocatorState) → (w.member p).status ≡ Up t → (offer : Offer)
        → In offer (step t (w.rows + 1) (receipt_of w k ms)).step_state.offers → offer.what ≡ answerer append → offer.to ≡ n
        → (heard : List Queued) → ((f : Queued) → In f heard → In f w.frames) → AreHeard heard (setting_for p) t.sessions
        → (re id : ℕ) → re ≡ offer.re → id ≡ offer.id → HasBegun (heard ++ frame_at w.frames k ∷ []) re id

  module _ (steps : MemberLaws) (answers : (t : AllocatorState) (number : ℕ) (event : Event) → ResponsesAnswer t number event) (ids : List ℕ)
      (known : (rows : List Row) → AreLawful (cluster ids) rows → Known (world_of ids rows) (transfers_of_rows (cluster ids) rows [])) where
    made_joined : (v : Cluster) (rows : List Row) (row : Row) (m : List SentTransfer)
        → transfers_of_rows v (rows ++ row ∷ []) m ≡ transfers_of_row (after_rows v rows) row (transfers_of_rows v rows m)
    made_joined v [] row m = refl
    made_joined v (first ∷ rows) row m = made_joined (after_row v first) rows row (transfers_of_row v first m)

    pub along : (rest done : List Row) (w : Cluster) (made : List SentTransfer) (heard : List Queued) → world_of ids done ≡ w → transfers_of_rows (cluster ids) done [] ≡ made
        → AreLawful (cluster ids) done → AreLawful w rest → ComeInOrder limits rows_at p heard w rest → ((f : Queued) → In f heard → In f w.frames)
        → KeepsIn limits rows_at p heard (w.member p).status → AreOrdered made heard
        → AreOrdered (transfers_of_rows w rest made) (heard ++ heard_by p w rest)
    along [] done w made heard world sent before lawful orders on_bus keeps old = record {
      asked = λ x i a. asked_more heard (heard ++ []) (λ f j. in_front f heard [] j) x.offer.re (old.asked x i a);
      begun = λ x i a. begun_more heard (heard ++ []) (λ f j. in_front f heard [] j) x.offer.re x.offer.id (old.begun x i a);
      order = old.order;
    }
    along (row ∷ rest) done w made heard world sent before lawful orders on_bus keeps old =
        subst (λ (l : List Queued). AreOrdered (transfers_of_rows w (row ∷ rest) made) l) (append_assoc heard (heard_in p w row) (heard_by p (after_row w row) rest))
        (along rest (done ++ row ∷ []) (after_row w row) (transfers_of_row w row made) (heard ++ heard_in p w row) grown_world grown_made
        (one_more (cluster ids) done row before (ap (λ (v : Cluster). cause v row) world ∙ lawful.0)) lawful.1 orders.1
        (λ f i. elim (in_append f heard (heard_in p w row) i) [ inl j ↦ grows w row f (on_bus f j) | inr j ↦ grows w row f (heard_now p w row lawful.0 f j) ])
        (follows limits rows_at p steps w heard keeps row orders.0)
        (next_row w made heard here.past old row orders.0 (λ t event. answers t (w.rows + 1) event) (here.asks row lawful.0)
        (λ k ms e t up offer i what to. here.begins row lawful.0 k ms e t up offer i what to heard on_bus (keeps t up).kept)))
      where
        here : Known w made
        here = subst (λ (v : Cluster). Known v made) world (subst (λ (l : List SentTransfer). Known (world_of ids done) l) sent (known done before))

        grown_world : world_of ids (done ++ row ∷ []) ≡ after_row w row
        grown_world = rows_joined (cluster ids) done (row ∷ []) ∙ ap (λ (v : Cluster). after_row v row) world

        grown_made : transfers_of_rows (cluster ids) (done ++ row ∷ []) [] ≡ transfers_of_row w row made
        grown_made = made_joined (cluster ids) done row [] ∙ (ap (λ (l : List SentTransfer). transfers_of_row (world_of ids done) row l) sent
            ∙ ap (λ (v : Cluster). transfers_of_row v row made) world)
