-- A party hears a member on a calm bus: what of the transfers of one kind and destination is under way, row by row.
use Rattle.std.proofs.Common.{◌≡◌, ◌≢◌, ℕ, ◌+◌, ◌*◌, ◌<◌, ◌≤◌, Bool, true, false, not, List, [], ◌∷◌, ◌++◌, length, max, append_assoc, append-nil, refl, sym, ◌∙◌, ap, subst, arith, inl, inr, cond, Option, None, Some}
use Rattle.std.specs.Prelude.{◌⊎◌, ◌&&◌, drop, filter, flat_map, is_some, map, Ok, if◌then◌else◌}
use Rattle.std.proofs.lemmas.Bool.Decides.{eqb_tells}
use Rattle.std.proofs.lemmas.List.{map-append}
use Rattle.std.proofs.lemmas.Grind.{flat_map-append}
use Rattle.can_frame.specs.declared.step.What.{What}
use Rattle.can_frame.specs.declared.identifier.Kind.TheVariants.{Message}
use Rattle.can_frame.specs.Identifier.{identifier_number}
use Rattle.can_frame.specs.Kinds.{is_anonymous}
use Rattle.raft_model.specs.Lists.{In, at, at_here, at_other}
use Rattle.bus_rows.specs.declared.row.Row.{Row}
use Rattle.bus_rows.specs.declared.row.Row.TheVariants.{AEnd, AOpen, ARx, ASend, ATick, Crash, Ext, Fault, Open, Rx, Send, Tick}
use Rattle.transfer_rx.specs.Acceptance.{is_for, wanted}
use Rattle.transfer_rx.specs.declared.key.Key.{Key}
use Rattle.transfer_rx.specs.Keys.{key_of}
use Rattle.transfer_rx.specs.Outcome.{blocks_used}
use Rattle.transfer_rx.specs.Reassembly.{Arrival, Delivery, Gives, answer, next}
use Rattle.transfer_rx.specs.Run.{is_of}
use Rattle.transfer_rx.specs.Sessions.{Session}
use Rattle.transfer_tx.specs.Queue.{Queued, left_behind, next_out}
use Rattle.transfer_tx.specs.Run.{of_identifier}
use Rattle.alloc_spec.specs.AllocatorState.{AllocatorState}
use Rattle.alloc_spec.specs.Step.{Event, after_pop, step}
use Rattle.alloc_spec.specs.Transfers.{Offer, SentTransfer, frames_of, ident_of, kind_of, signature_of}
use Rattle.alloc_spec_laws.proofs.Choices.{and_right, tell}
use Rattle.alloc_spec_laws.specs.Sound.{IsDestination, IsInRange, IsOnTheBus}
use Rattle.alloc_spec_laws.specs.Waiting.{all_frames_put}
use Rattle.bus_agreement.proofs.Lists.{in_append}
use Rattle.bus_agreement.proofs.RowsWithoutEvents.{out_of_queue}
use Rattle.bus_rows.specs.Timed.{Timed}
use Rattle.service_alone.specs.Calm.{IsNext, OnItsWay, Pace, next_on_bus, queue_of, waits_after}
use Rattle.service_calm.specs.Calm.{IsCalmRow, IsInTime, Member as OfMember, Party, Traffic, is_sending, queue_in, receives, sends, traffic_after}
use Rattle.service_calm.specs.Comes.{Sends, sent_by}
use Rattle.service_calm.specs.Sessions.{AllAdmit}
use Rattle.service_calm.proofs.Frames.{read}
use Rattle.service_calm.proofs.Counting.{is_one, is_to, is_to_false, is_to_true, ones}
use Rattle.service_calm.proofs.Group.{AreWell, CalmLaws, IsServer, narrow_on_bus, sent_anonymous, sent_own, server_sent, server_stepped, up_sent}
use Rattle.service_calm.proofs.Hearers.{IsHearer, Receipt, StillIs}
use Rattle.service_calm.proofs.Others.{IsOther, other_anonymous, other_members, other_of, own_put}
use Rattle.service_calm.proofs.Pending.{AreOnes, Coming, Differ, FirstIs, IsDone, IsOne, IsWithin, Made, Receiver, Stage, all_coming, coming_of, other_comes, own_comes, rest_differ, stamped, still_comes}
use Rattle.service_alone.proofs.CalmSide.{waits_before}
use Rattle.service_alone.proofs.Members.{IsUp, steps_up}
use Rattle.service_calm.proofs.Unfinished.{ends_it, not_last, of_its_key}
use Rattle.service_calm.proofs.Ways.{Flying, Waiting, flying_late, flying_more, flying_other, flying_own, waiting_late, waits_grow, waits_out, waits_stay}
use Rattle.bus_spec.specs.Allocatees.{next_from}
use Rattle.bus_spec.specs.Cluster.{Cluster, after_row, arrival_at, frame_at, in_list, receipt_of, step_of, tick_of}
use Rattle.bus_spec.specs.Members.{after_sending, member_after_step, next_frame}
use Rattle.bus_spec.specs.Members.MemberStatus.{Up}

-- ---- what is added to the transfers

-- what is made of these offers
pub made_of : ℕ → (Offer → SentTransfer) → List Offer → List Made
made_of at sent offers = map (λ (o : Offer). record { at = at; transfer = sent o }) offers

-- of no offer, nothing is made
pub made_none : (at : ℕ) (sent : Offer → SentTransfer) → made_of at sent [] ≡ []
unfolding made_of
made_none at sent = refl

-- of one, one transfer
pub made_one : (at : ℕ) (sent : Offer → SentTransfer) (offer : Offer) → made_of at sent (offer ∷ []) ≡ record { at = at; transfer = sent offer } ∷ []
unfolding made_of
made_one at sent offer = refl

stamped_both : (at : ℕ) (xs ys : List Queued) → map (stamped at) (xs ++ ys) ≡ map (stamped at) xs ++ map (stamped at) ys
stamped_both at xs ys = map-append (stamped at) xs ys

coming_made : (at : ℕ) (sent : Offer → SentTransfer) (offers : List Offer)
    → map (stamped at) (flat_map (λ (o : Offer). frames_of (sent o)) offers) ≡ all_coming (made_of at sent offers)
unfolding made_of
coming_made at sent [] = refl
coming_made at sent (o ∷ offers) = stamped_both at (frames_of (sent o)) (flat_map (λ (o : Offer). frames_of (sent o)) offers)
    ∙ ap (λ (l : List Coming). map (stamped at) (frames_of (sent o)) ++ l) (coming_made at sent offers)

-- ---- which transfer IDs the next transfer may have

pub data Expected : Type 0 where
  -- what the receiver admits when the calm begins
  AtFirst : Expected
  -- this one alone
  Only : (id : ℕ) → Expected
  -- any but this one
  AllBut : (id : ℕ) → Expected

abbrev pub FitsIn : (ℕ → Type 0) → Expected → ℕ → Type 0
FitsIn Begins AtFirst id = Begins id
FitsIn Begins (Only other) id = id ≡ other
FitsIn Begins (AllBut other) id = other ≢ id

-- each of these may come next, one behind the other
abbrev pub Chain : (ℕ → Type 0) → Expected → List Offer → Expected → Type 0
Chain Begins expected [] later = (id : ℕ) → FitsIn Begins later id → FitsIn Begins expected id
Chain Begins expected (o ∷ offers) later = FitsIn Begins expected o.id × Chain Begins (AllBut o.id) offers later

module _ (Begins : ℕ → Type 0) (at : ℕ) (sent : Offer → SentTransfer) (its : (o : Offer) → (sent o).offer ≡ o) where
  its_id : (o : Offer) → o.id ≡ (sent o).offer.id
  its_id o = sym (ap (λ (x : Offer). x.id) (its o))

  first_more : (Holds : ℕ → Type 0) (xs : List Made) (offers : List Offer) (expected later : Expected) → ((o : Offer) → In o offers → o.id < 32)
      → Chain Begins expected offers later → FirstIs Holds xs (FitsIn Begins expected) → FirstIs Holds (xs ++ made_of at sent offers) (FitsIn Begins later)
  unfolding made_of
  first_more Holds [] [] expected later low chain first = λ id small fits. first id small (chain id fits)
  first_more Holds [] (o ∷ offers) expected later low chain first = subst Holds (its_id o) (first o.id (low o (inl refl)) chain.0)
  first_more Holds (x ∷ xs) offers expected later low chain first = first

  differ_new : (x : Made) (offers : List Offer) (later : Expected) → Chain Begins (AllBut x.transfer.offer.id) offers later
      → Differ (x ∷ made_of at sent offers) (FitsIn Begins later)
  unfolding made_of
  differ_new x [] later chain = chain
  differ_new x (o ∷ offers) later chain = (
    λ e. chain.0 (e ∙ sym (its_id o)),
    differ_new (record { at = at; transfer = sent o }) offers later (subst (λ (k : ℕ). Chain Begins (AllBut k) offers later) (its_id o) chain.1),
  )

  differ_more : (xs : List Made) (offers : List Offer) (expected later : Expected) → Chain Begins expected offers later → Differ xs (FitsIn Begins expected)
      → Differ (xs ++ made_of at sent offers) (FitsIn Begins later)
  unfolding made_of
  differ_more [] [] expected later chain d = tt
  differ_more [] (o ∷ offers) expected later chain d =
      differ_new (record { at = at; transfer = sent o }) offers later (subst (λ (k : ℕ). Chain Begins (AllBut k) offers later) (its_id o) chain.1)
  differ_more (x ∷ []) offers expected later chain d = differ_new x offers later (looser offers chain)
    where
      looser : (list : List Offer) → Chain Begins expected list later → Chain Begins (AllBut x.transfer.offer.id) list later
      looser [] c = λ id fits. d id (c id fits)
      looser (o ∷ list) c = (d o.id c.0, c.1)
  differ_more (x ∷ y ∷ xs) offers expected later chain d = (d.0, differ_more (y ∷ xs) offers expected later chain d.1)

coming_both : (xs ys : List Made) → all_coming (xs ++ ys) ≡ all_coming xs ++ all_coming ys
coming_both xs ys = flat_map-append coming_of xs ys

-- ---- small facts

stepper : Option (ℕ × Event) → ℕ
stepper None = 0
stepper (Some s) = s.0

event_in : Event → Option (ℕ × Event) → Event
event_in d None = d
event_in d (Some s) = s.1

-- whose step a row is
pub same_stepper : (p n : ℕ) (e f : Event) → ◌≡◌ {A = Option (ℕ × Event)} (Some (p, e)) (Some (n, f)) → p ≡ n
unfolding stepper
same_stepper p n e f h = ap stepper h

-- and at which event
pub same_event : (p n : ℕ) (e f : Event) → ◌≡◌ {A = Option (ℕ × Event)} (Some (p, e)) (Some (n, f)) → e ≡ f
unfolding event_in
same_event p n e f h = ap (event_in e) h

pub same_server : (a b : AllocatorState) → Up a ≡ Up b → a ≡ b
same_server a b e = cc (e)

none_out : next_out [] ≡ None
unfolding next_out
none_out = refl

some_waits : (queue : List Queued) (frame : Queued) → next_out queue ≡ Some frame → queue ≢ []
some_waits queue frame out none = absurd (cc (sym none_out ∙ (ap next_out (sym none) ∙ out)))

-- an offer that passes a test is among those that do
pub in_ones : (test : Offer → Bool) (offers : List Offer) (offer : Offer) → In offer offers → test offer ≡ true → In offer (filter test offers)
in_ones test [] offer i e = absurd i
in_ones test (o ∷ offers) offer (inl same) e = subst (λ (b : Bool). In offer (cond b (o ∷ filter test offers) (filter test offers)))
    (sym (ap test (sym same) ∙ e)) (inl same)
in_ones test (o ∷ offers) offer (inr i) e = by (test o) (in_ones test offers offer i e)
  where
    by : (b : Bool) → In offer (filter test offers) → In offer (cond b (o ∷ filter test offers) (filter test offers))
    by true j = inr j
    by false j = j

in_made : (at : ℕ) (sent : Offer → SentTransfer) (offers : List Offer) (offer : Offer) → In offer offers
    → In (record { at = at; transfer = sent offer }) (made_of at sent offers)
unfolding made_of
in_made at sent [] offer i = absurd i
in_made at sent (o ∷ offers) offer (inl e) = inl (λ i. record { at = at; transfer = sent (e i) })
in_made at sent (o ∷ offers) offer (inr i) = inr (in_made at sent offers offer i)

each_made : (P : Made → Type 0) (at : ℕ) (sent : Offer → SentTransfer) (offers : List Offer)
    → ((offer : Offer) → In offer offers → P (record { at = at; transfer = sent offer })) → (x : Made) → In x (made_of at sent offers) → P x
unfolding made_of
each_made P at sent [] each x i = absurd i
each_made P at sent (o ∷ offers) each x (inl e) = subst P (sym e) (each o (inl refl))
each_made P at sent (o ∷ offers) each x (inr i) = each_made P at sent offers (λ offer j. each offer (inr j)) x i

pub out_ones : (test : Offer → Bool) (offers : List Offer) (offer : Offer) → In offer (filter test offers) → In offer offers × (test offer ≡ true)
out_ones test [] offer i = absurd i
out_ones test (o ∷ offers) offer i = elim (tell (test o)) [
  | inl t ↦ elim (subst (λ (b : Bool). In offer (cond b (o ∷ filter test offers) (filter test offers))) t i) [
    | inl e ↦ (inl e, ap test e ∙ t)
    | inr j ↦ let r = out_ones test offers offer j in (inr r.0, r.1)
  ]
  | inr f ↦ let r = out_ones test offers offer (subst (λ (b : Bool). In offer (cond b (o ∷ filter test offers) (filter test offers))) f i) in (inr r.0, r.1)
]

-- an offer that fits is of its kind and destination
pub is_one_of : (what : What) (to : ℕ) (offer : Offer) → offer.fitted ≡ true → offer.what ≡ what → offer.to ≡ to → is_one what to offer ≡ true
is_one_of what to offer fits same there = elim (tell (is_to what to offer)) [
  | inl t ↦ (λ i. fits i && is_to what to offer) ∙ t
  | inr f ↦ absurd (is_to_false what to offer f same there)
]

-- what a member sends in a row is among what it offers in its step
pub sent_among : (n : ℕ) (w : Cluster) (row : Row) (t : AllocatorState) (event : Event) (what : What) (to : ℕ) → (w.member n).status ≡ Up t
    → step_of w row ≡ Some (n, event) → (offer : Offer) → Sends n w row offer → offer.what ≡ what → offer.to ≡ to
    → In offer (ones what to (step t (w.rows + 1) event).step_state.offers)
sent_among n w row t event what to up is_step offer sends same there = in_ones (is_one what to) (step t (w.rows + 1) event).step_state.offers offer
    (subst (λ (e : Event). In offer (step t (w.rows + 1) e).step_state.offers) (same_event n n sends.event event (sym sends.in_step ∙ is_step))
    (subst (λ (s : AllocatorState). In offer (step s (w.rows + 1) sends.event).step_state.offers) (same_server sends.server t (sym sends.runs ∙ up)) sends.offered))
    (is_one_of what to offer sends.fitted same there)

-- each of these has so many bytes at most
abbrev pub AreShort : ℕ → List Offer → Type 0
AreShort longest offers = (offer : Offer) → In offer offers → length offer.payload ≤ longest

-- ---- what is under way from the one to the other

module _ (laws : CalmLaws) (group : List Party) (clocks : Party → ℕ) (pace : Pace) (nodes : (p : ℕ) → In (OfMember p) group → (1 ≤ p) × (p ≤ 125))
    (n : ℕ) (in_n : In (OfMember n) group) (party : Party) (in_party : In party group) (apart : sends (Send n) party ≡ false) (receiver : Receiver) (what : What) (to base : ℕ)
    (quick : 2 * pace.delay ≤ 2000) (dest : IsDestination (kind_of what) to) (known : is_anonymous (kind_of what) ≡ false)
    (some : (1 ≤ receiver.setting.me) ⊎ (kind_of what ≡ Message)) (for_it : is_for receiver.setting.me (ident_of n what to) ≡ true)
    (wants : (signature : ℕ) → signature ≡ signature_of what
    → wanted receiver.setting.rows receiver.setting.me (identifier_number (ident_of n what to)) ≡ Ok (record { ident = ident_of n what to; signature = signature }))
    (Begins : ℕ → Type 0) (Mode : AllocatorState → Expected → Type 0) (popped : (t : AllocatorState) (expected : Expected) → Mode t expected → Mode (after_pop t) expected)
    (Is : Cluster → List Session → ℕ → Type 0) (Gets : SentTransfer → Cluster → Row → Type 0) (HasMemory : Cluster → Type 0)
    (hearer : IsHearer group clocks pace n party receiver Is Gets HasMemory) where
  abbrev pub Fits : Expected → ℕ → Type 0
  Fits = FitsIn Begins

  abbrev pub number : ℕ
  number = identifier_number (ident_of n what to)

  abbrev pub clock : ℕ
  clock = clocks party

  abbrev pub Others : Queued → Type 0
  Others = IsOther laws.frame n receiver.setting what to (nodes n in_n) some dest known for_it

  abbrev pub StageOf : List Session → List Coming → List Made → (ℕ → Type 0) → Type 0
  StageOf = Stage laws.cutting laws.whole n receiver what to pace.delay base clock quick known wants

  abbrev pub AreOnesOf : List Made → Type 0
  AreOnesOf = AreOnes laws.cutting laws.whole n receiver what to pace.delay base clock quick known wants

  abbrev IsWithinOf : ℕ → List Made → Type 0
  IsWithinOf = IsWithin laws.cutting laws.whole n receiver what to pace.delay base clock quick known wants

  -- These transfers are under way, of the first of which these frames came. The others fly or wait, each so long at most
  -- as the calm lets it.
  pub record Pair (traffic : Traffic) (w : Cluster) (xs : List Made) (front : List Coming) (expected : Expected) : Type 0 where
    pub sender : AllocatorState
    pub sender_up : IsUp sender (w.member n)
    pub sender_is : IsServer n sender
    pub sessions : List Session
    pub now : ℕ
    pub hears : Is w sessions now
    pub flying : List Coming
    pub waiting : List Coming
    pub pending : front ++ (flying ++ waiting) ≡ all_coming xs
    pub flies : Flying Others pace.delay w.frames (traffic.to party) flying
    pub waits : Waiting (traffic.waits (OfMember n)) (of_identifier number sender.queue) waiting
    pub since : traffic.waits (OfMember n) ≤ traffic.at
    pub mode : Mode sender expected
    pub stage : StageOf sessions front xs (Fits expected)
    pub differ : Differ xs (Fits expected)
    pub ones_are : AreOnesOf xs
    pub past : (x : Made) → In x xs → x.at ≤ traffic.at
    pub low : base ≤ now
    pub high : now ≤ max base (traffic.at + clock)

  -- ---- until the next row

  module _ (traffic : Traffic) (w : Cluster) (xs : List Made) (front : List Coming) (expected : Expected) (pair : Pair traffic w xs front expected) (at_ : ℕ)
      (in_time : IsInTime group clocks pace traffic w at_) where
    queue_is : queue_in w (OfMember n) ≡ pair.sender.queue
    queue_is = ap queue_of pair.sender_up.status

    late : (c : Coming) → In c (pair.flying ++ pair.waiting) → at_ ≤ c.at + 2 * pace.delay
    late c i = elim (in_append c pair.flying pair.waiting i) [
      | inl flies ↦ flying_late Others pace.delay w.frames at_ (traffic.to party) pair.flying pair.flies (in_time.hears party in_party) c flies
      | inr waits ↦
          let l = waiting_late (traffic.waits (OfMember n)) (of_identifier number pair.sender.queue) pair.waiting pair.waits c waits in
          let s = in_time.sends_soon (OfMember n) in_n (λ none. l.0 (ap (of_identifier number) (sym queue_is ∙ none))) in
          let k = l.1 in omega (arith, s, k)
    ]

    -- no transfer that is under way was made more than two delays ago
    pub not_late : (x : Made) → In x xs → at_ ≤ x.at + 2 * pace.delay
    not_late x i =
        let s = still_comes laws.cutting laws.whole n receiver what to pace.delay base clock quick known wants pair.sessions front xs (Fits expected)
        (pair.flying ++ pair.waiting) pair.ones_are pair.pending pair.stage x i in
        subst (λ (k : ℕ). at_ ≤ k + 2 * pace.delay) s.2 (late s.0 s.1)

    within : (moment : ℕ) → moment ≡ max pair.now (at_ + clock) → IsWithinOf moment xs
    within moment is = by xs (λ x i. (pair.past x i, not_late x i))
      where
        by : (ys : List Made) → ((x : Made) → In x ys → (x.at ≤ traffic.at) × (at_ ≤ x.at + 2 * pace.delay)) → IsWithinOf moment ys
        by [] each = tt
        by (x ∷ ys) each =
            let e = each x (inl refl) in let p = e.0 in let l = e.1 in let b = pair.low in let h = pair.high in let t = in_time.moments in
            (omega (arith, is, p, b, t), omega (arith, is, l, h, t))

    module _ (row : Row) (Rest : Expected → Type 0) where
      abbrev timed : Timed
      timed = record { at = at_; row = row }

      abbrev then_w : Cluster
      then_w = after_row w row

      abbrev then_traffic : Traffic
      then_traffic = traffic_after traffic w timed

      past_row : (x : Made) → In x xs → x.at ≤ at_
      past_row x i = let p = pair.past x i in let t = in_time.moments in omega (arith, p, t)

      -- what is under way then, by its parts
      rebuild : (sender : AllocatorState) (later : Expected) → Mode sender later → IsUp sender (then_w.member n) → IsServer n sender
          → (sessions : List Session) (now : ℕ) → Is then_w sessions now
          → (flying waiting : List Coming) (ys : List Made) (then_front : List Coming) → then_front ++ (flying ++ waiting) ≡ all_coming ys
          → Flying Others pace.delay then_w.frames (then_traffic.to party) flying
          → Waiting (waits_after at_ (traffic.waits (OfMember n)) pair.sender.queue sender.queue) (of_identifier number sender.queue) waiting
          → StageOf sessions then_front ys (Fits later) → Differ ys (Fits later) → AreOnesOf ys
          → ((x : Made) → In x ys → x.at ≤ at_) → base ≤ now → now ≤ max base (at_ + clock) → Pair then_traffic then_w ys then_front later
      rebuild sender later mode sender_up sender_is sessions now hears flying waiting ys then_front pending flies waits stage differ ones_are past low high = record {
        sender = sender;
        sender_up = sender_up;
        sender_is = sender_is;
        sessions = sessions;
        now = now;
        hears = hears;
        flying = flying;
        waiting = waiting;
        pending = pending;
        flies = flies;
        waits = subst (λ (k : ℕ). Waiting k (of_identifier number sender.queue) waiting)
            (sym (λ i. waits_after at_ (traffic.waits (OfMember n)) (queue_of (pair.sender_up.status i)) (queue_of (sender_up.status i)))) waits;
        since = let s = pair.since in let t = in_time.moments in
            waits_before at_ (traffic.waits (OfMember n)) (queue_in w (OfMember n)) (queue_in then_w (OfMember n)) (omega (arith, s, t));
        mode = mode;
        stage = stage;
        differ = differ;
        ones_are = ones_are;
        past = past;
        low = low;
        high = high;
      }

      -- the row makes no transfer of the one
      abbrev SendsNone : Type 0
      SendsNone = (offer : Offer) → Sends n w row offer → ⊥

      -- the row is no step of the one
      abbrev IsNoStep : Type 0
      IsNoStep = (event : Event) → step_of w row ≡ Some (n, event) → ⊥

      sends_none : IsNoStep → SendsNone
      sends_none none offer sends = none sends.event sends.in_step

      -- what is made comes of the offers of the step, and of no other row
      abbrev pub AreNews : List Made → Type 0
      AreNews more = ((event : Event) → step_of w row ≡ Some (n, event)
          → more ≡ made_of at_ (sent_by n w) (ones what to (step pair.sender (w.rows + 1) event).step_state.offers)) × (IsNoStep → more ≡ [])

      -- the row delivers no transfer of the key to the receiver: a frame that it brings ends none, at whatever moment
      abbrev pub NoneComes : Type 0
      NoneComes = (k moment : ℕ) → receives row party ≡ true → IsNext k (traffic.to party) → (d : Delivery) → key_of d.ident ≡ key_of (ident_of n what to)
          → answer receiver.setting pair.sessions (arrival_at (frame_at w.frames k) moment) ≡ Gives d → ⊥

      -- a frame that comes to the receiver is of no such transfer, or others of the first one are still to come behind it
      abbrev pub IsNotLast : Type 0
      IsNotLast = (k : ℕ) → IsNext k (traffic.to party) → receives row party ≡ true → Others (frame_at w.frames k)
          ⊎ ((x : Made) × (rest : List Made) × (fs : List Coming) × (c : Coming) × (back : List Coming) × (xs ≡ x ∷ rest)
          × (frame_at w.frames k ≡ c.frame) × (coming_of x ≡ (fs ++ c ∷ []) ++ back) × (back ≢ []))

      brings_none : receives row party ≡ false → IsNotLast
      brings_none none k is_next brings = cc (brings, none)

      -- so that none is delivered
      delivers_none : IsNotLast → NoneComes
      delivers_none frames k moment brings is_next d same gives = elim (frames k is_next brings) [
        | inl other ↦ cc (other.1 moment, of_its_key laws.frame receiver.setting pair.sessions arrival d gives sort (key_of (ident_of n what to)) same)
        | inr x ↦ cc (
          ap (λ (f : Queued). (read f).tail.end) x.6 ∙ not_last laws.cutting x.0 (pair.ones_are x.0 (subst (λ (l : List Made). In x.0 l) (sym x.5) (inl refl))).id
              x.2 x.4 x.3 x.8 x.7,
          ends_it laws.frame receiver.setting pair.sessions arrival d gives sort,
        )
      ]
        where
          arrival : Arrival
          arrival = arrival_at (frame_at w.frames k) moment

          sort : is_anonymous d.ident.kind ≡ false
          sort = ap (λ (key : Key). is_anonymous key.kind) same ∙ known

      abbrev AddsAll : List Made → Type 0
      AddsAll more = (offer : Offer) → Sends n w row offer → offer.what ≡ what → offer.to ≡ to → In (record { at = at_; transfer = sent_by n w offer }) more

      -- transfers may come behind those under way, and none is delivered; or the first of them is
      abbrev pub Next : Type 0
      Next = ((more : List Made) × (then_front : List Coming) × (later : Expected) × Pair then_traffic then_w (xs ++ more) then_front later × AddsAll more × Rest later
          × NoneComes × AreNews more × IsNotLast)
          ⊎ ((x : Made) × (rest : List Made) × (xs ≡ x ∷ rest) × Gets x.transfer w row × Pair then_traffic then_w rest [] expected × SendsNone × Rest expected)

      none_more : (then_front : List Coming) → Pair then_traffic then_w xs then_front expected → IsNoStep → Rest expected → IsNotLast → Next
      none_more then_front p none left frames = inl (
        [],
        then_front,
        expected,
        subst (λ (l : List Made). Pair then_traffic then_w l then_front expected) (sym (append-nil xs)) p,
        λ offer sends w t. absurd (sends_none none offer sends),
        left,
        delivers_none frames,
        (λ event e. absurd (none event e), λ nobody. refl),
        frames,
      )

      now_high : (later : ℕ) → later ≤ max pair.now (at_ + clock) → later ≤ max base (at_ + clock)
      now_high later below = let h = pair.high in let t = in_time.moments in omega (arith, below, h, t)

      -- no frame comes to the receiver
      abbrev Stays : Type 0
      Stays = StillIs group clocks pace n party receiver Is Gets HasMemory then_w at_ pair.sessions pair.now

      -- the sender does nothing
      passes : Stays → then_w.member n ≡ w.member n → Flying Others pace.delay then_w.frames (then_traffic.to party) pair.flying
          → Pair then_traffic then_w xs front expected
      passes still same_n flies = rebuild pair.sender expected pair.mode (subst (IsUp pair.sender) (sym same_n) pair.sender_up) pair.sender_is
          pair.sessions still.0 still.1 pair.flying pair.waiting xs front pair.pending flies
          (waits_stay number at_ (traffic.waits (OfMember n)) pair.sender.queue pair.waiting pair.waits) pair.stage pair.differ pair.ones_are past_row
          (let b = pair.low in let l = still.2 in omega (arith, b, l)) (now_high still.0 still.3)

      -- the transfers of the kind that a step of the sender makes may come next
      abbrev pub MayMake : Event → Type 0
      MayMake event = let offers = ones what to (step pair.sender (w.rows + 1) event).step_state.offers in
          (later : Expected) × Chain Begins expected offers later × Mode (step pair.sender (w.rows + 1) event).step_state.allocator later
          × AreShort receiver.longest offers × Rest later

      -- the sender takes a step
      makes : Stays → (event : Event) → MayMake event → step_of w row ≡ Some (n, event) → IsOnTheBus event
          → then_w.member n ≡ member_after_step (w.rows + 1) event (w.member n).status (w.member n) → then_w.frames ≡ w.frames
          → then_traffic.to party ≡ traffic.to party → IsNotLast → Next
      makes still event may is_step bus member frames ways not_ended =
          inl (news, front, may.0, pair_then, adds, may.4, delivers_none not_ended, (same_news, λ nobody. absurd (nobody event is_step)), not_ended)
        where
          t : AllocatorState
          t = pair.sender

          u : AllocatorState
          u = (step t (w.rows + 1) event).step_state.allocator

          offers : List Offer
          offers = (step t (w.rows + 1) event).step_state.offers

          news : List Made
          news = made_of at_ (sent_by n w) (ones what to offers)

          ranges : (offer : Offer) → In offer offers → IsInRange offer
          ranges = laws.more.ranges t (w.rows + 1) event pair.sender_is.sound bus

          put : List Queued
          put = all_frames_put (w.rows + 1) n offers

          queue_then : u.queue ≡ t.queue ++ put
          queue_then = laws.in_step.queue t (w.rows + 1) event ∙ ap (λ (k : ℕ). t.queue ++ all_frames_put (w.rows + 1) k offers) pair.sender_is.me

          coming_is : map (stamped at_) (of_identifier number put) ≡ all_coming news
          coming_is = ap (map (stamped at_)) (own_put laws.frame n receiver.setting what to (nodes n in_n) some dest known for_it (w.rows + 1) offers ranges)
              ∙ coming_made at_ (sent_by n w) (ones what to offers)

          low : (offer : Offer) → In offer (ones what to offers) → offer.id < 32
          low offer i = (ranges offer (out_ones (is_one what to) offers offer i).0).id

          stage_more : (then_front : List Coming) (ys : List Made) → StageOf pair.sessions then_front ys (Fits expected)
              → StageOf pair.sessions then_front (ys ++ news) (Fits may.0)
          stage_more [] ys stage = first_more Begins at_ (sent_by n w) (λ o. refl) (λ id. AllAdmit base (key_of (ident_of n what to)) id pair.sessions) ys
              (ones what to offers) expected may.0 low may.1 stage
          stage_more (f ∷ fs) [] stage = absurd stage
          stage_more (f ∷ fs) (y ∷ ys) stage = stage

          one_new : (offer : Offer) → In offer (ones what to offers)
              → IsOne laws.cutting laws.whole n receiver what to pace.delay base clock quick known wants (record { at = at_; transfer = sent_by n w offer })
          one_new offer i =
              let o = out_ones (is_one what to) offers offer i in
              let is = is_to_true what to offer (and_right offer.fitted (is_to what to offer) o.1) in
              record { by = refl; what_is = is.0; to_is = is.1; id = (ranges offer o.0).id; short = may.3 offer i }

          same_news : (other : Event) → step_of w row ≡ Some (n, other)
              → news ≡ made_of at_ (sent_by n w) (ones what to (step pair.sender (w.rows + 1) other).step_state.offers)
          same_news other e = ap (λ (ev : Event). made_of at_ (sent_by n w) (ones what to (step pair.sender (w.rows + 1) ev).step_state.offers))
              (same_event n n event other (sym is_step ∙ e))

          pair_then : Pair then_traffic then_w (xs ++ news) front may.0
          pair_then = rebuild u may.0 may.2
              (subst (IsUp u) (sym member) (steps_up (w.rows + 1) event t (w.member n) pair.sender_up))
              (server_stepped laws n t (w.rows + 1) event bus pair.sender_is)
              pair.sessions still.0 still.1 pair.flying (pair.waiting ++ all_coming news) (xs ++ news) front
              (sym (coming_both xs news ∙ (ap (λ (l : List Coming). l ++ all_coming news) (sym pair.pending)
              ∙ (append_assoc front (pair.flying ++ pair.waiting) (all_coming news)
              ∙ ap (λ (l : List Coming). front ++ l) (append_assoc pair.flying pair.waiting (all_coming news))))))
              (subst (λ (l : List Queued). Flying Others pace.delay l (then_traffic.to party) pair.flying) (sym frames)
              (subst (λ (l : List OnItsWay). Flying Others pace.delay w.frames l pair.flying) (sym ways) pair.flies))
              (subst (λ (q : List Queued). Waiting (waits_after at_ (traffic.waits (OfMember n)) t.queue q) (of_identifier number q) (pair.waiting ++ all_coming news)) (sym queue_then)
              (subst (λ (l : List Coming). Waiting (waits_after at_ (traffic.waits (OfMember n)) t.queue (t.queue ++ put)) (of_identifier number (t.queue ++ put)) (pair.waiting ++ l)) coming_is
              (waits_grow number at_ (traffic.waits (OfMember n)) t.queue put pair.waiting
              (let s = pair.since in let k = in_time.moments in omega (arith, s, k)) pair.waits)))
              (stage_more front xs pair.stage)
              (differ_more Begins at_ (sent_by n w) (λ o. refl) xs (ones what to offers) expected may.0 may.1 pair.differ)
              (λ x i. elim (in_append x xs news i) [
                | inl j ↦ pair.ones_are x j
                | inr j ↦ each_made (IsOne laws.cutting laws.whole n receiver what to pace.delay base clock quick known wants) at_ (sent_by n w) (ones what to offers) one_new x j
              ])
              (λ x i. elim (in_append x xs news i) [
                | inl j ↦ past_row x j
                | inr j ↦ each_made (λ (y : Made). y.at ≤ at_) at_ (sent_by n w) (ones what to offers) (λ offer k. let l : at_ ≤ at_ = omega arith in l) x j
              ])
              (let b = pair.low in let l = still.2 in omega (arith, b, l)) (now_high still.0 still.3)

          adds : AddsAll news
          adds offer sends same there = in_made at_ (sent_by n w) (ones what to offers) offer
              (sent_among n w row t event what to pair.sender_up.status is_step offer sends same there)

      -- ---- a frame goes to the bus

      module _ (none : receives row party ≡ false) (sending : is_sending row ≡ true) (g : Queued) (frames : then_w.frames ≡ w.frames ++ g ∷ []) where
        -- it is on its way to the receiver, if it is not its own
        ways_by : (own : Bool) → sends row party ≡ own
            → then_traffic.to party ≡ (if not own then traffic.to party ++ next_on_bus at_ w ∷ [] else traffic.to party)
        ways_by own e = λ i. if none i then drop 1 (traffic.to party) else (if sending i && not (e i) then traffic.to party ++ next_on_bus at_ w ∷ [] else traffic.to party)

        flies_then : (ways : List OnItsWay) → then_traffic.to party ≡ ways → (cs : List Coming) → Flying Others pace.delay (w.frames ++ g ∷ []) ways cs
            → Flying Others pace.delay then_w.frames (then_traffic.to party) cs
        flies_then ways is cs h = subst (λ (l : List Queued). Flying Others pace.delay l (then_traffic.to party) cs) (sym frames)
            (subst (λ (l : List OnItsWay). Flying Others pace.delay (w.frames ++ g ∷ []) l cs) (sym is) h)

        -- the frame of another member, or of a device
        other_goes : Stays → Others g → then_w.member n ≡ w.member n → IsNoStep → Rest expected → Next
        other_goes still other same_n no_step left = none_more front (passes still same_n (by (sends row party) refl)) no_step left (brings_none none)
          where
            by : (own : Bool) → sends row party ≡ own → Flying Others pace.delay then_w.frames (then_traffic.to party) pair.flying
            by true e = flies_then (traffic.to party) (ways_by true e) pair.flying (flying_more Others pace.delay w.frames g (traffic.to party) pair.flying pair.flies)
            by false e = flies_then (traffic.to party ++ next_on_bus at_ w ∷ []) (ways_by false e) pair.flying
                (flying_other Others pace.delay w.frames g at_ (traffic.to party) pair.flying other pair.flies)

        -- a frame of the sender
        its_goes : Stays → sends row party ≡ false → then_w.member n ≡ record (w.member n) { status = after_sending (w.member n).status }
            → next_out pair.sender.queue ≡ Some g → IsNoStep → Rest expected → Next
        its_goes still not_own member out no_step left = none_more front by no_step left (brings_none none)
          where
            t : AllocatorState
            t = pair.sender

            goes : (flying waiting : List Coming) → front ++ (flying ++ waiting) ≡ all_coming xs
                → Flying Others pace.delay (w.frames ++ g ∷ []) (traffic.to party ++ next_on_bus at_ w ∷ []) flying
                → Waiting (waits_after at_ (traffic.waits (OfMember n)) t.queue (left_behind t.queue)) (of_identifier number (left_behind t.queue)) waiting
                → Pair then_traffic then_w xs front expected
            goes flying waiting pending flies waits = rebuild (after_pop t) expected (popped t expected pair.mode)
                (subst (IsUp (after_pop t)) (sym member) (up_sent laws t (w.member n) pair.sender_up))
                (server_sent laws n t pair.sender_is) pair.sessions still.0 still.1
                flying waiting xs front pending (flies_then (traffic.to party ++ next_on_bus at_ w ∷ []) (ways_by false not_own) flying flies) waits
                pair.stage pair.differ pair.ones_are past_row (let b = pair.low in let l = still.2 in omega (arith, b, l)) (now_high still.0 still.3)

            some_wait : t.queue ≢ []
            some_wait = some_waits t.queue g out

            by : Pair then_traffic then_w xs front expected
            by = elim (waits_out number at_ (traffic.waits (OfMember n)) t.queue g pair.waiting some_wait out pair.waits) [
              | inl other ↦ goes pair.flying pair.waiting pair.pending
                  (flying_other Others pace.delay w.frames g at_ (traffic.to party) pair.flying
                  (other_of laws.frame n receiver.setting what to (nodes n in_n) some dest known for_it n g (nodes n in_n) (pair.sender_is.queue g (out_of_queue t.queue g out)) other.0)
                  pair.flies) other.1
              | inr own ↦ goes (pair.flying ++ own.0 ∷ []) own.1
                  (ap (λ (l : List Coming). front ++ l) (append_assoc pair.flying (own.0 ∷ []) own.1 ∙ ap (λ (l : List Coming). pair.flying ++ l) (sym own.2)) ∙ pair.pending)
                  (subst (λ (f : Queued). Flying Others pace.delay (w.frames ++ f ∷ []) (traffic.to party ++ next_on_bus at_ w ∷ []) (pair.flying ++ own.0 ∷ [])) (sym own.3)
                  (flying_own Others pace.delay w.frames own.0 at_ (traffic.to party) pair.flying
                  (let s = in_time.sends_soon (OfMember n) in_n (λ e. some_wait (sym queue_is ∙ e)) in let k = own.4 in omega (arith, s, k)) pair.flies)) own.5
            ]

      -- ---- a frame comes to the receiver

      module _ (is : receives row party ≡ true) (r : Receipt group clocks pace n party receiver Is Gets HasMemory traffic w at_ row pair.sessions pair.now)
          (memory : HasMemory w) (left : Rest expected) where
        abbrev moment : ℕ
        moment = max pair.now r.ms

        abbrev frame : Queued
        frame = frame_at w.frames r.k

        abbrev then_sessions : List Session
        then_sessions = next receiver.setting pair.sessions (arrival_at frame moment)

        moment_is : moment ≡ max pair.now (at_ + clock)
        moment_is = ap (max pair.now) r.now_is

        -- what is under way then, by its parts
        hears_it : (ys : List Made) (then_front later : List Coming) → then_front ++ (later ++ pair.waiting) ≡ all_coming ys
            → Flying Others pace.delay then_w.frames (then_traffic.to party) later → StageOf then_sessions then_front ys (Fits expected)
            → Differ ys (Fits expected) → AreOnesOf ys → ((x : Made) → In x ys → x.at ≤ at_) → Pair then_traffic then_w ys then_front expected
        hears_it ys then_front later pending flies stage differ ones_are past =
            rebuild pair.sender expected pair.mode (subst (IsUp pair.sender) (sym r.member) pair.sender_up) pair.sender_is then_sessions moment r.then_is
            later pair.waiting ys then_front pending flies (waits_stay number at_ (traffic.waits (OfMember n)) pair.sender.queue pair.waiting pair.waits)
            stage differ ones_are past (let b = pair.low in omega (arith, b)) (now_high moment (let e = moment_is in omega (arith, e)))

        comes : (ways : List OnItsWay) → traffic.to party ≡ ways → IsNext r.k ways → Flying Others pace.delay w.frames ways pair.flying → Next
        comes [] to_is is_next flies = absurd is_next
        comes (way ∷ ways) to_is is_next flies = elim flies.2 [ inl other ↦ by_other other.0 other.1 | inr own ↦ by_own own.0 own.1 own.2 own.3 own.5 ]
          where
            ways_then : then_traffic.to party ≡ ways
            ways_then = (λ i. if is i then drop 1 (traffic.to party) else (if is_sending row && not (sends row party) then traffic.to party ++ next_on_bus at_ w ∷ [] else traffic.to party))
                ∙ ap (λ (l : List OnItsWay). drop 1 l) to_is

            flies_on : (cs : List Coming) → Flying Others pace.delay w.frames ways cs → Flying Others pace.delay then_w.frames (then_traffic.to party) cs
            flies_on cs h = subst (λ (l : List Queued). Flying Others pace.delay l (then_traffic.to party) cs) (sym r.frames)
                (subst (λ (l : List OnItsWay). Flying Others pace.delay w.frames l cs) (sym ways_then) h)

            frame_is : frame ≡ frame_at w.frames way.number
            frame_is = ap (frame_at w.frames) is_next

            -- the frame that is next is this one
            same_frame : (j : ℕ) → IsNext j (traffic.to party) → frame_at w.frames j ≡ frame_at w.frames way.number
            same_frame j next_too = ap (frame_at w.frames) (subst (IsNext j) to_is next_too)

            by_other : Others (frame_at w.frames way.number) → Flying Others pace.delay w.frames ways pair.flying → Next
            by_other other flying_left = none_more front (hears_it xs front pair.flying pair.pending (flies_on pair.flying flying_left)
                (other_comes laws.cutting laws.whole n receiver what to pace.delay base clock quick known wants pair.sessions front xs (Fits expected) frame moment
                (subst (λ (f : Queued). is_of receiver.setting (key_of (ident_of n what to)) (arrival_at f moment) ≡ false) (sym frame_is) (other.1 moment))
                (within moment moment_is) pair.stage)
                pair.differ pair.ones_are past_row) r.none left
                (λ j next_too brings. inl (subst Others (sym (same_frame j next_too)) other))

            by_own : (c : Coming) (more : List Coming) → pair.flying ≡ c ∷ more → frame_at w.frames way.number ≡ c.frame → Flying Others pace.delay w.frames ways more
                → Next
            by_own c more flying_is its_frame flying_left = elim outcome [ inl stage ↦ goes_on stage | inr d ↦ is_done d.0 d.1 d.2 d.3 ]
              where
                pending : front ++ (c ∷ (more ++ pair.waiting)) ≡ all_coming xs
                pending = ap (λ (l : List Coming). front ++ (l ++ pair.waiting)) (sym flying_is) ∙ pair.pending

                frame_c : frame ≡ c.frame
                frame_c = frame_is ∙ its_frame

                sessions_c : then_sessions ≡ next receiver.setting pair.sessions (arrival_at c.frame moment)
                sessions_c = ap (λ (f : Queued). next receiver.setting pair.sessions (arrival_at f moment)) frame_c

                room : (length pair.sessions < receiver.setting.sessions) × (blocks_used pair.sessions + receiver.blocks ≤ receiver.setting.blocks)
                room = hearer.room w pair.sessions pair.now pair.hears memory

                outcome : (StageOf (next receiver.setting pair.sessions (arrival_at c.frame moment)) (front ++ c ∷ []) xs (Fits expected))
                    ⊎ ((x : Made) × (rest : List Made) × (xs ≡ x ∷ rest)
                    × IsDone laws.cutting laws.whole n receiver what to pace.delay base clock quick known wants pair.sessions c moment room x rest (more ++ pair.waiting) (Fits expected))
                outcome = own_comes laws.cutting laws.whole n receiver what to pace.delay base clock quick known wants pair.sessions c moment room front xs (Fits expected)
                    (more ++ pair.waiting) pair.ones_are pair.differ (within moment moment_is) pending pair.stage

                -- others of the first transfer are still to come behind it
                unfinished : (before : List Coming) (ys : List Made) → StageOf (next receiver.setting pair.sessions (arrival_at c.frame moment)) (before ++ c ∷ []) ys (Fits expected)
                    → (f : Queued) → f ≡ c.frame
                    → (x : Made) × (rest : List Made) × (fs : List Coming) × (d : Coming) × (back : List Coming) × (ys ≡ x ∷ rest)
                    × (f ≡ d.frame) × (coming_of x ≡ (fs ++ d ∷ []) ++ back) × (back ≢ [])
                unfinished [] [] stage f e = absurd stage
                unfinished [] (x ∷ rest) stage f e = (x, rest, [], c, stage.1, refl, e, stage.3, stage.2)
                unfinished (b ∷ before) [] stage f e = absurd stage
                unfinished (b ∷ before) (x ∷ rest) stage f e =
                    (x, rest, b ∷ before, c, stage.1, refl, e, stage.3, stage.2)

                goes_on : StageOf (next receiver.setting pair.sessions (arrival_at c.frame moment)) (front ++ c ∷ []) xs (Fits expected) → Next
                goes_on stage = none_more (front ++ c ∷ []) (hears_it xs (front ++ c ∷ []) more
                    (append_assoc front (c ∷ []) (more ++ pair.waiting) ∙ pending) (flies_on more flying_left)
                    (subst (λ (l : List Session). StageOf l (front ++ c ∷ []) xs (Fits expected)) (sym sessions_c) stage)
                    pair.differ pair.ones_are past_row) r.none left
                    (λ j next_too brings. inr (unfinished front xs stage (frame_at w.frames j) (same_frame j next_too ∙ its_frame)))

                is_done : (x : Made) (rest : List Made) → xs ≡ x ∷ rest
                    → IsDone laws.cutting laws.whole n receiver what to pace.delay base clock quick known wants pair.sessions c moment room x rest (more ++ pair.waiting) (Fits expected)
                    → Next
                is_done x rest same done = inr (
                  x,
                  rest,
                  same,
                  r.gets x.transfer (ap (λ (f : Queued). answer receiver.setting pair.sessions (arrival_at f moment)) frame_c ∙ done.gives),
                  hears_it rest [] more done.pending (flies_on more flying_left)
                      (subst (λ (l : List Session). StageOf l [] rest (Fits expected)) (sym sessions_c) done.stage)
                      (rest_differ x rest (Fits expected) (subst (λ (l : List Made). Differ l (Fits expected)) same pair.differ))
                      (λ y i. pair.ones_are y (subst (λ (l : List Made). In y l) (sym same) (inr i)))
                      (λ y i. past_row y (subst (λ (l : List Made). In y l) (sym same) (inr i))),
                  sends_none r.none,
                  left,
                )

        receives_it : Next
        receives_it = comes (traffic.to party) refl r.is_next pair.flies

    -- ---- each calm row

    -- who a row is of: the sender, or another member
    by_member : (P : ℕ → Type 0) → P n → ((p : ℕ) → p ≢ n → P p) → (p : ℕ) → P p
    by_member P at_n elsewhere p = elim (eqb_tells p n) [ inl z ↦ subst P (sym z.1) at_n | inr z ↦ elsewhere p z.1 ]

    -- whatever the row is, where what the sender makes in it may come next, and nothing is asked where it makes nothing
    module _ (memory : HasMemory w) (are : AreWell group w) (Rest : Expected → Type 0) where
      abbrev Makes : Row → Type 0
      Makes row = (event : Event) → step_of w row ≡ Some (n, event) → IsOnTheBus event → MayMake row Rest event

      abbrev Leaves : Row → Type 0
      Leaves row = SendsNone row Rest → Rest expected

      abbrev Goal : Row → Type 0
      Goal row = IsCalmRow group clocks pace traffic w at_ row → receives row party ≡ false → Makes row → Leaves row → Next row Rest

      still : (row : Row) → IsCalmRow group clocks pace traffic w at_ row → receives row party ≡ false → Stays row Rest
      still row calm none = hearer.stays traffic w at_ row calm none pair.sessions pair.now pair.hears

      others_next : (row : Row) → Goal row
      others_next (Tick p ms word) = by_member (λ q. Goal (Tick q ms word))
          (λ calm none may leaves. makes (Tick n ms word) Rest (still (Tick n ms word) calm none) (tick_of ms word) (may (tick_of ms word) refl tt) refl tt
          (at_here w.member n n (member_after_step (w.rows + 1) (tick_of ms word) (w.member n).status (w.member n)) refl) refl (λ i. if none i then drop 1 (traffic.to party) else traffic.to party)
          (brings_none (Tick n ms word) Rest none))
          (λ q not_n calm none may leaves. none_more (Tick q ms word) Rest front (passes (Tick q ms word) Rest (still (Tick q ms word) calm none)
          (at_other w.member q n (member_after_step (w.rows + 1) (tick_of ms word) (w.member q).status (w.member q)) (λ e. not_n (sym e)))
          (subst (λ (l : List OnItsWay). Flying Others pace.delay w.frames l pair.flying) (sym (λ i. if none i then drop 1 (traffic.to party) else traffic.to party)) pair.flies))
          (not_tick q not_n) (leaves (sends_none (Tick q ms word) Rest (not_tick q not_n))) (brings_none (Tick q ms word) Rest none)) p
        where
          not_tick : (q : ℕ) → q ≢ n → IsNoStep (Tick q ms word) Rest
          not_tick q differ event e = differ (same_stepper q n (tick_of ms word) event e)
      others_next (Rx p k ms) = by_member (λ q. Goal (Rx q k ms))
          (λ calm none may leaves. makes (Rx n k ms) Rest (still (Rx n k ms) calm none) (receipt_of w k ms) (may (receipt_of w k ms) refl (narrow_on_bus w.frames are.narrow k)) refl
          (narrow_on_bus w.frames are.narrow k)
          (at_here w.member n n (member_after_step (w.rows + 1) (receipt_of w k ms) (w.member n).status (w.member n)) refl) refl (λ i. if none i then drop 1 (traffic.to party) else traffic.to party)
          (brings_none (Rx n k ms) Rest none))
          (λ q not_n calm none may leaves. none_more (Rx q k ms) Rest front (passes (Rx q k ms) Rest (still (Rx q k ms) calm none)
          (at_other w.member q n (member_after_step (w.rows + 1) (receipt_of w k ms) (w.member q).status (w.member q)) (λ e. not_n (sym e)))
          (subst (λ (l : List OnItsWay). Flying Others pace.delay w.frames l pair.flying) (sym (λ i. if none i then drop 1 (traffic.to party) else traffic.to party)) pair.flies))
          (not_rx q not_n) (leaves (sends_none (Rx q k ms) Rest (not_rx q not_n))) (brings_none (Rx q k ms) Rest none)) p
        where
          not_rx : (q : ℕ) → q ≢ n → IsNoStep (Rx q k ms) Rest
          not_rx q differ event e = differ (same_stepper q n (receipt_of w k ms) event e)
      others_next (Send p) = by_member (λ q. Goal (Send q))
          (λ calm none may leaves. some_goes n calm (λ g e. its_goes (Send n) Rest none refl g (frames n g e) (still (Send n) calm none) apart
          (at_here w.member n n (record (w.member n) { status = after_sending (w.member n).status }) refl) (sym (ap next_frame pair.sender_up.status) ∙ e)
          (no_step n) (leaves (sends_none (Send n) Rest (no_step n)))))
          (λ q not_n calm none may leaves. some_goes q calm (λ g e. other_goes (Send q) Rest none refl g (frames q g e) (still (Send q) calm none)
          (other_members laws.frame n receiver.setting what to (nodes n in_n) some dest known for_it q g (nodes q calm.0) not_n
          (sent_own laws q (w.member q) g (are.members q calm.0) e))
          (at_other w.member q n (record (w.member q) { status = after_sending (w.member q).status }) (λ x. not_n (sym x))) (no_step q) (leaves (sends_none (Send q) Rest (no_step q))))) p
        where
          no_step : (q : ℕ) → IsNoStep (Send q) Rest
          no_step q event e = cc e

          frames : (q : ℕ) (g : Queued) → next_frame (w.member q).status ≡ Some g → (after_row w (Send q)).frames ≡ w.frames ++ g ∷ []
          frames q g e = ap (λ (o : Option Queued). w.frames ++ in_list o) e

          some_goes : (q : ℕ) → IsCalmRow group clocks pace traffic w at_ (Send q) → ((g : Queued) → next_frame (w.member q).status ≡ Some g → Next (Send q) Rest)
              → Next (Send q) Rest
          some_goes q calm goes = by (next_frame (w.member q).status) refl
            where
              by : (o : Option Queued) → next_frame (w.member q).status ≡ o → Next (Send q) Rest
              by None e = absurd (cc (sym (ap (λ (o : Option Queued). is_some o) e) ∙ calm.1))
              by (Some g) e = goes g e
      others_next (ATick a ms word) = λ calm none may leaves. none_more (ATick a ms word) Rest front (passes (ATick a ms word) Rest (still (ATick a ms word) calm none) refl
          (subst (λ (l : List OnItsWay). Flying Others pace.delay w.frames l pair.flying) (sym (λ i. if none i then drop 1 (traffic.to party) else traffic.to party)) pair.flies))
          (λ event e. cc e) (leaves (λ offer sends. cc (sends.in_step))) (brings_none (ATick a ms word) Rest none)
      others_next (ARx a k ms word) = λ calm none may leaves. none_more (ARx a k ms word) Rest front (passes (ARx a k ms word) Rest (still (ARx a k ms word) calm none) refl
          (subst (λ (l : List OnItsWay). Flying Others pace.delay w.frames l pair.flying) (sym (λ i. if none i then drop 1 (traffic.to party) else traffic.to party)) pair.flies))
          (λ event e. cc e) (leaves (λ offer sends. cc (sends.in_step))) (brings_none (ARx a k ms word) Rest none)
      others_next (ASend a) = λ calm none may leaves. by calm none (leaves (λ offer sends. cc (sends.in_step))) (next_from (w.allocatee a)) refl
        where
          by : IsCalmRow group clocks pace traffic w at_ (ASend a) → receives (ASend a) party ≡ false → Rest expected → (o : Option Queued) → next_from (w.allocatee a) ≡ o
              → Next (ASend a) Rest
          by calm none left None e = absurd (cc (sym (ap (λ (o : Option Queued). is_some o) e) ∙ calm.1))
          by calm none left (Some g) e = other_goes (ASend a) Rest none refl g (ap (λ (o : Option Queued). w.frames ++ in_list o) e) (still (ASend a) calm none)
              (other_anonymous laws.frame n receiver.setting what to (nodes n in_n) some dest known for_it g (sent_anonymous laws group nodes w are a g calm.0 e))
              refl (λ event e. cc e) left
      others_next (Open p told ms word) = λ calm. absurd calm
      others_next (Ext _) = λ calm. absurd calm
      others_next (Crash p calls pattern) = λ calm. absurd calm
      others_next (Fault p call) = λ calm. absurd calm
      others_next (AOpen a uid pref ms word) = λ calm. absurd calm
      others_next (AEnd a) = λ calm. absurd calm

      pub next_row : (row : Row) → IsCalmRow group clocks pace traffic w at_ row → Makes row → Leaves row → Next row Rest
      next_row row calm may leaves = elim (tell (receives row party)) [
        | inl is ↦
            let r = hearer.comes traffic w at_ row are calm is pair.sessions pair.now pair.hears in
            receives_it row Rest is r memory (leaves (sends_none row Rest r.none))
        | inr none ↦ others_next row calm none may leaves
      ]
