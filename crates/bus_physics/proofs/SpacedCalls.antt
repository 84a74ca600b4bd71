-- Where a transfer ID of a member's calls to a node comes round, much time has passed, or one of them was answered.
use Rattle.std.proofs.Common.{◌≡◌, ℕ, zero, suc, ◌+◌, ◌*◌, ◌<◌, ◌≤◌, Bool, true, false, List, [], ◌∷◌, ◌++◌, length, refl, sym, ap, subst, ◌∙◌, arith, ◌⊎◌, inl, inr, None, append_assoc}
use Rattle.std.specs.Prelude.{⊤, ◌-◌, ◌%◌, ◌==◌, max, nat_eq, slice_index, slice_index_or, if◌then◌else◌}
use Rattle.std.proofs.lemmas.Bool.Decides.{eqb_tells, leb_tells}
use Rattle.std.proofs.lemmas.List.{length-replicate}
use Rattle.can_frame.specs.declared.identifier.Kind.{Kind}
use Rattle.can_frame.specs.declared.identifier.Kind.TheVariants.{Anonymous, Message as Broadcast, Request as RequestKind, Response}
use Rattle.cluster_discovery.specs.Members.{is_on_list}
use Rattle.outside.specs.declared.pattern.Pattern.{Pattern}
use Rattle.raft_core.specs.StoredPuts.{store_of}
use Rattle.raft_core.specs.Times.{Times, is_awaited, opened_times}
use Rattle.raft_log.specs.KeyDisk.{are_put, is_open_on, opening_on, puts_on}
use Rattle.raft_model.specs.Lists.{In}
use Rattle.raft_model.specs.Server.{Memory, Store}
use Rattle.bus_rows.specs.declared.row.Row.{Row}
use Rattle.bus_rows.specs.declared.row.Row.TheVariants.{AEnd, AOpen, ARx, ASend, ATick, Crash, Ext, Fault, Open as Opens, Rx, Send, Tick}
use Rattle.transfer_rx.specs.Reassembly.{Answer, Continues, Delivery, Drops, Gives, answer}
use Rattle.transfer_rx.specs.Sessions.{next_id}
use Rattle.transfer_tx.specs.Queue.{Queued}
use Rattle.alloc_spec.specs.Accepted.{setting_for}
use Rattle.alloc_spec.specs.AllocatorState.{AllocatorState, members_of}
use Rattle.alloc_spec.specs.Rules.{Rules, opening_by, times_with}
use Rattle.alloc_spec.specs.Step.{Event, after_pop, at_step, begin_phase, moment_of, step}
use Rattle.alloc_spec.specs.Step.Event.{Rx as Receives, Tick as Ticks}
use Rattle.alloc_spec.specs.StepState.{StepState}
use Rattle.alloc_spec.specs.Transfers.{Offer, SentTransfer, first_ids, number_of}
use Rattle.bus_spec.specs.Cluster.{Cluster, after_row, after_rows, cluster, frame_at, receipt_of, rules_of, tick_of, world_of}
use Rattle.bus_spec.specs.Lawful.{AreLawful, cause}
use Rattle.bus_spec.specs.Members.{Member, MemberStatus, after_crash, after_cut_off, after_failed_opening, after_opening, after_sending, member_after_step, puts_of, stopped_with, with_failure_armed, with_stop_armed}
use Rattle.bus_spec.specs.Members.MemberStatus.{Down, Failed, Up}
use Rattle.bus_spec.specs.Refinement.{transfers_of_offers, transfers_of_row, transfers_of_rows, transfers_of_step}
use Rattle.bus_agreement.specs.Said.{carrier}
use Rattle.bus_agreement.proofs.Lists.{in_front}
use Rattle.bus_agreement.proofs.OneRowMore.{lawful as one_more}
use Rattle.bus_agreement.proofs.MadeTransfers.{IsNew, made_by, made_when, newly_made, still_made}
use Rattle.bus_rows.specs.Timed.{Timed, rows_in}
use Rattle.bus_physics.specs.Physics.{HoldsAreShort, IsAnsweredSince, IsNotFast, IsResponseOf, Limits, WhereIts, Reading, Reads, ReadsAt, RestsBeforeOpening, heard_by, heard_in, joining_span, member_readings, now_in, row_of, time_of, lag}
use Rattle.bus_physics.proofs.AnswerOrder.{answerer}
use Rattle.bus_physics.proofs.Scheduled.{rows_of_more}
use Rattle.bus_physics.proofs.Now.{now_of_a_step}
use Rattle.bus_physics.proofs.Waking.{IsAwake}
use Rattle.bus_physics.proofs.StepCalls.{Behind, Called, Counted, IsAnswerOf, IsCall, IsMade, IsQuietAt, IsSpaced, Open, Since, calls_of_a_step, ids_to}
use Rattle.bus_physics.proofs.LawfulRows.{rows_joined}

one_up : (a b : AllocatorState) → Up a ≡ Up b → a ≡ b
one_up a b e = cc (e)

-- behind a call under one transfer ID so many were made, at most 30: the last one has neither that ID nor the one before
apart_ids : (last first more : ℕ) → more < 30 → (last + 1) % 32 ≡ (first + 1 + (more + 1)) % 32 → last < 32 → first < 32 → last ≡ first → ⊥
apart_ids last first more few next small small_too same = absurd (omega (arith, few, next, small, small_too, same))

apart_next : (last first more : ℕ) → more < 30 → (last + 1) % 32 ≡ (first + 1 + (more + 1)) % 32 → last < 32 → first < 32 → (last + 1) % 32 ≡ first → ⊥
apart_next last first more few next small small_too same = absurd (omega (arith, few, next, small, small_too, same))

module _ (append : Bool) (p width : ℕ) (P : ℕ → ℕ → Memory → Times → ℕ → Type 0) (is : IsSpaced append p width P) (small : p < 128) (n : ℕ) where
  -- ---- whether an event is an answer to them

  -- the event delivers an answer to a call in question
  abbrev pub Answers : Event → AllocatorState → Type 0
  Answers (Ticks now word) t = ⊥
  Answers (Receives arrival) t = (d : Delivery) × (answer (setting_for t.me) t.sessions (at_step t arrival) ≡ Gives d)
      × IsAnswerOf append p d (members_of t) t.raft_server t.times

  is_response : Kind → Bool
  is_response Broadcast = false
  is_response Anonymous = false
  is_response RequestKind = false
  is_response Response = true

  kind_is : (kind : Kind) → (kind ≡ Response) ⊎ (kind ≡ Response → ⊥)
  kind_is Broadcast = inr (λ e. absurd (cc (e)))
  kind_is Anonymous = inr (λ e. absurd (cc (e)))
  kind_is RequestKind = inr (λ e. absurd (cc (e)))
  kind_is Response = inl refl

  bool_is : (a b : Bool) → (a ≡ b) ⊎ (a ≡ b → ⊥)
  bool_is true true = inl refl
  bool_is true false = inr (λ e. absurd (cc (e)))
  bool_is false true = inr (λ e. absurd (cc (e)))
  bool_is false false = inl refl

  delivery_is : (d : Delivery) (t : AllocatorState) → IsAnswerOf append p d (members_of t) t.raft_server t.times
      ⊎ (IsAnswerOf append p d (members_of t) t.raft_server t.times → ⊥)
  delivery_is d t = elim (kind_is d.ident.kind) [
    | inr other ↦ inr (λ a. other a.kind)
    | inl kind ↦ elim (bool_is (is_on_list (members_of t) d.ident.source) true) [
      | inr other ↦ inr (λ a. other a.listed)
      | inl listed ↦ elim (bool_is (nat_eq d.ident.number 1) false) [
        | inr other ↦ inr (λ a. other a.other)
        | inl unlike ↦ elim (bool_is (nat_eq d.ident.number 30) append) [
          | inr other ↦ inr (λ a. other a.service)
          | inl service ↦ elim (eqb_tells p d.ident.source) [
            | inr other ↦ inr (λ a. other.1 a.from)
            | inl from ↦ elim (bool_is (is_awaited t.raft_server t.times d.ident.source append d.id) true) [
              | inr other ↦ inr (λ a. other a.awaited)
              | inl awaited ↦ inl (record { listed = listed; kind = kind; other = unlike; service = service; from = from.1; awaited = awaited })
            ]
          ]
        ]
      ]
    ]
  ]

  event_is : (event : Event) (t : AllocatorState) → Answers event t ⊎ (Answers event t → ⊥)
  event_is (Ticks now word) t = inr (λ a. a)
  event_is (Receives arrival) t = by (answer (setting_for t.me) t.sessions (at_step t arrival)) refl where
    by : (got : Answer) → answer (setting_for t.me) t.sessions (at_step t arrival) ≡ got → Answers (Receives arrival) t ⊎ (Answers (Receives arrival) t → ⊥)
    by (Gives d) e = elim (delivery_is d t) [
      | inl a ↦ inl (d, e, a)
      | inr none ↦ inr (λ a. none (subst (λ (x : Delivery). IsAnswerOf append p x (members_of t) t.raft_server t.times) (one a.0 d (sym a.1 ∙ e)) a.2))
    ]
      where
        one : (x y : Delivery) → Gives x ≡ Gives y → x ≡ y
        one x y f = cc (f)
    by Continues e = inr (λ a. absurd (cc (sym a.1 ∙ e)))
    by (Drops why) e = inr (λ a. absurd (cc (sym a.1 ∙ e)))

  -- ---- what is known of the calls that were made

  pub record IsCallTo (x : SentTransfer) : Type 0 where
    pub by : x.by ≡ n
    pub what : x.offer.what ≡ carrier append
    pub to : x.offer.to ≡ p

  -- a response to the call was made, under its transfer ID
  pub record IsResponded (made : List SentTransfer) (call : SentTransfer) : Type 0 where
    pub response : SentTransfer
    pub was_made : In response made
    pub by : response.by ≡ p
    pub what : response.offer.what ≡ answerer append
    pub to : response.offer.to ≡ n
    pub re : response.offer.re ≡ call.step
    pub id : response.offer.id ≡ call.offer.id

  -- no call was made later
  abbrev pub IsLast : List SentTransfer → SentTransfer → Type 0
  IsLast made call = (x : SentTransfer) → In x made → IsCallTo x → x.step ≤ call.step

  -- none was made later than one to which an answer was heard
  pub record IsHeard (made : List SentTransfer) (heard : List Queued) (step : ℕ) : Type 0 where
    pub later : SentTransfer
    pub was_made : In later made
    pub answer : Queued
    pub came : In answer heard
    pub response : (x : SentTransfer) → IsCallTo x → IsResponseOf (number_of x.offer.what) x.offer.to x.by answer
    pub answers : answer.mark.re ≡ later.step
    pub last : IsLast made later
    pub call : IsCallTo later
    pub responded : IsResponded made later

  -- one behind it was answered, under a transfer ID that is neither its own nor the one before; of its step that is so
  pub record IsParting (made : List SentTransfer) (heard : List Queued) (first : SentTransfer) (Before : ℕ → Type 0) : Type 0 where
    pub later : SentTransfer
    pub was_made : In later made
    pub after : first.step < later.step
    pub answer : Queued
    pub came : In answer heard
    pub answered : IsResponseOf (number_of first.offer.what) first.offer.to first.by answer
    pub answers : answer.mark.re ≡ later.step
    pub responded : IsResponded made later
    pub other : nat_eq later.offer.id first.offer.id ≡ false
    pub not_before : nat_eq (next_id later.offer.id) first.offer.id ≡ false
    pub before : Before later.step

  module _ (limits : Limits) (all : List Timed) where
    -- a call was made later
    abbrev pub IsFollowed : List SentTransfer → SentTransfer → Type 0
    IsFollowed made x = (y : SentTransfer) × (In y made) × (IsCallTo y) × (x.step < y.step)

    -- since the call so many were made, and its moment is that of a reading
    pub record Waits (made : List SentTransfer) (past : List Reading) (t : AllocatorState) (x : SentTransfer) : Type 0 where
      pub moment : ℕ
      pub reading : In (record { at = time_of all x.step; now = moment; opens = false }) past
      pub more : ℕ
      pub since : Since append p P x.offer.id moment more t.raft_server.memory t.times t.ids t.now
      pub followed : 1 ≤ more → IsFollowed made x
      pub last : (z : SentTransfer) → In z made → IsCallTo z → x.step < z.step → IsLast made z → slice_index (ids_to append t.ids) p ≡ (z.offer.id + 1) % 32

    -- one behind it was answered at last, and so much time has passed
    pub record WaitedLong (made : List SentTransfer) (heard : List Queued) (past : List Reading) (t : AllocatorState) (x : SentTransfer) : Type 0 where
      pub answered : IsAnsweredSince made heard x
      pub moment : ℕ
      pub reading : In (record { at = time_of all x.step; now = moment; opens = false }) past
      pub passed : moment + 18000 ≤ t.now

    -- one behind it was answered, or it is long ago, or the member rested since, before it was opened at this time
    abbrev pub IsSettledNow : List SentTransfer → List Queued → SentTransfer → Type 0
    IsSettledNow made heard x = IsParting made heard x (λ s. ⊤) ⊎ (time_of all x.step < limits.since)

    abbrev pub IsEnded : List SentTransfer → List Queued → ℕ → SentTransfer → Type 0
    IsEnded made heard at x = IsSettledNow made heard x ⊎ (time_of all x.step + limits.rest ≤ at)

    pub record Runs (made : List SentTransfer) (heard : List Queued) (past : List Reading) (t : AllocatorState) : Type 0 where
      pub wait : t.times.since ≤ t.now
      pub room : p < length (ids_to append t.ids)
      -- the reading of its opening
      pub opening : Reading
      pub opens : opening.opens ≡ true
      pub reading : In opening past
      pub awake : IsAwake opening.now t.raft_server.memory t.times t.now
      pub each : (x : SentTransfer) → In x made → IsCallTo x → IsEnded made heard opening.at x ⊎ (WaitedLong made heard past t x ⊎ Waits made past t x)

    abbrev pub RunsWhereUp : List SentTransfer → List Queued → List Reading → MemberStatus → Type 0
    RunsWhereUp made heard past status = (t : AllocatorState) → status ≡ Up t → Runs made heard past t

    -- frames of one are held no more when the other is made, nor are their answers; and they are not put together
    abbrev pub AreFar : ℕ → ℕ → Type 0
    AreFar first second = (first + 2 * limits.hold < second) × (first + joining_span limits (lag limits) < second)

    abbrev pub IsSettled : List SentTransfer → List Queued → SentTransfer → SentTransfer → Type 0
    IsSettled made heard x y = AreFar (time_of all x.step) (time_of all y.step)
        ⊎ ((IsAnsweredSince made heard x × (time_of all x.step + joining_span limits (lag limits) < time_of all y.step))
        ⊎ (IsParting made heard x (λ s. s < y.step) ⊎ (time_of all x.step < limits.since)))

    abbrev pub AreSettled : List SentTransfer → List Queued → Type 0
    AreSettled made heard = (x y : SentTransfer) → In x made → In y made → IsCallTo x → IsCallTo y → x.offer.id ≡ y.offer.id → x.step < y.step
        → IsSettled made heard x y

    -- what was answered stays so
    answered_more : (made more : List SentTransfer) (heard further : List Queued) → ((x : SentTransfer) → In x made → In x more)
        → ((f : Queued) → In f heard → In f further) → (x : SentTransfer) → IsAnsweredSince made heard x → IsAnsweredSince more further x
    answered_more made more heard further grows hears x a = record {
      later = a.later;
      was_made = grows a.later a.was_made;
      after = a.after;
      answer = a.answer;
      came = hears a.answer a.came;
      is = a.is;
      answers = a.answers;
    }

    parting_more : (made more : List SentTransfer) (heard further : List Queued) → ((x : SentTransfer) → In x made → In x more)
        → ((f : Queued) → In f heard → In f further) → (x : SentTransfer) (Before Then : ℕ → Type 0)
        → ((z : SentTransfer) → In z made → Before z.step → Then z.step) → IsParting made heard x Before → IsParting more further x Then
    parting_more made more heard further grows hears x Before Then so a = record {
      later = a.later;
      was_made = grows a.later a.was_made;
      after = a.after;
      answer = a.answer;
      came = hears a.answer a.came;
      answered = a.answered;
      answers = a.answers;
      responded = record {
        response = a.responded.response;
        was_made = grows a.responded.response a.responded.was_made;
        by = a.responded.by;
        what = a.responded.what;
        to = a.responded.to;
        re = a.responded.re;
        id = a.responded.id;
      };
      other = a.other;
      not_before = a.not_before;
      before = so a.later a.was_made a.before;
    }

    settled_now_more : (made more : List SentTransfer) (heard further : List Queued) → ((x : SentTransfer) → In x made → In x more)
        → ((f : Queued) → In f heard → In f further) → (x : SentTransfer) → IsSettledNow made heard x → IsSettledNow more further x
    settled_now_more made more heard further grows hears x (inl a) = inl (parting_more made more heard further grows hears x (λ s. ⊤) (λ s. ⊤) (λ z i k. k) a)
    settled_now_more made more heard further grows hears x (inr old) = inr old

    settled_more : (made more : List SentTransfer) (heard further : List Queued) → ((x : SentTransfer) → In x made → In x more)
        → ((f : Queued) → In f heard → In f further) → (x y : SentTransfer) → IsSettled made heard x y → IsSettled more further x y
    settled_more made more heard further grows hears x y (inl far) = inl far
    settled_more made more heard further grows hears x y (inr (inl late)) = inr (inl (answered_more made more heard further grows hears x late.0, late.1))
    settled_more made more heard further grows hears x y (inr (inr (inl parted))) =
        inr (inr (inl (parting_more made more heard further grows hears x (λ s. s < y.step) (λ s. s < y.step) (λ z i k. k) parted)))
    settled_more made more heard further grows hears x y (inr (inr (inr old))) = inr (inr (inr old))

    followed_more : (made more : List SentTransfer) → ((x : SentTransfer) → In x made → In x more) → (x : SentTransfer) → IsFollowed made x → IsFollowed more x
    followed_more made more grows x f = (f.0, grows f.0 f.1, f.2, f.3)

    answered_by : (made : List SentTransfer) (heard : List Queued) (step : ℕ) → IsHeard made heard step → (x : SentTransfer) → IsCallTo x → IsFollowed made x
        → IsAnsweredSince made heard x
    answered_by made heard step h x call f = record {
      later = h.later;
      was_made = h.was_made;
      after = omega (arith, h.last f.0 f.1 f.2, f.3);
      answer = h.answer;
      came = h.came;
      is = h.response x call;
      answers = h.answers;
    }

    -- ---- a step of the member

    module _ (short : HoldsAreShort limits) (wide : 20000 ≤ width) (made : List SentTransfer) (heard further : List Queued)
        (hears : (f : Queued) → In f heard → In f further) (past : List Reading) (rows came : ℕ) (its_time : time_of all (rows + 1) ≡ came)
        (earlier : (x : SentTransfer) → In x made → x.step ≤ rows) (small_ids : (x : SentTransfer) → In x made → x.offer.id < 32) (t : AllocatorState) (runs : Runs made heard past t)
        (settled : AreSettled made heard) (event : Event)
        (slow : IsNotFast limits past came (max t.now (moment_of event)))
        (heard_it : Answers event (begin_phase (rows + 1) (moment_of event) t).allocator → IsHeard made further (rows + 1)) where
      abbrev number : ℕ
      number = rows + 1

      abbrev begun : StepState
      begun = begin_phase number (moment_of event) t

      abbrev g : StepState
      g = (step t number event).step_state

      abbrev later_past : List Reading
      later_past = record { at = came; now = max t.now (moment_of event); opens = false } ∷ past

      -- a call behind which so many were made, none where the event is an answer
      pub record Past (id M b : ℕ) : Type 0 where
        pub x : SentTransfer
        pub there : In x made
        pub call : IsCallTo x
        pub same : x.offer.id ≡ id
        pub waits : Waits made past t x
        pub moment : waits.moment ≡ M
        pub more : waits.more ≡ b
        pub silent : Answers event begun.allocator → b ≡ 0

      opened : Open append p width P is number runs.opening.now Past t.raft_server.memory t.times t.ids t.now
      opened = record {
        wait = runs.wait;
        awake = runs.awake;
        room = runs.room;
        past = λ id M b i. subst (λ (k : ℕ). Since append p P k M b t.raft_server.memory t.times t.ids t.now) i.same
            (subst (λ (k : ℕ). Since append p P i.x.offer.id k b t.raft_server.memory t.times t.ids t.now) i.moment
            (subst (λ (k : ℕ). Since append p P i.x.offer.id i.waits.moment k t.raft_server.memory t.times t.ids t.now) i.more i.waits.since));
      }

      quiet : (e : Event) → event ≡ e → IsQuietAt append p width P is number runs.opening.now Past e begun
      quiet (Ticks now word) e = tt
      quiet (Receives arrival) e = λ d gives answers id M b i. i.silent (subst (λ (x : Event). Answers x begun.allocator) (sym e) (d, gives, answers))

      called : Called append p width P is number runs.opening.now Past g.allocator.raft_server.memory g.allocator.times g.allocator.ids g.allocator.now g.offers
      called = calls_of_a_step append p width P is number runs.opening.now Past t event opened (quiet event refl)

      abbrev more : List SentTransfer
      more = transfers_of_offers number n g.offers made

      grows : (x : SentTransfer) → In x made → In x more
      grows x i = still_made number n g.offers made x i

      new_call : (x : SentTransfer) (new : IsNew number n g.offers x) → IsCallTo x → IsCall append p width P is number runs.opening.now Past new.offer
      new_call x new call =
          let same : x.offer ≡ new.offer = ap (λ (y : SentTransfer). y.offer) new.is in
          record {
            what = ap (λ (o : Offer). o.what) (sym same) ∙ call.what;
            to = ap (λ (o : Offer). o.to) (sym same) ∙ call.to;
            fitted = new.fitted;
          }

      now_is : g.allocator.now ≡ max t.now (moment_of event)
      now_is = now_of_a_step t number event

      now_later : t.now ≤ g.allocator.now
      now_later = subst (λ (m : ℕ). t.now ≤ m) (sym now_is) (grind arith)

      -- a call of this step follows each earlier one
      follows : (x : SentTransfer) → In x made → IsMade append p width P is number runs.opening.now Past g.offers → IsFollowed more x
      follows x i is_made = (
        made_by number n is_made.0,
        newly_made number n g.offers made is_made.0 is_made.1 is_made.2.fitted,
        record { by = refl; what = is_made.2.what; to = is_made.2.to },
        omega (arith, earlier x i),
      )

      -- an answer that is heard ends what waited, but for the last call
      decided : (x : SentTransfer) → In x made → IsCallTo x → (w : Waits made past t x)
          → (IsParting made further x (λ s. ⊤) ⊎ WaitedLong made further past t x) ⊎ (Answers event begun.allocator → w.more ≡ 0)
      decided x i call w = elim (event_is event begun.allocator) [ inr silent ↦ inr (λ answers. absurd (silent answers)) | inl answers ↦ by answers w.more refl ]
        where
          by : Answers event begun.allocator → (b : ℕ) → w.more ≡ b
              → (IsParting made further x (λ s. ⊤) ⊎ WaitedLong made further past t x) ⊎ (Answers event begun.allocator → w.more ≡ 0)
          by answers zero e = inr (λ a. e)
          by answers (suc b) e = inl (elim (leb_tells 30 b) [ inr few ↦ inl (parts (omega (arith, few.1))) | inl many ↦ inr (long many.1) ])
            where
              h : IsHeard made further number
              h = heard_it answers

              followed : IsFollowed made x
              followed = w.followed (omega (arith, e))

              after : x.step < h.later.step
              after = omega (arith, h.last followed.0 followed.1 followed.2, followed.3)

              -- the transfer ID that comes next, behind the last call, and by how many were made
              next : (h.later.offer.id + 1) % 32 ≡ (x.offer.id + 1 + (b + 1)) % 32
              next = sym (w.last h.later h.was_made h.call after h.last) ∙ (w.since.next ∙ ap (λ (k : ℕ). (x.offer.id + 1 + k) % 32) (e ∙ omega arith))

              differs : (m k : ℕ) → (m ≡ k → ⊥) → nat_eq m k ≡ false
              differs m k apart = elim (eqb_tells m k) [ inl same ↦ absurd (apart same.1) | inr other ↦ other.0 ]

              parts : b < 30 → IsParting made further x (λ s. ⊤)
              parts few = record {
                later = h.later;
                was_made = h.was_made;
                after = after;
                answer = h.answer;
                came = h.came;
                answered = h.response x call;
                answers = h.answers;
                responded = h.responded;
                other = differs h.later.offer.id x.offer.id
                    (λ same. apart_ids h.later.offer.id x.offer.id b few next (small_ids h.later h.was_made) (small_ids x i) same);
                not_before = differs (next_id h.later.offer.id) x.offer.id
                    (λ same. apart_next h.later.offer.id x.offer.id b few next (small_ids h.later h.was_made) (small_ids x i) same);
                before = tt;
              }

              went : (k : ℕ) → w.more ≡ k → Behind P w.moment k t.raft_server.memory t.times t.now → 31 ≤ k → w.moment + 18000 ≤ t.now
              went zero e_ behind many = absurd (omega (arith, many))
              went (suc k) e_ behind many = omega (arith, behind.1, is.passed behind.0 k t.raft_server.memory t.times t.now behind.2 (omega (arith, many)))

              long : 30 ≤ b → WaitedLong made further past t x
              long many = record {
                answered = answered_by made further number h x call followed;
                moment = w.moment;
                reading = w.reading;
                passed = went w.more refl w.since.spaced (omega (arith, many, e));
              }

      past_of : (x : SentTransfer) → In x made → IsCallTo x → (w : Waits made past t x) → (Answers event begun.allocator → w.more ≡ 0)
          → Past x.offer.id w.moment w.more
      past_of x i call w silent = record { x = x; there = i; call = call; same = refl; waits = w; moment = refl; more = refl; silent = silent }

      pub runs_then : Runs more further later_past g.allocator
      runs_then = record {
        wait = called.wait;
        room = called.room;
        opening = runs.opening;
        opens = runs.opens;
        reading = inr runs.reading;
        awake = called.awake;
        each = λ x i call. by x call (made_when number n g.offers made x i);
      }
        where
          goes_on : (x : SentTransfer) → In x made → IsCallTo x → (w : Waits made past t x) → (Answers event begun.allocator → w.more ≡ 0)
              → Waits more later_past g.allocator x
          goes_on x i call w silent = record {
            moment = w.moment;
            reading = inr w.reading;
            more = counted.more;
            since = counted.since;
            followed = by counted.made;
            last = λ z j c later_ newest. by_call z c later_ newest (made_when number n g.offers made z j) counted.made;
          }
            where
              counted : Counted append p width P is number runs.opening.now Past x.offer.id w.moment w.more
                  g.allocator.raft_server.memory g.allocator.times g.allocator.ids g.allocator.now g.offers
              counted = called.past x.offer.id w.moment w.more (past_of x i call w silent)

              -- what comes next is that behind the last call
              by_call : (z : SentTransfer) → IsCallTo z → x.step < z.step → IsLast more z → In z made ⊎ IsNew number n g.offers z
                  → (counted.more ≡ w.more) ⊎ IsMade append p width P is number runs.opening.now Past g.offers
                  → slice_index (ids_to append g.allocator.ids) p ≡ (z.offer.id + 1) % 32
              by_call z c later_ newest (inr new) made_ =
                  (called.own new.offer new.offered (new_call z new c)).next ∙ omega (arith, ap (λ (y : SentTransfer). y.offer.id) new.is)
              by_call z c later_ newest (inl j) (inl same) =
                  counted.since.next ∙ (ap (λ (k : ℕ). (x.offer.id + 1 + k) % 32) same ∙ (sym w.since.next
                  ∙ w.last z j c later_ (λ y l d. newest y (grows y l) d)))
              by_call z c later_ newest (inl j) (inr is_made) = let f = follows z j is_made in absurd (omega (arith, newest f.0 f.1 f.2, f.3))

              by : (counted.more ≡ w.more) ⊎ IsMade append p width P is number runs.opening.now Past g.offers → 1 ≤ counted.more → IsFollowed more x
              by (inl same) some = followed_more made more grows x (w.followed (omega (arith, some, same)))
              by (inr is_made) some = follows x i is_made

          long : (x : SentTransfer) → {heard_ : List Queued} → ((f : Queued) → In f heard_ → In f further) → {made_ : List SentTransfer}
              → ((y : SentTransfer) → In y made_ → In y more) → WaitedLong made_ heard_ past t x → WaitedLong more further later_past g.allocator x
          long x {heard_} hears_ {made_} grows_ w = record {
            answered = answered_more made_ more heard_ further grows_ hears_ x w.answered;
            moment = w.moment;
            reading = inr w.reading;
            passed = omega (arith, w.passed, now_later);
          }

          old : (x : SentTransfer) → In x made → IsCallTo x → IsEnded made heard runs.opening.at x ⊎ (WaitedLong made heard past t x ⊎ Waits made past t x)
              → IsEnded more further runs.opening.at x ⊎ (WaitedLong more further later_past g.allocator x ⊎ Waits more later_past g.allocator x)
          old x i call (inl (inl a)) = inl (inl (settled_now_more made more heard further grows hears x a))
          old x i call (inl (inr rested)) = inl (inr rested)
          old x i call (inr (inl w)) = inr (inl (long x hears grows w))
          old x i call (inr (inr w)) = elim (decided x i call w) [
            | inl (inl a) ↦ inl (inl (inl (parting_more made more further further grows (λ f j. j) x (λ s. ⊤) (λ s. ⊤) (λ z j k. k) a)))
            | inl (inr w_) ↦ inr (inl (long x (λ f j. j) grows w_))
            | inr silent ↦ inr (inr (goes_on x i call w silent))
          ]

          new_step : (z : SentTransfer) → IsNew number n g.offers z → z.step ≡ number
          new_step z new = ap (λ (y : SentTransfer). y.step) new.is

          no_later : (z : SentTransfer) → In z made ⊎ IsNew number n g.offers z → z.step ≤ number
          no_later z (inl j) = omega (arith, earlier z j)
          no_later z (inr new) = omega (arith, new_step z new)

          by : (x : SentTransfer) → IsCallTo x → In x made ⊎ IsNew number n g.offers x
              → IsEnded more further runs.opening.at x ⊎ (WaitedLong more further later_past g.allocator x ⊎ Waits more later_past g.allocator x)
          by x call (inl i) = old x i call (runs.each x i call)
          by x call (inr new) = inr (inr (record {
            moment = g.allocator.now;
            reading = inl (ap (λ (k : ℕ). record { at = time_of all k; now = g.allocator.now; opens = false }) (ap (λ (y : SentTransfer). y.step) new.is)
                ∙ (ap (λ (k : ℕ). record { at = k; now = g.allocator.now; opens = false }) its_time ∙ ap (λ (k : ℕ). record { at = came; now = k; opens = false }) now_is));
            more = 0;
            since = subst (λ (o : Offer). Since append p P o.id g.allocator.now 0 g.allocator.raft_server.memory g.allocator.times g.allocator.ids g.allocator.now)
                (ap (λ (y : SentTransfer). y.offer) (sym new.is)) (called.own new.offer new.offered (new_call x new call));
            followed = λ some. absurd (omega (arith, some));
            last = λ z j c later_. absurd (omega (arith, later_, new_step x new, no_later z (made_when number n g.offers made z j)));
          }))

      pub settled_then : AreSettled more further
      settled_then x y i j called_first called_too id less = by (made_when number n g.offers made x i) (made_when number n g.offers made y j) where
        step_of : (z : SentTransfer) → IsNew number n g.offers z → z.step ≡ number
        step_of z new = ap (λ (y : SentTransfer). y.step) new.is

        -- so much went by on the member's clock, and so on a true one
        went : (moment by span : ℕ) → In (record { at = time_of all x.step; now = moment; opens = false }) past → moment + by ≤ g.allocator.now
            → span + lag limits < by → by ≤ 60000 → limits.since ≤ time_of all x.step → time_of all x.step + span < came
        went moment by span reading passed enough minute recent = elim (leb_tells came (time_of all x.step + 60000)) [
          | inr long ↦ omega (arith, long.1, enough, minute)
          | inl soon ↦ omega (arith, slow (record { at = time_of all x.step; now = moment; opens = false }) reading recent soon.1, passed, now_is, enough)
        ]

        -- it rested before it was opened, and 2,000 ms have passed since
        rested_for : (span : ℕ) → span + limits.drift < limits.rest + 2000 → time_of all x.step + limits.rest ≤ runs.opening.at → runs.opening.now + 2000 ≤ g.allocator.now
            → limits.since ≤ time_of all x.step → time_of all x.step + span < came
        rested_for span enough rested passed recent = elim (leb_tells came (runs.opening.at + 60000)) [
          | inr long ↦ omega (arith, long.1, rested, enough)
          | inl soon ↦ omega (
            arith,
            slow runs.opening runs.reading (omega (arith, recent, rested)) soon.1,
            ap (λ (b : Bool). if b then limits.drift else lag limits) runs.opens,
            passed,
            now_is,
            rested,
            enough,
            short.clock,
          )
        ]

        -- at the time of the step, or it is long ago
        at_time : IsNew number n g.offers y → (Q : ℕ → Type 0) → Q came → Q (time_of all y.step)
        at_time new Q q = subst Q (sym its_time ∙ ap (time_of all) (sym (step_of y new))) q

        by_recency : (limits.since ≤ time_of all x.step → IsSettled more further x y) → IsSettled more further x y
        by_recency settle = elim (leb_tells limits.since (time_of all x.step)) [ inl recent ↦ settle recent.1 | inr long_ago ↦ inr (inr (inr (omega (arith, long_ago.1)))) ]

        joins : joining_span limits (lag limits) + lag limits < 18000
        joins = omega (arith, short.round, short.clock)

        waited : IsNew number n g.offers y → WaitedLong more further past t x → IsSettled more further x y
        waited new w = by_recency (λ recent. inr (inl (
          w.answered,
          at_time new (λ (m : ℕ). time_of all x.step + joining_span limits (lag limits) < m)
              (went w.moment 18000 (joining_span limits (lag limits)) w.reading (omega (arith, w.passed, now_later)) joins (omega arith) recent),
        )))

        parted : IsNew number n g.offers y → {heard_ : List Queued} → ((f : Queued) → In f heard_ → In f further) → IsParting made heard_ x (λ s. ⊤) → IsSettled more further x y
        parted new {heard_} hears_ a = inr (inr (inl (parting_more made more heard_ further grows hears_ x (λ s. ⊤) (λ s. s < y.step)
            (λ z j k. omega (arith, earlier z j, step_of y new)) a)))

        ended : (k : In x made) → (new : IsNew number n g.offers y) → IsEnded made heard runs.opening.at x → IsSettled more further x y
        ended k new (inl (inl a)) = parted new hears a
        ended k new (inl (inr long_ago)) = inr (inr (inr long_ago))
        ended k new (inr rested) = by_recency (λ recent. inl (
          at_time new (λ (m : ℕ). time_of all x.step + 2 * limits.hold < m) (rested_for (2 * limits.hold) (omega (arith, short.rested)) rested over recent),
          at_time new (λ (m : ℕ). time_of all x.step + joining_span limits (lag limits) < m)
              (rested_for (joining_span limits (lag limits)) (omega (arith, short.joined)) rested over recent),
        ))
          where
            over : runs.opening.now + 2000 ≤ g.allocator.now
            over = called.over new.offer new.offered (new_call y new called_too)

        silent_still : (k : In x made) (new : IsNew number n g.offers y) (w : Waits made past t x) → (Answers event begun.allocator → w.more ≡ 0) → IsSettled more further x y
        silent_still k new w silent = by_recency (λ recent. inl (
          at_time new (λ (m : ℕ). time_of all x.step + 2 * limits.hold < m)
              (went w.moment 20000 (2 * limits.hold) w.reading (omega (arith, passed, wide)) (omega (arith, short.round)) (omega arith) recent),
          at_time new (λ (m : ℕ). time_of all x.step + joining_span limits (lag limits) < m)
              (went w.moment 18000 (joining_span limits (lag limits)) w.reading (omega (arith, passed, wide)) joins (omega arith) recent),
        ))
          where
            passed : w.moment + width ≤ g.allocator.now
            passed = called.far x.offer.id w.moment w.more (past_of x k called_first w silent)
                new.offer new.offered (new_call y new called_too) (ap (λ (z : SentTransfer). z.offer.id) (sym new.is) ∙ sym id)

        old : In x made → IsNew number n g.offers y → IsEnded made heard runs.opening.at x ⊎ (WaitedLong made heard past t x ⊎ Waits made past t x) → IsSettled more further x y
        old k new (inl over) = ended k new over
        old k new (inr (inl w)) = waited new (record {
          answered = answered_more made more heard further grows hears x w.answered;
          moment = w.moment;
          reading = w.reading;
          passed = w.passed;
        })
        old k new (inr (inr w)) = elim (decided x k called_first w) [
          | inl (inl a) ↦ parted new (λ f j. j) a
          | inl (inr w_) ↦ waited new (record {
            answered = answered_more made more further further grows (λ f j. j) x w_.answered;
            moment = w_.moment;
            reading = w_.reading;
            passed = w_.passed;
          })
          | inr silent ↦ silent_still k new w silent
        ]

        by : In x made ⊎ IsNew number n g.offers x → In y made ⊎ IsNew number n g.offers y → IsSettled more further x y
        by (inl k) (inl l) = settled_more made more heard further grows hears x y (settled x y k l called_first called_too id less)
        by (inl k) (inr new) = old k new (runs.each x k called_first)
        by (inr new) (inl l) = absurd (omega (arith, less, step_of x new, earlier y l))
        by (inr new) (inr other) = absurd (omega (arith, less, step_of x new, step_of y other))

    -- ---- any row

    module _ (w : Cluster) (made : List SentTransfer) (heard : List Queued) (past : List Reading) (came : ℕ) (its_time : time_of all (w.rows + 1) ≡ came)
        (earlier : (x : SentTransfer) → In x made → x.step ≤ w.rows) (small_ids : (x : SentTransfer) → In x made → x.offer.id < 32)
        (rests : RestsBeforeOpening limits all made n)
        (runs : RunsWhereUp made heard past (w.member n).status) (settled : AreSettled made heard) where
      pub record Next (more : List SentTransfer) (further : List Queued) (past_then : List Reading) (status : MemberStatus) : Type 0 where
        pub running : RunsWhereUp more further past_then status
        pub apart : AreSettled more further

      module _ (more : List SentTransfer) (further : List Queued) (grows : (x : SentTransfer) → In x made → In x more)
          (hears : (f : Queued) → In f heard → In f further) (only : (x : SentTransfer) → In x more → IsCallTo x → In x made) where
        settled_still : AreSettled more further
        settled_still x y i j c d id less = settled_more made more heard further grows hears x y (settled x y (only x i c) (only y j d) c d id less)

        kept : (t : AllocatorState) → Runs made heard past t → Runs more further past t
        kept t r = record {
          wait = r.wait;
          room = r.room;
          opening = r.opening;
          opens = r.opens;
          reading = r.reading;
          awake = r.awake;
          each = λ x i c. by x (r.each x (only x i c) c);
        }
          where
            by : (x : SentTransfer) → IsEnded made heard r.opening.at x ⊎ (WaitedLong made heard past t x ⊎ Waits made past t x)
                → IsEnded more further r.opening.at x ⊎ (WaitedLong more further past t x ⊎ Waits more past t x)
            by x (inl (inl a)) = inl (inl (settled_now_more made more heard further grows hears x a))
            by x (inl (inr rested)) = inl (inr rested)
            by x (inr (inl v)) = inr (inl (record {
              answered = answered_more made more heard further grows hears x v.answered;
              moment = v.moment;
              reading = v.reading;
              passed = v.passed;
            }))
            by x (inr (inr v)) = inr (inr (record {
              moment = v.moment;
              reading = v.reading;
              more = v.more;
              since = v.since;
              followed = λ some. followed_more made more grows x (v.followed some);
              last = λ z j c later newest. v.last z (only z j c) c later (λ y l d. newest y (grows y l) d);
            }))

        -- its status stays
        still : (status : MemberStatus) → ((u : AllocatorState) → status ≡ Up u → (w.member n).status ≡ Up u) → Next more further past status
        still status same = record { running = λ u up. kept u (runs u (same u up)); apart = settled_still }

      -- it hears nothing new, and makes nothing
      unchanged : (status : MemberStatus) → ((u : AllocatorState) → status ≡ Up u → (w.member n).status ≡ Up u) → Next made (heard ++ []) past status
      unchanged status same = still made (heard ++ []) (λ x i. i) (λ f i. in_front f heard [] i) (λ x i c. i) status same

      is_same : (m : ℕ) → (n == m) ≡ true → n ≡ m
      is_same m e = elim (eqb_tells n m) [ inl s ↦ s.1 | inr apart ↦ absurd (cc (sym apart.0 ∙ e)) ]

      is_other : (m : ℕ) → (n == m) ≡ false → m ≡ n → ⊥
      is_other m e same = elim (eqb_tells n m) [ inl s ↦ absurd (cc (sym e ∙ s.0)) | inr apart ↦ apart.1 (sym same) ]

      -- ---- an opening

      zeros : (a : Bool) → p < length (ids_to a first_ids)
      zeros true = omega (arith, small, length-replicate {A = ℕ} 128 0)
      zeros false = omega (arith, small, length-replicate {A = ℕ} 128 0)

      wait_begun : (nodes : List ℕ) (ms word : ℕ) → (times_with nodes (opened_times ms word)).since ≡ ms
      wait_begun [] ms word = refl
      wait_begun (node ∷ nodes) ms word = refl

      fresh : (m : ℕ) → n ≡ m → (told : Bool) (ms word : ℕ) → row_of all (w.rows + 1) ≡ Opens m told ms word → (rules : Rules) (store : Store) (u : AllocatorState)
          → opening_by m rules store ms word ≡ u → Runs made (heard ++ []) (record { at = came; now = ms; opens = true } ∷ []) u
      fresh m same told ms word row rules store u is_it =
          subst (λ (v : AllocatorState). Runs made (heard ++ []) (record { at = came; now = ms; opens = true } ∷ []) v) is_it (record {
            wait = omega (arith, wait_begun rules.told ms word);
            room = zeros append;
            opening = record { at = came; now = ms; opens = true };
            opens = refl;
            reading = inl refl;
            awake = record { wait = omega (arith, wait_begun rules.told ms word); follows = inl refl };
            each = λ x i c. elim (leb_tells limits.since (time_of all x.step)) [
              | inl recent ↦ inl (inr (subst (λ (at : ℕ). time_of all x.step + limits.rest ≤ at) its_time
                  (rests x (w.rows + 1) told ms word i c.by recent.1 (omega (arith, earlier x i)) (row ∙ ap (λ (k : ℕ). Opens k told ms word) (sym same)))))
              | inr old ↦ inl (inl (inr (omega (arith, old.1))))
            ];
          })

      opened_row : (m : ℕ) (told : Bool) (ms word : ℕ) → row_of all (w.rows + 1) ≡ Opens m told ms word → (rules : Rules) (same : Bool) → (n == m) ≡ same
          → Next made (heard ++ []) (if same then record { at = came; now = ms; opens = true } ∷ [] else past)
          (if same then after_opening m rules ms word (w.member m) else w.member n).status
      opened_row m told ms word row rules false e = unchanged (w.member n).status (λ u up. up)
      opened_row m told ms word row rules true e = record {
        running = λ u up. by u (is_open_on (w.member m).disk) up;
        apart = settled_still made (heard ++ []) (λ x i. i) (λ f i. in_front f heard [] i) (λ x i c. i);
      }
        where
          by : (u : AllocatorState) (b : Bool) → (if b then record (w.member m) {
            status = Up (opening_by m rules (store_of (opening_on (w.member m).disk).store) ms word);
            disk = opening_on (w.member m).disk;
          } else after_failed_opening (w.member m) (opening_on (w.member m).disk)).status ≡ Up u
              → Runs made (heard ++ []) (record { at = came; now = ms; opens = true } ∷ []) u
          by u true up = fresh m (is_same m e) told ms word row rules (store_of (opening_on (w.member m).disk).store) u (one_up _ u up)
          by u false up = absurd (failed (opening_on (w.member m).disk).calls.stopped up) where
            failed : (b : Bool) → (if b then stopped_with (w.member m).pattern (opening_on (w.member m).disk) (w.member m)
                else record (w.member m) { status = Down; disk = opening_on (w.member m).disk }).status ≡ Up u → ⊥
            failed true f = absurd (cc (f))
            failed false f = absurd (cc (f))

      -- ---- a step

      -- one of another member makes no call of this one
      stepped_other : (m : ℕ) → (m ≡ n → ⊥) → (event : Event) (status : MemberStatus) (y : Member) (further : List Queued) → ((f : Queued) → In f heard → In f further)
          → Next (transfers_of_step (w.rows + 1) m event status y made) further past (w.member n).status
      stepped_other m other event Down y further hears = still made further (λ x i. i) hears (λ x i c. i) (w.member n).status (λ u up. up)
      stepped_other m other event (Failed failure) y further hears = still made further (λ x i. i) hears (λ x i c. i) (w.member n).status (λ u up. up)
      stepped_other m other event (Up t) y further hears = by (are_put (puts_of y g) y.disk.calls) where
        g : StepState
        g = (step t (w.rows + 1) event).step_state

        by : (b : Bool) → Next (if b then transfers_of_offers (w.rows + 1) m g.offers made else made) further past (w.member n).status
        by false = still made further (λ x i. i) hears (λ x i c. i) (w.member n).status (λ u up. up)
        by true = still (transfers_of_offers (w.rows + 1) m g.offers made) further (still_made (w.rows + 1) m g.offers made) hears
            (λ x i c. elim (made_when (w.rows + 1) m g.offers made x i) [
              | inl j ↦ j
              | inr new ↦ absurd (other (ap (λ (z : SentTransfer). z.by) (sym new.is) ∙ c.by))
            ]) (w.member n).status (λ u up. up)

      module _ (short : HoldsAreShort limits) (wide : 20000 ≤ width) (event : Event) (further : List Queued)
          (hears : (f : Queued) → In f heard → In f further) where
        stepped_own : (status : MemberStatus) → (w.member n).status ≡ status → IsNotFast limits past came (now_in status (moment_of event))
            → ((t : AllocatorState) → status ≡ Up t → Answers event (begin_phase (w.rows + 1) (moment_of event) t).allocator → IsHeard made further (w.rows + 1))
            → Next (transfers_of_step (w.rows + 1) n event status (w.member n) made) further (record { at = came; now = now_in status (moment_of event); opens = false } ∷ past)
            (member_after_step (w.rows + 1) event status (w.member n)).status
        stepped_own Down is_it slow answered = record {
          running = λ u up. absurd (cc (sym is_it ∙ up));
          apart = settled_still made further (λ x i. i) hears (λ x i c. i);
        }
        stepped_own (Failed failure) is_it slow answered = record {
          running = λ u up. absurd (cc (sym is_it ∙ up));
          apart = settled_still made further (λ x i. i) hears (λ x i c. i);
        }
        stepped_own (Up t) is_it slow answered = by (are_put (puts_of (w.member n) g) (w.member n).disk.calls) where
          g : StepState
          g = (step t (w.rows + 1) event).step_state

          reads : List Reading
          reads = record { at = came; now = max t.now (moment_of event); opens = false } ∷ past

          cut : (u : AllocatorState) (b : Bool) (failed : Member) → ((v : AllocatorState) → failed.status ≡ Up v → ⊥)
              → (if b then stopped_with (w.member n).pattern (puts_on (puts_of (w.member n) g) (w.member n).disk) (w.member n) else failed).status ≡ Up u → ⊥
          cut u true failed none f = absurd (cc (f))
          cut u false failed none f = none u f

          by : (b : Bool) → Next (if b then transfers_of_offers (w.rows + 1) n g.offers made else made) further reads
              (if b then record (w.member n) { status = Up g.allocator; disk = puts_on (puts_of (w.member n) g) (w.member n).disk }
              else after_cut_off (w.member n) (w.rows + 1) t g (puts_on (puts_of (w.member n) g) (w.member n).disk)).status
          by true = record {
            running = λ u up. subst (λ (v : AllocatorState). Runs (transfers_of_offers (w.rows + 1) n g.offers made) further reads v) (one_up g.allocator u up)
                (runs_then short wide made heard further hears past w.rows came its_time earlier small_ids t (runs t is_it) settled event slow (answered t refl));
            apart = settled_then short wide made heard further hears past w.rows came its_time earlier small_ids t (runs t is_it) settled event slow (answered t refl);
          }
          by false = record {
            running = λ u up. absurd (cut u (puts_on (puts_of (w.member n) g) (w.member n).disk).calls.stopped _ (λ v f. absurd (cc (f))) up);
            apart = settled_still made further (λ x i. i) hears (λ x i c. i);
          }

      -- ---- a row

      module _ (short : HoldsAreShort limits) (wide : 20000 ≤ width) (row : Row) (its_row : row_of all (w.rows + 1) ≡ row)
          (slow : ReadsAt (IsNotFast limits) n past w came row)
          (answered : (k ms : ℕ) → row ≡ Rx n k ms → (t : AllocatorState) → (w.member n).status ≡ Up t
          → Answers (receipt_of w k ms) (begin_phase (w.rows + 1) ms t).allocator → IsHeard made (heard ++ heard_in n w row) (w.rows + 1)) where
        abbrev After : Row → Type 0
        After r = Next (transfers_of_row w r made) (heard ++ heard_in n w r) (member_readings n past w came r) ((after_row w r).member n).status

        open_row : (m : ℕ) (told : Bool) (ms word : ℕ) → row_of all (w.rows + 1) ≡ Opens m told ms word → After (Opens m told ms word)
        open_row m told ms word r = opened_row m told ms word r (rules_of w.ids told) (n == m) refl

        tick_row : (m ms word : ℕ) (same : Bool) → (n == m) ≡ same → WhereIts same (IsNotFast limits past came (now_in (w.member m).status ms))
            → Next (transfers_of_step (w.rows + 1) m (tick_of ms word) (w.member m).status (w.member m) made) (heard ++ [])
            (if same then record { at = came; now = now_in (w.member m).status ms; opens = false } ∷ past else past)
            (if same then member_after_step (w.rows + 1) (tick_of ms word) (w.member m).status (w.member m) else w.member n).status
        tick_row m ms word false e slow_ = stepped_other m (is_other m e) (tick_of ms word) (w.member m).status (w.member m) (heard ++ []) (λ f i. in_front f heard [] i)
        tick_row m ms word true e slow_ =
            subst (λ (k : ℕ). IsNotFast limits past came (now_in (w.member k).status ms)
            → Next (transfers_of_step (w.rows + 1) k (tick_of ms word) (w.member k).status (w.member k) made) (heard ++ [])
            (record { at = came; now = now_in (w.member k).status ms; opens = false } ∷ past) (member_after_step (w.rows + 1) (tick_of ms word) (w.member k).status (w.member k)).status)
            (is_same m e) (λ s. stepped_own short wide (tick_of ms word) (heard ++ []) (λ f i. in_front f heard [] i) (w.member n).status refl s (λ t up a. absurd a)) slow_

        rx_row : (m k ms : ℕ) → row ≡ Rx m k ms → (same : Bool) → (n == m) ≡ same → WhereIts same (IsNotFast limits past came (now_in (w.member m).status ms))
            → Next (transfers_of_step (w.rows + 1) m (receipt_of w k ms) (w.member m).status (w.member m) made) (heard ++ (if same then frame_at w.frames k ∷ [] else []))
            (if same then record { at = came; now = now_in (w.member m).status ms; opens = false } ∷ past else past)
            (if same then member_after_step (w.rows + 1) (receipt_of w k ms) (w.member m).status (w.member m) else w.member n).status
        rx_row m k ms r false e slow_ = stepped_other m (is_other m e) (receipt_of w k ms) (w.member m).status (w.member m) (heard ++ []) (λ f i. in_front f heard [] i)
        rx_row m k ms r true e slow_ =
            subst (λ (j : ℕ). row ≡ Rx j k ms → IsNotFast limits past came (now_in (w.member j).status ms)
            → Next (transfers_of_step (w.rows + 1) j (receipt_of w k ms) (w.member j).status (w.member j) made) (heard ++ frame_at w.frames k ∷ [])
            (record { at = came; now = now_in (w.member j).status ms; opens = false } ∷ past) (member_after_step (w.rows + 1) (receipt_of w k ms) (w.member j).status (w.member j)).status)
            (is_same m e) (λ r_ s. stepped_own short wide (receipt_of w k ms) (heard ++ frame_at w.frames k ∷ [])
            (λ f i. in_front f heard (frame_at w.frames k ∷ []) i) (w.member n).status refl s
            (λ t up a. subst (λ (l : List Queued). IsHeard made (heard ++ l) (w.rows + 1)) (ap (λ (x : Row). heard_in n w x) r_ ∙ itself k)
            (answered k ms r_ t up a))) r slow_
          where
            itself : (k : ℕ) → (if n == n then frame_at w.frames k ∷ [] else []) ≡ frame_at w.frames k ∷ []
            itself k = elim (eqb_tells n n) [ inl s ↦ ap (λ (b : Bool). if b then frame_at w.frames k ∷ [] else []) s.0 | inr differ ↦ absurd (differ.1 refl) ]

        send_row : (m : ℕ) (same : Bool) → (n == m) ≡ same
            → Next made (heard ++ []) past (if same then record (w.member m) { status = after_sending (w.member m).status } else w.member n).status
        send_row m false e = unchanged (w.member n).status (λ u up. up)
        send_row m true e = record {
          running = λ u up. by u (w.member m).status refl up;
          apart = settled_still made (heard ++ []) (λ x i. i) (λ f i. in_front f heard [] i) (λ x i c. i);
        }
          where
            by : (u : AllocatorState) (status : MemberStatus) → (w.member m).status ≡ status → after_sending status ≡ Up u → Runs made (heard ++ []) past u
            by u Down is_it f = absurd (cc (f))
            by u (Failed failure) is_it f = absurd (cc (f))
            by u (Up t) is_it f =
                let r = kept made (heard ++ []) (λ x i. i) (λ g i. in_front g heard [] i) (λ x i c. i) t (runs t (ap (λ (j : ℕ). (w.member j).status) (is_same m e) ∙ is_it)) in
                subst (λ (v : AllocatorState). Runs made (heard ++ []) past v) (one_up (after_pop t) u f) (record {
                  wait = r.wait;
                  room = r.room;
                  opening = r.opening;
                  opens = r.opens;
                  reading = r.reading;
                  awake = r.awake;
                  each = λ x i c. popped r.opening.at x (r.each x i c);
                })
              where
                popped : (at : ℕ) (x : SentTransfer) → IsEnded made (heard ++ []) at x ⊎ (WaitedLong made (heard ++ []) past t x ⊎ Waits made past t x)
                    → IsEnded made (heard ++ []) at x ⊎ (WaitedLong made (heard ++ []) past (after_pop t) x ⊎ Waits made past (after_pop t) x)
                popped at x (inl e) = inl e
                popped at x (inr (inl v)) = inr (inl (record { answered = v.answered; moment = v.moment; reading = v.reading; passed = v.passed }))
                popped at x (inr (inr v)) = inr (inr (record {
                  moment = v.moment;
                  reading = v.reading;
                  more = v.more;
                  since = record { spaced = v.since.spaced; next = v.since.next };
                  followed = v.followed;
                  last = v.last;
                }))

        crash_row : (m calls : ℕ) (pattern : Pattern) (same : Bool) → (n == m) ≡ same
            → Next made (heard ++ []) past (if same then after_crash calls pattern (w.member m) else w.member n).status
        crash_row m calls pattern false e = unchanged (w.member n).status (λ u up. up)
        crash_row m calls pattern true e = unchanged (after_crash calls pattern (w.member m)).status (λ u up. by u (calls == 0) up) where
          by : (u : AllocatorState) (b : Bool) → (if b then stopped_with pattern (w.member m).disk (w.member m) else with_stop_armed calls pattern (w.member m)).status ≡ Up u
              → (w.member n).status ≡ Up u
          by u true f = absurd (cc (f))
          by u false f = ap (λ (j : ℕ). (w.member j).status) (is_same m e) ∙ f

        fault_row : (m call : ℕ) (same : Bool) → (n == m) ≡ same
            → Next made (heard ++ []) past (if same then with_failure_armed call (w.member m) else w.member n).status
        fault_row m call false e = unchanged (w.member n).status (λ u up. up)
        fault_row m call true e = unchanged (w.member m).status (λ u up. ap (λ (j : ℕ). (w.member j).status) (is_same m e) ∙ up)

        by_row : (r : Row) → row ≡ r → After r
        by_row (Opens m told ms word) e = open_row m told ms word (its_row ∙ e)
        by_row (Tick m ms word) e = tick_row m ms word (n == m) refl (subst (λ (r : Row). ReadsAt (IsNotFast limits) n past w came r) e slow)
        by_row (Rx m k ms) e = rx_row m k ms e (n == m) refl (subst (λ (r : Row). ReadsAt (IsNotFast limits) n past w came r) e slow)
        by_row (Send m) e = send_row m (n == m) refl
        by_row (Ext frame) e = unchanged (w.member n).status (λ u up. up)
        by_row (Crash m calls pattern) e = crash_row m calls pattern (n == m) refl
        by_row (Fault m call) e = fault_row m call (n == m) refl
        by_row (AOpen b uid pref ms word) e = unchanged (w.member n).status (λ u up. up)
        by_row (ATick b ms word) e = unchanged (w.member n).status (λ u up. up)
        by_row (ARx b k ms word) e = unchanged (w.member n).status (λ u up. up)
        by_row (ASend b) e = unchanged (w.member n).status (λ u up. up)
        by_row (AEnd b) e = unchanged (w.member n).status (λ u up. up)

        pub next_row : After row
        next_row = by_row row refl

    -- ---- all rows

    -- what is known of the world of lawful rows, and the row after them
    pub record Known (w : Cluster) (made : List SentTransfer) : Type 0 where
      pub earlier : (x : SentTransfer) → In x made → x.step ≤ w.rows
      pub small_ids : (x : SentTransfer) → In x made → x.offer.id < 32
      pub answered : (row : Row) → cause w row ≡ None → (heard : List Queued) (k ms : ℕ) → row ≡ Rx n k ms → (t : AllocatorState) → (w.member n).status ≡ Up t
          → Answers (receipt_of w k ms) (begin_phase (w.rows + 1) ms t).allocator → IsHeard made (heard ++ heard_in n w row) (w.rows + 1)

    at_end : (done : List Timed) (t : Timed) (rest : List Timed) (d : Timed) → slice_index_or (done ++ t ∷ rest) (length done) d ≡ t
    at_end [] t rest d = refl
    at_end (x ∷ done) t rest d = at_end done t rest d

    longer : (xs : List Timed) (t : Timed) → length (xs ++ t ∷ []) ≡ suc (length xs)
    longer [] t = refl
    longer (x ∷ xs) t = ap suc (longer xs t)

    -- what was sent stays so along rows
    sent_by_step : (row m : ℕ) (event : Event) (status : MemberStatus) (y : Member) (made : List SentTransfer) (x : SentTransfer) → In x made
        → In x (transfers_of_step row m event status y made)
    sent_by_step row m event Down y made x i = i
    sent_by_step row m event (Failed failure) y made x i = i
    sent_by_step row m event (Up t) y made x i = by (are_put (puts_of y (step t row event).step_state) y.disk.calls) where
      by : (b : Bool) → In x (if b then transfers_of_offers row m (step t row event).step_state.offers made else made)
      by true = still_made row m (step t row event).step_state.offers made x i
      by false = i

    sent_by_row : (w : Cluster) (row : Row) (made : List SentTransfer) (x : SentTransfer) → In x made → In x (transfers_of_row w row made)
    sent_by_row w (Tick m ms word) made x i = sent_by_step (w.rows + 1) m (tick_of ms word) (w.member m).status (w.member m) made x i
    sent_by_row w (Rx m k ms) made x i = sent_by_step (w.rows + 1) m (receipt_of w k ms) (w.member m).status (w.member m) made x i
    sent_by_row w (Opens m told ms word) made x i = i
    sent_by_row w (Send m) made x i = i
    sent_by_row w (Ext frame) made x i = i
    sent_by_row w (Crash m calls pattern) made x i = i
    sent_by_row w (Fault m call) made x i = i
    sent_by_row w (AOpen b uid pref ms word) made x i = i
    sent_by_row w (ATick b ms word) made x i = i
    sent_by_row w (ARx b k ms word) made x i = i
    sent_by_row w (ASend b) made x i = i
    sent_by_row w (AEnd b) made x i = i

    sent_by_rows : (rows : List Row) (w : Cluster) (made : List SentTransfer) (x : SentTransfer) → In x made → In x (transfers_of_rows w rows made)
    sent_by_rows [] w made x i = i
    sent_by_rows (row ∷ rows) w made x i = sent_by_rows rows (after_row w row) (transfers_of_row w row made) x (sent_by_row w row made x i)

    module _ (short : HoldsAreShort limits) (wide : 20000 ≤ width) (ids : List ℕ)
        (known : (rows : List Row) → AreLawful (cluster ids) rows → Known (world_of ids rows) (transfers_of_rows (cluster ids) rows [])) where
      pub along : (rest done tail : List Timed) (w : Cluster) (made : List SentTransfer) (heard : List Queued) (past : List Reading)
          → world_of ids (rows_in done) ≡ w → transfers_of_rows (cluster ids) (rows_in done) [] ≡ made → all ≡ done ++ (rest ++ tail) → w.rows ≡ length done
          → AreLawful (cluster ids) (rows_in done) → AreLawful w (rows_in rest) → Reads (IsNotFast limits) n past w rest
          → RestsBeforeOpening limits all (transfers_of_rows w (rows_in rest) made) n → RunsWhereUp made heard past (w.member n).status → AreSettled made heard
          → AreSettled (transfers_of_rows w (rows_in rest) made) (heard ++ heard_by n w (rows_in rest))
      along [] done tail w made heard past world sent split count before lawful slow rests runs settled =
          λ x y i j c d id less. settled_more made made heard (heard ++ []) (λ z k. k) (λ f k. in_front f heard [] k) x y (settled x y i j c d id less)
      along (t ∷ rest) done tail w made heard past world sent split count before lawful slow rests runs settled =
          subst (λ (l : List Queued). AreSettled (transfers_of_rows w (rows_in (t ∷ rest)) made) l)
          (append_assoc heard (heard_in n w t.row) (heard_by n (after_row w t.row) (rows_in rest)))
          (along rest (done ++ t ∷ []) tail (after_row w t.row) (transfers_of_row w t.row made) (heard ++ heard_in n w t.row)
          (member_readings n past w t.at t.row)
          (grown_world) (grown_made) (split ∙ sym (append_assoc done (t ∷ []) (rest ++ tail))) (omega (arith, count, longer done t)) more lawful.1 slow.1
          rests next.running next.apart)
        where
          here : Known w made
          here = subst (λ (v : Cluster). Known v made) world (subst (λ (l : List SentTransfer). Known (world_of ids (rows_in done)) l) sent (known (rows_in done) before))

          rows_more : rows_in (done ++ t ∷ []) ≡ rows_in done ++ t.row ∷ []
          rows_more = rows_of_more limits ids done t

          grown_world : world_of ids (rows_in (done ++ t ∷ [])) ≡ after_row w t.row
          grown_world = ap (world_of ids) rows_more ∙ (rows_joined (cluster ids) (rows_in done) (t.row ∷ []) ∙ ap (λ (v : Cluster). after_row v t.row) world)

          made_joined : (v : Cluster) (rows : List Row) (row : Row) (m : List SentTransfer)
              → transfers_of_rows v (rows ++ row ∷ []) m ≡ transfers_of_row (after_rows v rows) row (transfers_of_rows v rows m)
          made_joined v [] row m = refl
          made_joined v (first ∷ rows) row m = made_joined (after_row v first) rows row (transfers_of_row v first m)

          grown_made : transfers_of_rows (cluster ids) (rows_in (done ++ t ∷ [])) [] ≡ transfers_of_row w t.row made
          grown_made = ap (λ (l : List Row). transfers_of_rows (cluster ids) l []) rows_more
              ∙ (made_joined (cluster ids) (rows_in done) t.row []
              ∙ (ap (λ (l : List SentTransfer). transfers_of_row (world_of ids (rows_in done)) t.row l) sent ∙ ap (λ (v : Cluster). transfers_of_row v t.row made) world))

          lawful_now : cause (world_of ids (rows_in done)) t.row ≡ None
          lawful_now = ap (λ (v : Cluster). cause v t.row) world ∙ lawful.0

          more : AreLawful (cluster ids) (rows_in (done ++ t ∷ []))
          more = subst (λ (l : List Row). AreLawful (cluster ids) l) (sym rows_more) (one_more (cluster ids) (rows_in done) t.row before lawful_now)

          at_place : (k : ℕ) → k ≡ length done → slice_index_or (done ++ (t ∷ (rest ++ tail))) (k + 1 - 1) (record { at = 0; row = Send 0 }) ≡ t
          at_place k e = let less : k + 1 - 1 ≡ length done = omega (arith, e) in
              ap (λ (j : ℕ). slice_index_or (done ++ (t ∷ (rest ++ tail))) j (record { at = 0; row = Send 0 })) less ∙ at_end done t (rest ++ tail) (record { at = 0; row = Send 0 })

          itself : slice_index_or all (w.rows + 1 - 1) (record { at = 0; row = Send 0 }) ≡ t
          itself = ap (λ (l : List Timed). slice_index_or l (w.rows + 1 - 1) (record { at = 0; row = Send 0 })) split ∙ at_place w.rows count

          rests_here : RestsBeforeOpening limits all made n
          rests_here x number told ms word i = rests x number told ms word (sent_by_rows (rows_in (t ∷ rest)) w made x i)

          next : Next w made heard past t.at (ap (λ (x : Timed). x.at) itself) here.earlier here.small_ids rests_here runs settled (transfers_of_row w t.row made) (heard ++ heard_in n w t.row)
              (member_readings n past w t.at t.row) ((after_row w t.row).member n).status
          next = next_row w made heard past t.at (ap (λ (x : Timed). x.at) itself) here.earlier here.small_ids rests_here runs settled short wide t.row (ap (λ (x : Timed). x.row) itself) slow.0
              (λ k ms e u up a. here.answered t.row lawful.0 heard k ms e u up a)
