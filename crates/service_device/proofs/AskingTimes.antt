-- The times of a device that asks already, and of what is under way between it and the leader: by when the leader answers
-- what it asks, however it goes on, until it asks anew and nothing else is under way.
use Rattle.std.proofs.Common.{◌≡◌, ◌≢◌, ◌⊎◌, ℕ, zero, suc, ◌+◌, ◌*◌, ◌-◌, ◌<◌, ◌≤◌, true, false, List, [], ◌∷◌, ◌++◌, length, refl, sym, ◌∙◌, ap, subst, arith, inl, inr, Option, None, Some}
use Rattle.std.proofs.lemmas.Option.{none-some}
use Rattle.std.specs.Prelude.{if◌then◌else◌}
use Rattle.alloc_exchange.specs.Exchange.{Accepted, last_moment}
use Rattle.dsdl_codec.specs.declared.allocation.Allocation.{Allocation}
use Rattle.dsdl_codec.specs.Allocation.{allocation_of}
use Rattle.raft_model.specs.Lists.{In}
use Rattle.transfer_tx.specs.Queue.{Queued, left_behind, next_out}
use Rattle.allocatee.specs.Asking.{due, has_passed, request_wait, timer_from}
use Rattle.allocatee.specs.declared.timer.FollowUp.{FollowUp}
use Rattle.allocatee.specs.declared.timer.Timer.{Timer}
use Rattle.allocatee.proofs.Requests.{le_from, lt_from}
use Rattle.bus_agreement.proofs.Lists.{in_append}
use Rattle.bus_agreement.proofs.RowsWithoutEvents.{left_in_queue, out_of_queue}
use Rattle.service_steps.specs.Devices.{comes_at}
use Rattle.service_steps.specs.Requests.{IsRequest}
use Rattle.service_alone.specs.Calm.{waits_after}
use Rattle.service_device.proofs.AskingDevice.{not_due}
use Rattle.service_device.proofs.AskingExchange.{rank, rank_most}
use Rattle.service_device.proofs.DialogPhases.{ahead, its_clock}
use Rattle.service_device.proofs.DialogScene.{Talk}
use Rattle.service_calm.proofs.Pending.{Coming, Made}

-- a frame is a request that is no first one
abbrev pub IsNoFirst : Queued → Type 0
IsNoFirst frame = (message : Allocation) × (message.first_part ≡ false) × IsRequest (comes_at frame 0) message

module _ (g : Talk) (from : ℕ) where
  abbrev delay : ℕ
  delay = g.pace.delay

  abbrev period : ℕ
  period = g.pace.period

  -- by then nothing counts any more that was accepted by the moment from which it is counted
  abbrev pub stale : ℕ
  stale = from + 500 + period

  -- by when an Allocation comes at the latest, by the rank of what the leader accepted
  abbrev pub until : ℕ → ℕ
  until zero = stale + 4 * delay
  until (suc r) = until r + (400 + period + 4 * delay)

  pub until_least : (r : ℕ) → stale + 4 * delay ≤ until r
  until_least zero = omega arith
  until_least (suc r) = let l = until_least r in omega (arith, l)

  pub until_more : (a b : ℕ) → a ≤ b → until a ≤ until b
  until_more zero b low = until_least b
  until_more (suc a) zero low = absurd (omega (arith, low))
  until_more (suc a) (suc b) low = let l = until_more a b (omega (arith, low)) in omega (arith, l)

  pub until_most : (accepted : List Accepted) → until (rank accepted) ≤ stale + 800 + 2 * period + 12 * delay
  until_most accepted = let l = until_more (rank accepted) 2 (rank_most accepted) in omega (arith, l)

  -- a frame that was asked early, or is no first request
  abbrev pub Dated : ℕ → Queued → Type 0
  Dated at frame = (at ≤ stale) ⊎ IsNoFirst frame

  -- What the leader accepted is old; or the device was answered since; or the answer is under way, which it will take.
  abbrev pub IsFresh : List Accepted → Timer → List Made → Type 0
  IsFresh accepted request xs = (last_moment accepted ≤ from + ahead g) ⊎ ((last_moment accepted + its_clock g ≤ request.since + ahead g)
      ⊎ ((x : Made) × In x xs × (last_moment accepted ≤ x.at + ahead g) × (message : Allocation) × (allocation_of x.transfer.offer.payload ≡ Some message)))

  -- The device waits for what these timers say, its queue has these frames; these are on their way to the leader, which
  -- accepted these requests, and these Allocations are under way.
  pub record Times (accepted : List Accepted) (xs : List Made) (cs : List Coming) (queue : List Queued) (request : Timer) (follow_up : Option FollowUp) (at ticked waits : ℕ) : Type 0 where
    pub least : 600 ≤ request.length
    pub most : request.length ≤ 1000
    pub behind : (f : FollowUp) → follow_up ≡ Some f → (f.timer.since ≡ request.since) × (f.timer.length ≤ 400)
    pub begun : request.since ≤ at + its_clock g
    pub asked : ℕ
    pub asked_past : asked ≤ at
    pub asked_by : (asked ≤ from + period) ⊎ (asked + its_clock g ≤ request.since + 400 + period)
    pub sent : (c : Coming) → In c cs → (c.at ≤ asked) × Dated c.at c.frame
    pub waiting : (queue ≡ []) ⊎ ((waits ≤ asked) × ((f : Queued) → In f queue → Dated waits f))
    pub followed : (f : FollowUp) → follow_up ≡ Some f → (ticked ≤ from) ⊎ (ticked + its_clock g ≤ f.timer.since + f.timer.length)
    pub requested : (ticked ≤ from + period) ⊎ (ticked + its_clock g ≤ request.since + request.length)
    pub past : (x : Made) → In x xs → x.at ≤ at
    pub made_by : (x : Made) → In x xs → (x.at + 2 * delay ≤ until (rank accepted)) × (x.at ≤ asked + 2 * delay)
    pub since_by : request.since ≤ until (rank accepted) + its_clock g
    pub fresh : IsFresh accepted request xs

  -- frames wait on
  pub waits_on : (at since : ℕ) (queue : List Queued) → (queue ≡ []) ⊎ (waits_after at since queue queue ≡ since)
  waits_on at since [] = inl refl
  waits_on at since (f ∷ queue) = inr refl

  -- one more waits
  waits_more : (at since : ℕ) (queue : List Queued) (f : Queued) → ((queue ≡ []) × (waits_after at since queue (queue ++ f ∷ []) ≡ at))
      ⊎ ((queue ≢ []) × (waits_after at since queue (queue ++ f ∷ []) ≡ since))
  waits_more at since [] f = inl (refl, refl)
  waits_more at since (e ∷ queue) f = inr (λ none. absurd (omega (arith, ap length none)), refl)

  -- one less waits
  waits_less : (at since : ℕ) (queue less : List Queued) → (less ≡ []) ⊎ ((waits_after at since queue less ≡ since) ⊎ (queue ≡ []))
  waits_less at since [] less = inr (inr refl)
  waits_less at since (f ∷ queue) [] = inl refl
  waits_less at since (f ∷ queue) (e ∷ less) = inr (inl refl)

  module _ (accepted : List Accepted) (xs : List Made) (cs : List Coming) (queue : List Queued) (request : Timer) (follow_up : Option FollowUp) (at ticked waits : ℕ)
      (t : Times accepted xs cs queue request follow_up at ticked waits) (now : ℕ) (later : at ≤ now) where
    still_waiting : (queue ≡ []) ⊎ ((waits_after now waits queue queue ≤ t.asked) × ((f : Queued) → In f queue → Dated (waits_after now waits queue queue) f))
    still_waiting = elim t.waiting [
      | inl none ↦ inl none
      | inr some ↦ elim (waits_on now waits queue) [
        | inl none ↦ inl none
        | inr same ↦ inr (subst (λ (k : ℕ). (k ≤ t.asked) × ((f : Queued) → In f queue → Dated k f)) (sym same) some)
      ]
    ]

    -- nothing happens to the device
    pub times_on : Times accepted xs cs queue request follow_up now ticked (waits_after now waits queue queue)
    times_on = record {
      least = t.least;
      most = t.most;
      behind = t.behind;
      begun = let b = t.begun in omega (arith, b, later);
      asked = t.asked;
      asked_past = let p = t.asked_past in omega (arith, p, later);
      asked_by = t.asked_by;
      sent = t.sent;
      waiting = still_waiting;
      followed = t.followed;
      requested = t.requested;
      past = λ x i. let p = t.past x i in omega (arith, p, later);
      made_by = t.made_by;
      since_by = t.since_by;
      fresh = t.fresh;
    }

    -- the leader takes a request, or ignores it, and these Allocations are made
    pub times_heard : (c : Coming) (others : List Coming) → cs ≡ c ∷ others → now ≤ c.at + 2 * delay → (then_accepted : List Accepted) (more : List Made)
        → ((x : Made) → In x more → x.at ≤ now)
        → (c.at ≤ stale) ⊎ ((rank accepted ≤ rank then_accepted) × ((more ≡ []) ⊎ (suc (rank accepted) ≤ rank then_accepted)))
        → IsFresh then_accepted request (xs ++ more)
        → Times then_accepted (xs ++ more) others queue request follow_up now ticked (waits_after now waits queue queue)
    times_heard c others e soon then_accepted more made ranks fresh = record {
      least = t.least;
      most = t.most;
      behind = t.behind;
      begun = let b = t.begun in omega (arith, b, later);
      asked = t.asked;
      asked_past = let p = t.asked_past in omega (arith, p, later);
      asked_by = t.asked_by;
      sent = λ d i. t.sent d (subst (λ (l : List Coming). In d l) (sym e) (inr i));
      waiting = still_waiting;
      followed = t.followed;
      requested = t.requested;
      past = λ x i. elim (in_append x xs more i) [ inl j ↦ let p = t.past x j in omega (arith, p, later) | inr j ↦ made x j ];
      made_by = λ x i. elim (in_append x xs more i) [ inl j ↦ old x j | inr j ↦ new x j ];
      since_by = elim ranks [
        | inl early ↦ let b = t.begun in let l = until_least (rank then_accepted) in omega (arith, b, later, soon, early, l)
        | inr r ↦ let s = t.since_by in let u = until_more (rank accepted) (rank then_accepted) r.0 in omega (arith, s, u)
      ];
      fresh = fresh;
    }
      where
        asked_c : c.at ≤ t.asked
        asked_c = (t.sent c (subst (λ (l : List Coming). In c l) (sym e) (inl refl))).0

        old : (x : Made) → In x xs → (x.at + 2 * delay ≤ until (rank then_accepted)) × (x.at ≤ t.asked + 2 * delay)
        old x j = elim ranks [
          | inl early ↦ let p = t.past x j in let l = until_least (rank then_accepted) in (omega (arith, p, later, soon, early, l), (t.made_by x j).1)
          | inr r ↦ let m = (t.made_by x j).0 in let u = until_more (rank accepted) (rank then_accepted) r.0 in (omega (arith, m, u), (t.made_by x j).1)
        ]

        answered : suc (rank accepted) ≤ rank then_accepted → (k : ℕ) → k ≤ now → k + 2 * delay ≤ until (rank then_accepted)
        answered up k low =
            let u = until_more (suc (rank accepted)) (rank then_accepted) up in let a = asked_c in let l = until_least (rank accepted) in let s = t.since_by in
            elim t.asked_by [ inl early ↦ omega (arith, low, soon, a, early, l, u) | inr late ↦ omega (arith, low, soon, a, late, s, u) ]

        new : (x : Made) → In x more → (x.at + 2 * delay ≤ until (rank then_accepted)) × (x.at ≤ t.asked + 2 * delay)
        new x j =
            let m = made x j in let a = asked_c in (
              elim ranks [
                | inl early ↦ let l = until_least (rank then_accepted) in omega (arith, m, soon, early, l)
                | inr r ↦ elim r.1 [ inl none ↦ absurd (subst (λ (l : List Made). In x l) none j) | inr up ↦ answered up x.at m ]
              ],
              omega (arith, m, soon, a),
            )

    -- a frame comes to the leader that is no request
    pub times_dropped : (c : Coming) (others : List Coming) → cs ≡ c ∷ others → Times accepted xs others queue request follow_up now ticked (waits_after now waits queue queue)
    times_dropped c others e = record {
      least = t.least;
      most = t.most;
      behind = t.behind;
      begun = let b = t.begun in omega (arith, b, later);
      asked = t.asked;
      asked_past = let p = t.asked_past in omega (arith, p, later);
      asked_by = t.asked_by;
      sent = λ d i. t.sent d (subst (λ (l : List Coming). In d l) (sym e) (inr i));
      waiting = still_waiting;
      followed = t.followed;
      requested = t.requested;
      past = λ x i. let p = t.past x i in omega (arith, p, later);
      made_by = t.made_by;
      since_by = t.since_by;
      fresh = t.fresh;
    }

    -- an Allocation comes to the device that it does not take
    pub times_gone : (rest : List Made) → ((x : Made) → In x rest → In x xs) → IsFresh accepted request rest
        → Times accepted rest cs queue request follow_up now ticked (waits_after now waits queue queue)
    times_gone rest among fresh = record {
      least = t.least;
      most = t.most;
      behind = t.behind;
      begun = let b = t.begun in omega (arith, b, later);
      asked = t.asked;
      asked_past = let p = t.asked_past in omega (arith, p, later);
      asked_by = t.asked_by;
      sent = t.sent;
      waiting = still_waiting;
      followed = t.followed;
      requested = t.requested;
      past = λ x i. let p = t.past x (among x i) in omega (arith, p, later);
      made_by = λ x i. t.made_by x (among x i);
      since_by = t.since_by;
      fresh = fresh;
    }

    -- the device takes an Allocation, behind which these are under way
    pub times_taken : (rest : List Made) → ((x : Made) → In x rest → In x xs) → now ≤ until (rank accepted) → last_moment accepted ≤ now + ahead g → (word : ℕ) (f : Option FollowUp)
        → ((x : FollowUp) → f ≡ Some x → (x.timer.since ≡ now + its_clock g) × (x.timer.length ≤ 400)) → ticked ≤ at
        → Times accepted rest cs queue (timer_from (now + its_clock g) (request_wait word)) f now ticked (waits_after now waits queue queue)
    times_taken rest among by last word f follows ticks = record {
      least = omega arith;
      most = omega arith;
      behind = follows;
      begun = omega arith;
      asked = t.asked;
      asked_past = let p = t.asked_past in omega (arith, p, later);
      asked_by = inr (let p = t.asked_past in omega (arith, p, later));
      sent = t.sent;
      waiting = still_waiting;
      followed = λ x e. inr (let s = (follows x e).0 in omega (arith, s, ticks, later));
      requested = inr (omega (arith, ticks, later));
      past = λ x i. let p = t.past x (among x i) in omega (arith, p, later);
      made_by = λ x i. t.made_by x (among x i);
      since_by = omega (arith, by);
      fresh = inr (inl (omega (arith, last)));
    }

    -- ---- its frames

    -- a frame goes out
    pub times_sent : (f : Queued) → next_out queue ≡ Some f → (c : Coming) → c.at ≡ waits → c.frame ≡ f → queue ≢ []
        → Times accepted xs (cs ++ c ∷ []) (left_behind queue) request follow_up now ticked (waits_after now waits queue (left_behind queue))
    times_sent f out c c_at c_frame some = record {
      least = t.least;
      most = t.most;
      behind = t.behind;
      begun = let b = t.begun in omega (arith, b, later);
      asked = t.asked;
      asked_past = let p = t.asked_past in omega (arith, p, later);
      asked_by = t.asked_by;
      sent = λ d i. elim (in_append d cs (c ∷ []) i) [ inl j ↦ t.sent d j | inr j ↦ elim j [ inl same ↦ of_it d same | inr none ↦ absurd none ] ];
      waiting = elim (waits_less now waits queue (left_behind queue)) [
        | inl none ↦ inl none
        | inr more ↦ elim more [
          | inl same ↦ inr (subst (λ (k : ℕ). (k ≤ t.asked) × ((e : Queued) → In e (left_behind queue) → Dated k e)) (sym same)
              (waited.0, λ e i. waited.1 e (left_in_queue queue e i)))
          | inr none ↦ absurd (some none)
        ]
      ];
      followed = t.followed;
      requested = t.requested;
      past = λ x i. let p = t.past x i in omega (arith, p, later);
      made_by = t.made_by;
      since_by = t.since_by;
      fresh = t.fresh;
    }
      where
        waited : (waits ≤ t.asked) × ((e : Queued) → In e queue → Dated waits e)
        waited = elim t.waiting [ inl none ↦ absurd (some none) | inr w ↦ w ]

        of_it : (d : Coming) → d ≡ c → (d.at ≤ t.asked) × Dated d.at d.frame
        of_it d same = subst (λ (x : Coming). (x.at ≤ t.asked) × Dated x.at x.frame) (sym same)
            (subst (λ (k : ℕ). (k ≤ t.asked) × Dated k c.frame) (sym c_at) (waited.0, subst (Dated waits) (sym c_frame) (waited.1 f (out_of_queue queue f out))))

    -- ---- its ticks

    not_over : now + its_clock g - request.since < request.length → now + its_clock g < request.since + request.length
    not_over early = let b = t.begun in omega (arith, early, b, later)

    -- nothing is due
    pub times_quiet : due (now + its_clock g) follow_up ≡ None → has_passed (now + its_clock g) request ≡ false
        → Times accepted xs cs queue request follow_up now now (waits_after now waits queue queue)
    times_quiet none early = record {
      least = t.least;
      most = t.most;
      behind = t.behind;
      begun = let b = t.begun in omega (arith, b, later);
      asked = t.asked;
      asked_past = let p = t.asked_past in omega (arith, p, later);
      asked_by = t.asked_by;
      sent = t.sent;
      waiting = still_waiting;
      followed = λ f e. inr (
          let s = (t.behind f e).0 in let b = t.begun in
          let n = not_due (now + its_clock g) f (ap (due (now + its_clock g)) (sym e) ∙ none) in omega (arith, n, s, b, later));
      requested = inr (let n = not_over (lt_from request.length (now + its_clock g - request.since) early) in omega (arith, n));
      past = λ x i. let p = t.past x i in omega (arith, p, later);
      made_by = t.made_by;
      since_by = t.since_by;
      fresh = t.fresh;
    }

    -- a first request is due: no follow-up waits
    pub none_waits : due (now + its_clock g) follow_up ≡ None → has_passed (now + its_clock g) request ≡ true → follow_up ≡ None
    none_waits none passed = by follow_up refl
      where
        by : (o : Option FollowUp) → follow_up ≡ o → follow_up ≡ None
        by None e = e
        by (Some f) e =
            let b = t.behind f e in let s = b.0 in let l = b.1 in let k = t.least in
            let n = not_due (now + its_clock g) f (ap (due (now + its_clock g)) (sym e) ∙ none) in
            let p = le_from request.length (now + its_clock g - request.since) passed in absurd (omega (arith, n, s, l, p, k))

    -- one more frame waits, which is asked now
    more_waiting : (f : Queued) → Dated now f → (waits_after now waits queue (queue ++ f ∷ []) ≤ now)
        × ((e : Queued) → In e (queue ++ f ∷ []) → Dated (waits_after now waits queue (queue ++ f ∷ [])) e)
    more_waiting f dated = elim (waits_more now waits queue f) [
      | inl z ↦ subst (λ (k : ℕ). (k ≤ now) × ((e : Queued) → In e (queue ++ f ∷ []) → Dated k e)) (sym z.1) (
        omega arith,
        λ e i. elim (in_append e queue (f ∷ []) i) [
          | inl j ↦ absurd (subst (λ (l : List Queued). In e l) z.0 j)
          | inr j ↦ elim j [ inl same ↦ subst (Dated now) (sym same) dated | inr none ↦ absurd none ]
        ],
      )
      | inr z ↦
          let w : (waits ≤ t.asked) × ((e : Queued) → In e queue → Dated waits e) = elim t.waiting [ inl none ↦ absurd (z.0 none) | inr w ↦ w ] in
          let p = t.asked_past in let low = w.0 in subst (λ (k : ℕ). (k ≤ now) × ((e : Queued) → In e (queue ++ f ∷ []) → Dated k e)) (sym z.1) (
            omega (arith, low, p, later),
            λ e i. elim (in_append e queue (f ∷ []) i) [
              | inl j ↦ w.1 e j
              | inr j ↦ elim j [
                | inl same ↦ subst (Dated waits) (sym same) (elim dated [ inl early ↦ inl (omega (arith, low, p, later, early)) | inr other ↦ inr other ])
                | inr none ↦ absurd none
              ]
            ],
          )
    ]

    -- a first request is due, early: it is asked, or finds no room
    module _ (early : now ≤ stale) (last : last_moment accepted ≤ now + ahead g) (ticks : ticked ≤ at) (word : ℕ) where
      pub times_first : (f : Queued) → Times accepted xs cs (queue ++ f ∷ []) (timer_from (now + its_clock g) (request_wait word)) None now now
          (waits_after now waits queue (queue ++ f ∷ []))
      times_first f = record {
        least = omega arith;
        most = omega arith;
        behind = λ x e. absurd (none-some x e);
        begun = omega arith;
        asked = now;
        asked_past = omega arith;
        asked_by = inr (omega arith);
        sent = λ c i. let s = t.sent c i in let k = s.0 in let p = t.asked_past in (omega (arith, k, p, later), s.1);
        waiting = inr (more_waiting f (inl early));
        followed = λ x e. absurd (none-some x e);
        requested = inr (omega arith);
        past = λ x i. let p = t.past x i in omega (arith, p, later);
        made_by = λ x i. let m = t.made_by x i in let k = m.1 in let p = t.asked_past in (m.0, omega (arith, k, p, later));
        since_by = let l = until_least (rank accepted) in omega (arith, early, l);
        fresh = inr (inl (omega (arith, last)));
      }

      pub times_full : Times accepted xs cs queue (timer_from (now + its_clock g) (request_wait word)) None now now (waits_after now waits queue queue)
      times_full = record {
        least = omega arith;
        most = omega arith;
        behind = λ x e. absurd (none-some x e);
        begun = omega arith;
        asked = t.asked;
        asked_past = let p = t.asked_past in omega (arith, p, later);
        asked_by = inr (let p = t.asked_past in omega (arith, p, later));
        sent = t.sent;
        waiting = still_waiting;
        followed = λ x e. absurd (none-some x e);
        requested = inr (omega arith);
        past = λ x i. let p = t.past x i in omega (arith, p, later);
        made_by = t.made_by;
        since_by = let l = until_least (rank accepted) in omega (arith, early, l);
        fresh = inr (inl (omega (arith, last)));
      }

    -- a follow-up is due: it is asked, or finds no room
    module _ (x : FollowUp) (waits_for : follow_up ≡ Some x) (in_period : now ≤ ticked + period) (quick : period ≤ 100) where
      on_by : (now ≤ from + period) ⊎ (now + its_clock g ≤ request.since + 400 + period)
      on_by = let b = t.behind x waits_for in let s = b.0 in let l = b.1 in
          elim (t.followed x waits_for) [ inl early ↦ inl (omega (arith, in_period, early)) | inr late ↦ inr (omega (arith, in_period, late, s, l)) ]

      on_requested : (now ≤ from + period) ⊎ (now + its_clock g ≤ request.since + request.length)
      on_requested = elim on_by [ inl early ↦ inl early | inr late ↦ inr (let l = t.least in omega (arith, late, l, quick)) ]

      pub times_follow : (f : Queued) → IsNoFirst f → Times accepted xs cs (queue ++ f ∷ []) request None now now (waits_after now waits queue (queue ++ f ∷ []))
      times_follow f other = record {
        least = t.least;
        most = t.most;
        behind = λ y e. absurd (none-some y e);
        begun = let b = t.begun in omega (arith, b, later);
        asked = now;
        asked_past = omega arith;
        asked_by = on_by;
        sent = λ c i. let s = t.sent c i in let k = s.0 in let p = t.asked_past in (omega (arith, k, p, later), s.1);
        waiting = inr (more_waiting f (inr other));
        followed = λ y e. absurd (none-some y e);
        requested = on_requested;
        past = λ y i. let p = t.past y i in omega (arith, p, later);
        made_by = λ y i. let m = t.made_by y i in let k = m.1 in let p = t.asked_past in (m.0, omega (arith, k, p, later));
        since_by = t.since_by;
        fresh = t.fresh;
      }

      pub times_not : Times accepted xs cs queue request None now now (waits_after now waits queue queue)
      times_not = record {
        least = t.least;
        most = t.most;
        behind = λ y e. absurd (none-some y e);
        begun = let b = t.begun in omega (arith, b, later);
        asked = t.asked;
        asked_past = let p = t.asked_past in omega (arith, p, later);
        asked_by = t.asked_by;
        sent = t.sent;
        waiting = still_waiting;
        followed = λ y e. absurd (none-some y e);
        requested = on_requested;
        past = λ y i. let p = t.past y i in omega (arith, p, later);
        made_by = t.made_by;
        since_by = t.since_by;
        fresh = t.fresh;
      }

    -- a first request is due, later: nothing else is under way
    module _ (late : stale < now) (in_period : now ≤ ticked + period) (quick : period + 4 * delay ≤ 100) (passed : has_passed (now + its_clock g) request ≡ true) where
      over : request.since + request.length ≤ now + its_clock g
      over = let p = le_from request.length (now + its_clock g - request.since) passed in let l = t.least in omega (arith, p, l)

      -- all was asked more than four delays ago
      long_ago : t.asked + 4 * delay < now
      long_ago = let o = over in let l = t.least in elim t.asked_by [ inl early ↦ omega (arith, early, late, quick) | inr asked ↦ omega (arith, asked, o, l, quick) ]

      pub none_made : ((x : Made) → In x xs → now ≤ x.at + 2 * delay) → xs ≡ []
      none_made in_time = by xs (λ x i. i)
        where
          by : (l : List Made) → ((x : Made) → In x l → In x xs) → l ≡ []
          by [] among = refl
          by (x ∷ l) among = let m = (t.made_by x (among x (inl refl))).1 in let i = in_time x (among x (inl refl)) in let o = long_ago in absurd (omega (arith, m, i, o))

      pub none_sent : ((c : Coming) → In c cs → now ≤ c.at + 2 * delay) → cs ≡ []
      none_sent in_time = by cs (λ c i. i)
        where
          by : (l : List Coming) → ((c : Coming) → In c l → In c cs) → l ≡ []
          by [] among = refl
          by (c ∷ l) among = let m = (t.sent c (among c (inl refl))).0 in let i = in_time c (among c (inl refl)) in let o = long_ago in absurd (omega (arith, m, i, o))

      pub none_queued : (queue ≢ [] → now ≤ waits + delay) → queue ≡ []
      none_queued in_time = elim t.waiting [
        | inl none ↦ none
        | inr w ↦ by queue refl w.0
      ]
        where
          by : (l : List Queued) → queue ≡ l → waits ≤ t.asked → queue ≡ []
          by [] e low = e
          by (f ∷ l) e low = let i = in_time (λ none. absurd (omega (arith, ap length (sym e ∙ none)))) in let o = long_ago in absurd (omega (arith, low, i, o))

      -- the moment at which it was due
      abbrev pub moment : ℕ
      moment = request.since + request.length - its_clock g

      ended : ticked + its_clock g ≤ request.since + request.length
      ended = elim t.requested [ inl early ↦ absurd (omega (arith, early, in_period, late, quick)) | inr e ↦ e ]

      pub moment_is : moment + its_clock g ≡ request.since + request.length
      moment_is = let e = ended in omega (arith, e)

      pub moment_past : moment ≤ now
      moment_past = let o = over in omega (arith, o)

      pub moment_near : now ≤ moment + period
      moment_near = let e = ended in omega (arith, e, in_period)

      pub moment_by : moment ≤ stale + 1800 + 2 * period + 12 * delay
      moment_by = let m = t.most in let s = t.since_by in let u = until_most accepted in let i = moment_is in omega (arith, m, s, u, i)

      -- nothing counts any more that the leader accepted
      pub forgotten : xs ≡ [] → last_moment accepted + 500 < moment + ahead g
      forgotten none =
          let i = moment_is in let l = t.least in elim t.fresh [
            | inl old ↦ let e = ended in omega (arith, old, e, i, in_period, late)
            | inr y ↦ elim y [
              | inl answered ↦ omega (arith, answered, i, l)
              | inr way ↦ absurd (subst (λ (k : List Made). In way.0 k) none way.1)
            ]
          ]

    -- by then it asks anew
    pub times_end : now ≤ ticked + period → period ≤ 100 → now ≤ stale + 1800 + 3 * period + 12 * delay
    times_end in_period quick = elim t.requested [
      | inl early ↦ omega (arith, early, in_period, quick)
      | inr e ↦ let m = t.most in let s = t.since_by in let u = until_most accepted in omega (arith, e, m, s, u, in_period)
    ]
