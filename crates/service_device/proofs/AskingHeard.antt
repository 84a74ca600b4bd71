-- A frame comes to the leader from a device that asks already: it is no request, or is ignored, or answered, or the log grows.
use Rattle.std.proofs.Common.{◌≡◌, ◌⊎◌, ℕ, suc, ◌+◌, ◌*◌, ◌≤◌, true, false, List, [], ◌∷◌, ◌++◌, length, max, refl, sym, ◌∙◌, ap, subst, arith, inl, inr}
use Rattle.alloc_exchange.specs.declared.heard.Heard.TheVariants.{FollowUp as Follows}
use Rattle.alloc_exchange.specs.Exchange.{Accepted, after, answer, last_moment}
use Rattle.can_frame.specs.declared.step.What.TheVariants.{Alloc}
use Rattle.can_frame.specs.Cutting.{frame_count}
use Rattle.dsdl_codec.specs.declared.allocation.Allocation.{Allocation}
use Rattle.raft_model.specs.Lists.{In}
use Rattle.bus_rows.specs.declared.row.Row.{Row}
use Rattle.bus_rows.specs.declared.row.Row.TheVariants.{Rx}
use Rattle.transfer_rx.specs.Reassembly.{Gives, answer as received}
use Rattle.transfer_tx.specs.Queue.{Queued}
use Rattle.allocatee.proofs.Requests.{le_is}
use Rattle.alloc_spec.specs.Accepted.{setting_for}
use Rattle.alloc_spec.specs.AllocatorState.{AllocatorState}
use Rattle.alloc_spec.specs.Exchange.{allocation_payload}
use Rattle.alloc_spec.specs.Step as server
use Rattle.alloc_spec.specs.Step.Event.{Rx as Receives}
use Rattle.alloc_spec.specs.Transfers.{Offer, has_room}
use Rattle.alloc_spec_laws.proofs.Choices.{and_right}
use Rattle.service_steps.specs.Requests.{IsRequest}
use Rattle.service_steps.specs.Serving.{IsReady, allocation_from}
use Rattle.service_alone.proofs.CalmGiving.{few_frames}
use Rattle.service_calm.specs.Calm.{Device as OfDevice, IsCalmRow, IsInTime, Member as OfMember, Traffic, traffic_after}
use Rattle.service_calm.specs.Comes.{sent_by}
use Rattle.service_device.specs.Settled.{IsAsked, IsSettled}
use Rattle.service_device.proofs.AskingExchange.{IsIgnored, IsTaken, becomes, ignored_free, rank, rank_left}
use Rattle.service_device.proofs.AskingRoad.{AreFew, Road, road_asked}
use Rattle.service_device.proofs.AskingTimes.{IsFresh, stale, times_dropped, times_heard}
use Rattle.service_device.proofs.DialogAlone.{none as has_none_to_tell}
use Rattle.service_device.proofs.DialogAsked.{FramesFly}
use Rattle.service_device.proofs.DialogFrames.{HasSource, is_asked}
use Rattle.service_device.proofs.DialogPhases.{ahead, request_at}
use Rattle.service_device.proofs.DialogRows.{as_it_was}
use Rattle.service_device.proofs.DialogScene.{Known, Talk}
use Rattle.service_device.proofs.SettledAsked.{is_request}
use Rattle.service_device.proofs.SettledStays.{asked_or_not}
use Rattle.service_calm.proofs.Counting.{is_one, is_to, is_to_true, ones}
use Rattle.service_calm.proofs.Pair.{made_none, made_of, out_ones, same_server}
use Rattle.service_calm.proofs.Pending.{Coming, Made}
use Rattle.service_calm.proofs.Ways.{flying_late}
use Rattle.bus_agreement.proofs.Lists.{in_back, in_front}
use Rattle.service_calm.proofs.Grounds.{calm_laws}
use Rattle.bus_spec.specs.Cluster.{Cluster, after_row, arrival_at, frame_at, receipt_of}
use Rattle.service_device.proofs.AskingGoes.{GoesOn, IsGoingOn, empty_by, goes_with, stays}

module _ (g : Talk) (from : ℕ)
    (traffic : Traffic) (w : Cluster) (l : IsGoingOn g from traffic w) (at_ : ℕ) (in_time : IsInTime g.group g.clocks g.pace traffic w at_) where
  abbrev Goal : Row → Type 0
  Goal row = GoesOn g from traffic w (record { at = at_; row = row })

  abbrev then_traffic : Row → Traffic
  then_traffic row = traffic_after traffic w (record { at = at_; row = row })

  abbrev Calm : Row → Type 0
  Calm row = IsCalmRow g.group g.clocks g.pace traffic w at_ row

  abbrev KnownOf : Row → Type 0
  KnownOf row = Known g traffic.at w (record { at = at_; row = row })

  abbrev ticked : ℕ
  ticked = traffic.ticked (OfDevice g.a)

  abbrev waits : ℕ
  waits = traffic.waits (OfDevice g.a)

  -- ---- a frame of a device comes to the leader

  module _ (k ms : ℕ) (calm : Calm (Rx g.n k ms)) (known : KnownOf (Rx g.n k ms)) (short : AreFew g.n w (Rx g.n k ms)) (c : Coming) (others : List Coming)
      (is_first : l.cs ≡ c ∷ others) (same : frame_at w.frames k ≡ c.frame)
      (fly : FramesFly g l.cs traffic w l.road.well l.road.requests at_ (Rx g.n k ms) others) where
    abbrev t : AllocatorState
    t = l.road.settled.settled.server

    in_cs : In c l.cs
    in_cs = subst (λ (x : List Coming). In c x) (sym is_first) (inl refl)

    soon : at_ ≤ c.at + 2 * g.pace.delay
    soon = flying_late HasSource g.pace.delay w.frames at_ (traffic.to (OfMember g.n)) l.cs l.road.requests (in_time.hears (OfMember g.n) g.in_n) c in_cs

    ready : IsReady t
    ready = record { leads = l.road.settled.settled.leads; committed = l.road.settled.settled.committed ∙ ap length (sym l.road.settled.settled.log_is) }

    -- a request comes with it
    module _ (message : Allocation) (asked_ : IsAsked g.n message w (Rx g.n k ms)) (content : (c.at ≤ stale g from) ⊎ (message.first_part ≡ false)) where
      same_t : asked_.comes.server ≡ t
      same_t = same_server asked_.comes.server t (sym asked_.comes.runs ∙ l.road.settled.settled.runs)

      same_k : asked_.comes.k ≡ k
      same_k = cc (asked_.comes.comes)

      same_ms : asked_.comes.ms ≡ ms
      same_ms = cc (asked_.comes.comes)

      now_is : max asked_.comes.server.now asked_.comes.ms ≡ max t.now ms
      now_is = λ i. max (same_t i).now (same_ms i)

      abbrev now : ℕ
      now = max t.now ms

      gives : received (setting_for g.n) t.sessions (arrival_at (frame_at w.frames k) now) ≡ Gives asked_.request
      gives = (λ i. received (setting_for g.n) (sym same_t i).sessions (arrival_at (frame_at w.frames (sym same_k i)) (max (sym same_t i).now (sym same_ms i)))) ∙ asked_.comes.gives

      request : IsRequest (arrival_at (frame_at w.frames k) ms) message
      request =
          let r = is_request (calm_laws g.below.calm).frame g.n t.sessions (arrival_at (frame_at w.frames k) now) asked_.request gives asked_.anonymous message asked_.says in record {
            ident = r.ident;
            read = r.read;
            kind = r.kind;
            number = r.number;
            source = r.source;
            first = r.first;
            last = r.last;
            toggle = r.toggle;
            says = r.says;
          }

      abbrev then_accepted : List Accepted
      then_accepted = after l.accepted message now true

      module _ (settled : IsSettled g.n g.log then_accepted (at_ + ahead g) (after_row w (Rx g.n k ms))) where
        abbrev its_me : t.me ≡ g.n
        its_me = ap (λ (u : AllocatorState). u.me) (same_server t l.road.pair.sender (sym l.road.settled.settled.runs ∙ l.road.pair.sender_up.status)) ∙ l.road.pair.sender_is.me

        last_then : last_moment then_accepted ≤ at_ + ahead g
        last_then = let r = settled.settled.requests in let s = ap last_moment settled.requests in omega (arith, r, s)

        -- what is left
        by_fresh : (more : List Made) → ((then_accepted ≡ l.accepted) ⊎ (then_accepted ≡ [])) → IsFresh g from then_accepted l.request (l.xs ++ more)
        by_fresh more (inl e) = subst (λ (a : List Accepted). IsFresh g from a l.request (l.xs ++ more)) (sym e) (elim l.times.fresh [
          | inl old ↦ inl old
          | inr y ↦ elim y [
            | inl answered ↦ inr (inl answered)
            | inr way ↦ inr (inr (way.0, in_front way.0 l.xs more way.1, way.2, way.3, way.4))
          ]
        ])
        by_fresh more (inr e) = inl (let s : last_moment then_accepted ≡ 0 = ap last_moment e in omega (arith, s))

        heard : (more : List Made) (rs : List Coming) → ((d : Coming) → In d rs → In d l.ss)
            → Road g then_accepted (l.xs ++ more) others rs (then_traffic (Rx g.n k ms)) (after_row w (Rx g.n k ms)) → ((x : Made) → In x (l.xs ++ more) → x.at ≤ at_)
            → (c.at ≤ stale g from) ⊎ ((rank l.accepted ≤ rank then_accepted) × ((more ≡ []) ⊎ (suc (rank l.accepted) ≤ rank then_accepted)))
            → IsFresh g from then_accepted l.request (l.xs ++ more) → Goal (Rx g.n k ms)
        heard more rs among road past ranks fresh = goes_with g from traffic w l at_ in_time (Rx g.n k ms) then_accepted (l.xs ++ more) others rs road among l.queue l.request l.follow_up
            (as_it_was g l.queue l.request l.follow_up traffic w l.asker at_ in_time (Rx g.n k ms) refl) ticked refl
            (times_heard g from l.accepted l.xs l.cs l.queue l.request l.follow_up traffic.at ticked waits l.times at_ in_time.moments c others is_first soon then_accepted more
            (λ x i. past x (in_back x l.xs more i)) ranks fresh)

        -- it is ignored
        ignores : IsIgnored l.accepted message now → Goal (Rx g.n k ms)
        ignores (why, is, left) =
            let r = road_asked g l.accepted l.xs l.cs l.ss traffic w l.road at_ (Rx g.n k ms) in_time calm known short then_accepted settled others fly (λ x d. cc (d.comes)) in
            let none : r.2 ≡ [] = r.6 (receipt_of w k ms) refl ∙ (ap (made_of at_ (sent_by g.n w)) none_offered ∙ made_none at_ (sent_by g.n w)) in
            heard r.2 r.0 r.1 r.3 r.4 (inr (rank_left l.accepted message now left, inl none)) (by_fresh r.2 left)
          where
            sender : AllocatorState
            sender = l.road.pair.sender

            same_s : t ≡ l.road.pair.sender
            same_s = same_server t l.road.pair.sender (sym l.road.settled.settled.runs ∙ l.road.pair.sender_up.status)

            offers : List Offer
            offers = (server.step l.road.pair.sender (w.rows + 1) (receipt_of w k ms)).step_state.offers

            free : (o : Offer) → In o (server.step l.road.pair.sender (w.rows + 1) (receipt_of w k ms)).step_state.offers → o.what ≡ Alloc → ⊥
            free = subst (λ (s : AllocatorState). (o : Offer) → In o (server.step s (w.rows + 1) (receipt_of w k ms)).step_state.offers → o.what ≡ Alloc → ⊥) same_s
                (ignored_free t (w.rows + 1) (arrival_at (frame_at w.frames k) ms) asked_.request message
                ((λ i. received (setting_for (its_me i)) t.sessions (arrival_at (frame_at w.frames k) (max t.now ms))) ∙ gives) asked_.anonymous asked_.says ready
                (has_none_to_tell g.below.judged g.n g.log w t (record { status = l.road.settled.settled.runs; quiet = record { faults = l.road.settled.settled.faults; calls = l.road.settled.settled.disk } })
                its_me (traffic.at + ahead g) l.road.settled.settled (Rx g.n k ms) (at_ + ahead g) settled.settled (receipt_of w k ms) refl)
                why (ap (λ (a : List Accepted). answer a message now true) l.road.settled.requests ∙ is))

            none_offered : ones Alloc 0 (server.step l.road.pair.sender (w.rows + 1) (receipt_of w k ms)).step_state.offers ≡ []
            none_offered = empty_by (ones Alloc 0 (server.step l.road.pair.sender (w.rows + 1) (receipt_of w k ms)).step_state.offers) (λ o i.
                let r = out_ones (is_one Alloc 0) (server.step l.road.pair.sender (w.rows + 1) (receipt_of w k ms)).step_state.offers o i in
                free o r.0 (is_to_true Alloc 0 o (and_right_of o r.1)).0)
              where
                and_right_of : (o : Offer) → is_one Alloc 0 o ≡ true → is_to Alloc 0 o ≡ true
                and_right_of o e = and_right o.fitted (is_to Alloc 0 o) e

        -- it is taken
        takes : IsTaken l.accepted message now → (message.first_part ≡ false → suc (rank l.accepted) ≤ rank then_accepted) → Goal (Rx g.n k ms)
        takes taken counts =
            let r = road_asked g l.accepted l.xs l.cs l.ss traffic w l.road at_ (Rx g.n k ms) in_time calm known short then_accepted settled others fly (λ x d. cc (d.comes)) in
            heard r.2 r.0 r.1 r.3 r.4
            (elim content [ inl early ↦ inl early | inr none ↦ let up = counts none in inr (omega (arith, up), inr up) ])
            (elim taken [
              | inl f ↦ inr (inr (
                record { at = at_; transfer = sent_by g.n w (allocation_from t 0 f.0) },
                in_back (record { at = at_; transfer = sent_by g.n w (allocation_from t 0 f.0) }) l.xs r.2 (r.5 (allocation_from t 0 f.0) (record {
                  server = t;
                  runs = l.road.settled.settled.runs;
                  event = receipt_of w k ms;
                  in_step = refl;
                  offered = offered f.0 f.1 f.2;
                  fitted = refl;
                }) refl refl),
                last_then,
                record { node = 0; first_part = false; uid = record { items = f.0 } },
                g.below.read (record { node = 0; first_part = false; uid = record { items = f.0 } }) (record { node = omega arith; uid = f.2 }),
              ))
              | inr none ↦ by_fresh r.2 (inr none)
            ])
          where
            offered : (bytes : List ℕ) → answer l.accepted message now true ≡ Follows (record { items = bytes }) → length bytes ≤ 16
                → In (allocation_from t 0 bytes) (server.step t (w.rows + 1) (receipt_of w k ms)).step_state.offers
            offered bytes says few =
                let place : has_room t.queue (allocation_payload 0 bytes) ≡ true = le_is (length t.queue + frame_count (suc (length bytes))) 32
                (let f : frame_count (suc (length bytes)) ≤ 3 = few_frames (suc (length bytes)) (omega (arith, few)) in
                let r = known.room t l.road.settled.settled.runs in omega (arith, f, r)) in
                let f = g.below.follow t (w.rows + 1) (arrival_at (frame_at w.frames k) ms) message bytes ready request
                (ap (λ (a : List Accepted). answer a message now true) l.road.settled.requests ∙ says) place in
                subst (λ (o : List Offer). In (allocation_from t 0 bytes) o) (sym f.offered.is) (inl refl)

      -- it makes the log grow, or is taken or ignored
      asks_it : Goal (Rx g.n k ms)
      asks_it = elim ((known.leaves l.accepted l.road.settled).asked message asked_) [
        | inl grown ↦ inr (inr (inl (
          l.road.settled.settled,
          grown.uid,
          grown.preferred,
          record {
            message = message;
            asked = asked_;
            clock = same_ms ∙ calm.1;
            request = subst (λ (j : ℕ). IsRequest (arrival_at (frame_at w.frames j) asked_.comes.ms) message) (sym same_k)
                (subst (λ (m : ℕ). IsRequest (arrival_at (frame_at w.frames k) m) message) (sym same_ms) request);
            whole = grown.whole;
          },
          grown,
        )))
        | inr is ↦
            let settled = subst (λ (m : ℕ). IsSettled g.n g.log (after l.accepted message m true) (at_ + ahead g) (after_row w (Rx g.n k ms))) now_is is in
            elim (becomes l.accepted message now) [ inl ignored ↦ ignores settled ignored | inr taken ↦ takes settled taken.0 taken.1 ]
      ]

    -- it is one, or none
    pub comes_it : Goal (Rx g.n k ms)
    comes_it = elim (l.times.sent c in_cs).1 [
      | inl early ↦ elim (asked_or_not g.n w t l.road.settled.settled.runs (Rx g.n k ms)) [
        | inl is ↦ asks_it is.0 is.1 (inl early)
        | inr none ↦ stays g from traffic w l at_ in_time (Rx g.n k ms) calm known short none others fly
            (times_dropped g from l.accepted l.xs l.cs l.queue l.request l.follow_up traffic.at ticked waits l.times at_ in_time.moments c others is_first) refl refl (λ x d. cc (d.comes))
      ]
      | inr other ↦ asks_it other.0
          (is_asked g.below.delivered g.n w k ms other.0 t l.road.settled.settled.runs
          (subst (λ (f : Queued). IsRequest (arrival_at f (max t.now ms)) other.0) (sym same) (request_at c.frame other.0 (max t.now ms) other.2)))
          (inr other.1)
    ]
