-- The leader answers the whole unique ID with the pair of its log, and the device holds the node ID.
use Rattle.std.proofs.Common.{◌≡◌, ◌≢◌, ◌⊎◌, ℕ, zero, ◌+◌, ◌*◌, ◌<◌, ◌≤◌, true, false, List, [], ◌∷◌, length, max, inl, inr, refl, sym, ◌∙◌, ap, subst, arith, Option, None, Some}
use Rattle.std.specs.Prelude.{slice_index_or}
use Rattle.alloc_exchange.specs.declared.heard.Heard.TheVariants.{Whole}
use Rattle.alloc_exchange.specs.Exchange.{Accepted, after, answer}
use Rattle.can_frame.specs.declared.entry.Entry.{Entry}
use Rattle.can_frame.specs.declared.step.What.TheVariants.{Alloc}
use Rattle.can_frame.specs.Kinds.{is_anonymous}
use Rattle.can_frame.specs.Log.{HasPair, IsInjective, blank}
use Rattle.can_frame.specs.Zeros.{zeros}
use Rattle.dsdl_codec.specs.declared.allocation.Allocation.{Allocation}
use Rattle.dsdl_codec.specs.Allocation.{allocation_of}
use Rattle.bus_rows.specs.declared.row.Row.{Row}
use Rattle.bus_rows.specs.declared.row.Row.TheVariants.{ARx, ATick, Rx}
use Rattle.transfer_rx.specs.Reassembly.{Answer, Gives, answer as received, next as next_sessions}
use Rattle.transfer_rx.specs.Sessions.{Session}
use Rattle.transfer_tx.specs.Queue.{Queued}
use Rattle.allocatee.specs.Accepted.{setting}
use Rattle.allocatee.specs.Allocatee.{Device, after_reading, after_receiver_answer, step}
use Rattle.allocatee.specs.Allocatee as device
use Rattle.allocatee.specs.Asking.{Asking, after_allocation}
use Rattle.allocatee.specs.declared.timer.Timer.{Timer}
use Rattle.alloc_spec.specs.AllocatorState.{AllocatorState, is_zero, recorded_at}
use Rattle.alloc_spec.specs.Exchange.{allocation_payload}
use Rattle.alloc_spec.specs.Step as server
use Rattle.alloc_spec.specs.Transfers.{kind_of}
use Rattle.bus_agreement.specs.Allocatees.{Holds}
use Rattle.service_steps.specs.Requests.{IsRequest}
use Rattle.service_steps.specs.Serving.{IsFirst, allocation_from}
use Rattle.service_alone.specs.Calm.{HasSettled}
use Rattle.service_alone.proofs.CalmDevice.{asking_as, device_as, gets, receives as hears, same_uid}
use Rattle.service_alone.proofs.CalmStages.{device_steps, has_not_passed, request_of}
use Rattle.service_alone.proofs.Choosing.{StandsAt, not_zeros, recorded_first, same_node, stands}
use Rattle.service_calm.specs.Calm.{IsCalmRow, IsInTime, Member as OfMember, Traffic, traffic_after}
use Rattle.service_calm.specs.Comes as transfer
use Rattle.service_calm.specs.Devices.{DeliversTo}
use Rattle.service_device.specs.Settled.{IsSettled}
use Rattle.service_device.proofs.DialogAgain.{again_first}
use Rattle.service_device.proofs.DialogAsked.{answered, goes_out, has_place, is_ready, its_asked}
use Rattle.service_device.proofs.DialogFrames.{HasSource}
use Rattle.service_device.proofs.DialogPhases.{IsOnBus, ahead, its_clock, last, on_way, request_at}
use Rattle.service_device.proofs.DialogRows.{AskerThen, Asker, IsCalm, IsKnown, Then, asker_with, delivers_it, each_row, nothing_sent, read_on, reads_on}
use Rattle.service_device.proofs.DialogScene.{Known, Scene, Talk, scene_late}
use Rattle.service_calm.proofs.Pending.{Made}
use Rattle.service_calm.proofs.Ways.{Flying, flying_late}
use Rattle.bus_spec.specs.Cluster.{Cluster, after_row, arrival_at, frame_at, receipt_of}

-- where a pair of a device stands in a log, and that each of its entries with this unique ID has this node ID
pub record Stands (log : List Entry) (uid : List ℕ) (node : ℕ) : Type 0 where
  pub place : ℕ
  pub device : is_zero uid ≡ false
  pub first : recorded_at log uid ≡ Some place
  pub inside : place < length log
  pub its_uid : (slice_index_or log place (blank 0)).uid ≡ uid
  pub its_node : (slice_index_or log place (blank 0)).node ≡ node
  pub least : 1 ≤ node
  pub most : node ≤ 125

-- so it is for a pair of an injective log
pub pair_stands : (log : List Entry) (uid : List ℕ) (node : ℕ) → HasPair log uid node → IsInjective log → Stands log uid node
pair_stands log uid node p injective = record {
  place = there.place;
  device = not_zeros uid device;
  first = recorded_first log uid there;
  inside = there.inside;
  its_uid = there.its_uid;
  its_node = same_node log uid there.place p.place injective device there.inside p.within there.its_uid p.its_uid ∙ p.its_node;
  least = subst (λ (k : ℕ). 1 ≤ k) p.its_node p.pair.least;
  most = subst (λ (k : ℕ). k ≤ 125) p.its_node p.pair.most;
}
  where
    device : uid ≢ zeros
    device = λ e. p.pair.uid (p.its_uid ∙ e)

    there : StandsAt log uid
    there = stands log uid p.place p.within p.its_uid

module _ (g : Talk) (node : ℕ) (stand : Stands g.log g.uid node) where
  -- the answer to the whole unique ID is under way
  pub record IsTelling (traffic : Traffic) (w : Cluster) : Type 0 where
    pub accepted : List Accepted
    pub x : Made
    pub scene : Scene g accepted (x ∷ []) [] traffic w
    pub request : Timer
    pub asker : Asker g [] request None traffic w
    pub what : x.transfer.offer.what ≡ Alloc
    pub payload : x.transfer.offer.payload ≡ allocation_payload node g.uid
    pub quiet : x.at + 2 * g.pace.delay + its_clock g < request.since + request.length
    pub long : 1 ≤ request.length
    pub soon : x.at ≤ last g

  -- the device holds the node ID, and the leader has settled
  abbrev pub IsTold : ℕ → Cluster → Type 0
  IsTold moment w = Holds w g.a g.uid node × HasSettled g.n g.log (moment + ahead g) w

  -- ---- the whole unique ID comes to the leader

  module _ (traffic : Traffic) (w : Cluster) (p : IsOnBus g zero traffic w) (at_ : ℕ)
      (in_time : IsInTime g.group g.clocks g.pace traffic w at_) (by : at_ ≤ last g) (k ms : ℕ) (calm : IsCalmRow g.group g.clocks g.pace traffic w at_ (Rx g.n k ms))
      (known : Known g traffic.at w (record { at = at_; row = Rx g.n k ms })) (same : frame_at w.frames k ≡ p.frame)
      (fly : Flying HasSource g.pace.delay (after_row w (Rx g.n k ms)).frames ((traffic_after traffic w (record { at = at_; row = Rx g.n k ms })).to (OfMember g.n)) []) where
    bus_by : at_ ≤ p.due + g.pace.period + 2 * g.pace.delay
    bus_by = flying_late HasSource g.pace.delay w.frames at_ (traffic.to (OfMember g.n)) (on_way g p.due p.frame ∷ []) p.scene.requests (in_time.hears (OfMember g.n) g.in_n)
        (on_way g p.due p.frame) (inl refl)

    abbrev message : Allocation
    message = request_of g.uid g.whole g.preferred zero

    abbrev leader : AllocatorState
    leader = p.scene.settled.settled.server

    request : (moment : ℕ) → IsRequest (arrival_at (frame_at w.frames k) moment) message
    request moment = subst (λ (f : Queued). IsRequest (arrival_at f moment) message) (sym same) (request_at p.frame message moment p.asks)

    moment_is : max leader.now ms ≡ at_ + ahead g
    moment_is = let c = p.scene.settled.settled.clock in let m = in_time.moments in let e = calm.1 in omega (arith, c, m, e)

    whole : answer leader.accepted message (max leader.now ms) true ≡ Whole g.uid g.preferred
    whole = (λ i. answer (p.scene.settled.requests i) message (moment_is i) true)
        ∙ p.stage.right (at_ + ahead g) (let f = p.from in let m = in_time.moments in omega (arith, f, m)) (let b = bus_by in omega (arith, b))

    log_is : leader.raft_server.store.log ≡ g.log
    log_is = p.scene.settled.settled.log_is

    sixteen : length g.uid ≤ 16
    sixteen = let v = g.whole in omega (arith, v)

    first : IsFirst (allocation_from leader node g.uid) (server.step leader (w.rows + 1) (receipt_of w k ms)).step_state.offers
    first = again_first leader (w.rows + 1) (arrival_at (frame_at w.frames k) ms) message g.uid g.preferred node stand.place
        (is_ready g p.accepted (on_way g p.due p.frame ∷ []) traffic w p.scene at_ k ms in_time calm known message request) (request ms) whole stand.device
        (ap (λ (l : List Entry). recorded_at l g.uid) log_is ∙ stand.first)
        (subst (λ (l : List Entry). stand.place < length l) (sym log_is) stand.inside)
        (ap (λ (l : List Entry). (slice_index_or l stand.place (blank 0)).uid) log_is ∙ stand.its_uid)
        (ap (λ (l : List Entry). (slice_index_or l stand.place (blank 0)).node) log_is ∙ stand.its_node)
        (has_place g p.accepted (on_way g p.due p.frame ∷ []) traffic w p.scene at_ k ms in_time calm known message request node g.uid sixteen)

    settled_then : IsSettled g.n g.log (after p.accepted message (max leader.now ms) true) (at_ + g.clocks (OfMember g.n)) (after_row w (Rx g.n k ms))
    settled_then = elim ((known.leaves p.accepted p.scene.settled).asked message
        (its_asked g p.accepted (on_way g p.due p.frame ∷ []) traffic w p.scene at_ k ms in_time calm known message request)) [
          | inl grown ↦
              let same_uid_ : grown.uid ≡ g.uid = cc (sym grown.whole ∙ whole) in
              absurd (cc (sym grown.may.new ∙ (ap (λ (u : List ℕ). recorded_at leader.raft_server.store.log u) same_uid_
              ∙ (ap (λ (l : List Entry). recorded_at l g.uid) log_is ∙ stand.first))))
          | inr is ↦ is
        ]

    -- it is answered
    pub tells_it : IsTelling (traffic_after traffic w (record { at = at_; row = Rx g.n k ms })) (after_row w (Rx g.n k ms))
    tells_it = record {
      accepted = after p.accepted message (max leader.now ms) true;
      x = answered g p.accepted (on_way g p.due p.frame ∷ []) traffic w p.scene at_ k ms in_time calm known message request node g.uid;
      scene = goes_out g p.accepted (on_way g p.due p.frame ∷ []) traffic w p.scene at_ k ms in_time calm known message request node g.uid sixteen first
          (after p.accepted message (max leader.now ms) true) settled_then [] fly;
      request = p.request;
      asker = asker_with g [] p.request None traffic w p.asker at_ in_time (Rx g.n k ms) [] p.request None p.asker.id p.asker.moment
          p.asker.sessions p.asker.there p.asker.small (read_on g [] p.request None traffic w p.asker at_ in_time);
      what = refl;
      payload = refl;
      quiet = let b = bus_by in let q = p.quiet.0 in let v = g.quick in omega (arith, b, q, v);
      long = p.quiet.1;
      soon = by;
    }

  -- ---- the answer comes to the device

  module _ (traffic : Traffic) (w : Cluster)
      (p : IsTelling traffic w) (at_ : ℕ) (in_time : IsInTime g.group g.clocks g.pace traffic w at_) where
    abbrev xs : List Made
    xs = p.x ∷ []

    abbrev TellGoal : Row → Type 0
    TellGoal row = IsTelling (traffic_after traffic w (record { at = at_; row = row })) (after_row w row) ⊎ IsTold at_ (after_row w row)

    tell_by : at_ ≤ p.x.at + 2 * g.pace.delay
    tell_by = scene_late g p.accepted xs [] traffic w p.scene at_ in_time p.x (inl refl)

    -- it is over in time
    pub tell_end : at_ ≤ last g + 2 * g.pace.delay
    tell_end = let b = tell_by in let s = p.soon in omega (arith, b, s)

    abbrev CalmTell : Row → Type 0
    CalmTell row = IsCalm g [] p.request None p.accepted xs [] traffic w p.scene p.asker at_ in_time row

    abbrev KnownTell : Row → Type 0
    KnownTell row = IsKnown g [] p.request None p.accepted xs [] traffic w p.scene p.asker at_ in_time row

    abbrev SceneTell : (row : Row) → CalmTell row → KnownTell row → List Made → Type 0
    SceneTell row calm known ys = Then g [] p.request None p.accepted xs [] traffic w p.scene p.asker at_ in_time row calm known p.accepted ys []

    -- it is still under way
    still_comes : (row : Row) (calm : CalmTell row) (known : KnownTell row) → SceneTell row calm known xs
        → AskerThen g [] p.request None traffic w p.asker at_ in_time row [] p.request None → TellGoal row
    still_comes row calm known scene asker = inl (record {
      accepted = p.accepted;
      x = p.x;
      scene = scene;
      request = p.request;
      asker = asker;
      what = p.what;
      payload = p.payload;
      quiet = p.quiet;
      long = p.long;
      soon = p.soon;
    })

    tell_reads : (ms word : ℕ) (calm : CalmTell (ATick g.a ms word)) (known : KnownTell (ATick g.a ms word)) → SceneTell (ATick g.a ms word) calm known xs → TellGoal (ATick g.a ms word)
    tell_reads ms word calm known scene = still_comes (ATick g.a ms word) calm known scene
        (reads_on g [] p.request None traffic w p.asker at_ in_time ms word calm.1 refl
        (has_not_passed ms p.request (let b = tell_by in let q = p.quiet in let c = calm.1 in omega (arith, b, q, c)) (inr p.long)))

    -- the device takes it
    module _ (k ms word : ℕ) (calm : CalmTell (ARx g.a k ms word)) (known : KnownTell (ARx g.a k ms word)) (ys : List Made) (scene : SceneTell (ARx g.a k ms word) calm known ys)
        (delivers : DeliversTo g.a p.x.transfer w (ARx g.a k ms word)) where
      older : p.asker.moment ≤ ms
      older = let r = read_on g [] p.request None traffic w p.asker at_ in_time in let c = calm.1 in omega (arith, r, c)

      gives_it : received setting p.asker.sessions (arrival_at (frame_at w.frames k) ms) ≡ Gives (transfer.delivery_of p.x.transfer)
      gives_it = delivers_it g [] p.request None traffic w p.asker at_ in_time k ms word calm.1 p.x.transfer delivers

      taken_as : after_receiver_answer word (received setting p.asker.sessions (arrival_at (frame_at w.frames k) ms)) (asking_as g.uid g.preferred [] p.asker.id ms p.request None)
          ≡ after_allocation word false (record { node = node; first_part = false; uid = record { items = g.uid } })
          (asking_as g.uid g.preferred [] p.asker.id ms p.request None)
      taken_as =
          let short : length g.uid ≤ 16 = (let v = g.whole in omega (arith, v)) in
          ap (λ (x : Answer). after_receiver_answer word x (asking_as g.uid g.preferred [] p.asker.id ms p.request None)) gives_it
          ∙ ((λ l. after_reading word (is_anonymous (kind_of (p.what l))) (allocation_of (p.payload l)) (asking_as g.uid g.preferred [] p.asker.id ms p.request None))
          ∙ ap (λ (o : Option Allocation). after_reading word false o (asking_as g.uid g.preferred [] p.asker.id ms p.request None))
          (g.below.read (record { node = node; first_part = false; uid = record { items = g.uid } }) (record { node = omega (arith, stand.most); uid = short })))

      abbrev asking_then : Asking
      asking_then = after_allocation word false (record { node = node; first_part = false; uid = record { items = g.uid } })
          (asking_as g.uid g.preferred [] p.asker.id ms p.request None)

      abbrev sessions_then : List Session
      sessions_then = next_sessions setting p.asker.sessions (arrival_at (frame_at w.frames k) ms)

      holds : TellGoal (ARx g.a k ms word)
      holds = inr (
        record {
          device = record { asking = asking_then; sessions = sessions_then };
          there = device_steps w g.a (device.Rx (arrival_at (frame_at w.frames k) ms) word) (device_as g.uid g.preferred [] p.asker.id p.asker.moment p.request None p.asker.sessions)
              (record { asking = asking_then; sessions = sessions_then }) p.asker.there
              (hears g.uid g.preferred [] p.asker.id p.asker.moment p.request None p.asker.sessions (w.rows + 1) word (arrival_at (frame_at w.frames k) ms) older
              ∙ ap (λ (x : Asking). record { asking = x; sessions = sessions_then }) taken_as);
          its_uid = same_uid g.uid g.preferred p.asker.id ms p.request None word node stand.least stand.most;
          its_node = gets g.uid g.preferred p.asker.id ms p.request None word node stand.least stand.most;
        },
        scene.settled.settled,
      )

    tell_gives : (k ms word : ℕ) (calm : CalmTell (ARx g.a k ms word)) (known : KnownTell (ARx g.a k ms word)) (x : Made) (rest : List Made) → xs ≡ x ∷ rest
        → DeliversTo g.a x.transfer w (ARx g.a k ms word) → SceneTell (ARx g.a k ms word) calm known rest → TellGoal (ARx g.a k ms word)
    tell_gives k ms word calm known x rest e delivers scene = holds k ms word calm known rest scene
        (subst (λ (y : Made). DeliversTo g.a y.transfer w (ARx g.a k ms word)) (ap (λ (l : List Made). slice_index_or l 0 x) (sym e)) delivers)

    -- each row leaves it under way, or the device holds the node ID
    pub telling_goes_on : (row : Row) → CalmTell row → KnownTell row → TellGoal row
    telling_goes_on = each_row g [] p.request None p.accepted xs [] traffic w p.scene p.asker at_ in_time TellGoal
        (λ row calm known none scene asker quiet. (still_comes row calm known scene asker))
        (λ ms word calm known none scene. (tell_reads ms word calm known scene))
        (λ calm known. absurd (nothing_sent g p.request None traffic w p.asker calm.1))
        (λ k ms calm known c more e same fly. absurd (omega (arith, ap length e)))
        (λ k ms word calm known x rest e none delivers scene. (tell_gives k ms word calm known x rest e delivers scene))
