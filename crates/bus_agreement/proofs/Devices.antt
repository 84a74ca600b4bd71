-- Rows of allocatees: they show no event, and what an allocatee holds was given by a member.
use Rattle.std.proofs.Common.{◌≡◌, ◌⊎◌, ℕ, ◌+◌, ◌≤◌, Bool, false, List, [], ◌∷◌, ◌++◌, refl, sym, ap, subst, ◌∙◌, arith, inl, inr, Option, Some, None}
use Rattle.std.specs.Prelude.{All}
use Rattle.std.proofs.lemmas.Bool.Decides.{eqb_tells}
use Rattle.allocatee.specs.Accepted as device
use Rattle.allocatee.specs.Allocatee.{Device, Event, answer_to, at_step, opening, after_pop, step}
use Rattle.allocatee.specs.Allocatee.Event.{Rx, Tick}
use Rattle.allocatee.specs.Given.{IsAnonymous, IsGivenBy}
use Rattle.allocatee.specs.Judging.{arrival_judgement}
use Rattle.can_frame.specs.declared.identifier.Ident.{Ident}
use Rattle.can_frame.specs.declared.identifier.Kind.{Kind}
use Rattle.can_frame.specs.declared.identifier.Kind.TheVariants.{Message, Anonymous, Request, Response}
use Rattle.can_frame.specs.declared.mark.Mark.{Mark}
use Rattle.can_frame.specs.declared.step.Judged.TheVariants.{Fine}
use Rattle.can_frame.specs.declared.step.What.TheVariants.{Alloc}
use Rattle.can_frame.specs.Kinds.{is_anonymous}
use Rattle.dsdl_codec.specs.Allocation.{allocation_of}
use Rattle.raft_model.specs.Lists.{In, at, at_here, at_other}
use Rattle.raft_model.specs.Runs as raft
use Rattle.bus_rows.specs.declared.row.Row.TheVariants.{AEnd, AOpen, ARx, ASend, ATick}
use Rattle.transfer_rx.specs.Acceptance.{first_signature}
use Rattle.transfer_rx.specs.Origin.{CameWithKey}
use Rattle.transfer_rx.specs.Reassembly.{Arrival, Delivery, Gives, Setting, next as sessions_after}
use Rattle.transfer_rx.specs.Run as rx_run
use Rattle.transfer_rx.specs.Sessions.{Session}
use Rattle.transfer_rx.specs.Sound.{IsDelivered}
use Rattle.transfer_tx.specs.Queue.{Queued, next_out}
use Rattle.alloc_spec.specs.Transfers.{SentTransfer}
use Rattle.bus_spec.specs.Allocatees.{after_sending_from, next_from, device_after_step}
use Rattle.alloc_spec.specs.ClusterMembers.{AreMembers}
use Rattle.bus_spec.specs.Cluster.{Cluster, arrival_at, frame_at, in_list, after_row, receipt_at}
use Rattle.bus_spec.specs.Lawful.{absent, cause, is_forged, is_forged_by, arrival_refusal_at, no_allocatee, no_such_frame, nothing_to_send, or_else}
use Rattle.bus_agreement.specs.Asking.{IsAsking, IsGiven}
use Rattle.bus_agreement.specs.Frames.{AreHeard, AreTransfers, CameFrom, IsForeign, IsOnBus, WasMade}
use Rattle.bus_agreement.specs.Shows.{Shows}
use Rattle.bus_agreement.specs.LawsBelow.{FrameLaws}
use Rattle.bus_agreement.proofs.DeliveredTransfers.{was_made}
use Rattle.bus_agreement.proofs.Idents.{IsWanted, one_what, wanted_is}
use Rattle.bus_agreement.proofs.StillShown.{asking_more, heard_more}
use Rattle.bus_agreement.proofs.Lists.{in_append, never, of_each}
use Rattle.bus_agreement.proofs.OneRow.{is_fine, stands}
use Rattle.bus_agreement.proofs.WholeTransfers.{forged_allocation}
use Rattle.bus_agreement.proofs.RowsWithoutEvents.{frame_shown, one_more, others_shown, out_of_queue, past_first}

-- what is known of each step of a device, as its laws say it
pub record DeviceLaws : Type 0 where
  pub given : (d : Device) (number node : ℕ) (event : Event) → (step d number event).device.asking.holds ≡ Some node
      → (d.asking.holds ≡ Some node) ⊎ IsGivenBy d event node
  pub uid : (d : Device) (number : ℕ) (event : Event) → (step d number event).device.asking.uid ≡ d.asking.uid
  pub quiet : (uid : List ℕ) (preferred now word : ℕ) → All IsAnonymous (opening uid preferred now word).asking.queue
  pub stepped : (d : Device) (number : ℕ) (event : Event) → All IsAnonymous d.asking.queue → All IsAnonymous (step d number event).device.asking.queue
  pub sent : (d : Device) → All IsAnonymous d.asking.queue → All IsAnonymous (after_pop d).asking.queue
  pub frame : (d : Device) (number word : ℕ) (arrival : Arrival)
      → (step d number (Rx arrival word)).device.sessions ≡ sessions_after device.setting d.sessions (at_step d arrival)
  pub tick : (d : Device) (number now word : ℕ) → (step d number (Tick now word)).device.sessions ≡ d.sessions
  pub untorn : (d : Device) (arrival : Arrival) (delivery : Delivery) → arrival_judgement d arrival ≡ Fine → answer_to d arrival ≡ Gives delivery
      → delivery.whole ≡ false → arrival.mark.step ≡ 0
  pub kept : (setting : Setting) (before arrivals : List Arrival) (sessions : List Session) → All (CameWithKey setting before) sessions
      → All (CameWithKey setting (before ++ arrivals)) (rx_run.run setting sessions arrivals)

-- ---- what a device is delivered

-- an allocatee hears Allocations alone
only_allocations : (kind : Kind) (number s : ℕ) → first_signature device.rows kind number ≡ Some s → is_anonymous kind ≡ false → (kind ≡ Message) × (number ≡ 1)
unfolding device.rows
only_allocations Message number s e known = (refl, elim (eqb_tells 1 number) [ inl same ↦ sym same.1 | inr apart ↦ absurd (cc (rw apart.0 at e)) ])
only_allocations Anonymous number s e known = never (sym known)
only_allocations Request number s e known = absurd (cc (e))
only_allocations Response number s e known = absurd (cc (e))

-- a clock reading, or a frame of the bus that it may take
pub record MayAsk (frames : List Queued) (x : Device) (event : Event) : Type 0 where
  pub came : (arrival : Arrival) (word : ℕ) → event ≡ Rx arrival word → CameFrom frames arrival
  pub fine : (arrival : Arrival) (word : ℕ) → event ≡ Rx arrival word → arrival_judgement x arrival ≡ Fine

one_frame : (a b : Arrival) (v w : ℕ) → Rx a v ≡ Rx b w → a ≡ b
one_frame a b v w e = cc (e)

module _ (laws : DeviceLaws) (frame_laws : FrameLaws) (ids : List ℕ) (low : (n : ℕ) → In n ids → 1 ≤ n) (high : (n : ℕ) → In n ids → n ≤ 125)
    (made : List SentTransfer) (are : AreTransfers ids made) (frames : List Queued) (bus : (frame : Queued) → In frame frames → IsOnBus made ids frame)
    (x : Device) (is : IsAsking made frames x) (number : ℕ) where
  module _ (event : Event) (may : MayAsk frames x event) (node : ℕ) (by : IsGivenBy x event node) where
    abbrev d : Delivery
    d = by.delivery

    abbrev coming : Arrival
    coming = at_step x by.arrival

    its : IsDelivered device.setting x.sessions coming d
    its = frame_laws.delivered device.setting x.sessions coming d by.gives

    wants : IsWanted device.rows 0 coming.id its.w.ident
    wants = wanted_is device.rows 0 coming.id its.w its.accepted

    broadcast : (d.ident.kind ≡ Message) × (d.ident.number ≡ 1)
    broadcast = only_allocations d.ident.kind d.ident.number wants.signature.0
        (subst (λ (i : Ident). first_signature device.rows i.kind i.number ≡ Some wants.signature.0) (sym its.ident) wants.signature.1) by.given.known

    came : CameFrom frames coming
    came = let c = may.came by.arrival by.word by.comes in
        record { frame = c.frame; there = c.there; id = c.id; bytes = c.bytes; mark = c.mark }

    whose : WasMade made d
    whose = was_made frame_laws ids low high made are device.setting frames bus x.sessions is.heard coming came d by.gives
        (λ torn. ap (λ (m : Mark). m.step) its.mark ∙ laws.untorn x by.arrival d (may.fine by.arrival by.word by.comes) by.gives torn)
        (forged_allocation ids d.ident broadcast.0 broadcast.1) (inr broadcast.0)

    newly_given : IsGiven made x.asking.uid node
    newly_given = record {
      whose = whose.0;
      was_made = whose.1;
      what = one_what whose.0.offer.what Alloc Message 1 (whose.2.kind ∙ broadcast.0) refl (whose.2.number ∙ broadcast.1) refl;
      answer = by.given.message;
      reads = ap allocation_of whose.2.payload ∙ by.given.reads;
      own = by.given.uid;
      gives = by.given.gives;
      some = by.given.least;
    }

  -- ---- a step of it

  heard_then : (event : Event) → MayAsk frames x event → AreHeard frames device.setting (step x number event).device.sessions
  heard_then (Tick now word) may = subst (λ (s : List Session). AreHeard frames device.setting s) (sym (laws.tick x number now word)) is.heard
  heard_then (Rx arrival word) may = record {
    arrivals = is.heard.arrivals ++ coming_now ∷ [];
    come = λ b i. elim (in_append b is.heard.arrivals (coming_now ∷ []) i) [
      | inl j ↦ is.heard.come b j
      | inr (inl e) ↦ subst (λ (c : Arrival). CameFrom frames c) (sym e)
          (let c = may.came arrival word refl in record { frame = c.frame; there = c.there; id = c.id; bytes = c.bytes; mark = c.mark })
      | inr (inr j) ↦ absurd j
    ];
    kept = subst (λ (s : List Session). All (CameWithKey device.setting (is.heard.arrivals ++ coming_now ∷ [])) s) (sym (laws.frame x number word arrival))
        (laws.kept device.setting is.heard.arrivals (coming_now ∷ []) x.sessions is.heard.kept);
  }
    where
      coming_now : Arrival
      coming_now = at_step x arrival

  pub stepped_asking : (event : Event) → MayAsk frames x event → IsAsking made frames (step x number event).device
  stepped_asking event may = record {
    queue = laws.stepped x number event is.queue;
    heard = heard_then event may;
    held = λ node e. subst (λ (uid : List ℕ). IsGiven made uid node) (sym (laws.uid x number event)) (elim (laws.given x number node event e) [
      | inl before ↦ is.held node before
      | inr now ↦ newly_given event may node now
    ]);
  }

-- ---- rows

module _ (choice : ℕ → Bool) (made : List SentTransfer) (w : Cluster) (run : raft.World) (shows : Shows choice made w run) (a : ℕ) where
  -- with another one at its place
  with_one : (y : Option Device) (frames : List Queued) → ((x : Device) → y ≡ Some x → IsAsking made frames x)
      → ((b : ℕ) (x : Device) → w.allocatee b ≡ Some x → IsAsking made frames x) → (b : ℕ) (x : Device) → at w.allocatee a y b ≡ Some x → IsAsking made frames x
  with_one y frames here elsewhere b x e = elim (eqb_tells b a) [
    | inl same ↦ here x (sym (at_here w.allocatee a b y same.1) ∙ e)
    | inr apart ↦ elsewhere b x (sym (at_other w.allocatee a b y apart.1) ∙ e)
  ]

  one_device : (x y : Device) → Some x ≡ Some y → x ≡ y
  one_device x y e = cc (e)

  -- a place that is empty then
  pub left_shown : Shows choice made (after_row w (AEnd a)) run
  left_shown = others_shown choice made w run shows (at w.allocatee a None) (with_one None w.frames (λ x e. absurd (cc (e))) shows.asking)

  module _ (laws : DeviceLaws) where
    pub came_shown : (uid : List ℕ) (pref ms word : ℕ) → Shows choice made (after_row w (AOpen a uid pref ms word)) run
    came_shown uid pref ms word = others_shown choice made w run shows (at w.allocatee a (Some begun))
        (with_one (Some begun) w.frames (λ x e. subst (λ (y : Device). IsAsking made w.frames y) (one_device begun x e) fresh) shows.asking)
      where
        begun : Device
        begun = opening uid pref ms word

        fresh : IsAsking made w.frames begun
        fresh = record {
          queue = laws.quiet uid pref ms word;
          heard = record { arrivals = []; come = λ arrival there. absurd there; kept = λ k d h. absurd (omega (arith, h)) };
          held = λ node e. absurd (cc (e));
        }

    module _ (frame_laws : FrameLaws) (members : AreMembers w.ids) where
      step_shown : (event : Event) → ((x : Device) → w.allocatee a ≡ Some x → MayAsk w.frames x event)
          → Shows choice made (record w { allocatee = at w.allocatee a (device_after_step (w.rows + 1) event (w.allocatee a)); rows = w.rows + 1 }) run
      step_shown event may = others_shown choice made w run shows (at w.allocatee a (device_after_step (w.rows + 1) event (w.allocatee a)))
          (with_one (device_after_step (w.rows + 1) event (w.allocatee a)) w.frames (by (w.allocatee a) refl) shows.asking)
        where
          by : (o : Option Device) → w.allocatee a ≡ o → (x : Device) → device_after_step (w.rows + 1) event o ≡ Some x → IsAsking made w.frames x
          by None there x e = absurd (cc (e))
          by (Some y) there x e = subst (λ (z : Device). IsAsking made w.frames z) (one_device (step y (w.rows + 1) event).device x e)
              (stepped_asking laws frame_laws w.ids (λ n i. (members.nodes n i).0) (λ n i. (members.nodes n i).1) made shows.holds.transfers w.frames shows.bus
              y (shows.asking a y there) (w.rows + 1) event (may y there))

      pub ticked_shown : (ms word : ℕ) → Shows choice made (after_row w (ATick a ms word)) run
      ticked_shown ms word = step_shown (Tick ms word) (λ x there. record { came = λ arrival v e. absurd (cc (e)); fine = λ arrival v e. absurd (cc (e)) })

      pub received_shown : (k ms word : ℕ) → cause w (ARx a k ms word) ≡ None → Shows choice made (after_row w (ARx a k ms word)) run
      received_shown k ms word lawful =
          let coming_to : Arrival = arrival_at (frame_at w.frames k) ms in
          let first = past_first (no_allocatee a) (or_else (absent w a) (or_else (no_such_frame w k) (arrival_refusal_at (w.allocatee a) coming_to))) lawful in
          let second = past_first (absent w a) (or_else (no_such_frame w k) (arrival_refusal_at (w.allocatee a) coming_to)) first.1 in
          let third = past_first (no_such_frame w k) (arrival_refusal_at (w.allocatee a) coming_to) second.1 in
          step_shown (receipt_at w k ms word) (λ x there. record {
            came = λ arrival v e. subst (λ (b : Arrival). CameFrom w.frames b) (one_frame coming_to arrival word v e)
                (record { frame = frame_at w.frames k; there = stands w k third.0; id = refl; bytes = refl; mark = refl });
            fine = λ arrival v e. subst (λ (b : Arrival). arrival_judgement x b ≡ Fine) (one_frame coming_to arrival word v e)
                (is_fine (arrival_judgement x coming_to) (subst (λ (o : Option Device). arrival_refusal_at o coming_to ≡ None) there third.1));
          })

    -- ---- a frame that it sends

    foreign : (frame : Queued) → IsAnonymous frame → IsForeign w.ids frame
    foreign frame is = ap (λ (o : Option Ident). is_forged w.ids o) is.read ∙ ap (λ (k : Kind). is_forged_by w.ids k is.ident) is.kind

    sent_by : (x : Device) → w.allocatee a ≡ Some x → (o : Option Queued) → next_out x.asking.queue ≡ o → nothing_to_send o ≡ None
        → Shows choice made (record w { allocatee = at w.allocatee a (Some (after_pop x)); frames = w.frames ++ in_list o; rows = w.rows + 1 }) run
    sent_by x there None out something = absurd (cc (something))
    sent_by x there (Some frame) out something = frame_shown choice made w run shows frame (at w.allocatee a (Some (after_pop x))) (foreign frame anonymous) anonymous.narrow
        (with_one (Some (after_pop x)) (w.frames ++ frame ∷ []) (λ y e. subst (λ (z : Device). IsAsking made (w.frames ++ frame ∷ []) z) (one_device (after_pop x) y e) after)
        (λ b y e. asking_more made made (λ z i. i) w.frames (w.frames ++ frame ∷ []) (one_more w.frames frame) y (shows.asking b y e)))
      where
        is : IsAsking made w.frames x
        is = shows.asking a x there

        anonymous : IsAnonymous frame
        anonymous = of_each IsAnonymous x.asking.queue is.queue frame (out_of_queue x.asking.queue frame out)

        after : IsAsking made (w.frames ++ frame ∷ []) (after_pop x)
        after = record {
          queue = laws.sent x is.queue;
          heard = heard_more w.frames (w.frames ++ frame ∷ []) (one_more w.frames frame) device.setting x.sessions is.heard;
          held = is.held;
        }

    sent_at : (o : Option Device) → w.allocatee a ≡ o → nothing_to_send (next_from o) ≡ None
        → Shows choice made (record w { allocatee = at w.allocatee a (after_sending_from o); frames = w.frames ++ in_list (next_from o); rows = w.rows + 1 }) run
    sent_at None there something = absurd (cc (something))
    sent_at (Some x) there something = sent_by x there (next_out x.asking.queue) refl something

    pub put_shown : cause w (ASend a) ≡ None → Shows choice made (after_row w (ASend a)) run
    put_shown lawful =
        let first = past_first (no_allocatee a) (or_else (absent w a) (nothing_to_send (next_from (w.allocatee a)))) lawful in
        let second = past_first (absent w a) (nothing_to_send (next_from (w.allocatee a))) first.1 in
        sent_at (w.allocatee a) refl second.1
