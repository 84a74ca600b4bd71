-- A group on a calm bus: its members run, and what they and its devices send is theirs.
use Rattle.std.proofs.Common.{◌≡◌, ℕ, ◌+◌, ◌*◌, ◌<◌, ◌≤◌, List, [], ◌∷◌, ◌++◌, length, refl, sym, ◌∙◌, ap, subst, arith, inl, inr, Option, None, Some}
use Rattle.std.specs.Prelude.{◌-◌, ◌^◌, All}
use Rattle.std.proofs.lemmas.Bool.Decides.{eqb_tells}
use Rattle.std.proofs.lemmas.List.{get_or_past}
use Rattle.can_frame.specs.declared.identifier.Ident.{Ident}
use Rattle.can_frame.specs.declared.identifier.Kind.{Kind}
use Rattle.can_frame.specs.declared.identifier.Kind.TheVariants.{Anonymous, Message, Request, Response}
use Rattle.can_frame.specs.declared.step.What.{What}
use Rattle.can_frame.specs.declared.step.What.TheVariants.{Disc}
use Rattle.can_frame.specs.Identifier.{IsIdentifier, IsInRange, identifier_number, low_bits}
use Rattle.raft_model.specs.Lists.{In, at, at_here, at_other}
use Rattle.bus_rows.specs.declared.row.Row.{Row}
use Rattle.bus_rows.specs.declared.row.Row.TheVariants.{AEnd, AOpen, ARx, ASend, ATick, Crash, Ext, Fault, Open, Rx, Send, Tick}
use Rattle.transfer_tx.specs.Queue.{Queued}
use Rattle.allocatee.specs.Allocatee.{Device}
use Rattle.allocatee.specs.Allocatee as device
use Rattle.allocatee.specs.Given.{IsAnonymous}
use Rattle.alloc_spec.specs.AllocatorState.{AllocatorState}
use Rattle.alloc_spec.specs.Step.{Event, after_pop, step}
use Rattle.alloc_spec.specs.Transfers.{ident_of, kind_of}
use Rattle.alloc_spec_laws.proofs.Choices.{lt_tells}
use Rattle.alloc_spec_laws.specs.Sound.{IsDestination, IsOnTheBus, IsSound}
use Rattle.alloc_spec_laws.specs.Waiting.{all_frames_put}
use Rattle.bus_agreement.specs.LawsBelow.{FrameLaws}
use Rattle.bus_agreement.specs.StepLaws.{MoreLaws, StepLaws}
use Rattle.bus_agreement.proofs.Idents.{ident_ok}
use Rattle.bus_agreement.proofs.Lists.{in_append, in_at, of_each}
use Rattle.bus_agreement.proofs.MadeTransfers.{frame_put}
use Rattle.bus_agreement.proofs.RowsWithoutEvents.{left_in_queue, out_of_queue}
use Rattle.service_alone.specs.Calm.{Pace}
use Rattle.service_calm.specs.Calm.{Device as OfDevice, IsCalmRow, Member as OfMember, Party, Traffic}
use Rattle.service_calm.proofs.Counting.{HasPlaces, counted_step}
use Rattle.service_calm.proofs.Frames.{CuttingLaws, has_its_id}
use Rattle.service_calm.proofs.Takes.{DeliversWhole}
use Rattle.service_alone.proofs.Members.{IsUp, steps_up}
use Rattle.bus_spec.specs.Allocatees.{after_sending_from, device_after_step, next_from}
use Rattle.bus_spec.specs.Cluster.{Cluster, after_row, frame_at, in_list, no_frame, receipt_at, receipt_of, tick_of}
use Rattle.bus_spec.specs.Members.{Member, after_sending, member_after_step, next_frame}

-- what is said below of steps, frames and cuttings
pub record CalmLaws : Type 0 where
  pub frame : FrameLaws
  pub in_step : StepLaws
  pub more : MoreLaws
  pub cutting : CuttingLaws
  pub whole : DeliversWhole
  pub popped : (t : AllocatorState) → IsSound t → IsSound (after_pop t)
  pub device_step : (d : Device) (number : ℕ) (event : device.Event) → All IsAnonymous d.asking.queue → All IsAnonymous (device.step d number event).device.asking.queue
  pub device_popped : (d : Device) → All IsAnonymous d.asking.queue → All IsAnonymous (device.after_pop d).asking.queue

-- ---- frames

-- a frame of a transfer of a member
pub record IsOf (p : ℕ) (frame : Queued) : Type 0 where
  pub what : What
  pub to : ℕ
  pub id : frame.id ≡ identifier_number (ident_of p what to)
  pub dest : IsDestination (kind_of what) to

narrow_at : (ident : Ident) (kind : Kind) → ident.priority < 32 → ident.source < 128 → ident.dest < 128 → IsInRange kind ident
    → 16777216 * ident.priority + low_bits kind ident < 2 ^ 29
narrow_at ident Message p s d r = let a = r.0 in omega (arith, p, s, a)
narrow_at ident Anonymous p s d r = let a = r.0 in let b = r.3 in omega (arith, p, a, b)
narrow_at ident Request p s d r = let a = r.0 in omega (arith, p, s, d, a)
narrow_at ident Response p s d r = let a = r.0 in omega (arith, p, s, d, a)

narrow_ident : (ident : Ident) → IsIdentifier ident → identifier_number ident < 2 ^ 29
narrow_ident ident is = narrow_at ident ident.kind is.priority is.source is.dest is.by_kind

pub narrow_of : (p : ℕ) (frame : Queued) → (1 ≤ p) × (p ≤ 125) → IsOf p frame → frame.id < 2 ^ 29
narrow_of p frame node is = subst (λ (k : ℕ). k < 2 ^ 29) (sym is.id) (narrow_ident (ident_of p is.what is.to) (ident_ok p is.what is.to node.0 node.1 is.dest))

pub narrow_on_bus : (frames : List Queued) → ((frame : Queued) → In frame frames → frame.id < 2 ^ 29) → (k : ℕ) → (frame_at frames k).id < 2 ^ 29
narrow_on_bus frames narrow k = elim (lt_tells (k - 1) (length frames)) [
  | inl z ↦ narrow (frame_at frames k) (in_at frames (k - 1) no_frame z.1)
  | inr z ↦ subst (λ (f : Queued). f.id < 2 ^ 29) (sym (get_or_past frames (k - 1) no_frame (omega (arith, z.1)))) (omega arith)
]

-- ---- what holds of a group

-- a server is this member's, and what waits in its queue is its own
pub record IsServer (p : ℕ) (server : AllocatorState) : Type 0 where
  pub me : server.me ≡ p
  pub sound : IsSound server
  pub places : HasPlaces server.ids
  pub queue : (frame : Queued) → In frame server.queue → IsOf p frame

-- the member runs
pub record IsWell (p : ℕ) (x : Member) : Type 0 where
  pub server : AllocatorState
  pub up : IsUp server x
  pub its : IsServer p server

-- each member of a group runs, what waits with its devices is anonymous, and the frames of the bus are frames
pub record AreWell (group : List Party) (w : Cluster) : Type 0 where
  pub members : (p : ℕ) → In (OfMember p) group → IsWell p (w.member p)
  pub devices : (a : ℕ) (x : Device) → In (OfDevice a) group → w.allocatee a ≡ Some x → All IsAnonymous x.asking.queue
  pub narrow : (frame : Queued) → In frame w.frames → frame.id < 2 ^ 29

one_device : (x y : Device) → Some x ≡ Some y → x ≡ y
one_device x y e = cc (e)

module _ (laws : CalmLaws) where
  -- a step leaves it the member's
  pub server_stepped : (p : ℕ) (t : AllocatorState) (number : ℕ) (event : Event) → IsOnTheBus event → IsServer p t
      → IsServer p (step t number event).step_state.allocator
  server_stepped p t number event bus is = record {
    me = laws.in_step.me t number event ∙ is.me;
    sound = laws.more.sound t number event is.sound bus;
    places = (counted_step Disc 0 refl t number event is.places).places;
    queue = λ frame i. elim (in_append frame t.queue (all_frames_put number t.me (step t number event).step_state.offers)
        (subst (λ (l : List Queued). In frame l) (laws.in_step.queue t number event) i)) [
          | inl before ↦ is.queue frame before
          | inr new ↦
              let put = frame_put number t.me (step t number event).step_state.offers frame new in
              record {
                what = put.0.what;
                to = put.0.to;
                id = has_its_id (record { step = number; by = t.me; offer = put.0 }) frame put.3
                    ∙ ap (λ (n : ℕ). identifier_number (ident_of n put.0.what put.0.to)) is.me;
                dest = (laws.more.ranges t number event is.sound bus put.0 put.1).to;
              }
        ];
  }

  -- a frame that goes out leaves it the member's
  pub server_sent : (p : ℕ) (t : AllocatorState) → IsServer p t → IsServer p (after_pop t)
  server_sent p t is = record {
    me = is.me;
    sound = laws.popped t is.sound;
    places = is.places;
    queue = λ frame i. is.queue frame (left_in_queue t.queue frame i);
  }

  pub up_sent : (t : AllocatorState) (x : Member) → IsUp t x → IsUp (after_pop t) (record x { status = after_sending x.status })
  up_sent t x up = record { status = ap after_sending up.status; quiet = up.quiet }

  well_stepped : (p : ℕ) (x : Member) (number : ℕ) (event : Event) → IsOnTheBus event → IsWell p x → IsWell p (member_after_step number event x.status x)
  well_stepped p x number event bus is = record {
    server = (step is.server number event).step_state.allocator;
    up = steps_up number event is.server x is.up;
    its = server_stepped p is.server number event bus is.its;
  }

  well_sent : (p : ℕ) (x : Member) → IsWell p x → IsWell p (record x { status = after_sending x.status })
  well_sent p x is = record { server = after_pop is.server; up = up_sent is.server x is.up; its = server_sent p is.server is.its }

  -- the frame that it sends is its own
  pub sent_own : (p : ℕ) (x : Member) (frame : Queued) → IsWell p x → next_frame x.status ≡ Some frame → IsOf p frame
  sent_own p x frame is e = is.its.queue frame (out_of_queue is.server.queue frame (sym (ap next_frame is.up.status) ∙ e))

  module _ (group : List Party) (nodes : (p : ℕ) → In (OfMember p) group → (1 ≤ p) × (p ≤ 125)) (w : Cluster) (are : AreWell group w) where
    -- a member's place is taken by one that is well
    members_with : (n : ℕ) (x : Member) → (In (OfMember n) group → IsWell n x) → (p : ℕ) → In (OfMember p) group → IsWell p (at w.member n x p)
    members_with n x is p i = elim (eqb_tells p n) [
      | inl z ↦ subst (IsWell p) (sym (at_here w.member n p x z.1)) (subst (λ (k : ℕ). IsWell k x) (sym z.1) (is (subst (λ (k : ℕ). In (OfMember k) group) z.1 i)))
      | inr z ↦ subst (IsWell p) (sym (at_other w.member n p x z.1)) (are.members p i)
    ]

    devices_with : (a : ℕ) (o : Option Device) → ((x : Device) → In (OfDevice a) group → o ≡ Some x → All IsAnonymous x.asking.queue)
        → (b : ℕ) (x : Device) → In (OfDevice b) group → at w.allocatee a o b ≡ Some x → All IsAnonymous x.asking.queue
    devices_with a o is b x i e = elim (eqb_tells b a) [
      | inl z ↦ is x (subst (λ (k : ℕ). In (OfDevice k) group) z.1 i) (sym (at_here w.allocatee a b o z.1) ∙ e)
      | inr z ↦ are.devices b x i (sym (at_other w.allocatee a b o z.1) ∙ e)
    ]

    narrow_with : (o : Option Queued) → ((frame : Queued) → o ≡ Some frame → frame.id < 2 ^ 29) → (frame : Queued) → In frame (w.frames ++ in_list o) → frame.id < 2 ^ 29
    narrow_with None is frame i = elim (in_append frame w.frames [] i) [ inl j ↦ are.narrow frame j | inr j ↦ absurd j ]
    narrow_with (Some g) is frame i = elim (in_append frame w.frames (g ∷ []) i) [
      | inl j ↦ are.narrow frame j
      | inr (inl e) ↦ subst (λ (f : Queued). f.id < 2 ^ 29) (sym e) (is g refl)
      | inr (inr j) ↦ absurd j
    ]

    with_event : (n : ℕ) (event : Event) → IsOnTheBus event → In (OfMember n) group
        → AreWell group (record w { member = at w.member n (member_after_step (w.rows + 1) event (w.member n).status (w.member n)); rows = w.rows + 1 })
    with_event n event bus i = record {
      members = members_with n _ (λ j. well_stepped n (w.member n) (w.rows + 1) event bus (are.members n j));
      devices = are.devices;
      narrow = are.narrow;
    }

    with_device : (a : ℕ) (event : device.Event)
        → AreWell group (record w { allocatee = at w.allocatee a (device_after_step (w.rows + 1) event (w.allocatee a)); rows = w.rows + 1 })
    with_device a event = record {
      members = are.members;
      devices = devices_with a (device_after_step (w.rows + 1) event (w.allocatee a)) (λ x j e. stepped (w.allocatee a) refl x j e);
      narrow = are.narrow;
    }
      where
        stepped : (o : Option Device) → w.allocatee a ≡ o → (x : Device) → In (OfDevice a) group → device_after_step (w.rows + 1) event o ≡ Some x → All IsAnonymous x.asking.queue
        stepped None there x j e = absurd (cc (e))
        stepped (Some d) there x j e = subst (λ (y : Device). All IsAnonymous y.asking.queue) (one_device (device.step d (w.rows + 1) event).device x e)
            (laws.device_step d (w.rows + 1) event (are.devices a d j there))

    -- the frame that a device sends is anonymous
    pub sent_anonymous : (a : ℕ) (frame : Queued) → In (OfDevice a) group → next_from (w.allocatee a) ≡ Some frame → IsAnonymous frame
    sent_anonymous a frame i e = by (w.allocatee a) refl e
      where
        by : (o : Option Device) → w.allocatee a ≡ o → next_from o ≡ Some frame → IsAnonymous frame
        by None there f = absurd (cc (f))
        by (Some d) there f = of_each IsAnonymous d.asking.queue (are.devices a d i there) frame (out_of_queue d.asking.queue frame f)

    -- each calm row leaves a group well
    pub well_after : (clocks : Party → ℕ) (pace : Pace) (traffic : Traffic) (moment : ℕ) (row : Row) → IsCalmRow group clocks pace traffic w moment row → AreWell group (after_row w row)
    well_after clocks pace traffic moment (Tick n ms word) calm = with_event n (tick_of ms word) tt calm.0
    well_after clocks pace traffic moment (Rx n k ms) calm = with_event n (receipt_of w k ms) (narrow_on_bus w.frames are.narrow k) calm.0
    well_after clocks pace traffic moment (Send n) calm = record {
      members = members_with n _ (λ j. well_sent n (w.member n) (are.members n j));
      devices = are.devices;
      narrow = narrow_with (next_frame (w.member n).status) (λ frame e.
          narrow_of n frame (nodes n calm.0) (sent_own n (w.member n) frame (are.members n calm.0) e));
    }
    well_after clocks pace traffic moment (ATick a ms word) calm = with_device a (device.Tick ms word)
    well_after clocks pace traffic moment (ARx a k ms word) calm = with_device a (receipt_at w k ms word)
    well_after clocks pace traffic moment (ASend a) calm = record {
      members = are.members;
      devices = devices_with a (after_sending_from (w.allocatee a)) (λ x j e. sent (w.allocatee a) refl x j e);
      narrow = narrow_with (next_from (w.allocatee a)) (λ frame e. (sent_anonymous a frame calm.0 e).narrow);
    }
      where
        sent : (o : Option Device) → w.allocatee a ≡ o → (x : Device) → In (OfDevice a) group → after_sending_from o ≡ Some x → All IsAnonymous x.asking.queue
        sent None there x j e = absurd (cc (e))
        sent (Some d) there x j e = subst (λ (y : Device). All IsAnonymous y.asking.queue) (one_device (device.after_pop d) x e)
            (laws.device_popped d (are.devices a d j there))
    well_after clocks pace traffic moment (Open n told ms word) calm = absurd calm
    well_after clocks pace traffic moment (Ext frame) calm = absurd calm
    well_after clocks pace traffic moment (Crash n calls pattern) calm = absurd calm
    well_after clocks pace traffic moment (Fault n call) calm = absurd calm
    well_after clocks pace traffic moment (AOpen a uid pref ms word) calm = absurd calm
    well_after clocks pace traffic moment (AEnd a) calm = absurd calm
