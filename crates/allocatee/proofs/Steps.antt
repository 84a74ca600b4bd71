-- What one happening does at a device: nothing, an Allocation that it takes, a request of the first stage, a follow-up.
use Rattle.std.proofs.Common.{◌≡◌, ◌⊎◌, inl, inr, ℕ, ◌<◌, ◌≤◌, true, false, List, [], length, take, drop, refl, sym, ap, subst, ◌∙◌, arith, Some, None, Option}
use Rattle.std.proofs.lemmas.List.{length-take-le}
use Rattle.std.proofs.lemmas.Option.{none-some, same_Some}
use Rattle.can_frame.specs.declared.step.Sent.{Sent}
use Rattle.can_frame.specs.Kinds.{is_anonymous}
use Rattle.dsdl_codec.specs.declared.allocation.Allocation.{Allocation}
use Rattle.dsdl_codec.specs.Allocation.{allocation_of}
use Rattle.transfer_rx.specs.Reassembly.{Answer, Arrival, Delivery}
use Rattle.transfer_rx.specs.Reassembly.Answer.{Continues, Drops, Gives}
use Rattle.allocatee.specs.declared.timer.FollowUp.{FollowUp}
use Rattle.allocatee.specs.Allocatee.{Device, Event, after_reading, answer_to, step, after_receiver_answer}
use Rattle.allocatee.specs.Allocatee.Event.{Rx, Tick}
use Rattle.allocatee.specs.Asking.{Asking, at_moment, due, follow_up_wait, has_passed, timer_from, with_timer_restarted}
use Rattle.allocatee.specs.Times.{TakesAllocation, TakesAnswer}
use Rattle.allocatee.proofs.Requests.{Hears, IsOffer, hears, held_hears, ticked}

abbrev pub moment_of : Event → ℕ
moment_of (Tick now word) = now
moment_of (Rx arrival word) = arrival.moment

-- as it is when a step begins
abbrev pub begun_at : Device → Event → Asking
begun_at d event = at_moment (moment_of event) d.asking

pub record DoesNothing (d : Device) (event : Event) (a b : Asking) (sent : List Sent) : Type 0 where
  pub same : b ≡ a
  pub offered : sent ≡ []
  pub quiet : a.holds ≡ None → TakesAllocation d event → ⊥
  pub waits : (now word : ℕ) → event ≡ Tick now word → a.holds ≡ None → (due a.moment a.follow_up ≡ None) × (has_passed a.moment a.request ≡ false)

pub record Takes (d : Device) (event : Event) (a b : Asking) (sent : List Sent) : Type 0 where
  pub free : a.holds ≡ None
  pub offered : sent ≡ []
  pub taken : TakesAllocation d event
  pub uid : b.uid ≡ a.uid
  pub moment : b.moment ≡ a.moment
  pub queue : b.queue ≡ a.queue
  pub since : b.request.since ≡ a.moment
  pub least : 600 ≤ b.request.length
  pub most : b.request.length ≤ 1000
  pub follow : (f : FollowUp) → b.follow_up ≡ Some f → (f.timer.since ≡ a.moment) × (f.timer.length ≤ 400) × TakesAnswer d event f.known
  pub answered : (known : ℕ) → TakesAnswer d event known
      → (f : FollowUp) × (b.follow_up ≡ Some f) × (f.known ≡ known) × (f.timer.since ≡ a.moment) × (f.timer.length ≤ 400)

pub record AsksAnew (a b : Asking) (sent : List Sent) : Type 0 where
  pub free : a.holds ≡ None
  pub none : due a.moment a.follow_up ≡ None
  pub passed : has_passed a.moment a.request ≡ true
  pub offered : sent ≡ [] → ⊥
  pub word : ℕ
  pub offer : IsOffer true (take 6 a.uid) (with_timer_restarted word a) b

pub record AsksOn (a b : Asking) (sent : List Sent) : Type 0 where
  pub free : a.holds ≡ None
  pub known : ℕ
  pub due : due a.moment a.follow_up ≡ Some known
  pub offered : sent ≡ [] → ⊥
  pub offer : IsOffer false (take 6 (drop known a.uid)) (record a { follow_up = None }) b

abbrev pub Effect : Device → Event → Asking → Asking → List Sent → Type 0
Effect d event a b sent = DoesNothing d event a b sent ⊎ (Takes d event a b sent ⊎ (AsksAnew a b sent ⊎ AsksOn a b sent))

-- ---- a frame

abbrev arrival_in : Arrival → Event → Arrival
arrival_in other (Tick now word) = other
arrival_in other (Rx arrival word) = arrival

abbrev delivered : Delivery → Answer → Delivery
delivered other (Gives delivery) = delivery
delivered other Continues = other
delivered other (Drops why) = other

-- what the receiver answers is what an Allocation that is taken was given by
module _ (d : Device) (arrival : Arrival) (word : ℕ) where
  given : (t : TakesAllocation d (Rx arrival word)) → answer_to d arrival ≡ Gives t.delivery
  given t = ap (λ (a : Arrival). answer_to d a) (ap (arrival_in arrival) t.comes) ∙ t.gives

  nothing : (a : Asking) → (TakesAllocation d (Rx arrival word) → ⊥) → DoesNothing d (Rx arrival word) a a []
  nothing a none = record { same = refl; offered = refl; quiet = λ free t. none t; waits = λ now word e free. absurd (cc (e)) }

  takes : (delivery : Delivery) (message : Allocation) (a : Asking) → a.uid ≡ d.asking.uid → answer_to d arrival ≡ Gives delivery
      → allocation_of delivery.payload ≡ Some message → a.holds ≡ None
      → (b : Asking) → Hears word (is_anonymous delivery.ident.kind) message a b → Takes d (Rx arrival word) a b []
  takes delivery message a same gives reads free b h = record {
    free = free;
    offered = refl;
    taken = taken;
    uid = h.uid;
    moment = h.moment;
    queue = h.queue;
    since = ap (λ t. t.since) h.request;
    least = rw (ap (λ t. t.length) h.request) (omega arith);
    most = rw (ap (λ t. t.length) h.request) (omega arith);
    follow = λ f e.
        let facts = h.follow f e in (
          ap (λ (f : FollowUp). f.timer.since) facts.1,
          rw (ap (λ (f : FollowUp). f.timer.length) facts.1) (omega arith),
          subst (λ (n : ℕ). TakesAnswer d (Rx arrival word) n) (sym (ap (λ (f : FollowUp). f.known) facts.1)) (record {
            taken = taken;
            source = facts.0;
            some = facts.2;
            part = subst (λ (uid : List ℕ). length message.uid.items < length uid) same facts.3;
            bytes = subst (λ (uid : List ℕ). message.uid.items ≡ take (length message.uid.items) uid) same facts.4;
          }),
        );
    answered = λ known t.
        let other : delivery ≡ t.taken.delivery = ap (delivered delivery) (sym gives ∙ given t.taken) in
        let message_is : message ≡ t.taken.message =
        same_Some message t.taken.message (sym reads ∙ ap (λ (x : Delivery). allocation_of x.payload) other ∙ t.taken.reads) in
        let bytes : message.uid.items ≡ take known d.asking.uid = ap (λ (m : Allocation). m.uid.items) message_is ∙ t.bytes in
        let count : length message.uid.items ≡ known = ap length bytes ∙ length-take-le known d.asking.uid (omega (arith, t.part)) in (
          record { timer = timer_from a.moment (follow_up_wait word); known = length message.uid.items },
          h.answered (ap (λ (x : Delivery). is_anonymous x.ident.kind) other ∙ t.source) (subst (λ (n : ℕ). 1 ≤ n) (sym count) t.some)
              (rw (count, same) t.part) (bytes ∙ ap (λ (n : ℕ). take n d.asking.uid) (sym count) ∙ ap (λ (uid : List ℕ). take (length message.uid.items) uid) (sym same)),
          count,
          refl,
          omega arith,
        );
  }
    where
      taken : TakesAllocation d (Rx arrival word)
      taken = record { arrival = arrival; word = word; comes = refl; delivery = delivery; gives = gives; message = message; reads = reads }

  by_holds : (held : Option ℕ) (delivery : Delivery) (message : Allocation) (a : Asking) → a.holds ≡ held → a.uid ≡ d.asking.uid
      → answer_to d arrival ≡ Gives delivery → allocation_of delivery.payload ≡ Some message
      → Effect d (Rx arrival word) a (after_reading word (is_anonymous delivery.ident.kind) (Some message) a) []
  by_holds None delivery message a h same gives reads =
      inr (inl (takes delivery message a same gives reads h _ (hears word message (is_anonymous delivery.ident.kind) a h)))
  by_holds (Some node) delivery message a h same gives reads = inl (record {
    same = held_hears word message (is_anonymous delivery.ident.kind) node a h;
    offered = refl;
    quiet = λ free t. absurd (cc (sym free ∙ h));
    waits = λ now word e free. absurd (cc (e));
  })

  by_reading : (o : Option Allocation) (delivery : Delivery) (a : Asking) → a.uid ≡ d.asking.uid → answer_to d arrival ≡ Gives delivery
      → allocation_of delivery.payload ≡ o
      → Effect d (Rx arrival word) a (after_reading word (is_anonymous delivery.ident.kind) o a) []
  by_reading None delivery a same gives reads = inl (nothing a (λ t.
      let other : delivery ≡ t.delivery = ap (delivered delivery) (sym gives ∙ given t) in
      none-some t.message (sym reads ∙ ap (λ (x : Delivery). allocation_of x.payload) other ∙ t.reads)))
  by_reading (Some message) delivery a same gives reads = by_holds a.holds delivery message a refl same gives reads

  by_answer : (answer : Answer) (a : Asking) → a.uid ≡ d.asking.uid → answer_to d arrival ≡ answer
      → Effect d (Rx arrival word) a (after_receiver_answer word answer a) []
  by_answer (Gives delivery) a same e = by_reading (allocation_of delivery.payload) delivery a same e refl
  by_answer Continues a same e = inl (nothing a (λ t. absurd (cc (sym e ∙ given t))))
  by_answer (Drops why) a same e = inl (nothing a (λ t. absurd (cc (sym e ∙ given t))))

pub no_tick : (now word : ℕ) (d : Device) → TakesAllocation d (Tick now word) → ⊥
no_tick now word d t = absurd (cc (t.comes))

-- ---- a step

pub effect : (d : Device) (number : ℕ) (event : Event) → let r = step d number event in Effect d event (begun_at d event) r.device.asking r.sent
unfolding step
effect d number (Tick now word) = elim (ticked number word (at_moment now d.asking)) [
  | inl z ↦ inl (record { same = z.same; offered = z.sent; quiet = λ free t. no_tick now word d t; waits = λ n w e free. z.quiet free })
  | inr y ↦ elim y [
    | inl z ↦ inr (inr (inl (record { free = z.free; none = z.none; passed = z.passed; offered = z.sent; word = word; offer = z.offer })))
    | inr z ↦ inr (inr (inr (record { free = z.free; known = z.known; due = z.due; offered = z.sent; offer = z.offer })))
  ]
]
effect d number (Rx arrival word) = by_answer d arrival word (answer_to d arrival) (at_moment arrival.moment d.asking) refl refl

-- a step that takes an Allocation offers nothing
pub no_offer : (d : Device) (number : ℕ) (event : Event) → TakesAllocation d event → (step d number event).sent ≡ []
unfolding step
no_offer d number (Tick now word) t = absurd (no_tick now word d t)
no_offer d number (Rx arrival word) t = refl
