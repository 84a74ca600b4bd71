-- How a device comes to a node ID.
use Rattle.std.proofs.Common.{◌≡◌, ◌⊎◌, inl, inr, ℕ, ◌≤◌, Bool, true, false, List, length, take, drop, refl, sym, subst, ◌∙◌, Some, None, Option}
use Rattle.std.specs.Prelude.{◌&&◌, nat_le, if◌then◌else◌, is_some}
use Rattle.std.specs.Str.{bytes_eq}
use Rattle.std.proofs.lemmas.Bool.Decides.{leb_tells}
use Rattle.std.proofs.lemmas.Slice.Eq.{bytes_eq-Decides}
use Rattle.dsdl_codec.specs.declared.allocation.Allocation.{Allocation}
use Rattle.dsdl_codec.specs.Allocation.{allocation_of}
use Rattle.can_frame.specs.Kinds.{is_anonymous}
use Rattle.transfer_rx.specs.Reassembly.{Answer, Arrival, next}
use Rattle.transfer_rx.specs.Reassembly.Answer.{Continues, Drops, Gives}
use Rattle.allocatee.specs.Accepted.{setting}
use Rattle.allocatee.specs.Allocatee.{Device, Event, answer_to, at_step, after_reading, step, after_receiver_answer}
use Rattle.allocatee.specs.Allocatee.Event.{Rx, Tick}
use Rattle.allocatee.specs.Asking.{Asking, after_answer, at_moment, begins_with, due, with_follow_up, with_node_id, next_stage, has_passed, has_room, after_allocation, after_interruption, request_offer, with_queued, nothing_offered, request_bytes, clock_phase, with_timer_restarted}
use Rattle.allocatee.specs.Given.{IsGivenBy}

-- ---- its clock changes neither its unique ID nor what it holds

pub record IsSame (before after : Asking) : Type 0 where
  pub uid : after.uid ≡ before.uid
  pub holds : after.holds ≡ before.holds

module _ (number word : ℕ) where
  same_queued : (payload : List ℕ) (fits : Bool) (a : Asking) → IsSame a (with_queued number word payload fits a)
  same_queued payload true a = record { uid = refl; holds = refl }
  same_queued payload false a = record { uid = refl; holds = refl }

  same_offered : (first : Bool) (part : List ℕ) (a : Asking) → IsSame a (request_offer number word first part a).asking
  same_offered first part a = same_queued (request_bytes a first part) (has_room a.queue (request_bytes a first part)) a

  same_asked : (b : Bool) (a : Asking) → IsSame a (if b then request_offer number word true (take 6 a.uid) (with_timer_restarted word a) else nothing_offered a).asking
  same_asked true a = let s = same_offered true (take 6 a.uid) (with_timer_restarted word a) in record { uid = s.uid; holds = s.holds }
  same_asked false a = record { uid = refl; holds = refl }

  same_gone_on : (known : Option ℕ) (a : Asking) → IsSame a (next_stage number word known a).asking
  same_gone_on None a = same_asked (has_passed a.moment a.request) a
  same_gone_on (Some known) a =
      let s = same_offered false (take 6 (drop known a.uid)) (record a { follow_up = None }) in record { uid = s.uid; holds = s.holds }

  same_by : (b : Bool) (a : Asking) → IsSame a (if b then nothing_offered a else next_stage number word (due a.moment a.follow_up) a).asking
  same_by true a = record { uid = refl; holds = refl }
  same_by false a = same_gone_on (due a.moment a.follow_up) a

  same_ticks : (a : Asking) → IsSame a (clock_phase number word a).asking
  unfolding clock_phase
  same_ticks a = same_by (is_some a.holds) a

-- ---- an Allocation that it hears

-- the Allocation is an allocator's, and gives the device this node ID
pub record IsTold (a : Asking) (anonymous : Bool) (message : Allocation) (node : ℕ) : Type 0 where
  pub known : anonymous ≡ false
  pub uid : message.uid.items ≡ a.uid
  pub gives : message.node ≡ node
  pub least : 1 ≤ node
  pub most : node ≤ 125

some_is : (x y : ℕ) → Some x ≡ Some y → x ≡ y
some_is x y e = cc (e)

false_not_true : {X : Type 0} → false ≡ true → X
false_not_true e = absurd (cc (e))

in_range : (node : ℕ) (low high : Bool) → nat_le 1 node ≡ low → nat_le node 125 ≡ high → (low && high) ≡ true → (1 ≤ node) × (node ≤ 125)
in_range node true true l h e = (le_from 1 node l, le_from node 125 h) where
  le_from : (a b : ℕ) → nat_le a b ≡ true → a ≤ b
  le_from a b e = elim (leb_tells a b) [ inl is ↦ is.1 | inr more ↦ false_not_true (sym more.0 ∙ e) ]
in_range node true false l h e = false_not_true e
in_range node false high l h e = false_not_true e

module _ (word : ℕ) (message : Allocation) (node : ℕ) where
  by_range : (b : Bool) (a : Asking) → (nat_le 1 message.node && nat_le message.node 125) ≡ b
      → (if b then record a { holds = Some message.node } else a).holds ≡ Some node
      → (a.holds ≡ Some node) ⊎ ((message.node ≡ node) × (1 ≤ node) × (node ≤ 125))
  by_range true a r e =
      let same : message.node ≡ node = some_is message.node node e in
      let range = in_range message.node (nat_le 1 message.node) (nat_le message.node 125) refl refl r in
      inr (same, subst (λ (n : ℕ). 1 ≤ n) same range.0, subst (λ (n : ℕ). n ≤ 125) same range.1)
  by_range false a r e = inl e

  by_bytes : (whole begins : Bool) (a : Asking) → bytes_eq message.uid.items a.uid ≡ whole
      → (if whole then with_node_id message.node a else if begins then with_follow_up word (length message.uid.items) a else a).holds ≡ Some node
      → (a.holds ≡ Some node) ⊎ IsTold a false message node
  by_bytes true begins a w e = elim (by_range (nat_le 1 message.node && nat_le message.node 125) a refl e) [
    | inl before ↦ inl before
    | inr now ↦ inr (record {
      known = refl;
      uid = (bytes_eq-Decides message.uid.items a.uid).0 w;
      gives = now.0;
      least = now.1;
      most = now.2;
    })
  ]
  by_bytes false true a w e = inl e
  by_bytes false false a w e = inl e

  by_source : (holds anonymous : Bool) (a : Asking) → (if holds then a else if anonymous then after_interruption word a else after_answer word message (after_interruption word a)).holds ≡ Some node
      → (a.holds ≡ Some node) ⊎ IsTold a anonymous message node
  by_source true anonymous a e = inl e
  by_source false true a e = inl e
  by_source false false a e = elim (by_bytes (bytes_eq message.uid.items a.uid) (begins_with a.uid message.uid.items) (after_interruption word a) refl e) [
    | inl before ↦ inl before
    | inr told ↦ inr (record { known = told.known; uid = told.uid; gives = told.gives; least = told.least; most = told.most })
  ]

  told : (anonymous : Bool) (a : Asking) → (after_allocation word anonymous message a).holds ≡ Some node → (a.holds ≡ Some node) ⊎ IsTold a anonymous message node
  unfolding after_allocation
  told anonymous a e = by_source (is_some a.holds) anonymous a e

  kept_by : (anonymous : Bool) (a : Asking) (held : Option ℕ) → a.holds ≡ held → held ≡ Some node
      → (if is_some held then a else if anonymous then after_interruption word a else after_answer word message (after_interruption word a)).holds ≡ Some node
  kept_by anonymous a None h e = absurd (cc (e))
  kept_by anonymous a (Some n) h e = h ∙ e

  kept_hears : (anonymous : Bool) (a : Asking) → a.holds ≡ Some node → (after_allocation word anonymous message a).holds ≡ Some node
  unfolding after_allocation
  kept_hears anonymous a e = kept_by anonymous a a.holds refl e

-- the unique ID of the device stays
module _ (word : ℕ) (message : Allocation) where
  uid_given : (b : Bool) (a : Asking) → (if b then record a { holds = Some message.node } else a).uid ≡ a.uid
  uid_given true a = refl
  uid_given false a = refl

  uid_answered : (whole begins : Bool) (a : Asking) → (if whole then with_node_id message.node a else if begins then with_follow_up word (length message.uid.items) a else a).uid ≡ a.uid
  uid_answered true begins a = uid_given (nat_le 1 message.node && nat_le message.node 125) a
  uid_answered false true a = refl
  uid_answered false false a = refl

  uid_by : (holds anonymous : Bool) (a : Asking) → (if holds then a else if anonymous then after_interruption word a else after_answer word message (after_interruption word a)).uid ≡ a.uid
  uid_by true anonymous a = refl
  uid_by false true a = refl
  uid_by false false a = uid_answered (bytes_eq message.uid.items a.uid) (begins_with a.uid message.uid.items) (after_interruption word a)

  uid_hears : (anonymous : Bool) (a : Asking) → (after_allocation word anonymous message a).uid ≡ a.uid
  unfolding after_allocation
  uid_hears anonymous a = uid_by (is_some a.holds) anonymous a

  queue_given : (b : Bool) (a : Asking) → (if b then record a { holds = Some message.node } else a).queue ≡ a.queue
  queue_given true a = refl
  queue_given false a = refl

  queue_answered : (whole begins : Bool) (a : Asking) → (if whole then with_node_id message.node a else if begins then with_follow_up word (length message.uid.items) a else a).queue ≡ a.queue
  queue_answered true begins a = queue_given (nat_le 1 message.node && nat_le message.node 125) a
  queue_answered false true a = refl
  queue_answered false false a = refl

  queue_by : (holds anonymous : Bool) (a : Asking) → (if holds then a else if anonymous then after_interruption word a else after_answer word message (after_interruption word a)).queue ≡ a.queue
  queue_by true anonymous a = refl
  queue_by false true a = refl
  queue_by false false a = queue_answered (bytes_eq message.uid.items a.uid) (begins_with a.uid message.uid.items) (after_interruption word a)

  queue_hears : (anonymous : Bool) (a : Asking) → (after_allocation word anonymous message a).queue ≡ a.queue
  unfolding after_allocation
  queue_hears anonymous a = queue_by (is_some a.holds) anonymous a

-- ---- a frame

module _ (word : ℕ) where
  uid_read : (anonymous : Bool) (o : Option Allocation) (a : Asking) → (after_reading word anonymous o a).uid ≡ a.uid
  uid_read anonymous None a = refl
  uid_read anonymous (Some message) a = uid_hears word message anonymous a

  queue_read : (anonymous : Bool) (o : Option Allocation) (a : Asking) → (after_reading word anonymous o a).queue ≡ a.queue
  queue_read anonymous None a = refl
  queue_read anonymous (Some message) a = queue_hears word message anonymous a

  uid_taken : (answer : Answer) (a : Asking) → (after_receiver_answer word answer a).uid ≡ a.uid
  uid_taken (Gives d) a = uid_read (is_anonymous d.ident.kind) (allocation_of d.payload) a
  uid_taken Continues a = refl
  uid_taken (Drops why) a = refl

  queue_taken : (answer : Answer) (a : Asking) → (after_receiver_answer word answer a).queue ≡ a.queue
  queue_taken (Gives d) a = queue_read (is_anonymous d.ident.kind) (allocation_of d.payload) a
  queue_taken Continues a = refl
  queue_taken (Drops why) a = refl

  module _ (node : ℕ) where
    kept_read : (anonymous : Bool) (o : Option Allocation) (a : Asking) → a.holds ≡ Some node → (after_reading word anonymous o a).holds ≡ Some node
    kept_read anonymous None a e = e
    kept_read anonymous (Some message) a e = kept_hears word message node anonymous a e

    kept_taken : (answer : Answer) (a : Asking) → a.holds ≡ Some node → (after_receiver_answer word answer a).holds ≡ Some node
    kept_taken (Gives d) a e = kept_read (is_anonymous d.ident.kind) (allocation_of d.payload) a e
    kept_taken Continues a e = e
    kept_taken (Drops why) a e = e

    -- what was read gives it
    told_read : (anonymous : Bool) (o : Option Allocation) (a : Asking) → (after_reading word anonymous o a).holds ≡ Some node
        → (a.holds ≡ Some node) ⊎ ((message : Allocation) × (o ≡ Some message) × IsTold a anonymous message node)
    told_read anonymous None a e = inl e
    told_read anonymous (Some message) a e = elim (told word message node anonymous a e) [ inl before ↦ inl before | inr now ↦ inr (message, refl, now) ]

-- ---- a step

module _ (d : Device) (number node : ℕ) where
  module _ (arrival : Arrival) (word : ℕ) where
    by_answer : (answer : Answer) → answer_to d arrival ≡ answer → (after_receiver_answer word answer (at_moment arrival.moment d.asking)).holds ≡ Some node
        → (d.asking.holds ≡ Some node) ⊎ IsGivenBy d (Rx arrival word) node
    by_answer (Gives delivery) comes e =
        elim (told_read word node (is_anonymous delivery.ident.kind) (allocation_of delivery.payload) (at_moment arrival.moment d.asking) e) [
          | inl before ↦ inl before
          | inr now ↦ inr (record {
            arrival = arrival;
            word = word;
            comes = refl;
            delivery = delivery;
            gives = comes;
            given = record {
              known = now.2.known;
              message = now.0;
              reads = now.1;
              uid = now.2.uid;
              gives = now.2.gives;
              least = now.2.least;
              most = now.2.most;
            };
          })
        ]
    by_answer Continues comes e = inl e
    by_answer (Drops why) comes e = inl e

  pub given_by : (event : Event) → (step d number event).device.asking.holds ≡ Some node → (d.asking.holds ≡ Some node) ⊎ IsGivenBy d event node
  unfolding step
  given_by (Tick now word) e = inl (sym (same_ticks number word (at_moment now d.asking)).holds ∙ e)
  given_by (Rx arrival word) e = by_answer arrival word (answer_to d arrival) refl e

  pub kept : (event : Event) → d.asking.holds ≡ Some node → (step d number event).device.asking.holds ≡ Some node
  unfolding step
  kept (Tick now word) e = (same_ticks number word (at_moment now d.asking)).holds ∙ e
  kept (Rx arrival word) e = kept_taken word node (answer_to d arrival) (at_moment arrival.moment d.asking) e

module _ (d : Device) (number : ℕ) where
  pub uid_stays : (event : Event) → (step d number event).device.asking.uid ≡ d.asking.uid
  unfolding step
  uid_stays (Tick now word) = (same_ticks number word (at_moment now d.asking)).uid
  uid_stays (Rx arrival word) = uid_taken word (answer_to d arrival) (at_moment arrival.moment d.asking)

  pub frame_sessions : (word : ℕ) (arrival : Arrival) → (step d number (Rx arrival word)).device.sessions ≡ next setting d.sessions (at_step d arrival)
  unfolding step
  frame_sessions word arrival = refl

  pub tick_sessions : (now word : ℕ) → (step d number (Tick now word)).device.sessions ≡ d.sessions
  unfolding step
  tick_sessions now word = refl

  pub frame_queue : (word : ℕ) (arrival : Arrival) → (step d number (Rx arrival word)).device.asking.queue ≡ d.asking.queue
  unfolding step
  frame_queue word arrival = queue_taken word (answer_to d arrival) (at_moment arrival.moment d.asking)
