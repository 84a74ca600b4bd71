-- What one step of a device does to its timers, and what it puts into the queue.
use Rattle.std.proofs.Common.{◌≡◌, ◌⊎◌, inl, inr, ℕ, ◌+◌, ◌*◌, ◌-◌, ◌<◌, ◌≤◌, Bool, true, false, List, [], ◌∷◌, ◌++◌, length, take, drop, refl, sym, ap, ◌∙◌, arith, Some, None, Option}
use Rattle.std.specs.Prelude.{◌/◌, ◌%◌, ◌&&◌, get_or, nat_eq, nat_le, not, if◌then◌else◌, is_some}
use Rattle.std.specs.Str.{bytes_eq}
use Rattle.std.proofs.lemmas.Bool.{not-true}
use Rattle.std.proofs.lemmas.Bool.Decides.{eqb_tells, leb_tells}
use Rattle.std.proofs.lemmas.List.{append_cancel_left, length-append, length-take, take_all}
use Rattle.std.proofs.lemmas.Option.{none-some, same_Some}
use Rattle.std.proofs.lemmas.Slice.Eq.{bytes_eq-Decides}
use Rattle.can_frame.specs.Cutting.{bytes_cut, cut, frames_of, tail_at}
use Rattle.can_frame.specs.DataTypes.{allocation}
use Rattle.can_frame.specs.Identifier.{identifier_number}
use Rattle.can_frame.specs.Tail.{tail_byte}
use Rattle.dsdl_codec.specs.declared.allocation.Allocation.{Allocation}
use Rattle.transfer_tx.specs.Queue.{Queued, marked, queued_frames}
use Rattle.allocatee.specs.declared.timer.FollowUp.{FollowUp}
use Rattle.allocatee.specs.Asking.{Asking, Ticking, after_answer, begins_with, clock_phase, due, with_follow_up, with_node_id, next_stage, follow_up_wait, has_passed, has_room, after_allocation, after_interruption, ident_of, request_offer, request_wait, outgoing, with_queued, nothing_offered, request_bytes, timer_from, with_timer_restarted}
use Rattle.allocatee.specs.Times.{HasPart}

pub le_is : (a b : ℕ) → a ≤ b → nat_le a b ≡ true
le_is a b h = elim (leb_tells a b) [ inl z ↦ z.0 | inr z ↦ absurd (omega (arith, z.1, h)) ]

pub le_from : (a b : ℕ) → nat_le a b ≡ true → a ≤ b
le_from a b e = elim (leb_tells a b) [ inl z ↦ z.1 | inr z ↦ absurd (cc (sym z.0 ∙ e)) ]

pub lt_from : (a b : ℕ) → nat_le a b ≡ false → b < a
lt_from a b e = elim (leb_tells a b) [ inl z ↦ absurd (cc (sym z.0 ∙ e)) | inr z ↦ z.1 ]

both : (a b : Bool) → (a && b) ≡ true → (a ≡ true) × (b ≡ true)
both true b e = (refl, e)
both false b e = absurd (cc (e))

-- ---- a request is one frame

pub one_piece : (signature id : ℕ) (payload : List ℕ) → length payload ≤ 7 → frames_of signature id payload ≡ record { bytes = payload; tail = tail_at id 0 true } ∷ []
unfolding frames_of
one_piece signature id payload short =
    ap (λ (bytes : List ℕ). cut id 0 ((length bytes - 1) / 7) bytes) whole
    ∙ ap (λ (n : ℕ). cut id 0 n payload) (let none : (length payload - 1) / 7 ≡ 0 = omega (arith, short) in none)
  where
    whole : bytes_cut signature payload ≡ payload
    whole = rw (le_is (length payload) 7 short) refl

lowest_bit : (preferred : ℕ) (first : Bool) → nat_eq ((preferred * 2 + (if first then 1 else 0)) % 2) 1 ≡ first
lowest_bit preferred true = let odd : (preferred * 2 + 1) % 2 ≡ 1 = omega arith in rw (odd) refl
lowest_bit preferred false = let even : (preferred * 2 + 0) % 2 ≡ 0 = omega arith in rw (even) refl

one_frame : (word id number : ℕ) (a : Asking) (first : Bool) (part : List ℕ) → length part ≤ 6
    → (frame : Queued) × (queued_frames (outgoing word id (request_bytes a first part)) number 0 ≡ frame ∷ []) × HasPart first part frame
unfolding queued_frames
one_frame word id number a first part short = (
  record {
    id = identifier_number (ident_of word);
    bytes = request_bytes a first part ++ tail_byte (tail_at id 0 true) ∷ [];
    mark = record { step = number; re = 0; place = 0 };
  },
  ap (marked (identifier_number (ident_of word)) number 0 0) (one_piece allocation.signature id (request_bytes a first part) (omega (arith, short))),
  record {
    head = a.preferred * 2 + (if first then 1 else 0);
    tail = tail_byte (tail_at id 0 true);
    bytes = refl;
    stage = lowest_bit a.preferred first;
  },
)

-- ---- what an offer leaves

-- the queue has such a frame more
abbrev pub Grows : Bool → List ℕ → List Queued → List Queued → Type 0
Grows first part before after = (frame : Queued) × (after ≡ before ++ frame ∷ []) × HasPart first part frame

pub record IsOffer (first : Bool) (part : List ℕ) (before after : Asking) : Type 0 where
  pub uid : after.uid ≡ before.uid
  pub moment : after.moment ≡ before.moment
  pub request : after.request ≡ before.request
  pub follow_up : after.follow_up ≡ before.follow_up
  pub holds : after.holds ≡ before.holds
  pub queue : (after.queue ≡ before.queue) ⊎ Grows first part before.queue after.queue
  pub room : length before.queue < 8 → Grows first part before.queue after.queue

room_is : (queue : List Queued) (payload : List ℕ) → length queue < 8 → length payload ≤ 7 → has_room queue payload ≡ true
room_is queue payload some short = rw (le_is (length payload) 7 short) (le_is (length queue + 1) 8 (omega (arith, some)))

module _ (number word : ℕ) (first : Bool) (part : List ℕ) (short : length part ≤ 6) where
  offered_by : (fits : Bool) (a : Asking) → has_room a.queue (request_bytes a first part) ≡ fits
      → IsOffer first part a (with_queued number word (request_bytes a first part) fits a)
  offered_by true a e =
      let frame = one_frame word a.id number a first part short in
      let grows : Grows first part a.queue (a.queue ++ queued_frames (outgoing word a.id (request_bytes a first part)) number 0) = (frame.0, ap (λ (frames : List Queued). a.queue ++ frames) frame.1, frame.2) in
      record { uid = refl; moment = refl; request = refl; follow_up = refl; holds = refl; queue = inr grows; room = λ some. grows }
  offered_by false a e = record {
    uid = refl;
    moment = refl;
    request = refl;
    follow_up = refl;
    holds = refl;
    queue = inl refl;
    room = λ some. absurd (cc (sym e ∙ room_is a.queue (request_bytes a first part) some (omega (arith, short))));
  }

  offered : (a : Asking) → IsOffer first part a (request_offer number word first part a).asking
  offered a = offered_by (has_room a.queue (request_bytes a first part)) a refl

-- the queue did not stay where a frame is behind it, and a frame is of one stage
pub stays_apart : {X : Type 0} (queue : List Queued) (frame : Queued) → queue ≡ queue ++ frame ∷ [] → X
stays_apart queue frame e =
    let more : length (queue ++ frame ∷ []) ≡ length queue + 1 = length-append queue (frame ∷ []) in
    absurd (omega (arith, ap length e, more))

pub stages_apart : {X : Type 0} (queue : List Queued) (a b : Queued) (part other : List ℕ) → queue ++ a ∷ [] ≡ queue ++ b ∷ [] → HasPart false part a → HasPart true other b → X
stages_apart queue a b part other e p q =
    let same : a ≡ b = ap (λ (l : List Queued). get_or l 0 a) (append_cancel_left queue (a ∷ []) (b ∷ []) e) in
    let head : p.head ≡ q.head = ap (λ (l : List ℕ). get_or l 0 0) (sym p.bytes ∙ ap (λ (f : Queued). f.bytes) same ∙ q.bytes) in
    absurd (cc (sym p.stage ∙ ap (λ (n : ℕ). nat_eq (n % 2) 1) head ∙ q.stage))

-- ---- a reading of its clock, at its moment

pub record TicksNothing (a : Asking) (t : Ticking) : Type 0 where
  pub same : t.asking ≡ a
  pub sent : t.sent ≡ []
  pub quiet : a.holds ≡ None → (due a.moment a.follow_up ≡ None) × (has_passed a.moment a.request ≡ false)

pub record TicksFirst (word : ℕ) (a : Asking) (t : Ticking) : Type 0 where
  pub free : a.holds ≡ None
  pub none : due a.moment a.follow_up ≡ None
  pub passed : has_passed a.moment a.request ≡ true
  pub sent : t.sent ≡ [] → ⊥
  pub offer : IsOffer true (take 6 a.uid) (with_timer_restarted word a) t.asking

pub record TicksFollow (a : Asking) (t : Ticking) : Type 0 where
  pub free : a.holds ≡ None
  pub known : ℕ
  pub due : due a.moment a.follow_up ≡ Some known
  pub sent : t.sent ≡ [] → ⊥
  pub offer : IsOffer false (take 6 (drop known a.uid)) (record a { follow_up = None }) t.asking

six : (l : List ℕ) → length (take 6 l) ≤ 6
six l = omega (arith, length-take 6 l)

module _ (number word : ℕ) where
  ticked_by : (b : Bool) (a : Asking) → a.holds ≡ None → due a.moment a.follow_up ≡ None → has_passed a.moment a.request ≡ b
      → let t = if b then request_offer number word true (take 6 a.uid) (with_timer_restarted word a) else nothing_offered a in
      TicksNothing a t ⊎ (TicksFirst word a t ⊎ TicksFollow a t)
  ticked_by true a free none e = inr (inl (record {
    free = free;
    none = none;
    passed = e;
    sent = λ s. absurd (cc (s));
    offer = offered number word true (take 6 a.uid) (six a.uid) (with_timer_restarted word a);
  }))
  ticked_by false a free none e = inl (record { same = refl; sent = refl; quiet = λ h. (none, e) })

  ticked_due : (o : Option ℕ) (a : Asking) → a.holds ≡ None → due a.moment a.follow_up ≡ o
      → let t = next_stage number word o a in TicksNothing a t ⊎ (TicksFirst word a t ⊎ TicksFollow a t)
  ticked_due None a free e = ticked_by (has_passed a.moment a.request) a free e refl
  ticked_due (Some known) a free e = inr (inr (record {
    free = free;
    known = known;
    due = e;
    sent = λ s. absurd (cc (s));
    offer = offered number word false (take 6 (drop known a.uid)) (six (drop known a.uid)) (record a { follow_up = None });
  }))

  ticked_held : (held : Option ℕ) (a : Asking) → a.holds ≡ held
      → let t = if is_some held then nothing_offered a else next_stage number word (due a.moment a.follow_up) a in
      TicksNothing a t ⊎ (TicksFirst word a t ⊎ TicksFollow a t)
  ticked_held None a e = ticked_due (due a.moment a.follow_up) a e refl
  ticked_held (Some node) a e = inl (record { same = refl; sent = refl; quiet = λ h. absurd (cc (sym h ∙ e)) })

  pub ticked : (a : Asking) → let t = clock_phase number word a in TicksNothing a t ⊎ (TicksFirst word a t ⊎ TicksFollow a t)
  unfolding clock_phase
  ticked a = ticked_held a.holds a refl

-- ---- an Allocation that it takes while it holds no node ID

pub record Hears (word : ℕ) (anonymous : Bool) (message : Allocation) (a b : Asking) : Type 0 where
  pub uid : b.uid ≡ a.uid
  pub moment : b.moment ≡ a.moment
  pub queue : b.queue ≡ a.queue
  pub request : b.request ≡ timer_from a.moment (request_wait word)
  pub follow : (f : FollowUp) → b.follow_up ≡ Some f → (anonymous ≡ false)
      × (f ≡ record { timer = timer_from a.moment (follow_up_wait word); known = length message.uid.items })
      × (1 ≤ length message.uid.items) × (length message.uid.items < length a.uid)
      × (message.uid.items ≡ take (length message.uid.items) a.uid)
  pub answered : anonymous ≡ false → 1 ≤ length message.uid.items → length message.uid.items < length a.uid
      → message.uid.items ≡ take (length message.uid.items) a.uid
      → b.follow_up ≡ Some (record { timer = timer_from a.moment (follow_up_wait word); known = length message.uid.items })

begun : (uid bytes : List ℕ) → bytes_eq bytes uid ≡ false → begins_with uid bytes ≡ true
    → (1 ≤ length bytes) × (length bytes < length uid) × (bytes ≡ take (length bytes) uid)
begun uid bytes other begins =
    let parts = both (not (nat_eq (length bytes) 0)) (bytes_eq bytes (take (length bytes) uid)) begins in
    let front : bytes ≡ take (length bytes) uid = (bytes_eq-Decides bytes (take (length bytes) uid)).0 parts.1 in
    let some : 1 ≤ length bytes = elim (eqb_tells (length bytes) 0) [
      | inl z ↦ absurd (cc (sym z.0 ∙ not-true (nat_eq (length bytes) 0) parts.0))
      | inr z ↦ omega (arith, z.1)
    ] in
    let short : length bytes < length uid = elim (leb_tells (length uid) (length bytes)) [
      | inl z ↦ absurd (cc (sym other ∙ (bytes_eq-Decides bytes uid).1 (front ∙ take_all (length bytes) uid z.1)))
      | inr z ↦ z.1
    ] in
    (some, short, front)

whole_is_long : {X : Type 0} (uid bytes : List ℕ) → bytes_eq bytes uid ≡ true → length bytes < length uid → X
whole_is_long uid bytes whole short = absurd (omega (arith, short, ap length ((bytes_eq-Decides bytes uid).0 whole)))

begins : (uid bytes : List ℕ) → 1 ≤ length bytes → bytes ≡ take (length bytes) uid → begins_with uid bytes ≡ true
begins uid bytes some front = rw (none) ((bytes_eq-Decides bytes (take (length bytes) uid)).1 front) where
  none : nat_eq (length bytes) 0 ≡ false
  none = elim (eqb_tells (length bytes) 0) [ inl z ↦ absurd (omega (arith, z.1, some)) | inr z ↦ z.0 ]

module _ (word : ℕ) (message : Allocation) where
  nothing_waits : (a : Asking) → Hears word true message a (after_interruption word a)
  nothing_waits a = record {
    uid = refl;
    moment = refl;
    queue = refl;
    request = refl;
    follow = λ f e. absurd (none-some f e);
    answered = λ source. absurd (cc (source));
  }

  hears_range : (b : Bool) (a : Asking) → bytes_eq message.uid.items a.uid ≡ true
      → Hears word false message a (if b then record (after_interruption word a) { holds = Some message.node } else after_interruption word a)
  hears_range true a w = record {
    uid = refl;
    moment = refl;
    queue = refl;
    request = refl;
    follow = λ f e. absurd (none-some f e);
    answered = λ source some short front. whole_is_long a.uid message.uid.items w short;
  }
  hears_range false a w = record {
    uid = refl;
    moment = refl;
    queue = refl;
    request = refl;
    follow = λ f e. absurd (none-some f e);
    answered = λ source some short front. whole_is_long a.uid message.uid.items w short;
  }

  hears_bytes : (whole begins : Bool) (a : Asking) → bytes_eq message.uid.items a.uid ≡ whole → begins_with a.uid message.uid.items ≡ begins
      → let b = after_interruption word a in
      Hears word false message a (if whole then with_node_id message.node b else if begins then with_follow_up word (length message.uid.items) b else b)
  hears_bytes true begins a w e = hears_range (nat_le 1 message.node && nat_le message.node 125) a w
  hears_bytes false true a w e =
      let facts = begun a.uid message.uid.items w e in
      record {
        uid = refl;
        moment = refl;
        queue = refl;
        request = refl;
        follow = λ f s. (refl, sym (same_Some _ f s), facts.0, facts.1, facts.2);
        answered = λ source some short front. refl;
      }
  hears_bytes false false a w e = record {
    uid = refl;
    moment = refl;
    queue = refl;
    request = refl;
    follow = λ f s. absurd (none-some f s);
    answered = λ source some short front. absurd (cc (sym e ∙ begins a.uid message.uid.items some front));
  }

  hears_source : (anonymous : Bool) (a : Asking)
      → Hears word anonymous message a (if anonymous then after_interruption word a else after_answer word message (after_interruption word a))
  hears_source true a = nothing_waits a
  hears_source false a = hears_bytes (bytes_eq message.uid.items a.uid) (begins_with a.uid message.uid.items) a refl refl

  hears_held : (held : Option ℕ) (anonymous : Bool) (a : Asking) → held ≡ None
      → Hears word anonymous message a (if is_some held then a else if anonymous then after_interruption word a else after_answer word message (after_interruption word a))
  hears_held None anonymous a e = hears_source anonymous a
  hears_held (Some node) anonymous a e = absurd (none-some node (sym e))

  pub hears : (anonymous : Bool) (a : Asking) → a.holds ≡ None → Hears word anonymous message a (after_allocation word anonymous message a)
  unfolding after_allocation
  hears anonymous a free = hears_held a.holds anonymous a free

  same_held : (held : Option ℕ) (anonymous : Bool) (node : ℕ) (a : Asking) → held ≡ Some node
      → (if is_some held then a else if anonymous then after_interruption word a else after_answer word message (after_interruption word a)) ≡ a
  same_held None anonymous node a e = absurd (none-some node e)
  same_held (Some other) anonymous node a e = refl

  pub held_hears : (anonymous : Bool) (node : ℕ) (a : Asking) → a.holds ≡ Some node → after_allocation word anonymous message a ≡ a
  unfolding after_allocation
  held_hears anonymous node a held = same_held a.holds anonymous node a held
