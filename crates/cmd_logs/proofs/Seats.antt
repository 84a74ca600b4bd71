-- The receivers of a watch, over plain values.
use Rattle.std.proofs.Common.{◌≡◌, ◌∙◌, ◌==◌, ◌||◌, ◌⊎◌, arith, ℕ, List, [], ◌∷◌, Bool, true, false, cond, Option, Some, None, refl, sym, ap, subst, inl, inr}
use Rattle.std.proofs.lemmas.Bool.{eqb-true, true≢false}
use Rattle.std.specs.Prelude.{◌≤◌, length, slice_get}
use Rattle.can_frame.specs.Identifier.{identifier_of}
use Rattle.can_frame.specs.declared.identifier.Ident.{Ident}
use Rattle.can_frame.specs.Kinds.{is_service}
use Rattle.transfer_rx.specs.Reassembly.{Arrival, next}
use Rattle.transfer_rx.specs.Views.{HasSessions}
use Rattle.cmd_logs.specs.declared.receivers.Receivers.{Receivers}
use Rattle.cmd_logs.specs.declared.receivers.Seat.{Seat}
use Rattle.cmd_logs.specs.Watched.{Watch, by_messages, by_none, by_service, by_services, heard, is_watched, service_setting}
use Rattle.cmd_logs.specs.Watching.{HasServices, HasWatch, Moves, is_at}

or-false : (b : Bool) → (b || false) ≡ b
or-false true = refl
or-false false = refl

or-at : (a b : Bool) → a ≡ true → (a || b) ≡ true
or-at true b at = refl
or-at false b at = absurd (true≢false (sym at))

or-in : (a b : Bool) → b ≡ true → (a || b) ≡ true
or-in true b at = refl
or-in false b at = at

true_or_false : (b : Bool) → (b ≡ true) ⊎ (b ≡ false)
true_or_false true = inl refl
true_or_false false = inr refl

-- five nodes at most have their seats
pub seated : (ids : List ℕ) → length ids ≤ 5 → (id : ℕ) →
    (is_at (slice_get ids 0) id || (is_at (slice_get ids 1) id || (is_at (slice_get ids 2) id || (is_at (slice_get ids 3) id || is_at (slice_get ids 4) id))))
    ≡ is_watched ids id
seated [] few id = refl
seated (a ∷ []) few id = refl
seated (a ∷ b ∷ []) few id = refl
seated (a ∷ b ∷ c ∷ []) few id = refl
seated (a ∷ b ∷ c ∷ d ∷ []) few id = refl
seated (a ∷ b ∷ c ∷ d ∷ e ∷ []) few id = rw (or-false (e == id)) refl
seated (a ∷ b ∷ c ∷ d ∷ e ∷ f ∷ ids) few id = absurd (omega (arith, few))

-- a seat whose node this is
pub own_is : (seat : Option ℕ) (own id : ℕ) → seat ≡ Some own → is_at seat id ≡ true → own ≡ id
own_is seat own id e at = eqb-true own id (sym (ap (λ s. is_at s id) e) ∙ at)

own_is_not : (seat : Option ℕ) (own id : ℕ) → seat ≡ Some own → is_at seat id ≡ false → (own == id) ≡ false
own_is_not seat own id e at = sym (ap (λ s. is_at s id) e) ∙ at

own_at : (seat : Option ℕ) (own id : ℕ) → seat ≡ Some own → is_at seat id ≡ true → (own == id) ≡ true
own_at seat own id e at = sym (ap (λ s. is_at s id) e) ∙ at

gives_by : (b : Bool) (id : ℕ) (watch : Watch) (came : Arrival) →
    cond b (by_services id watch came).gives None ≡ (cond b (by_services id watch came) (by_none watch)).gives
gives_by true id watch came = refl
gives_by false id watch came = refl

-- a frame of a service delivers where its destination is watched
pub gives_by_service : (ids : List ℕ) (watch : Watch) (came : Arrival) (id : ℕ) →
    cond (is_watched ids id) (by_services id watch came).gives None ≡ (by_service ids watch came id).gives
gives_by_service ids watch came id = gives_by (is_watched ids id) id watch came

-- ---- by the identifier of a frame

-- a frame of a service comes to its destination
pub heard_service : (ids : List ℕ) (watch : Watch) (came : Arrival) (ident : Ident) → identifier_of came.id ≡ Some ident →
    is_service ident.kind ≡ true → heard ids watch came ≡ by_service ids watch came ident.dest
unfolding heard
heard_service ids watch came ident reads service = rw (reads, service) refl

-- another one comes to the receiver of messages
pub heard_message : (ids : List ℕ) (watch : Watch) (came : Arrival) (ident : Ident) → identifier_of came.id ≡ Some ident →
    is_service ident.kind ≡ false → heard ids watch came ≡ by_messages watch came
unfolding heard
heard_message ids watch came ident reads message = rw (reads, message) refl

-- one without a reading comes to none
pub heard_none : (ids : List ℕ) (watch : Watch) (came : Arrival) → identifier_of came.id ≡ None → heard ids watch came ≡ by_none watch
unfolding heard
heard_none ids watch came reads = rw reads refl

module _ {F : Type 0} where
  -- a seat has the sessions of its node behind a frame, where the node of the frame is watched if it is that of the seat
  module _ (before now : Seat F) (id : ℕ) (came : Arrival) (watch : Watch) (moves : Moves before now id came) (has : HasServices before watch.services) where
    sessions_here : (watched : Bool) → (is_at before.id id ≡ true → watched ≡ true) → (own : ℕ) → before.id ≡ Some own → is_at before.id id ≡ true →
        HasSessions now.receiver ((cond watched (by_services id watch came) (by_none watch)).after.services own)
    sessions_here watched all own was at =
        subst (λ b. HasSessions now.receiver ((cond b (by_services id watch came) (by_none watch)).after.services own)) (sym (all at))
        (subst (λ b. HasSessions now.receiver (cond b (next (service_setting id) (watch.services id) came) (watch.services own))) (sym (own_at before.id own id was at))
        (moves.here at (watch.services id) (subst (λ i. HasSessions before.receiver (watch.services i)) (own_is before.id own id was at) (has own was))))

    sessions_stay : (own : ℕ) → before.id ≡ Some own → is_at before.id id ≡ false → HasSessions now.receiver (watch.services own)
    sessions_stay own was not = subst (λ r. HasSessions r (watch.services own)) (sym (moves.elsewhere not)) (has own was)

    sessions_elsewhere : (watched : Bool) (own : ℕ) → before.id ≡ Some own → is_at before.id id ≡ false →
        HasSessions now.receiver ((cond watched (by_services id watch came) (by_none watch)).after.services own)
    sessions_elsewhere true own was not =
        subst (λ b. HasSessions now.receiver (cond b (next (service_setting id) (watch.services id) came) (watch.services own))) (sym (own_is_not before.id own id was not))
        (sessions_stay own was not)
    sessions_elsewhere false own was not = sessions_stay own was not

    pub moved : (watched : Bool) → (is_at before.id id ≡ true → watched ≡ true) →
        HasServices now (cond watched (by_services id watch came) (by_none watch)).after.services
    moved watched all own e =
        let was = sym moves.same ∙ e in
        elim (true_or_false (is_at before.id id)) [
          | inl at ↦ sessions_here watched all own was at
          | inr not ↦ sessions_elsewhere watched own was not
        ]

messages_stay : (watch : Watch) (came : Arrival) (id : ℕ) (b : Bool) →
    (cond b (by_services id watch came) (by_none watch)).after.messages ≡ watch.messages
messages_stay watch came id true = refl
messages_stay watch came id false = refl

module _ {F : Type 0} where
  -- a frame of a service came to all seats
  pub all_moved : (before now : Receivers F) (ids : List ℕ) (watch : Watch) (id : ℕ) (came : Arrival) → HasWatch before ids watch →
      now.messages ≡ before.messages → Moves before.first now.first id came → Moves before.second now.second id came →
      Moves before.third now.third id came → Moves before.fourth now.fourth id came → Moves before.fifth now.fifth id came →
      HasWatch now ids (by_service ids watch came id).after
  all_moved before now ids watch id came has same first second third fourth fifth =
      let one = is_at before.first.id id in
      let two = is_at before.second.id id in
      let three = is_at before.third.id id in
      let four = is_at before.fourth.id id in
      let five = is_at before.fifth.id id in
      let seated = sym (has.seated id) in
      record {
        seated = λ i. rw (first.same, second.same, third.same, fourth.same, fifth.same) (has.seated i);
        messages = rw (same, messages_stay watch came id (is_watched ids id)) has.messages;
        first = moved before.first now.first id came watch first has.first (is_watched ids id) (λ at. seated ∙ or-at one (two || (three || (four || five))) at);
        second = moved before.second now.second id came watch second has.second (is_watched ids id)
            (λ at. seated ∙ or-in one (two || (three || (four || five))) (or-at two (three || (four || five)) at));
        third = moved before.third now.third id came watch third has.third (is_watched ids id)
            (λ at. seated ∙ or-in one (two || (three || (four || five))) (or-in two (three || (four || five)) (or-at three (four || five) at)));
        fourth = moved before.fourth now.fourth id came watch fourth has.fourth (is_watched ids id)
            (λ at. seated ∙ or-in one (two || (three || (four || five))) (or-in two (three || (four || five)) (or-in three (four || five) (or-at four five at))));
        fifth = moved before.fifth now.fifth id came watch fifth has.fifth (is_watched ids id)
            (λ at. seated ∙ or-in one (two || (three || (four || five))) (or-in two (three || (four || five)) (or-in three (four || five) (or-in four five at))));
      }
