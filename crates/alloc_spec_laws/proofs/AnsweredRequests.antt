-- Each response of a step answers the request that the step was delivered.
use Rattle.std.proofs.Common.{◌≡◌, ℕ, List, [], ◌∷◌, ◌++◌, ◌⊎◌, inl, inr, refl, sym, ◌∙◌, ap, subst, Option, Some}
use Rattle.std.specs.Prelude.{nat_eq}
use Rattle.can_frame.specs.declared.identifier.Ident.{Ident}
use Rattle.can_frame.specs.declared.identifier.Kind.{Kind}
use Rattle.can_frame.specs.declared.identifier.Kind.TheVariants.{Anonymous, Message as Broadcast, Request as RequestKind, Response}
use Rattle.can_frame.specs.declared.step.What.{What}
use Rattle.can_frame.specs.declared.step.What.TheVariants.{Alloc, Disc, Stat, InfoQ, Info, VoteQ, Vote, AppQ, App}
use Rattle.cluster_discovery.specs.Members.{Start, is_on_list}
use Rattle.raft_core.specs.Handled as handled
use Rattle.raft_model.specs.Lists.{In}
use Rattle.raft_model.specs.Messages.{Message}
use Rattle.transfer_rx.specs.Acceptance.{first_signature}
use Rattle.transfer_rx.specs.Reassembly.{Arrival, Delivery, Setting}
use Rattle.transfer_rx.specs.Reassembly as rx
use Rattle.transfer_rx.specs.Reassembly.Answer.{Gives}
use Rattle.transfer_rx.specs.Sessions.{Session}
use Rattle.transfer_rx.specs.Sound as received
use Rattle.alloc_spec.specs.Accepted.{rows, setting_for}
use Rattle.alloc_spec.specs.StepState.{StepState}
use Rattle.alloc_spec.specs.Step.{Event, at_step, begin_phase, moment_of}
use Rattle.alloc_spec.specs.Step.Event.{Rx}
use Rattle.alloc_spec.specs.AllocatorState.{AllocatorState, members_of}
use Rattle.alloc_spec.specs.Transfers.{Offer, kind_of, number_of}
use Rattle.alloc_spec_laws.specs.Listing.{IsDelivered}
use Rattle.alloc_spec_laws.specs.Responses.{AnswersAsked, IsResponse, ResponsesAnswer}
use Rattle.alloc_spec_laws.proofs.Choices.{eq_true, tell}
use Rattle.alloc_spec_laws.proofs.KeptByChanges.{IsSentTo, IsServed, Keeping, same_members}
use Rattle.alloc_spec_laws.proofs.Lists.{in_append}
use Rattle.alloc_spec_laws.proofs.Ranges.{wanted_type}
use Rattle.alloc_spec_laws.proofs.KeptBySteps.{step_keeps}

-- ---- the services of the table

served : (n signature : ℕ) → first_signature rows RequestKind n ≡ Some signature → (n ≡ 1) ⊎ ((n ≡ 30) ⊎ (n ≡ 31))
unfolding rows
served n signature e = elim (tell (nat_eq 1 n)) [
  | inl a ↦ inl (sym (eq_true 1 n a))
  | inr a ↦ elim (tell (nat_eq 30 n)) [
    | inl b ↦ inr (inl (sym (eq_true 30 n b)))
    | inr b ↦ elim (tell (nat_eq 31 n)) [
      | inl c ↦ inr (inr (sym (eq_true 31 n c)))
      | inr c ↦ absurd (cc (rw c at (rw b at (rw a at e))))
    ]
  ]
]

service_is : (what : What) (n : ℕ) → kind_of what ≡ Response → IsServed what n → (n ≡ 1) ⊎ ((n ≡ 30) ⊎ (n ≡ 31)) → n ≡ number_of what
service_is Alloc n is h one = absurd (cc (is))
service_is Disc n is h one = absurd (cc (is))
service_is Stat n is h one = absurd (cc (is))
service_is InfoQ n is h one = absurd (cc (is))
service_is VoteQ n is h one = absurd (cc (is))
service_is AppQ n is h one = absurd (cc (is))
service_is Info n is h one = h
service_is App n is h one = h
service_is Vote n is h (inl one) = absurd (h.0 one)
service_is Vote n is h (inr (inl thirty)) = absurd (h.1 thirty)
service_is Vote n is h (inr (inr last)) = last

-- ---- the same request of the same list

asked_of : (d : Delivery) (u t : AllocatorState) (what : What) (says : Option Message) → members_of u ≡ members_of t → u.me ≡ t.me
    → AnswersAsked d u what says → AnswersAsked d t what says
asked_of d u t Vote says list me h = record {
  listed = sym (ap (λ (l : List ℕ). is_on_list l d.ident.source) list) ∙ h.listed;
  asked = h.asked;
  read = h.read;
  answer = h.answer;
  is = h.is;
  request = h.request ∙ ap (λ (n : ℕ). handled.vote_request_of h.asked d.mark.step d.ident.source n) me;
}
asked_of d u t App says list me h = record {
  listed = sym (ap (λ (l : List ℕ). is_on_list l d.ident.source) list) ∙ h.listed;
  asked = h.asked;
  read = h.read;
  answer = h.answer;
  is = h.is;
  request = h.request ∙ ap (λ (n : ℕ). handled.append_request_of h.asked d.mark.step d.ident.source n) me;
}
asked_of d u t Alloc says list me h = tt
asked_of d u t Disc says list me h = tt
asked_of d u t Stat says list me h = tt
asked_of d u t InfoQ says list me h = tt
asked_of d u t Info says list me h = tt
asked_of d u t VoteQ says list me h = tt
asked_of d u t AppQ says list me h = tt

not_sent : (kind : Kind) (to : ℕ) → IsSentTo kind to → kind ≡ Response → ⊥
not_sent Anonymous to sent e = absurd (cc (e))
not_sent Broadcast to sent e = absurd (cc (e))
not_sent RequestKind to sent e = absurd (cc (e))
not_sent Response to sent e = sent

-- one transfer is delivered at most
arrived : (a b : Arrival) → Rx a ≡ Rx b → a ≡ b
arrived a b e = cc (e)

one_delivered : (t : AllocatorState) (number : ℕ) (event : Event) (a b : Delivery) → IsDelivered t number event a → IsDelivered t number event b → a ≡ b
one_delivered t number event a b first second = given (sym first.gives ∙ again)
  where
    same : second.arrival ≡ first.arrival
    same = arrived second.arrival first.arrival (sym second.comes ∙ first.comes)

    again : rx.answer (setting_for (begin_phase number (moment_of event) t).allocator.me) (begin_phase number (moment_of event) t).allocator.sessions
        (at_step (begin_phase number (moment_of event) t).allocator first.arrival) ≡ Gives b
    again = subst (λ (arrival : Arrival). rx.answer (setting_for (begin_phase number (moment_of event) t).allocator.me)
        (begin_phase number (moment_of event) t).allocator.sessions (at_step (begin_phase number (moment_of event) t).allocator arrival) ≡ Gives b) same second.gives

    given : Gives a ≡ Gives b → a ≡ b
    given e = cc (e)

module _ (t : AllocatorState) (number : ℕ) (event : Event)
    (delivered : (setting : Setting) (sessions : List Session) (arrival : Arrival) (d : Delivery) → rx.answer setting sessions arrival ≡ Gives d
    → received.IsDelivered setting sessions arrival d) where
  -- the number of a request that is delivered
  number_served : (d : Delivery) → IsDelivered t number event d → d.ident.kind ≡ RequestKind
      → (d.ident.number ≡ 1) ⊎ ((d.ident.number ≡ 30) ⊎ (d.ident.number ≡ 31))
  number_served d comes kind =
      let from = delivered _ _ _ d comes.gives in
      let signed = wanted_type rows _ _ from.w from.accepted in
      let same : d.ident ≡ from.w.ident = from.ident in
      served d.ident.number signed.0
      (subst (λ (k : Kind). first_signature rows k d.ident.number ≡ Some signed.0) kind
      (subst (λ (ident : Ident). first_signature rows ident.kind ident.number ≡ Some signed.0) (sym same) signed.1))

  pub record Answered (g : StepState) : Type 0 where
    pub me : g.allocator.me ≡ t.me
    -- no request comes with a Discovery
    pub list : (d : Delivery) → IsDelivered t number event d → d.ident.kind ≡ RequestKind → members_of g.allocator ≡ members_of t
    pub each : (offer : Offer) → In offer g.offers → kind_of offer.what ≡ Response → IsResponse t number event offer

  one_more : (offers : List Offer) (new : Offer) → ((offer : Offer) → In offer offers → kind_of offer.what ≡ Response → IsResponse t number event offer)
      → (kind_of new.what ≡ Response → IsResponse t number event new)
      → (offer : Offer) → In offer (offers ++ new ∷ []) → kind_of offer.what ≡ Response → IsResponse t number event offer
  one_more offers new h is offer i = elim (in_append offer offers (new ∷ []) i) [
    | inl j ↦ h offer j
    | inr (inl e) ↦ subst (λ (o : Offer). kind_of o.what ≡ Response → IsResponse t number event o) (sym e) is
    | inr (inr j) ↦ absurd j
  ]

  answered_keeping : Keeping number event Answered (IsDelivered t number event)
  answered_keeping = record {
    takes_keep = λ given moves g quiet decided h. record { me = h.me; list = h.list; each = h.each };
    proposes_keep = λ given uid node g found h. record { me = h.me; list = h.list; each = h.each };
    sends_keep = λ what to payload says g sends h. record {
      me = h.me;
      list = h.list;
      each = one_more g.offers _ h.each (λ e. absurd (not_sent (kind_of what) to sends.destination e));
    };
    calls_keep = λ what peer move request payload g makes fits h. record { me = h.me; list = h.list; each = h.each };
    responds_keep = λ what d payload says g comes responds h. record {
      me = h.me;
      list = h.list;
      each = one_more g.offers _ h.each (λ e. record {
        d = d;
        delivered = comes;
        kind = responds.kind;
        service = service_is what d.ident.number responds.is responds.service (number_served d comes responds.kind);
        to = refl;
        id = refl;
        re = refl;
        says = asked_of d g.allocator t what says (h.list d comes responds.kind) h.me responds.asked;
      });
    };
    changes_keep = λ u g like h. record {
      me = ap (λ (start : Start). start.me) like.start ∙ h.me;
      list = λ d comes kind. same_members u g.allocator like ∙ h.list d comes kind;
      each = h.each;
    };
    watches_keep = λ node happens g has h. record { me = h.me; list = h.list; each = h.each };
    tells_keep = λ g h. record { me = h.me; list = h.list; each = h.each };
    hears_keep = λ d message g comes kind other read h. record {
      me = h.me;
      list = λ request delivered asks. absurd (cc (kind, asks, ap (λ (r : Delivery). r.ident.kind) (one_delivered t number event d request comes delivered)));
      each = h.each;
    };
  }

  pub responses_answer : ResponsesAnswer t number event
  responses_answer =
      (step_keeps number event Answered (IsDelivered t number event) answered_keeping t
      (λ arrival is d e. record { arrival = arrival; comes = is; gives = e })
      (record { me = refl; list = λ d comes kind. refl; each = λ offer i. absurd i })).each
