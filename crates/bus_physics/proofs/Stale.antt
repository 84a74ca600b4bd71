-- A response that a pending call would take though it answers another one: two calls under one transfer ID.
use Rattle.std.proofs.Common.{◌≡◌, ◌≢◌, ℕ, ◌<◌, Bool, true, false, List, refl, sym, ap, subst, ◌∙◌, arith, inl, inr, Option, Some, None}
use Rattle.std.specs.Prelude.{◌-◌, ◌&&◌, ◌||◌, not, nat_eq, nat_le, nat_lt}
use Rattle.std.proofs.lemmas.Bool.{ltb-true}
use Rattle.std.proofs.lemmas.Bool.Decides.{eqb_tells}
use Rattle.can_frame.specs.declared.identifier.Kind.{Kind}
use Rattle.can_frame.specs.declared.identifier.Kind.TheVariants.{Message, Anonymous, Request as RequestKind, Response}
use Rattle.can_frame.specs.declared.step.What.{What}
use Rattle.can_frame.specs.declared.step.What.TheVariants.{App, AppQ, Vote, VoteQ}
use Rattle.can_frame.specs.Kinds.{is_response}
use Rattle.raft_core.specs.Times.{Sending}
use Rattle.raft_model.specs.Lists.{In}
use Rattle.raft_model.specs.Messages.{Answer, Request}
use Rattle.raft_model.specs.Messages.Message.{Answers}
use Rattle.transfer_rx.specs.Reassembly.{Delivery}
use Rattle.alloc_spec_laws.specs.Saying.{IsSaid, SaysAnswer, append_bytes, vote_bytes}
use Rattle.alloc_spec.specs.AllocatorState.{AllocatorState}
use Rattle.alloc_spec.specs.Judging.{is_stale, misses, service_of, would_take}
use Rattle.alloc_spec.specs.Transfers.{SentTransfer, number_of}
use Rattle.bus_spec.specs.Cluster.{is_member}
use Rattle.bus_spec.specs.Lawful.{is_forged, is_forged_by}
use Rattle.alloc_spec.specs.Accepted.{is_members_service}
use Rattle.bus_agreement.specs.Frames.{IsTransferOf}
use Rattle.bus_agreement.specs.Said.{AnswersEach, AreAnswered, AreCalled, IsCalled, carrier}
use Rattle.bus_agreement.proofs.Lists.{both, equal, never}
use Rattle.bus_agreement.proofs.TakenMessages.{is_append, is_vote}
use Rattle.bus_physics.specs.Reuse.{IsUsedTwice}

-- ---- the call that would take it

pub record IsMissed (t : AllocatorState) (d : Delivery) (now : ℕ) : Type 0 where
  pub kind : d.ident.kind ≡ Response
  pub call : Request
  pub pending : t.raft_server.memory.pending d.ident.source ≡ Some call
  pub sending : Sending
  pub sent : t.times.sending d.ident.source ≡ Some sending
  pub number : d.ident.number ≡ service_of call
  pub id : d.id ≡ sending.id
  pub young : now - sending.moment < 1000
  pub other : d.mark.re ≢ call.step

kind_is : (kind : Kind) → is_response kind ≡ true → kind ≡ Response
kind_is Message e = never e
kind_is Anonymous e = never e
kind_is RequestKind e = never e
kind_is Response e = refl

apart : (a b : ℕ) → not (nat_eq a b) ≡ true → a ≢ b
apart a b e same = elim (eqb_tells a b) [
  | inl eq ↦ never (sym (ap not eq.0) ∙ e)
  | inr differ ↦ differ.1 same
]

module _ (t : AllocatorState) (d : Delivery) (now : ℕ) (kind : d.ident.kind ≡ Response) where
  by_call : (call : Option Request) → t.raft_server.memory.pending d.ident.source ≡ call → (sending : Option Sending) → t.times.sending d.ident.source ≡ sending
      → misses d now call sending ≡ true → IsMissed t d now
  by_call None e sending f m = never m
  by_call (Some call) e None f m = never m
  by_call (Some call) e (Some sending) f m =
      let r = both (would_take d now call sending) (not (nat_eq d.mark.re call.step)) m in
      let first = both (nat_eq d.ident.number (service_of call)) (nat_eq d.id sending.id && nat_lt (now - sending.moment) 1000) r.0 in
      let second = both (nat_eq d.id sending.id) (nat_lt (now - sending.moment) 1000) first.1 in
      record {
        kind = kind;
        call = call;
        pending = e;
        sending = sending;
        sent = f;
        number = equal d.ident.number (service_of call) first.0;
        id = equal d.id sending.id second.0;
        young = ltb-true (now - sending.moment) 1000 second.1;
        other = apart d.mark.re call.step r.1;
      }

pub missed : (t : AllocatorState) (d : Delivery) (now : ℕ) → is_stale t d now ≡ true → IsMissed t d now
missed t d now e =
    let r = both (is_response d.ident.kind && nat_le d.ident.source 125) (misses d now (t.raft_server.memory.pending d.ident.source) (t.times.sending d.ident.source)) e in
    let first = both (is_response d.ident.kind) (nat_le d.ident.source 125) r.0 in
    by_call t d now (kind_is d.ident.kind first.0) (t.raft_server.memory.pending d.ident.source) refl (t.times.sending d.ident.source) refl r.1

-- ---- it is a member's

or_back : (a b : Bool) → b ≡ true → (a || b) ≡ true
or_back true b e = refl
or_back false b e = e

of_members : (append : Bool) (call : Request) → call.append ≡ append → is_members_service (service_of call) ≡ true
of_members true call e = rw e refl
of_members false call e = rw e refl

pub from_member : (ids : List ℕ) (t : AllocatorState) (d : Delivery) (now : ℕ) → IsMissed t d now → is_forged ids (Some d.ident) ≡ true
from_member ids t d now is = ap (λ (k : Kind). is_forged_by ids k d.ident) is.kind
    ∙ or_back (is_member ids d.ident.source) (is_members_service d.ident.number)
    (ap is_members_service is.number ∙ of_members is.call.append is.call refl)

-- ---- two calls

number_of_call : (append : Bool) (call : Request) → call.append ≡ append → (append ≡ true → service_of call ≡ 30) × (append ≡ false → service_of call ≡ 31)
number_of_call true call e = ((λ h. rw e refl), (λ h. never (sym h)))
number_of_call false call e = ((λ h. never h), (λ h. rw e refl))

one_sending : (x y : Sending) → Some x ≡ Some y → x ≡ y
one_sending x y e = cc (e)

-- the call that was answered, and the one that waits
pub record AreTwoCalls (made : List SentTransfer) (t : AllocatorState) (d : Delivery) (call : Request) : Type 0 where
  pub first : SentTransfer
  pub second : SentTransfer
  pub twice : IsUsedTwice made first second
  pub maker : second.by ≡ t.me
  pub receiver : second.offer.to ≡ d.ident.source
  pub service : number_of second.offer.what ≡ d.ident.number
  pub answered : first.step ≡ d.mark.re
  pub called : second.step ≡ call.step
  pub carried : second.offer.what ≡ carrier call.append

module _ (made : List SentTransfer) (says : (x : SentTransfer) → In x made → IsSaid x.step x.by x.offer.what x.offer.to x.offer.re x.offer.payload x.offer.says)
    (answered : AreAnswered made) (t : AllocatorState) (called : AreCalled made t) (d : Delivery) (now : ℕ) (is : IsMissed t d now)
    (dest : d.ident.dest ≡ t.me) (x : SentTransfer) (there : In x made) (its : IsTransferOf d x) where
  abbrev waiting : (sending : Sending) × (t.times.sending d.ident.source ≡ Some sending)
      × IsCalled made t d.ident.source is.call sending (carrier is.call.append)
  waiting = called d.ident.source is.call is.pending

  same_sending : waiting.0 ≡ is.sending
  same_sending = one_sending waiting.0 is.sending (sym waiting.1 ∙ is.sent)

  two : (response service : What) → x.offer.what ≡ response → carrier is.call.append ≡ service → number_of service ≡ service_of is.call → (answer : Answer)
      → x.offer.says ≡ Some (Answers answer) → AnswersEach made response service → AreTwoCalls made t d is.call
  two response service what carried number answer said each =
      let a = each x answer there what said in
      let b = waiting.2 in
      record {
        first = a.asked;
        second = b.call;
        twice = record {
          first_made = a.was_made;
          second_made = b.was_made;
          by = a.maker ∙ (its.to ∙ (dest ∙ sym b.maker));
          what = a.what ∙ (sym carried ∙ sym b.what);
          to = a.receiver ∙ (its.by ∙ sym b.receiver);
          id = a.id ∙ (its.id ∙ (is.id ∙ (ap (λ (s : Sending). s.id) (sym same_sending) ∙ sym b.id)));
          apart = λ e. is.other (sym its.re ∙ (sym a.step ∙ (e ∙ b.step)));
        };
        maker = b.maker;
        receiver = b.receiver;
        service = ap number_of (b.what ∙ carried) ∙ (number ∙ sym is.number);
        answered = a.step ∙ its.re;
        called = b.step;
        carried = b.what;
      }

  said_as : (what : What) → x.offer.what ≡ what → IsSaid x.step x.by what x.offer.to x.offer.re x.offer.payload x.offer.says
  said_as what e = subst (λ (w : What). IsSaid x.step x.by w x.offer.to x.offer.re x.offer.payload x.offer.says) e (says x there)

  by_service : (append : Bool) → is.call.append ≡ append → AreTwoCalls made t d is.call
  by_service true e =
      let n : d.ident.number ≡ 30 = is.number ∙ (number_of_call true is.call e).0 refl in
      let what : x.offer.what ≡ App = is_append x.offer.what (its.kind ∙ is.kind) (its.number ∙ n) in
      let said : SaysAnswer x.step x.by x.offer.to x.offer.re true append_bytes x.offer.payload x.offer.says = said_as App what in
      two App AppQ what (ap carrier e) (sym ((number_of_call true is.call e).0 refl)) said.answer said.is answered.appends
  by_service false e =
      let n : d.ident.number ≡ 31 = is.number ∙ (number_of_call false is.call e).1 refl in
      let what : x.offer.what ≡ Vote = is_vote x.offer.what (its.kind ∙ is.kind)
      (λ h. absurd (omega (arith, h, its.number, n))) (λ h. absurd (omega (arith, h, its.number, n))) in
      let said : SaysAnswer x.step x.by x.offer.to x.offer.re false vote_bytes x.offer.payload x.offer.says = said_as Vote what in
      two Vote VoteQ what (ap carrier e) (sym ((number_of_call false is.call e).1 refl)) said.answer said.is answered.votes

  pub two_calls : AreTwoCalls made t d is.call
  two_calls = by_service is.call.append refl
