-- A step that is delivered a transfer: what it does with it, and what its end leaves.
use Rattle.std.proofs.Common.{◌≡◌, ℕ, ◌+◌, Bool, true, sym, ◌∙◌, ap, subst, Option, Some}
use Rattle.std.specs.Prelude.{max, if◌then◌else◌}
use Rattle.can_frame.specs.declared.identifier.Kind.{Kind}
use Rattle.can_frame.specs.declared.identifier.Kind.TheVariants.{Request as RequestKind, Response}
use Rattle.dsdl_codec.specs.declared.append_answer.AppendAnswer.{AppendAnswer}
use Rattle.dsdl_codec.specs.declared.append_request.AppendRequest.{AppendRequest}
use Rattle.dsdl_codec.specs.declared.vote_answer.VoteAnswer.{VoteAnswer}
use Rattle.dsdl_codec.specs.AppendAnswer.{append_answer_of}
use Rattle.dsdl_codec.specs.AppendRequest.{append_request_of}
use Rattle.dsdl_codec.specs.VoteAnswer.{vote_answer_of}
use Rattle.raft_model.specs.Lists.{In}
use Rattle.bus_rows.specs.declared.row.Row.{Row}
use Rattle.transfer_rx.specs.Reassembly.{Answer, Arrival, Delivery, Gives, answer}
use Rattle.alloc_spec.specs.Accepted.{setting_for}
use Rattle.alloc_spec.specs.AllocatorState.{AllocatorState}
use Rattle.alloc_spec.specs.Delivered.{by_kind, delivery_phase, reads, took}
use Rattle.alloc_spec.specs.Ending.{end_phase}
use Rattle.alloc_spec.specs.Services.{answers_append_request, ends_append_call, ends_vote_call, is_listed, takes_append_answer, takes_append_request, takes_vote_answer}
use Rattle.alloc_spec.specs.Step.{step, with_answer, with_end_phase}
use Rattle.alloc_spec.specs.Step.Event.{Rx}
use Rattle.alloc_spec.specs.StepState.{StepState}
use Rattle.alloc_spec.specs.Transfers.{Offer, SentTransfer}
use Rattle.alloc_spec_laws.proofs.Lists.{in_front}
use Rattle.service_steps.specs.Requests.{moment_at}
use Rattle.service_steps.proofs.Ends.{IsKept, rest_keeps}
use Rattle.service_steps.proofs.FollowUps.{when_come}
use Rattle.service_calm.specs.Comes.{Delivers, delivery_of}
use Rattle.bus_spec.specs.Cluster.{Cluster, arrival_at, frame_at}

-- a step that is delivered a transfer takes it, and ends
pub takes_delivery : (t : AllocatorState) (number : ℕ) (arrival : Arrival) (d : Delivery)
    → answer (setting_for t.me) t.sessions (record arrival { moment = moment_at t arrival }) ≡ Gives d
    → step t number (Rx arrival) ≡ with_end_phase number (delivery_phase number d (when_come t number arrival))
unfolding step
takes_delivery t number arrival d gives = ap (λ (a : Answer). with_end_phase number (with_answer number a (when_come t number arrival))) gives

-- a row that delivers a transfer
module _ (m : ℕ) (x : SentTransfer) (w : Cluster) (row : Row) (delivers : Delivers m x w row) where
  -- the step as the transfer comes
  abbrev pub come : StepState
  come = when_come delivers.server (w.rows + 1) (arrival_at (frame_at w.frames delivers.k) delivers.ms)

  module _ (me : delivers.server.me ≡ m) where
    -- what the receiver gives
    pub given : answer (setting_for delivers.server.me) delivers.server.sessions (arrival_at (frame_at w.frames delivers.k) (max delivers.server.now delivers.ms)) ≡ Gives (delivery_of x)
    given = subst (λ (k : ℕ). answer (setting_for k) delivers.server.sessions (arrival_at (frame_at w.frames delivers.k) (max delivers.server.now delivers.ms)) ≡ Gives (delivery_of x))
        (sym me) delivers.gives

    -- the step takes it, and ends
    pub step_taken : step delivers.server (w.rows + 1) (Rx (arrival_at (frame_at w.frames delivers.k) delivers.ms))
        ≡ with_end_phase (w.rows + 1) (delivery_phase (w.rows + 1) (delivery_of x) come)
    step_taken = takes_delivery delivers.server (w.rows + 1) (arrival_at (frame_at w.frames delivers.k) delivers.ms) (delivery_of x) given

-- an append request of a node on the list is answered
pub request_taken : (number : ℕ) (d : Delivery) (request : AppendRequest) (g : StepState) → d.ident.kind ≡ RequestKind → d.ident.number ≡ 30
    → append_request_of d.payload ≡ Some request → is_listed d g.allocator ≡ true
    → delivery_phase number d g ≡ took (answers_append_request number d request g)
unfolding delivery_phase
request_taken number d request g kind number_is read listed = ap (λ (k : Kind). by_kind number d k g) kind
    ∙ rw (number_is) (ap (λ (r : Option AppendRequest). reads (takes_append_request number d) r g) read
    ∙ ap (λ (b : Bool). took (if b then answers_append_request number d request g else g)) listed)

-- the answer of a node on the list ends the call that waits for it
pub answer_taken : (number : ℕ) (d : Delivery) (says : AppendAnswer) (g : StepState) → d.ident.kind ≡ Response → d.ident.number ≡ 30
    → append_answer_of d.payload ≡ Some says → is_listed d g.allocator ≡ true
    → delivery_phase number d g ≡ took (ends_append_call number d says g)
unfolding delivery_phase
answer_taken number d says g kind number_is read listed = ap (λ (k : Kind). by_kind number d k g) kind
    ∙ rw (number_is) (ap (λ (r : Option AppendAnswer). reads (takes_append_answer number d) r g) read
    ∙ ap (λ (b : Bool). took (if b then ends_append_call number d says g else g)) listed)

-- a vote answer does so too
pub vote_answer_taken : (number : ℕ) (d : Delivery) (says : VoteAnswer) (g : StepState) → d.ident.kind ≡ Response → d.ident.number ≡ 31
    → vote_answer_of d.payload ≡ Some says → is_listed d g.allocator ≡ true
    → delivery_phase number d g ≡ took (ends_vote_call number d says g)
unfolding delivery_phase
vote_answer_taken number d says g kind number_is read listed = ap (λ (k : Kind). by_kind number d k g) kind
    ∙ rw (number_is) (ap (λ (r : Option VoteAnswer). reads (takes_vote_answer number d) r g) read
    ∙ ap (λ (b : Bool). took (if b then ends_vote_call number d says g else g)) listed)

-- what was offered by then stays offered as the step ends
offer_kept : (number : ℕ) (offer : Offer) → IsKept number (λ g. In offer g.offers)
offer_kept number offer = record {
  passes = λ g e i. i;
  tells = λ given g e i. i;
  votes = λ given peer g i. i;
  appends = λ given peer previous with_entry g i. i;
  sends = λ what to payload says g i. in_front offer g.offers _ i;
}

pub still_offered : (number : ℕ) (offer : Offer) (g : StepState) → In offer g.offers → In offer (end_phase number g).offers
still_offered number offer g i = rest_keeps number (λ h. In offer h.offers) (offer_kept number offer) g i
