-- What a response of a step answers: the request that the step was delivered.
use Rattle.std.specs.Prelude.{◌≡◌, ⊤, ℕ, true, Option, Some}
use Rattle.can_frame.specs.declared.identifier.Kind.TheVariants.{Request as RequestKind, Response}
use Rattle.can_frame.specs.declared.step.What.{What}
use Rattle.can_frame.specs.declared.step.What.TheVariants.{App, Vote}
use Rattle.dsdl_codec.specs.declared.append_request.AppendRequest.{AppendRequest}
use Rattle.dsdl_codec.specs.declared.vote_request.VoteRequest.{VoteRequest}
use Rattle.dsdl_codec.specs.AppendRequest.{append_request_of}
use Rattle.dsdl_codec.specs.VoteRequest.{vote_request_of}
use Rattle.raft_core.specs.Handled as handled
use Rattle.raft_model.specs.Lists.{In}
use Rattle.raft_model.specs.Messages.{Answer, Message}
use Rattle.raft_model.specs.Messages.Message.{Answers}
use Rattle.transfer_rx.specs.Reassembly.{Delivery}
use Rattle.alloc_spec.specs.Services.{is_listed}
use Rattle.alloc_spec.specs.Step.{Event, step}
use Rattle.alloc_spec.specs.AllocatorState.{AllocatorState}
use Rattle.alloc_spec.specs.Transfers.{Offer, kind_of, number_of}
use Rattle.alloc_spec_laws.specs.Listing.{IsDelivered}

-- an answer to the very request that the bytes of a delivered transfer are, of a node that the server lists

pub record AnswersVote (d : Delivery) (t : AllocatorState) (says : Option Message) : Type 0 where
  pub listed : is_listed d t ≡ true
  pub asked : VoteRequest
  pub read : vote_request_of d.payload ≡ Some asked
  pub answer : Answer
  pub is : says ≡ Some (Answers answer)
  pub request : answer.request ≡ handled.vote_request_of asked d.mark.step d.ident.source t.me

pub record AnswersAppend (d : Delivery) (t : AllocatorState) (says : Option Message) : Type 0 where
  pub listed : is_listed d t ≡ true
  pub asked : AppendRequest
  pub read : append_request_of d.payload ≡ Some asked
  pub answer : Answer
  pub is : says ≡ Some (Answers answer)
  pub request : answer.request ≡ handled.append_request_of asked d.mark.step d.ident.source t.me

-- by its kind; the others say nothing
abbrev pub AnswersAsked : Delivery → AllocatorState → What → Option Message → Type 0
AnswersAsked d t Vote says = AnswersVote d t says
AnswersAsked d t App says = AnswersAppend d t says
AnswersAsked d t what says = ⊤

-- a response goes to the node whose request of its service the step was delivered, under that request's transfer ID,
-- and names the step that made it
pub record IsResponse (t : AllocatorState) (number : ℕ) (event : Event) (offer : Offer) : Type 0 where
  pub d : Delivery
  pub delivered : IsDelivered t number event d
  pub kind : d.ident.kind ≡ RequestKind
  pub service : d.ident.number ≡ number_of offer.what
  pub to : offer.to ≡ d.ident.source
  pub id : offer.id ≡ d.id
  pub re : offer.re ≡ d.mark.step
  pub says : AnswersAsked d t offer.what offer.says

abbrev pub ResponsesAnswer : AllocatorState → ℕ → Event → Type 0
ResponsesAnswer t number event = (offer : Offer) → In offer (step t number event).step_state.offers →
    kind_of offer.what ≡ Response
    → IsResponse t number event offer
