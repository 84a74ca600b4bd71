-- Who is asked answers: the step offers the response. Whether the queue had room for it is not said here: an offer for
-- which there was none (`fitted` is false) counts as an answer too.
use Rattle.std.specs.Prelude.{◌≡◌, ◌≢◌, ℕ, true, [], Some}
use Rattle.can_frame.specs.declared.identifier.Kind.TheVariants.{Request}
use Rattle.can_frame.specs.declared.step.What.{What}
use Rattle.can_frame.specs.declared.step.What.TheVariants.{App, Info, Vote}
use Rattle.can_frame.specs.DataTypes.{append_entries, get_node_info}
use Rattle.dsdl_codec.specs.declared.append_request.AppendRequest.{AppendRequest}
use Rattle.dsdl_codec.specs.declared.vote_request.VoteRequest.{VoteRequest}
use Rattle.dsdl_codec.specs.AppendRequest.{append_request_of}
use Rattle.dsdl_codec.specs.VoteRequest.{vote_request_of}
use Rattle.raft_model.specs.Lists.{In}
use Rattle.transfer_rx.specs.Reassembly.{Delivery}
use Rattle.alloc_spec.specs.Services.{is_listed}
use Rattle.alloc_spec.specs.Step.{Event, step}
use Rattle.alloc_spec.specs.AllocatorState.{AllocatorState}
use Rattle.alloc_spec.specs.Transfers.{Offer}
use Rattle.alloc_spec_laws.specs.Listing.{IsDelivered}

-- the step offers a response of this kind to a request that it was delivered: to its source, under its transfer ID
pub record IsAnswered (t : AllocatorState) (number : ℕ) (event : Event) (d : Delivery) (what : What) : Type 0 where
  pub offer : Offer
  pub offered : In offer (step t number event).step_state.offers
  pub is : offer.what ≡ what
  pub to : offer.to ≡ d.ident.source
  pub id : offer.id ≡ d.id

-- a request of GetNodeInfo is answered, whoever asks; one of Raft that reads as one where a member on the list asks. A
-- service that is neither GetNodeInfo nor AppendEntries is RequestVote
pub record AnswersRequest (t : AllocatorState) (number : ℕ) (event : Event) (d : Delivery) : Type 0 where
  pub info : d.ident.number ≡ get_node_info.number → d.payload ≡ [] → IsAnswered t number event d Info
  pub append : d.ident.number ≡ append_entries.number → (request : AppendRequest) →
      append_request_of d.payload ≡ Some request → is_listed d t ≡ true → IsAnswered t number event d App
  pub vote : d.ident.number ≢ get_node_info.number → d.ident.number ≢ append_entries.number → (request : VoteRequest) →
      vote_request_of d.payload ≡ Some request → is_listed d t ≡ true → IsAnswered t number event d Vote

-- of each request that a step is delivered
abbrev pub AnswersRequests : AllocatorState → ℕ → Event → Type 0
AnswersRequests t number event = (d : Delivery) → IsDelivered t number event d → d.ident.kind ≡ Request →
    AnswersRequest t number event d
