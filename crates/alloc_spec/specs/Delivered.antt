-- What a server does with a whole transfer, by its data type. A payload that is no value of it does nothing.
use Rattle.std.specs.Prelude.{ℕ, nat_eq, List, [], ◌∷◌, Option, None, Some, if◌then◌else◌}
use Rattle.can_frame.specs.declared.identifier.Kind.{Kind}
use Rattle.can_frame.specs.declared.identifier.Kind.TheVariants.{Anonymous, Message, Request, Response}
use Rattle.can_frame.specs.declared.step.Seen.{Seen}
use Rattle.can_frame.specs.declared.step.Seen.TheVariants.{Bad, Took}
use Rattle.can_frame.specs.DataTypes.{append_entries, get_node_info, node_status}
use Rattle.cluster_discovery.specs.Members.{Heard}
use Rattle.dsdl_codec.specs.declared.discovery.Discovery.{Discovery}
use Rattle.dsdl_codec.specs.Allocation.{allocation_of}
use Rattle.dsdl_codec.specs.AppendAnswer.{append_answer_of}
use Rattle.dsdl_codec.specs.AppendRequest.{append_request_of}
use Rattle.dsdl_codec.specs.Discovery.{discovery_of}
use Rattle.dsdl_codec.specs.NodeInfo.{node_info_of}
use Rattle.dsdl_codec.specs.NodeStatus.{node_status_of}
use Rattle.dsdl_codec.specs.VoteAnswer.{vote_answer_of}
use Rattle.dsdl_codec.specs.VoteRequest.{vote_request_of}
use Rattle.node_discovery.specs.Watch.{after_status}
use Rattle.transfer_rx.specs.Reassembly.{Delivery}
use Rattle.alloc_spec.specs.StepState.{StepState}
use Rattle.alloc_spec.specs.Exchange.{hears_allocation}
use Rattle.alloc_spec.specs.Services.{hears_info, takes_append_answer, takes_append_request, takes_vote_answer, takes_vote_request, tells_info}

-- what the step saw, and the step by then
pub record StepResult : Type 0 where
  pub seen : Seen
  pub step_state : StepState

abbrev pub bad : StepState → StepResult
bad g = record { seen = Bad; step_state = g }

abbrev pub took : StepState → StepResult
took g = record { seen = Took; step_state = g }

-- what is done with a value, where the payload is one
abbrev pub reads : {A : Type 0} → (A → StepState → StepState) → Option A → StepState → StepResult
reads does None g = bad g
reads does (Some value) g = took (does value g)

abbrev pub hears_status : Delivery → StepState → StepState
hears_status d g = record g
    { allocator = record g.allocator { watch = after_status g.allocator.watch d.ident.source g.allocator.now } }

abbrev pub hears_discovery : Delivery → Discovery → StepState → StepState
hears_discovery d message g =
    record g { allocator = record g.allocator { heard = Heard d.ident.source message ∷ g.allocator.heard } }

-- the request of GetNodeInfo is empty
abbrev pub asks_info : ℕ → Delivery → List ℕ → StepState → StepResult
asks_info step d [] g = took (tells_info step d g)
asks_info step d (byte ∷ bytes) g = bad g

-- of the messages NodeStatus and Discovery are received
abbrev pub message : Delivery → StepState → StepResult
message d g =
    if nat_eq d.ident.number node_status.number then reads (λ status. hears_status d) (node_status_of d.payload) g
    else reads (hears_discovery d) (discovery_of d.payload) g

-- of the services GetNodeInfo, AppendEntries and RequestVote
abbrev pub request : ℕ → Delivery → StepState → StepResult
request step d g =
    if nat_eq d.ident.number get_node_info.number then asks_info step d d.payload g
    else (if nat_eq d.ident.number append_entries.number
    then reads (takes_append_request step d) (append_request_of d.payload) g
    else reads (takes_vote_request step d) (vote_request_of d.payload) g)

abbrev pub response : ℕ → Delivery → StepState → StepResult
response step d g =
    if nat_eq d.ident.number get_node_info.number then reads (hears_info d) (node_info_of d.payload) g
    else (if nat_eq d.ident.number append_entries.number
    then reads (takes_append_answer step d) (append_answer_of d.payload) g
    else reads (takes_vote_answer step d) (vote_answer_of d.payload) g)

abbrev pub by_kind : ℕ → Delivery → Kind → StepState → StepResult
by_kind step d Anonymous g = reads (hears_allocation step) (allocation_of d.payload) g
by_kind step d Message g = message d g
by_kind step d Request g = request step d g
by_kind step d Response g = response step d g

unfoldable pub delivery_phase : ℕ → Delivery → StepState → StepResult
delivery_phase step d g = by_kind step d d.ident.kind g
