-- The transfers of an allocator: how each is named on the bus, and how a step offers it.
use Rattle.std.specs.Prelude.{ℕ, ◌+◌, ◌%◌, Bool, ◌&&◌, nat_eq, nat_le, List, length, Option, None, Some, replicate, slice_index, slice_set, if◌then◌else◌}
use Rattle.can_frame.specs.declared.identifier.Ident.{Ident}
use Rattle.can_frame.specs.declared.identifier.Kind.{Kind}
use Rattle.can_frame.specs.declared.step.Sent.{Sent}
use Rattle.can_frame.specs.declared.step.What.{What}
use Rattle.can_frame.specs.declared.step.What.TheVariants.{Alloc, Disc, Stat, InfoQ, Info, VoteQ, Vote, AppQ, App}
use Rattle.dsdl_codec.specs.declared.allocation.Allocation.{Allocation}
use Rattle.dsdl_codec.specs.Allocation.{allocation_of}
use Rattle.raft_model.specs.Messages.{Message}
use Rattle.raft_model.specs.Messages.Message.{Pairs}
use Rattle.transfer_tx.specs.declared.outgoing.Outgoing.{Outgoing}
use Rattle.can_frame.specs.Cutting.{frame_count}
use Rattle.can_frame.specs.DataTypes.{type_of}
use Rattle.can_frame.specs.Sizes.{node_ids}
use Rattle.transfer_tx.specs.Queue.{Queued, queued_frames}

-- ---- on the bus (uavcan.protocol; priority 30 for everything that an allocator sends)

abbrev pub kind_of : What → Kind
kind_of what = (type_of what).kind

abbrev pub number_of : What → ℕ
number_of what = (type_of what).data_type.number

abbrev pub signature_of : What → ℕ
signature_of what = (type_of what).data_type.signature

-- from a member to a node, which is 0 for a message
abbrev pub ident_of : ℕ → What → ℕ → Ident
ident_of me what to =
    record { priority = 30; kind = kind_of what; number = number_of what; source = me; dest = to; discriminator = 0 }

-- as it is handed to the queue
abbrev pub outgoing : ℕ → What → ℕ → ℕ → List ℕ → Outgoing
outgoing me what to id payload =
    record { ident = ident_of me what to; signature = signature_of what; id = id; payload = record { items = payload } }

-- ---- as a step offers them

-- a transfer that a step offers
pub record Offer : Type 0 where
  pub what : What
  -- the destination, 0 for messages
  pub to : ℕ
  -- the transfer ID
  pub id : ℕ
  pub payload : List ℕ
  -- the step of the request that it answers, or 0
  pub re : ℕ
  -- the request or answer of the Raft model that it carries
  pub says : Option Message
  pub fitted : Bool

-- what is told of it
abbrev pub sent_of : Offer → Sent
sent_of offer = record { what = offer.what; to = offer.to; fitted = offer.fitted }

-- ---- what an Allocation says is read from its payload

-- a unique ID, and the node ID that its device gets
abbrev pub GivenPair : Type 0
GivenPair = List ℕ × ℕ

-- a node ID for a whole unique ID
abbrev pub pair_of_allocation : Option Allocation → Option GivenPair
pair_of_allocation None = None
pair_of_allocation (Some allocation) =
    if nat_le 1 allocation.node && nat_eq (length allocation.uid.items) 16
    then Some (allocation.uid.items, allocation.node) else None

abbrev pub pair_in : What → List ℕ → Option GivenPair
pair_in Alloc payload = pair_of_allocation (allocation_of payload)
pair_in Disc payload = None
pair_in Stat payload = None
pair_in InfoQ payload = None
pair_in Info payload = None
pair_in VoteQ payload = None
pair_in Vote payload = None
pair_in AppQ payload = None
pair_in App payload = None

-- the message of the Raft model that a member's transfer carries, which a step made
abbrev pub pair_message : ℕ → ℕ → Option GivenPair → Option Message
pair_message step me None = None
pair_message step me (Some given) = Some (Pairs (record { step = step; from = me; uid = given.0; node = given.1 }))

abbrev pub message_by : ℕ → ℕ → What → List ℕ → Option Message → Option Message
message_by step me Alloc payload says = pair_message step me (pair_in Alloc payload)
message_by step me what payload says = says

abbrev pub message_of : ℕ → ℕ → Offer → Option Message
message_of step me offer = message_by step me offer.what offer.payload offer.says

-- a transfer that a finished step put into its queue
pub record SentTransfer : Type 0 where
  pub step : ℕ
  pub by : ℕ
  pub offer : Offer

-- the frames of a transfer, each with the mark of its place
abbrev pub frames_of : SentTransfer → List Queued
frames_of made =
    queued_frames
    (outgoing made.by made.offer.what made.offer.to made.offer.id made.offer.payload) made.step made.offer.re

-- ---- the queue

abbrev pub queue_places : ℕ
queue_places = 32

-- all frames of the payload have room
abbrev pub has_room : List Queued → List ℕ → Bool
has_room queue payload = nat_le (length queue + frame_count (length payload)) queue_places

-- ---- transfer IDs

-- the transfer IDs that come next: one for each message type, and one for each service and destination, by its node ID
pub record Ids : Type 0 where
  pub alloc : ℕ
  pub disc : ℕ
  pub stat : ℕ
  pub info : List ℕ
  pub vote : List ℕ
  pub append : List ℕ

-- all nodes begin with 0
abbrev pub first_ids : Ids
first_ids = record {
  alloc = 0;
  disc = 0;
  stat = 0;
  info = replicate node_ids 0;
  vote = replicate node_ids 0;
  append = replicate node_ids 0;
}

-- of the next message, or of the next request to a node
abbrev pub id_of : Ids → What → ℕ → ℕ
id_of ids Alloc to = ids.alloc
id_of ids Disc to = ids.disc
id_of ids Stat to = ids.stat
id_of ids InfoQ to = slice_index ids.info to
id_of ids Info to = slice_index ids.info to
id_of ids VoteQ to = slice_index ids.vote to
id_of ids Vote to = slice_index ids.vote to
id_of ids AppQ to = slice_index ids.append to
id_of ids App to = slice_index ids.append to

abbrev pub id_after : ℕ → ℕ
id_after id = (id + 1) % 32

-- after a message, or a request to a node, that fitted
abbrev pub ids_after : What → ℕ → Ids → Ids
ids_after Alloc to ids = record ids { alloc = id_after ids.alloc }
ids_after Disc to ids = record ids { disc = id_after ids.disc }
ids_after Stat to ids = record ids { stat = id_after ids.stat }
ids_after InfoQ to ids = record ids { info = slice_set ids.info to (id_after (slice_index ids.info to)) }
ids_after Info to ids = record ids { info = slice_set ids.info to (id_after (slice_index ids.info to)) }
ids_after VoteQ to ids = record ids { vote = slice_set ids.vote to (id_after (slice_index ids.vote to)) }
ids_after Vote to ids = record ids { vote = slice_set ids.vote to (id_after (slice_index ids.vote to)) }
ids_after AppQ to ids = record ids { append = slice_set ids.append to (id_after (slice_index ids.append to)) }
ids_after App to ids = record ids { append = slice_set ids.append to (id_after (slice_index ids.append to)) }
