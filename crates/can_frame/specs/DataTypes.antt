-- The data types that allocators exchange: what each is on the bus, and what each transfer of an allocator is.
use Rattle.std.specs.Prelude.{ℕ, List, codes}
use Rattle.can_frame.specs.declared.data_type.DataType.{DataType}
use Rattle.can_frame.specs.declared.identifier.Kind.{Kind}
use Rattle.can_frame.specs.declared.identifier.Kind.TheVariants.{Message, Request, Response}
use Rattle.can_frame.specs.declared.step.What.{What}
use Rattle.can_frame.specs.declared.step.What.TheVariants.{Alloc, Disc, Stat, InfoQ, Info, VoteQ, Vote, AppQ, App}

-- ---- message types: the number of each, and the signature from which the CRC of its transfers begins

-- uavcan.protocol.dynamic_node_id.Allocation
abbrev pub allocation : DataType
allocation = record { number = 1; signature = 0x0b2a812620a11d40 }

-- uavcan.protocol.NodeStatus
abbrev pub node_status : DataType
node_status = record { number = 341; signature = 0x0f0868d0c1a7c6f1 }

-- uavcan.protocol.dynamic_node_id.server.Discovery
abbrev pub discovery : DataType
discovery = record { number = 390; signature = 0x821ae2f525f69f21 }

-- ---- service types: the number of each, and the signature from which the CRC of its transfers begins

-- uavcan.protocol.GetNodeInfo
abbrev pub get_node_info : DataType
get_node_info = record { number = 1; signature = 0xee468a8121c46a9e }

-- uavcan.protocol.dynamic_node_id.server.AppendEntries
abbrev pub append_entries : DataType
append_entries = record { number = 30; signature = 0x8032c7097b48a3cc }

-- uavcan.protocol.dynamic_node_id.server.RequestVote
abbrev pub request_vote : DataType
request_vote = record { number = 31; signature = 0xcdde07bb89a56356 }

-- ---- transfers of allocators

-- what a transfer of an allocator is on the bus, and its name in a report
pub record TransferType : Type 0 where
  pub kind : Kind
  pub data_type : DataType
  pub name : List ℕ

abbrev pub transfer_type : Kind → DataType → List ℕ → TransferType
transfer_type kind data_type name = record { kind = kind; data_type = data_type; name = name }

abbrev pub type_of : What → TransferType
type_of Alloc = transfer_type Message allocation (codes "alloc")
type_of Disc = transfer_type Message discovery (codes "disc")
type_of Stat = transfer_type Message node_status (codes "stat")
type_of InfoQ = transfer_type Request get_node_info (codes "infoq")
type_of Info = transfer_type Response get_node_info (codes "info")
type_of VoteQ = transfer_type Request request_vote (codes "voteq")
type_of Vote = transfer_type Response request_vote (codes "vote")
type_of AppQ = transfer_type Request append_entries (codes "appq")
type_of App = transfer_type Response append_entries (codes "app")
