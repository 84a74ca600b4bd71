-- The codecs, by the parts of types that they read.
use Rattle.std.specs.Prelude.{ℕ, List, Option, codes}
use Rattle.std.specs.Option.{option_map}
use Rattle.dsdl_codec.specs.Allocation.{allocation_of}
use Rattle.dsdl_codec.specs.AppendAnswer.{append_answer_of}
use Rattle.dsdl_codec.specs.AppendRequest.{append_request_of}
use Rattle.dsdl_codec.specs.Discovery.{discovery_of}
use Rattle.dsdl_codec.specs.NodeInfo.{node_info_of}
use Rattle.dsdl_codec.specs.NodeStatus.{node_status_of}
use Rattle.dsdl_codec.specs.Numbers.{allocation_numbers, append_answer_numbers, append_request_numbers, discovery_numbers, node_info_numbers, node_status_numbers, vote_answer_numbers, vote_request_numbers}
use Rattle.dsdl_codec.specs.VoteAnswer.{vote_answer_of}
use Rattle.dsdl_codec.specs.VoteRequest.{vote_request_of}
use Rattle.dsdl_text_codec_laws.specs.declared.codec.Codec.{Codec}
use Rattle.dsdl_text_codec_laws.specs.declared.codec.Codec.TheVariants.{Allocation, Discovery, AppendRequest, AppendAnswer, VoteRequest, VoteAnswer, NodeStatus, NodeInfo}

-- the name of the type
abbrev pub type_name : Codec → List ℕ
type_name Allocation = codes "Allocation"
type_name Discovery = codes "Discovery"
type_name AppendRequest = codes "AppendEntries"
type_name AppendAnswer = codes "AppendEntries"
type_name VoteRequest = codes "RequestVote"
type_name VoteAnswer = codes "RequestVote"
type_name NodeStatus = codes "NodeStatus"
type_name NodeInfo = codes "GetNodeInfo"

-- a service has its request as part 1 and its response as part 2
abbrev pub codec_part : Codec → ℕ
codec_part Allocation = 1
codec_part Discovery = 1
codec_part AppendRequest = 1
codec_part AppendAnswer = 2
codec_part VoteRequest = 1
codec_part VoteAnswer = 2
codec_part NodeStatus = 1
codec_part NodeInfo = 2

-- the numbers of the value that a payload is read as
abbrev pub codec_numbers : Codec → List ℕ → Option (List ℕ)
codec_numbers Allocation payload = option_map allocation_numbers (allocation_of payload)
codec_numbers Discovery payload = option_map discovery_numbers (discovery_of payload)
codec_numbers AppendRequest payload = option_map append_request_numbers (append_request_of payload)
codec_numbers AppendAnswer payload = option_map append_answer_numbers (append_answer_of payload)
codec_numbers VoteRequest payload = option_map vote_request_numbers (vote_request_of payload)
codec_numbers VoteAnswer payload = option_map vote_answer_numbers (vote_answer_of payload)
codec_numbers NodeStatus payload = option_map node_status_numbers (node_status_of payload)
codec_numbers NodeInfo payload = option_map node_info_numbers (node_info_of payload)
