-- The numbers of a value: those of its fields in order, a flag as 0 or 1, each list of variable length behind its
-- count, and an optional entry as a count and an entry.
use Rattle.std.specs.Prelude.{ℕ, Bool, List, [], ◌∷◌, ◌++◌, length, Option, Some, None, if◌then◌else◌}
use Rattle.can_frame.specs.declared.entry.Entry.{Entry}
use Rattle.dsdl_codec.specs.declared.allocation.Allocation.{Allocation}
use Rattle.dsdl_codec.specs.declared.append_answer.AppendAnswer.{AppendAnswer}
use Rattle.dsdl_codec.specs.declared.append_request.AppendRequest.{AppendRequest}
use Rattle.dsdl_codec.specs.declared.discovery.Discovery.{Discovery}
use Rattle.dsdl_codec.specs.declared.node_info.NodeInfo.{NodeInfo}
use Rattle.dsdl_codec.specs.declared.node_status.NodeStatus.{NodeStatus}
use Rattle.dsdl_codec.specs.declared.vote_answer.VoteAnswer.{VoteAnswer}
use Rattle.dsdl_codec.specs.declared.vote_request.VoteRequest.{VoteRequest}

-- a flag
abbrev pub flag_number : Bool → ℕ
flag_number flag = if flag then 1 else 0

-- a list behind its count
abbrev pub counted : List ℕ → List ℕ
counted items = length items ∷ items

abbrev pub allocation_numbers : Allocation → List ℕ
allocation_numbers allocation = allocation.node ∷ flag_number allocation.first_part ∷ counted allocation.uid.items

abbrev pub discovery_numbers : Discovery → List ℕ
discovery_numbers discovery = discovery.size ∷ counted discovery.known.items

abbrev pub entry_numbers : Entry → List ℕ
entry_numbers entry = entry.term ∷ entry.uid ++ entry.node ∷ []

abbrev pub optional_entry_numbers : Option Entry → List ℕ
optional_entry_numbers None = 0 ∷ []
optional_entry_numbers (Some entry) = 1 ∷ entry_numbers entry

abbrev pub append_request_numbers : AppendRequest → List ℕ
append_request_numbers request =
    request.term
    ∷ request.prev_term
    ∷ request.prev_index
    ∷ request.commit
    ∷ optional_entry_numbers request.entry

-- a term and a flag: both answers of a cluster
abbrev pub verdict_numbers : ℕ → Bool → List ℕ
verdict_numbers term flag = term ∷ flag_number flag ∷ []

abbrev pub append_answer_numbers : AppendAnswer → List ℕ
append_answer_numbers answer = verdict_numbers answer.term answer.success

abbrev pub vote_request_numbers : VoteRequest → List ℕ
vote_request_numbers request = request.term ∷ request.last_term ∷ request.last_index ∷ []

abbrev pub vote_answer_numbers : VoteAnswer → List ℕ
vote_answer_numbers answer = verdict_numbers answer.term answer.granted

abbrev pub node_status_numbers : NodeStatus → List ℕ
node_status_numbers status =
    status.uptime ∷ status.health ∷ status.mode ∷ status.sub_mode ∷ status.vendor ∷ []

abbrev pub software_numbers : NodeInfo → List ℕ
software_numbers info = info.sw_major ∷ info.sw_minor ∷ info.sw_flags ∷ info.sw_commit ∷ info.sw_crc ∷ []

abbrev pub hardware_numbers : NodeInfo → List ℕ
hardware_numbers info = info.hw_major ∷ info.hw_minor ∷ info.uid ++ counted info.certificate.items

abbrev pub node_info_numbers : NodeInfo → List ℕ
node_info_numbers info =
    node_status_numbers info.status ++ software_numbers info ++ hardware_numbers info ++ counted info.name.items
