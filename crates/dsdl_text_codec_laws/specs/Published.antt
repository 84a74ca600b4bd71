-- The lines of the text, to be compared with the public definitions of UAVCAN v0 (`uavcan.protocol` and
-- `uavcan.protocol.dynamic_node_id`, with `server`): the name of each type, and of each of its fields the type, the
-- shape and the name. Of the constants of Allocation one stands here.
use Rattle.std.specs.Prelude.{List, [], ◌∷◌, Some, codes}
use Rattle.dsdl_text.specs.declared.line.Line.{Line}
use Rattle.dsdl_text.specs.declared.line.Line.TheVariants.{Empty, Section, Divider, Void, Field, Constant}
use Rattle.dsdl_text.specs.declared.line.Shape.TheVariants.{One, Exactly, UpTo}

abbrev pub profile_lines : List Line
profile_lines =
    Section (record { items = codes "Entry" })
    ∷ Field (record { items = codes "uint32" }) One (record { items = codes "term" })
    ∷ Field (record { items = codes "uint8" }) (Exactly 16) (record { items = codes "unique_id" })
    ∷ Void 1
    ∷ Field (record { items = codes "uint7" }) One (record { items = codes "node_id" })
    ∷ Section (record { items = codes "Allocation" })
    ∷ Constant (record { items = codes "uint16" }) (record { items = codes "MAX_REQUEST_PERIOD_MS" }) (Some 1000)
    ∷ Field (record { items = codes "uint7" }) One (record { items = codes "node_id" })
    ∷ Field (record { items = codes "bool" }) One (record { items = codes "first_part_of_unique_id" })
    ∷ Field (record { items = codes "uint8" }) (UpTo 16) (record { items = codes "unique_id" })
    ∷ Section (record { items = codes "Discovery" })
    ∷ Field (record { items = codes "uint8" }) One (record { items = codes "configured_cluster_size" })
    ∷ Field (record { items = codes "uint8" }) (UpTo 5) (record { items = codes "known_nodes" })
    ∷ Section (record { items = codes "AppendEntries" })
    ∷ Field (record { items = codes "uint32" }) One (record { items = codes "term" })
    ∷ Field (record { items = codes "uint32" }) One (record { items = codes "prev_log_term" })
    ∷ Field (record { items = codes "uint8" }) One (record { items = codes "prev_log_index" })
    ∷ Field (record { items = codes "uint8" }) One (record { items = codes "leader_commit" })
    ∷ Field (record { items = codes "Entry" }) (UpTo 1) (record { items = codes "entries" })
    ∷ Divider
    ∷ Field (record { items = codes "uint32" }) One (record { items = codes "term" })
    ∷ Field (record { items = codes "bool" }) One (record { items = codes "success" })
    ∷ Section (record { items = codes "RequestVote" })
    ∷ Field (record { items = codes "uint32" }) One (record { items = codes "term" })
    ∷ Field (record { items = codes "uint32" }) One (record { items = codes "last_log_term" })
    ∷ Field (record { items = codes "uint8" }) One (record { items = codes "last_log_index" })
    ∷ Divider
    ∷ Field (record { items = codes "uint32" }) One (record { items = codes "term" })
    ∷ Field (record { items = codes "bool" }) One (record { items = codes "vote_granted" })
    ∷ Section (record { items = codes "NodeStatus" })
    ∷ Field (record { items = codes "uint32" }) One (record { items = codes "uptime_sec" })
    ∷ Field (record { items = codes "uint2" }) One (record { items = codes "health" })
    ∷ Field (record { items = codes "uint3" }) One (record { items = codes "mode" })
    ∷ Field (record { items = codes "uint3" }) One (record { items = codes "sub_mode" })
    ∷ Field (record { items = codes "uint16" }) One (record { items = codes "vendor_specific_status_code" })
    ∷ Section (record { items = codes "SoftwareVersion" })
    ∷ Field (record { items = codes "uint8" }) One (record { items = codes "major" })
    ∷ Field (record { items = codes "uint8" }) One (record { items = codes "minor" })
    ∷ Field (record { items = codes "uint8" }) One (record { items = codes "optional_field_flags" })
    ∷ Field (record { items = codes "uint32" }) One (record { items = codes "vcs_commit" })
    ∷ Field (record { items = codes "uint64" }) One (record { items = codes "image_crc" })
    ∷ Section (record { items = codes "HardwareVersion" })
    ∷ Field (record { items = codes "uint8" }) One (record { items = codes "major" })
    ∷ Field (record { items = codes "uint8" }) One (record { items = codes "minor" })
    ∷ Field (record { items = codes "uint8" }) (Exactly 16) (record { items = codes "unique_id" })
    ∷ Field (record { items = codes "uint8" }) (UpTo 255) (record { items = codes "certificate_of_authenticity" })
    ∷ Section (record { items = codes "GetNodeInfo" })
    ∷ Divider
    ∷ Field (record { items = codes "NodeStatus" }) One (record { items = codes "status" })
    ∷ Field (record { items = codes "SoftwareVersion" }) One (record { items = codes "software_version" })
    ∷ Field (record { items = codes "HardwareVersion" }) One (record { items = codes "hardware_version" })
    ∷ Field (record { items = codes "uint8" }) (UpTo 80) (record { items = codes "name" })
    ∷ Empty
    ∷ []
