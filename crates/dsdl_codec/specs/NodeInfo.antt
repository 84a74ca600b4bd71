-- NodeInfo against its bytes (the response of uavcan.protocol.GetNodeInfo).
--
--   NodeStatus status                   7 bytes
--   SoftwareVersion software_version    15 bytes
--   HardwareVersion hardware_version    19 bytes and the certificate
--   uint8[<=80] name                    what is left
use Rattle.std.specs.Prelude.{◌≡◌, ℕ, ◌+◌, ◌≤◌, ◌^◌, ◌<◌, ◌&&◌, nat_le, Bool, List, ◌++◌, length, take, drop, slice_index_or, Option, Some, None, if◌then◌else◌}
use Rattle.dsdl_codec.specs.NodeStatus.{IsNodeStatus, node_status_bytes, node_status_of}
use Rattle.dsdl_codec.specs.SoftwareVersion.{software_version_bytes, software_version_of}
use Rattle.dsdl_codec.specs.HardwareVersion.{hardware_version_bytes}
use Rattle.dsdl_codec.specs.declared.node_status.NodeStatus.{NodeStatus}
use Rattle.dsdl_codec.specs.declared.software_version.SoftwareVersion.{SoftwareVersion}
use Rattle.dsdl_codec.specs.declared.hardware_version.HardwareVersion.{HardwareVersion}
use Rattle.dsdl_codec.specs.declared.node_info.NodeInfo.{NodeInfo}

-- the values that have bytes
pub record IsNodeInfo (info : NodeInfo) : Type 0 where
  pub status : IsNodeStatus info.status
  pub sw_commit : info.sw_commit < 2 ^ 32
  pub sw_crc : info.sw_crc < 2 ^ 64
  pub uid : length info.uid ≡ 16
  pub certificate : length info.certificate.items < 256
  pub name : length info.name.items ≤ 80

-- the two versions in a value
abbrev pub software_in : NodeInfo → SoftwareVersion
software_in info =
    (record {
      major = info.sw_major;
      minor = info.sw_minor;
      flags = info.sw_flags;
      commit = info.sw_commit;
      crc = info.sw_crc;
    })

abbrev pub hardware_in : NodeInfo → HardwareVersion
hardware_in info =
    record { major = info.hw_major; minor = info.hw_minor; uid = info.uid; certificate = info.certificate }

-- the bytes of a value
abbrev pub node_info_bytes : NodeInfo → List ℕ
node_info_bytes info =
    node_status_bytes info.status
    ++ software_version_bytes (software_in info)
    ++ hardware_version_bytes (hardware_in info)
    ++ info.name.items

-- these are the bytes of the value
pub record SpellsNodeInfo (info : NodeInfo) (bytes : List ℕ) : Type 0 where
  pub fits : IsNodeInfo info
  pub written : bytes ≡ node_info_bytes info

-- the certificate is as long as byte 40 says, and a name of at most 80 bytes is behind it
abbrev pub has_node_info_size : List ℕ → Bool
has_node_info_size bytes =
    nat_le (41 + slice_index_or bytes 40 0) (length bytes) && nat_le (length bytes) (121 + slice_index_or bytes 40 0)

-- the value of a status, a software version and what is behind them
abbrev pub node_info_from : Option NodeStatus → Option SoftwareVersion → List ℕ → Option NodeInfo
node_info_from (Some status) (Some software) rest = Some (record {
  status = status;
  sw_major = software.major;
  sw_minor = software.minor;
  sw_flags = software.flags;
  sw_commit = software.commit;
  sw_crc = software.crc;
  hw_major = slice_index_or rest 0 0;
  hw_minor = slice_index_or rest 1 0;
  uid = take 16 (drop 2 rest);
  certificate = record { items = take (slice_index_or rest 18 0) (drop 19 rest) };
  name = record { items = drop (19 + slice_index_or rest 18 0) rest };
})
node_info_from _ _ _ = None

-- the value of bytes, where they are some value's
unfoldable pub node_info_of : List ℕ → Option NodeInfo
node_info_of bytes = if has_node_info_size bytes
    then node_info_from (node_status_of (take 7 bytes)) (software_version_of (take 15 (drop 7 bytes))) (drop 22 bytes)
    else None
