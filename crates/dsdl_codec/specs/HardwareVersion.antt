-- HardwareVersion against its bytes (uavcan.protocol.HardwareVersion).
--
--   uint8 major, uint8 minor                      one byte each
--   uint8[16] unique_id                           sixteen bytes
--   uint8[<=255] certificate_of_authenticity      a byte that counts them, and so many bytes
use Rattle.std.specs.Prelude.{◌≡◌, ℕ, ◌<◌, List, ◌∷◌, ◌++◌, length}
use Rattle.dsdl_codec.specs.Fields.{counted_bytes}
use Rattle.dsdl_codec.specs.declared.hardware_version.HardwareVersion.{HardwareVersion}

-- the values that have bytes
pub record IsHardwareVersion (version : HardwareVersion) : Type 0 where
  pub uid : length version.uid ≡ 16
  pub certificate : length version.certificate.items < 256

-- the bytes of a value
abbrev pub hardware_version_bytes : HardwareVersion → List ℕ
hardware_version_bytes version =
    version.major ∷ version.minor ∷ version.uid ++ counted_bytes version.certificate.items

-- the bytes begin with those of the value, and these are left
pub record BeginsWithHardwareVersion (version : HardwareVersion) (left bytes : List ℕ) : Type 0 where
  pub fits : IsHardwareVersion version
  pub written : bytes ≡ hardware_version_bytes version ++ left
