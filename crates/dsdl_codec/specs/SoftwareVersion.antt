-- SoftwareVersion against its bytes (uavcan.protocol.SoftwareVersion).
--
--   uint8 major, uint8 minor, uint8 optional_field_flags   one byte each
--   uint32 vcs_commit                                      four bytes, the low one first
--   uint64 image_crc                                       eight bytes, the low one first
use Rattle.std.specs.Prelude.{◌≡◌, ℕ, ◌^◌, ◌<◌, List, [], ◌∷◌, ◌++◌, Option, Some, None}
use Rattle.std.specs.Int.{to_le_bytes, from_le_bytes, w32, w64}
use Rattle.dsdl_codec.specs.declared.software_version.SoftwareVersion.{SoftwareVersion}

-- the values that have bytes
pub record IsSoftwareVersion (version : SoftwareVersion) : Type 0 where
  pub commit : version.commit < 2 ^ 32
  pub crc : version.crc < 2 ^ 64

-- the bytes of a value
abbrev pub software_version_bytes : SoftwareVersion → List ℕ
software_version_bytes version =
    version.major ∷ version.minor ∷ version.flags ∷ to_le_bytes w32 version.commit ++ to_le_bytes w64 version.crc

-- these are the bytes of the value
pub record SpellsSoftwareVersion (version : SoftwareVersion) (bytes : List ℕ) : Type 0 where
  pub fits : IsSoftwareVersion version
  pub written : bytes ≡ software_version_bytes version

-- the value of bytes, where they are some value's
abbrev pub software_version_of : List ℕ → Option SoftwareVersion
software_version_of
    (major ∷ minor ∷ flags ∷ a ∷ b ∷ c ∷ d ∷ e ∷ f ∷ g ∷ h ∷ i ∷ j ∷ k ∷ l ∷ []) =
    Some (record {
      major = major;
      minor = minor;
      flags = flags;
      commit = from_le_bytes w32 (a ∷ b ∷ c ∷ d ∷ []);
      crc = from_le_bytes w64 (e ∷ f ∷ g ∷ h ∷ i ∷ j ∷ k ∷ l ∷ []);
    })
software_version_of _ = None
