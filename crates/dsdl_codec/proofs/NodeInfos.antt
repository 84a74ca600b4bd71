-- The parts of the bytes of a NodeInfo, from the front.
use Rattle.std.proofs.Common.{◌≡◌, ℕ, zero, suc, ◌+◌, List, ◌∷◌, ◌++◌, length, take, drop, slice_index_or, Some, None, ◌≤◌, ◌<◌, arith, refl, sym, true, subst, ap, append_assoc, ◌∙◌}
use Rattle.std.proofs.Math.Seq.{take-append_seam, drop-append_seam, drop-append-add, get_or-append_seam}
use Rattle.std.proofs.lemmas.List.{get_or-append_right}
use Rattle.std.proofs.lemmas.Grind.{common_steps}
use Rattle.dsdl_codec.specs.declared.node_status.NodeStatus.{NodeStatus}
use Rattle.dsdl_codec.specs.declared.software_version.SoftwareVersion.{SoftwareVersion}
use Rattle.dsdl_codec.specs.declared.hardware_version.HardwareVersion.{HardwareVersion}
use Rattle.dsdl_codec.specs.declared.node_info.NodeInfo.{NodeInfo}
use Rattle.dsdl_codec.specs.Fields.{BeginsWith}
use Rattle.dsdl_codec.specs.NodeStatus.{SpellsNodeStatus, node_status_bytes, node_status_of}
use Rattle.dsdl_codec.specs.SoftwareVersion.{SpellsSoftwareVersion, software_version_bytes, software_version_of}
use Rattle.dsdl_codec.specs.HardwareVersion.{BeginsWithHardwareVersion, hardware_version_bytes}
use Rattle.dsdl_codec.specs.NodeInfo.{IsNodeInfo, SpellsNodeInfo, software_in, hardware_in, has_node_info_size, node_info_from, node_info_of}

-- what is left behind the software version, and behind the status
abbrev pub behind_software : NodeInfo → List ℕ
behind_software info = hardware_version_bytes (hardware_in info) ++ info.name.items

abbrev pub behind_status : NodeInfo → List ℕ
behind_status info = software_version_bytes (software_in info) ++ behind_software info

module _ (info : NodeInfo) (bytes : List ℕ) (s : SpellsNodeInfo info bytes) where
  pub begins_with_status : BeginsWith 7 (node_status_bytes info.status) (behind_status info) bytes
  begins_with_status = record { width = refl; written = s.written }

  pub then_software : (rest : List ℕ) → rest ≡ behind_status info →
      BeginsWith 15 (software_version_bytes (software_in info)) (behind_software info) rest
  then_software rest e = record { width = refl; written = e }

  pub then_hardware : (rest : List ℕ) → rest ≡ behind_software info →
      BeginsWithHardwareVersion (hardware_in info) info.name.items rest
  then_hardware rest e = record { fits = record { uid = s.fits.uid; certificate = s.fits.certificate }; written = e }

  pub spelled_status : (field : List ℕ) → field ≡ node_status_bytes info.status → SpellsNodeStatus info.status field
  spelled_status field e = record { fits = s.fits.status; written = e }

  pub spelled_software : (field : List ℕ) → field ≡ software_version_bytes (software_in info) →
      SpellsSoftwareVersion (software_in info) field
  spelled_software field e = record { fits = record { commit = s.fits.sw_commit; crc = s.fits.sw_crc }; written = e }

pub node_status_of_spelled : (status : NodeStatus) (bytes : List ℕ) → SpellsNodeStatus status bytes → node_status_of bytes ≡ Some status
node_status_of_spelled status bytes s = grind (arith, common_steps)

pub software_version_of_spelled : (version : SoftwareVersion) (bytes : List ℕ) → SpellsSoftwareVersion version bytes → software_version_of bytes ≡ Some version
software_version_of_spelled version bytes s = grind (arith, common_steps)

-- a unique ID, a counted certificate and a name
abbrev pub in_order : List ℕ → List ℕ → List ℕ → List ℕ
in_order uid certificate name = uid ++ (length certificate ∷ certificate ++ name)

-- they are found by place
module _ (uid certificate name : List ℕ) (u : length uid ≡ 16) where
  pub uid_first : take 16 (in_order uid certificate name) ≡ uid
  uid_first = subst (λ n. take n (in_order uid certificate name) ≡ uid) u (take-append_seam uid (length certificate ∷ certificate ++ name))

  pub count_at_16 : slice_index_or (in_order uid certificate name) 16 0 ≡ length certificate
  count_at_16 =
      subst (λ n. slice_index_or (in_order uid certificate name) n 0 ≡ length certificate) u
      (get_or-append_seam uid (length certificate) (certificate ++ name) 0)

  pub certificate_at_17 : drop 17 (in_order uid certificate name) ≡ certificate ++ name
  certificate_at_17 =
      let size : length uid + suc zero ≡ 17 = omega (arith, u) in
      subst (λ n. drop n (in_order uid certificate name) ≡ certificate ++ name) size
      (drop-append-add uid (length certificate ∷ certificate ++ name) (suc zero))

  pub name_at_end : drop (17 + length certificate) (in_order uid certificate name) ≡ name
  name_at_end =
      subst (λ n. drop n (in_order uid certificate name) ≡ name) (omega (arith, u))
      (drop-append-add uid (length certificate ∷ certificate ++ name) (suc (length certificate)) ∙ drop-append_seam certificate name)

  pub length-in_order : length (in_order uid certificate name) ≡ 17 + length certificate + length name
  length-in_order = grind (arith, common_steps, u)

pub behind_software-in_order : (info : NodeInfo) →
    behind_software info ≡ info.hw_major ∷ info.hw_minor ∷ in_order info.uid info.certificate.items info.name.items
behind_software-in_order info =
    ap (λ rest. info.hw_major ∷ info.hw_minor ∷ rest) (append_assoc info.uid (length info.certificate.items ∷ info.certificate.items) info.name.items)

pub node_info_from-parts : (info : NodeInfo) → length info.uid ≡ 16 →
    node_info_from (Some info.status) (Some (software_in info)) (info.hw_major ∷ info.hw_minor ∷ in_order info.uid info.certificate.items info.name.items) ≡ Some info
node_info_from-parts info u =
    let uid = info.uid in
    let certificate = info.certificate.items in
    let name = info.name.items in
    let whole = in_order uid certificate name in
    let count = count_at_16 uid certificate name u in
    let certificate_whole : take (slice_index_or whole 16 0) (drop 17 whole) ≡ certificate =
    rw (count, certificate_at_17 uid certificate name u) (take-append_seam certificate name) in
    let size : 19 + slice_index_or whole 16 0 ≡ suc (suc (17 + length certificate)) = omega (arith, count) in
    let name_whole : drop (19 + slice_index_or whole 16 0) (info.hw_major ∷ info.hw_minor ∷ whole) ≡ name =
    rw size (name_at_end uid certificate name u) in
    rw (uid_first uid certificate name u, certificate_whole, name_whole) refl

-- the bytes of a status and of a software version, and what is behind them
abbrev pub front : NodeInfo → List ℕ → List ℕ
front info rest = node_status_bytes info.status ++ (software_version_bytes (software_in info) ++ rest)

pub has_node_info_size-front : (info : NodeInfo) → IsNodeInfo info →
    has_node_info_size (front info (info.hw_major ∷ info.hw_minor ∷ in_order info.uid info.certificate.items info.name.items)) ≡ true
has_node_info_size-front info fits =
    let count = count_at_16 info.uid info.certificate.items info.name.items fits.uid in
    let whole = length-in_order info.uid info.certificate.items info.name.items fits.uid in
    let name = fits.name in
    grind (arith, common_steps, count, whole, name)

pub node_info_of-front : (info : NodeInfo) → IsNodeInfo info →
    node_info_of (front info (info.hw_major ∷ info.hw_minor ∷ in_order info.uid info.certificate.items info.name.items)) ≡ Some info
unfolding node_info_of
node_info_of-front info fits =
    let status = node_status_of_spelled info.status _ (record { fits = fits.status; written = refl }) in
    let software = software_version_of_spelled (software_in info) _ (record { fits = record { commit = fits.sw_commit; crc = fits.sw_crc }; written = refl }) in
    let rest = info.hw_major ∷ info.hw_minor ∷ in_order info.uid info.certificate.items info.name.items in
    let version = software_version_of (software_version_bytes (software_in info)) in
    rw (has_node_info_size-front info fits)
    (subst (λ s. node_info_from s version rest ≡ Some info) (sym status)
    (subst (λ v. node_info_from (Some info.status) v rest ≡ Some info) (sym software) (node_info_from-parts info fits.uid)))

pub node_info_of_spelled : (info : NodeInfo) (bytes : List ℕ) → SpellsNodeInfo info bytes → node_info_of bytes ≡ Some info
node_info_of_spelled info bytes s =
    subst (λ b. node_info_of b ≡ Some info) (sym (s.written ∙ ap (front info) (behind_software-in_order info))) (node_info_of-front info s.fits)

-- a certificate that is cut off, and a name that is too long
pub node_info_of_short : (bytes : List ℕ) → length bytes < 41 + slice_index_or bytes 40 0 → node_info_of bytes ≡ None
unfolding node_info_of
node_info_of_short bytes short = grind (arith, common_steps)

pub node_info_of_long : (bytes : List ℕ) → 121 + slice_index_or bytes 40 0 < length bytes → node_info_of bytes ≡ None
unfolding node_info_of
node_info_of_long bytes long = grind (arith, common_steps)

-- the parts, put together
pub spelled_parts : (info : NodeInfo) (bytes status software rest left : List ℕ)
    → BeginsWith 7 status rest bytes
    → BeginsWith 15 software left rest
    → BeginsWithHardwareVersion (hardware_in info) info.name.items left
    → SpellsNodeStatus info.status status
    → SpellsSoftwareVersion (software_in info) software
    → length info.name.items ≤ 80
    → SpellsNodeInfo info bytes
spelled_parts info bytes status software rest left a b c d e n =
    let whole : bytes ≡ status ++ (software ++ (hardware_version_bytes (hardware_in info) ++ info.name.items)) =
    a.written ∙ ap (λ r. status ++ r) (b.written ∙ ap (λ l. software ++ l) c.written) in
    record {
      fits = record { status = d.fits; sw_commit = e.fits.commit; sw_crc = e.fits.crc; uid = c.fits.uid; certificate = c.fits.certificate; name = n };
      written = whole
          ∙ ap (λ x. x ++ (software ++ (hardware_version_bytes (hardware_in info) ++ info.name.items))) d.written
          ∙ ap (λ y. node_status_bytes info.status ++ (y ++ (hardware_version_bytes (hardware_in info) ++ info.name.items))) e.written;
    }

-- what stands at byte 40 stands at byte 18 behind the status and the software version
pub count_behind : (bytes status software rest left : List ℕ) → BeginsWith 7 status rest bytes → BeginsWith 15 software left rest →
    (slice_index_or bytes 40 0 ≡ slice_index_or left 18 0) × (length bytes ≡ 22 + length left)
count_behind bytes status software rest left a b = (
  ap (λ b. slice_index_or b 40 0) a.written
      ∙ get_or-append_right status rest 7 40 0 a.width (omega arith)
      ∙ ap (λ r. slice_index_or r 33 0) b.written
      ∙ get_or-append_right software left 15 33 0 b.width (omega arith),
  grind (arith, common_steps),
)

pub length-behind : (size : ℕ) (field left bytes : List ℕ) → BeginsWith size field left bytes → length bytes ≡ size + length left
length-behind size field left bytes a = grind (arith, common_steps)

-- how long the certificate is, and what is behind it
pub hardware_sizes : (version : HardwareVersion) (left bytes : List ℕ) → BeginsWithHardwareVersion version left bytes →
    (slice_index_or bytes 18 0 ≡ length version.certificate.items) × (length bytes ≡ 19 + length version.certificate.items + length left)
hardware_sizes version left bytes a =
    let whole = a.written ∙ ap (λ rest. version.major ∷ version.minor ∷ rest) (append_assoc version.uid (length version.certificate.items ∷ version.certificate.items) left) in
    let count = count_at_16 version.uid version.certificate.items left a.fits.uid in
    let size = length-in_order version.uid version.certificate.items left a.fits.uid in
    (ap (λ b. slice_index_or b 18 0) whole ∙ count, grind (arith, ap length whole, size))
