-- The unique IDs that a server meets have 16 bytes.
use Rattle.std.proofs.Common.{◌≡◌, ℕ, Bool, List, [], length, length-take, length-drop, take, drop, ◌≤◌, inl, inr, sym, ap, ◌∙◌, arith, Option, Some, None}
use Rattle.std.specs.Prelude.{⊤, ◌+◌, ◌||◌, is_some, slice_index_or}
use Rattle.alloc_exchange.specs.declared.heard.Heard.{Heard}
use Rattle.alloc_exchange.specs.declared.heard.Heard.TheVariants.{Denied, FollowUp, Ignored, Whole}
use Rattle.alloc_exchange.specs.Exchange.{Accepted, answer, bytes_so_far, has_length, is_expected, is_whole, recent_requests, response, with_request}
use Rattle.can_frame.specs.declared.entry.Entry.{Entry}
use Rattle.dsdl_codec.specs.declared.allocation.Allocation.{Allocation}
use Rattle.dsdl_codec.specs.declared.node_info.NodeInfo.{NodeInfo}
use Rattle.dsdl_codec.specs.declared.node_status.NodeStatus.{NodeStatus}
use Rattle.dsdl_codec.specs.declared.software_version.SoftwareVersion.{SoftwareVersion}
use Rattle.dsdl_codec.specs.NodeInfo.{has_node_info_size, node_info_from, node_info_of}
use Rattle.dsdl_codec.specs.NodeStatus.{node_status_of}
use Rattle.dsdl_codec.specs.SoftwareVersion.{software_version_of}
use Rattle.alloc_spec.specs.Tick.{if_new}
use Rattle.alloc_spec.specs.AllocatorState.{is_zero, recorded_at}
use Rattle.alloc_spec_laws.proofs.Choices.{and_left, either, eq_true, le_true, tell}

-- a new unique ID is the one that was told
pub told_is : (log : List Entry) (told : Option (List ℕ)) (uid : List ℕ) → if_new log told ≡ Some uid → told ≡ Some uid
told_is log None uid e = absurd (cc (e))
told_is log (Some said) uid e = elim (tell (is_zero said || is_some (recorded_at log said))) [
  | inl b ↦ absurd (cc (rw b at e))
  | inr b ↦ rw b at e
]

-- ---- of the exchange

abbrev pub IsWholeOf : Heard → Type 0
IsWholeOf (Whole uid preference) = length uid ≡ 16
IsWholeOf (FollowUp bytes) = ⊤
IsWholeOf (Ignored why) = ⊤
IsWholeOf Denied = ⊤

responds_whole : (accepted : List Accepted) (preferred : ℕ) (may : Bool) → IsWholeOf (response accepted preferred may)
responds_whole accepted preferred may =
    either IsWholeOf (is_whole accepted) _ _ (λ whole. eq_true (length (bytes_so_far accepted)) 16 whole) (λ e. either IsWholeOf may _ _ (λ f. tt) (λ f. tt))

pub answers_whole : (accepted : List Accepted) (message : Allocation) (now : ℕ) (may : Bool) → IsWholeOf (answer accepted message now may)
unfolding answer
answers_whole accepted message now may = elim (tell (has_length message)) [
  | inr b ↦ rw b tt
  | inl b ↦ rw b (elim (tell (is_expected (recent_requests accepted now) message)) [
    | inr c ↦ rw c tt
    | inl c ↦ rw c (responds_whole (with_request (recent_requests accepted now) message now) message.node may)
  ])
]

-- ---- of GetNodeInfo

from_rest : (status : Option NodeStatus) (software : Option SoftwareVersion) (rest : List ℕ) (info : NodeInfo)
    → node_info_from status software rest ≡ Some info → info.uid ≡ take 16 (drop 2 rest)
from_rest None software rest info e = absurd (cc (e))
from_rest (Some status) None rest info e = absurd (cc (e))
from_rest (Some status) (Some software) rest info e = sym (ap uid_of_some e)
  where
    uid_of_some : Option NodeInfo → List ℕ
    uid_of_some None = []
    uid_of_some (Some found) = found.uid

pub info_has_uid : (bytes : List ℕ) (info : NodeInfo) → node_info_of bytes ≡ Some info → length info.uid ≡ 16
unfolding node_info_of
info_has_uid bytes info e = elim (tell (has_node_info_size bytes)) [
  | inr b ↦ absurd (cc (rw b at e))
  | inl b ↦
      let long : 41 + slice_index_or bytes 40 0 ≤ length bytes = le_true (41 + slice_index_or bytes 40 0) (length bytes) (and_left _ _ b) in
      let is : info.uid ≡ take 16 (drop 2 (drop 22 bytes)) =
      from_rest (node_status_of (take 7 bytes)) (software_version_of (take 15 (drop 7 bytes))) (drop 22 bytes) info (rw b at e) in
      ap length is ∙ grind (arith, length-take, length-drop, long)
]
