-- The exchange by which a node without an ID tells its unique ID, in three requests (UAVCAN v0 specification,
-- "Dynamic node ID allocation"; uavcan.protocol.dynamic_node_id.Allocation). What is answered depends on the
-- requests that were accepted since the last clearing, newest first.
use Rattle.std.specs.Prelude.{ℕ, ◌+◌, ◌≡◌, ◌⊎◌, ⊤, List, [], ◌∷◌, ◌++◌, length, Bool, not, ◌&&◌, if◌then◌else◌, nat_lt, nat_eq}
use Rattle.can_frame.specs.Timing.{stage_timeout}
use Rattle.dsdl_codec.specs.declared.allocation.Allocation.{Allocation}
use Rattle.alloc_exchange.specs.declared.stage.Stage.{Stage}
use Rattle.alloc_exchange.specs.declared.stage.Stage.TheVariants.{First, Second, Third}
use Rattle.alloc_exchange.specs.declared.heard.Ignore.TheVariants as Ignore
use Rattle.alloc_exchange.specs.declared.heard.Heard.{Heard}
use Rattle.alloc_exchange.specs.declared.heard.Heard.TheVariants.{Ignored, FollowUp, Denied, Whole}

-- a request that was accepted: its part of the unique ID, and when
pub record Accepted : Type 0 where
  pub bytes : List ℕ
  pub moment : ℕ

-- the bytes of the unique ID so far: the parts, one behind the other
abbrev pub bytes_so_far : List Accepted → List ℕ
bytes_so_far [] = []
bytes_so_far (last ∷ earlier) = bytes_so_far earlier ++ last.bytes

-- the moment of the last accepted request, 0 where there is none
abbrev pub last_moment : List Accepted → ℕ
last_moment [] = 0
last_moment (last ∷ earlier) = last.moment

-- the requests that still count: none of them once the last one is too old
abbrev pub recent_requests : List Accepted → ℕ → List Accepted
recent_requests accepted now = if nat_lt (last_moment accepted + stage_timeout) now then [] else accepted

-- a request is of the first stage by its flag, else of the second with 6 bytes, else of the third
abbrev pub stage_of : Allocation → Stage
stage_of message = if message.first_part then First else if nat_eq (length message.uid.items) 6 then Second else Third

-- how many bytes a request of a stage brings
abbrev pub stage_length : Stage → ℕ
stage_length First = 6
stage_length Second = 6
stage_length Third = 4

-- how many bytes are collected where a stage is expected
abbrev pub bytes_before : Stage → ℕ
bytes_before First = 0
bytes_before Second = 6
bytes_before Third = 12

-- the request brings as many bytes as its stage does
abbrev pub has_length : Allocation → Bool
has_length message = nat_eq (length message.uid.items) (stage_length (stage_of message))

-- the stage of the request is the one that is expected
abbrev pub is_expected : List Accepted → Allocation → Bool
is_expected accepted message = nat_eq (length (bytes_so_far accepted)) (bytes_before (stage_of message))

-- the requests with one more that is accepted
abbrev pub with_request : List Accepted → Allocation → ℕ → List Accepted
with_request accepted message now = record { bytes = message.uid.items; moment = now } ∷ accepted

-- the unique ID is whole
abbrev pub is_whole : List Accepted → Bool
is_whole accepted = nat_eq (length (bytes_so_far accepted)) 16

-- the answer to the last accepted request, whose node field is the preference
abbrev pub response : List Accepted → ℕ → Bool → Heard
response accepted preferred may_follow =
    if is_whole accepted then Whole (bytes_so_far accepted) preferred
    else if may_follow then FollowUp (record { items = bytes_so_far accepted })
    else Denied

-- what is left behind that answer: only a follow-up leaves the requests
abbrev pub left_over : List Accepted → Bool → List Accepted
left_over accepted may_follow = if is_whole accepted then [] else if may_follow then accepted else []

-- the answer to a message, by the requests that still count
abbrev pub answer_to : List Accepted → Allocation → ℕ → Bool → Heard
answer_to accepted message now may_follow =
    if not (has_length message) then Ignored Ignore.Length
    else if not (is_expected accepted message) then Ignored Ignore.Stage
    else response (with_request accepted message now) message.node may_follow

-- the requests behind a message, by those that still count: one that is ignored changes nothing
abbrev pub after_message : List Accepted → Allocation → ℕ → Bool → List Accepted
after_message accepted message now may_follow =
    if has_length message && is_expected accepted message then left_over (with_request accepted message now) may_follow
    else accepted

-- what is answered to a message at a moment, by the requests accepted since the last clearing
unfoldable pub answer : List Accepted → Allocation → ℕ → Bool → Heard
answer accepted message now may_follow = answer_to (recent_requests accepted now) message now may_follow

-- the requests accepted since the last clearing, behind a message
unfoldable pub after : List Accepted → Allocation → ℕ → Bool → List Accepted
after accepted message now may_follow = after_message (recent_requests accepted now) message now may_follow

-- so many bytes are collected behind a stage
abbrev pub IsEndOfStage : ℕ → Type 0
IsEndOfStage count = ((count ≡ 6) ⊎ (count ≡ 12)) ⊎ (count ≡ 16)

-- how many bytes a follow-up and a whole unique ID have
abbrev pub HasItsSize : Heard → Type 0
HasItsSize (FollowUp bytes) = (length bytes.items ≡ 6) ⊎ (length bytes.items ≡ 12)
HasItsSize (Whole uid preferred) = length uid ≡ 16
HasItsSize (Ignored why) = ⊤
HasItsSize Denied = ⊤
