-- Each codec reads a part of the profile.
use Rattle.std.proofs.Common.{◌≡◌, ◌∙◌, ℕ, List, Option, Some, None, refl, sym}
use Rattle.dsdl_text.specs.Layout.{DataType, Layout}
use Rattle.dsdl_text.specs.Numbers.{numbers_of}
use Rattle.dsdl_text.specs.Sections.{part_at, part_named}
use Rattle.dsdl_text.specs.Text.{types_in}
use Rattle.dsdl_text_codec_laws.specs.Codecs.{codec_numbers, codec_part, type_name}
use Rattle.dsdl_text_codec_laws.specs.declared.codec.Codec.{Codec}
use Rattle.dsdl_text_codec_laws.specs.declared.codec.Codec.TheVariants.{Allocation, Discovery, AppendRequest, AppendAnswer, VoteRequest, VoteAnswer, NodeStatus, NodeInfo}
use Rattle.dsdl_text_codec_laws.specs.Fields.{allocation_fields, append_request_fields, discovery_fields, node_info_fields, node_status_fields, verdict_fields, vote_request_fields}
use Rattle.dsdl_text_codec_laws.specs.Laws.{AreBytes}
use Rattle.dsdl_text_codec_laws.specs.Profile.{profile}
use Rattle.dsdl_text_codec_laws.proofs.Entries.{append_requests}
use Rattle.dsdl_text_codec_laws.proofs.NodeInfos.{node_infos}
use Rattle.dsdl_text_codec_laws.proofs.NodeStatuses.{node_statuses}
use Rattle.dsdl_text_codec_laws.proofs.Tails.{allocations, discoveries}
use Rattle.dsdl_text_codec_laws.proofs.Votes.{append_answers, vote_answers, vote_requests}

pub record ReadsPart (codec : Codec) (payload : List ℕ) : Type 0 where
  pub fields : List Layout
  pub found : part_named (types_in profile) (type_name codec) (codec_part codec) ≡ Some fields
  pub same : numbers_of fields payload ≡ codec_numbers codec payload

pub reads_part : (codec : Codec) (payload : List ℕ) → AreBytes payload → ReadsPart codec payload
reads_part Allocation payload fits = record { fields = allocation_fields; found = refl; same = allocations payload fits }
reads_part Discovery payload fits = record { fields = discovery_fields; found = refl; same = discoveries payload fits }
reads_part AppendRequest payload fits = record { fields = append_request_fields; found = refl; same = append_requests payload fits }
reads_part AppendAnswer payload fits = record { fields = verdict_fields; found = refl; same = append_answers payload fits }
reads_part VoteRequest payload fits = record { fields = vote_request_fields; found = refl; same = vote_requests payload fits }
reads_part VoteAnswer payload fits = record { fields = verdict_fields; found = refl; same = vote_answers payload fits }
reads_part NodeStatus payload fits = record { fields = node_status_fields; found = refl; same = node_statuses payload fits }
reads_part NodeInfo payload fits = record { fields = node_info_fields; found = refl; same = node_infos payload fits }

part_is : (types : List DataType) (name : List ℕ) (part : ℕ) (codec : Codec) → types ≡ types_in profile → name ≡ type_name codec → part ≡ codec_part codec
    → part_named types name part ≡ part_named (types_in profile) (type_name codec) (codec_part codec)
part_is types name part codec same named placed = rw (same, named, placed) refl

-- the part is there
pub there : (types : List DataType) (name : List ℕ) (part : ℕ) (codec : Codec) (payload : List ℕ) → AreBytes payload
    → types ≡ types_in profile → name ≡ type_name codec → part ≡ codec_part codec → part_named types name part ≡ None → ⊥
there types name part codec payload fits same named placed none =
    let found = sym (part_is types name part codec same named placed) ∙ none in
    let some = (reads_part codec payload fits).found in
    absurd (cc)

-- and gives the numbers of the codec
pub decoded_as : (types : List DataType) (name : List ℕ) (part at : ℕ) (codec : Codec) (payload : List ℕ) → AreBytes payload
    → types ≡ types_in profile → name ≡ type_name codec → part ≡ codec_part codec → part_at types at ≡ part_named types name part
    → (decoded : Option (List ℕ)) → ((fields : List Layout) → part_at types at ≡ Some fields → decoded ≡ numbers_of fields payload)
    → decoded ≡ codec_numbers codec payload
decoded_as types name part at codec payload fits same named placed is decoded reads =
    let it = reads_part codec payload fits in
    reads it.fields (is ∙ part_is types name part codec same named placed ∙ it.found) ∙ it.same
