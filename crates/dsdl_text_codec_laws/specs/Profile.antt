-- A text of data types, and what the text of the profile gives.
use Rattle.std.specs.Prelude.{⊤, ◌≡◌, ◌==◌, ℕ, List, [], ◌∷◌, Option, Some, None, codes}
use Rattle.std.specs.List.{slice_split}
use Rattle.dsdl_text.specs.declared.line.Line.{Line}
use Rattle.dsdl_text.specs.Layout.{DataType, Layout}
use Rattle.dsdl_text.specs.Lines.{Reads}
use Rattle.dsdl_text.specs.Sections.{part_named}
use Rattle.dsdl_text.specs.Text.{TakesLines, Text, no_text, types_in}
use Rattle.dsdl_text_codec_laws.specs.Fields.{allocation_fields, append_request_fields, discovery_fields, entry_fields, hardware_version_fields, node_info_fields, node_status_fields, software_version_fields, verdict_fields, vote_request_fields}
use Rattle.dsdl_text_codec_laws.specs.Laws.{GiveNumbers}

-- the lines of bytes, without their line feeds (byte 10)
abbrev pub lines_of : List ℕ → List (List ℕ)
lines_of bytes = slice_split (λ byte. byte == 10) bytes

-- each of these read as a line
abbrev pub ReadAs : List Line → List (List ℕ) → Type 0
ReadAs [] [] = ⊤
ReadAs (line ∷ lines) (bytes ∷ rest) = Reads line bytes × ReadAs lines rest
ReadAs [] (bytes ∷ rest) = ⊥
ReadAs (line ∷ lines) [] = ⊥

-- with the lines of the bytes the text becomes this one: each reads, and has no fault behind those in front of it
pub record EndsAs (before : Text) (bytes : List ℕ) (text : Text) : Type 0 where
  pub lines : List Line
  pub read : ReadAs lines (lines_of bytes)
  pub taken : TakesLines before lines text

-- the bytes are a text
abbrev pub IsText : List ℕ → Text → Type 0
IsText bytes text = EndsAs no_text bytes text

-- that part of that type of the text gives every payload the numbers of the value that it is read as, and no reading
-- exactly where it is read as none
pub record PartGivesNumbers {T : Type 0} (text : Text) (name : List ℕ) (part : ℕ) (numbers : T → List ℕ)
    (value_of : List ℕ → Option T) : Type 0 where
  pub fields : List Layout
  pub found : part_named (types_in text) name part ≡ Some fields
  pub give : GiveNumbers fields numbers value_of

-- so it is with the text of these bytes
abbrev pub TextGivesNumbers : {T : Type 0} → List ℕ → List ℕ → ℕ → (T → List ℕ) → (List ℕ → Option T) → Type 0
TextGivesNumbers bytes name part numbers value_of =
    (text : Text) → IsText bytes text → PartGivesNumbers text name part numbers value_of

-- ---- the text of the types that allocators and allocatees exchange

abbrev one_part : List ℕ → List Layout → DataType
one_part name fields = record { name = name; first = fields; second = None }

abbrev service : List ℕ → List Layout → List Layout → DataType
service name request response = record { name = name; first = request; second = Some response }

abbrev pub profile : Text
profile = record {
  earlier =
      one_part (codes "Entry") entry_fields
      ∷ one_part (codes "Allocation") allocation_fields
      ∷ one_part (codes "Discovery") discovery_fields
      ∷ service (codes "AppendEntries") append_request_fields verdict_fields
      ∷ service (codes "RequestVote") vote_request_fields verdict_fields
      ∷ one_part (codes "NodeStatus") node_status_fields
      ∷ one_part (codes "SoftwareVersion") software_version_fields
      ∷ one_part (codes "HardwareVersion") hardware_version_fields
      ∷ [];
  latest = Some (service (codes "GetNodeInfo") [] node_info_fields);
  names = codes "status" ∷ codes "software_version" ∷ codes "hardware_version" ∷ codes "name" ∷ [];
}
