-- The fields of the types that allocators and allocatees exchange, and of those that stand in them.
use Rattle.std.specs.Prelude.{List, [], ◌∷◌}
use Rattle.dsdl_text.specs.Layout.{Layout, void, number, exactly, up_to, joined}

abbrev pub entry_fields : List Layout
entry_fields = number 32 ∷ exactly 16 (number 8) ∷ void 1 ∷ number 7 ∷ []

abbrev pub allocation_fields : List Layout
allocation_fields = number 7 ∷ number 1 ∷ up_to 16 (number 8) ∷ []

abbrev pub discovery_fields : List Layout
discovery_fields = number 8 ∷ up_to 5 (number 8) ∷ []

abbrev pub append_request_fields : List Layout
append_request_fields = number 32 ∷ number 32 ∷ number 8 ∷ number 8 ∷ up_to 1 (joined entry_fields) ∷ []

-- a term and a flag
abbrev pub verdict_fields : List Layout
verdict_fields = number 32 ∷ number 1 ∷ []

abbrev pub vote_request_fields : List Layout
vote_request_fields = number 32 ∷ number 32 ∷ number 8 ∷ []

abbrev pub node_status_fields : List Layout
node_status_fields = number 32 ∷ number 2 ∷ number 3 ∷ number 3 ∷ number 16 ∷ []

abbrev pub software_version_fields : List Layout
software_version_fields = number 8 ∷ number 8 ∷ number 8 ∷ number 32 ∷ number 64 ∷ []

abbrev pub hardware_version_fields : List Layout
hardware_version_fields = number 8 ∷ number 8 ∷ exactly 16 (number 8) ∷ up_to 255 (number 8) ∷ []

abbrev pub node_info_fields : List Layout
node_info_fields =
    joined node_status_fields
    ∷ joined software_version_fields
    ∷ joined hardware_version_fields
    ∷ up_to 80 (number 8)
    ∷ []
