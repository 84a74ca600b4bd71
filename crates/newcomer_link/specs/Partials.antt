-- A unique ID as far as requests told it. A device tells its 16 bytes in three requests of 6, 6 and 4 bytes.
use Rattle.std.specs.Prelude.{ℕ, ◌&&◌, not, nat_eq, Bool, true, false, List, drop, Option, Some, None}
use Rattle.std.specs.List.{list_any, starts_with}
use Rattle.std.specs.Str.{bytes_eq}
use Rattle.can_frame.specs.Zeros.{zeros}
use Rattle.can_frame.specs.declared.entry.Entry.{Entry}
use Rattle.newcomer_link.specs.declared.partial.Part.{Part}
use Rattle.newcomer_link.specs.declared.partial.Part.TheVariants.{First, Second, Third}
use Rattle.newcomer_link.specs.declared.partial.Partial.{Partial}

-- the unique ID has these bytes behind so many others
abbrev pub has_bytes_at : ℕ → List ℕ → List ℕ → Bool
has_bytes_at offset uid bytes = starts_with nat_eq (drop offset uid) bytes

-- a part is one of the unique ID
abbrev pub has_part : List ℕ → Part → Bool
has_part uid (First bytes) = has_bytes_at 0 uid bytes
has_part uid (Second bytes) = has_bytes_at 6 uid bytes
has_part uid (Third bytes) = has_bytes_at 12 uid bytes

-- the same of bytes that were told, or were not
abbrev pub has_told : ℕ → List ℕ → Option (List ℕ) → Bool
has_told offset uid None = true
has_told offset uid (Some bytes) = has_bytes_at offset uid bytes

-- all that was told is of the unique ID
abbrev pub has_all_told : List ℕ → Partial → Bool
has_all_told uid partial =
    has_told 0 uid partial.first && (has_told 6 uid partial.second && has_told 12 uid partial.third)

-- nothing was told yet
abbrev pub untold_yet : Partial
untold_yet = record { first = None; second = None; third = None }

-- a part is told besides
abbrev pub with_part : Partial → Part → Partial
with_part partial (First bytes) = record { first = Some bytes; second = partial.second; third = partial.third }
with_part partial (Second bytes) = record { first = partial.first; second = Some bytes; third = partial.third }
with_part partial (Third bytes) = record { first = partial.first; second = partial.second; third = Some bytes }

-- no device has a unique ID of zeros: blanks and reservations have it
abbrev pub is_of_device : List ℕ → Bool
is_of_device uid = not (bytes_eq uid zeros)

-- a device has this unique ID, and all that was told is of it, and this part
abbrev pub is_device_told : Partial → Part → List ℕ → Bool
is_device_told partial part uid = is_of_device uid && (has_all_told uid partial && has_part uid part)

-- an entry of the log is of a device whose unique ID has all that was told, and this part
abbrev pub is_of_log : List Entry → Partial → Part → Bool
is_of_log log partial part = list_any (λ entry. is_device_told partial part entry.uid) log

-- only with its last part a unique ID is whole, and a leader may record it
abbrev pub makes_whole : Part → Bool
makes_whole (First bytes) = false
makes_whole (Second bytes) = false
makes_whole (Third bytes) = true
