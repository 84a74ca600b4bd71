-- Which node ID a device is given: the least free one from its preference to 125, else the greatest free one
-- below it, else none. 126 and 127 are kept for tools (UAVCAN v0 specification, "Dynamic node ID allocation").
use Rattle.std.specs.Prelude.{ℕ, zero, suc, ◌-◌, ◌≡◌, ◌<◌, ◌≤◌, ◌⊎◌, ◌&&◌, nat_le, Bool, false, true, not, if◌then◌else◌, List, [], ◌∷◌, ◌++◌, slice_index_or, find, Option, Some, None}
use Rattle.std.specs.List.{range_with_len}

-- the ID that the search begins at: a preference of 0 or above 125 counts as 125
abbrev pub preference : ℕ → ℕ
preference preferred = if nat_le 1 preferred && nat_le preferred 125 then preferred else 125

-- the IDs from one up to 125
abbrev pub upwards : ℕ → List ℕ
upwards from = range_with_len from (126 - from)

-- the IDs from one down to 1
abbrev pub downwards : ℕ → List ℕ
downwards zero = []
downwards (suc id) = suc id ∷ downwards id

-- the IDs that may be given, the best first
unfoldable pub candidates : ℕ → List ℕ
candidates preferred = upwards (preference preferred) ++ downwards (preference preferred - 1)

-- nobody has this ID
abbrev pub is_free : List Bool → ℕ → Bool
is_free taken id = not (slice_index_or taken id true)

-- the first candidate that is free
abbrev pub chosen : List Bool → ℕ → Option ℕ
chosen taken preferred = find (is_free taken) (candidates preferred)

-- the ID is 1 to 125 and not taken
pub record IsFree (taken : List Bool) (id : ℕ) : Type 0 where
  pub least : 1 ≤ id
  pub most : id ≤ 125
  pub free : slice_index_or taken id true ≡ false

-- no ID from one up to 125 is free
abbrev pub NoneFreeFrom : List Bool → ℕ → Type 0
NoneFreeFrom taken from = (id : ℕ) → from ≤ id → id ≤ 125 → slice_index_or taken id true ≡ true

pub record IsLeastFreeFrom (taken : List Bool) (from id : ℕ) : Type 0 where
  pub free : IsFree taken id
  pub above : from ≤ id
  pub least : (other : ℕ) → from ≤ other → other < id → slice_index_or taken other true ≡ true

pub record IsGreatestFreeBelow (taken : List Bool) (from id : ℕ) : Type 0 where
  pub free : IsFree taken id
  pub below : id < from
  pub greatest : (other : ℕ) → id < other → other < from → slice_index_or taken other true ≡ true

-- an ID below the preference is given only where none is free from it on
pub record IsSecondBest (taken : List Bool) (from id : ℕ) : Type 0 where
  pub none_above : NoneFreeFrom taken from
  pub next : IsGreatestFreeBelow taken from id

-- this is the choice for a device with a preference
abbrev pub IsChoice : List Bool → ℕ → Option ℕ → Type 0
IsChoice taken preferred None = NoneFreeFrom taken 1
IsChoice taken preferred (Some id) =
    IsLeastFreeFrom taken (preference preferred) id ⊎ IsSecondBest taken (preference preferred) id
