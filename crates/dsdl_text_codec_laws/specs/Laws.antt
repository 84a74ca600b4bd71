-- What the laws say of a type: its fields give a payload the numbers of its value.
use Rattle.std.specs.Prelude.{◌≡◌, ◌<◌, ℕ, List, slice_index_or, Option}
use Rattle.std.specs.Option.{option_map}
use Rattle.dsdl_text.specs.Layout.{Layout}
use Rattle.dsdl_text.specs.Numbers.{numbers_of}

abbrev pub AreBytes : List ℕ → Type 0
AreBytes bytes = (i : ℕ) → slice_index_or bytes i 0 < 256

-- under these fields every payload has the numbers of the value that it is read as, and no reading exactly where it is
-- read as none
abbrev pub GiveNumbers : {T : Type 0} → List Layout → (T → List ℕ) → (List ℕ → Option T) → Type 0
GiveNumbers fields numbers value_of =
    (payload : List ℕ) → AreBytes payload → numbers_of fields payload ≡ option_map numbers (value_of payload)
