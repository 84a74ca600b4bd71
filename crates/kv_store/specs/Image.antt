-- The map that an image stands for.
--
-- Key k stands at byte 67 * k: a selector, copy A and copy B. A copy is a length byte of 0 to 32 and 32
-- bytes. An even selector chooses copy A, an odd one copy B. An image of zeros is the empty store.
use Rattle.std.specs.Prelude.{◌≡◌, ℕ, ◌+◌, ◌-◌, ◌*◌, ◌%◌, ◌<◌, ◌≤◌, ◌==◌, List, [], ◌∷◌, ◌++◌, length, take, drop, replicate, slice_index, if◌then◌else◌}
use Rattle.disk_model.specs.Contents.{Contents, MayLeave, image_size}
use Rattle.disk_model.specs.Device.{DeviceCall}
use Rattle.disk_model.specs.Device.DeviceCall.{Read, Write, Sync}

-- how many keys a store has
abbrev pub key_count : ℕ
key_count = 132

-- how many bytes a value has at most
abbrev pub value_limit : ℕ
value_limit = 32

-- the copy that a key's selector chooses: 0 is A, 1 is B
abbrev pub chosen_copy : List ℕ → ℕ → ℕ
chosen_copy image key = slice_index image (67 * key) % 2

-- where a copy begins
abbrev pub copy_start : ℕ → ℕ → ℕ
copy_start key copy = 67 * key + 1 + 33 * copy

-- the length byte of a key's chosen copy
abbrev pub length_byte : List ℕ → ℕ → ℕ
length_byte image key = slice_index image (copy_start key (chosen_copy image key))

-- the value in a key's chosen copy
abbrev pub value_in : List ℕ → ℕ → List ℕ
value_in image key = take (length_byte image key) (drop (copy_start key (chosen_copy image key) + 1) image)

-- each key has the map's value
pub record StandsFor (image : List ℕ) (map : ℕ → List ℕ) : Type 0 where
  pub whole : (key : ℕ) → key < key_count → length_byte image key ≤ value_limit
  pub values : (key : ℕ) → key < key_count → value_in image key ≡ map key

-- this is the first key whose length byte is too large
pub record IsFirstDamaged (image : List ℕ) (key : ℕ) : Type 0 where
  pub exists : key < key_count
  pub long : value_limit < length_byte image key
  pub before : (k : ℕ) → k < key → length_byte image k ≤ value_limit

-- the map with a key's value replaced
abbrev pub put_in : (ℕ → List ℕ) → ℕ → List ℕ → ℕ → List ℕ
put_in map key value k = if k == key then value else map k

-- the copies that the selectors choose, with one selector turned
abbrev pub turned : ℕ → (ℕ → ℕ) → ℕ → ℕ
turned key copies k = if k == key then 1 - copies k else copies k

-- whatever a stop leaves of the disk stands for the map
abbrev pub AlwaysStandsFor : Contents → (ℕ → List ℕ) → Type 0
AlwaysStandsFor disk map = (image : List ℕ) → MayLeave disk image → StandsFor image map

-- the bytes of a copy
abbrev pub copy_bytes : List ℕ → List ℕ
copy_bytes value = length value ∷ value ++ replicate (value_limit - length value) 0

-- the device calls of a put: the copy that is not chosen, a sync, the selector that chooses it, a sync
abbrev pub put_calls : ℕ → ℕ → List ℕ → List DeviceCall
put_calls key copy value =
    Write (copy_start key copy) (copy_bytes value) ∷ Sync ∷ Write (67 * key) (copy ∷ []) ∷ Sync ∷ []

-- the device calls of an opening: what reads give becomes stable, and is read
abbrev pub open_calls : List DeviceCall
open_calls = Sync ∷ Read 0 image_size ∷ []
