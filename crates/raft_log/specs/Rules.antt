-- The stored state that a map, or an image, stands for.
--
-- key 0 version: empty, which is 0, or the byte 1 or 2
-- key 1 term: empty, which is 0, or 4 bytes, the low one first
-- key 2 vote: empty, which is 0, or a byte of 0 to 125
-- key 3 last: empty, which is 0, or a byte of 0 to log_limit
-- key 4 commit: empty, which is 0, or a byte of 0 to last
-- key 4 + i, for i from 1 to last: the entry at place i, 21 bytes, which may follow the entries before it,
-- and its origin, a byte of 0 to 4, which may be missing unless the version is 2
use Rattle.std.specs.Prelude.{◌≡◌, ℕ, ◌+◌, ◌*◌, ◌%◌, ◌<◌, ◌≤◌, List, Option, None, length, map, take, drop, slice_get, slice_index, slice_index_or}
use Rattle.std.specs.List.{range_with_len}
use Rattle.can_frame.specs.declared.entry.Entry.{Entry}
use Rattle.can_frame.specs.Log.{blank, log_limit}
use Rattle.disk_model.specs.Contents.{Contents, MayLeave}
use Rattle.kv_store.specs.Image.{IsFirstDamaged, key_count, length_byte, value_in, value_limit}
use Rattle.raft_log.specs.MayFollow.{IsStorable, MayFollow}
use Rattle.raft_log.specs.Stored.{Stored, origin_limit}

-- empty, or one byte up to this
pub record IsByteUpTo (most : ℕ) (value : List ℕ) : Type 0 where
  pub size : length value ≤ 1
  pub limit : slice_index value 0 ≤ most

pub record IsVersion (value : List ℕ) : Type 0 where
  pub size : length value ≤ 1
  pub least : 0 < length value → 1 ≤ slice_index value 0
  pub most : slice_index value 0 ≤ 2

abbrev pub IsTerm : List ℕ → Type 0
IsTerm value = 0 < length value → length value ≡ 4

-- a number of 4 bytes, the low one first; 0 where they are not there
abbrev pub number_of : List ℕ → ℕ
number_of value =
    slice_index value 0 + 256 * slice_index value 1 + 65536 * slice_index value 2 + 16777216 * slice_index value 3

abbrev pub version_of : (ℕ → List ℕ) → ℕ
version_of map = slice_index (map 0) 0

abbrev pub last_of : (ℕ → List ℕ) → ℕ
last_of map = slice_index (map 3) 0

-- the value of an entry: 21 bytes and its origin, which a store of version 2 always has
pub record IsEntryValue (version : ℕ) (value : List ℕ) : Type 0 where
  pub least : 21 ≤ length value
  pub most : length value ≤ 22
  pub origin : slice_index value 21 ≤ origin_limit
  pub has : version ≡ 2 → length value ≡ 22

-- the entry that its first 21 bytes stand for: term, unique ID, node ID; the high bit of the node ID is void
abbrev pub entry_of : List ℕ → Entry
entry_of value = record { term = number_of value; uid = take 16 (drop 4 value); node = slice_index value 20 % 128 }

-- its origin, the byte behind them, if there is one
abbrev pub origin_of : List ℕ → Option ℕ
origin_of value = slice_get value 21

-- what the values of the first entries are read as
unfoldable pub first_read : {X : Type 0} → (List ℕ → X) → (ℕ → List ℕ) → ℕ → List X
first_read read values count = map (λ key. read (values key)) (range_with_len 5 count)

-- the first entries, and their origins
abbrev pub entries_of : (ℕ → List ℕ) → ℕ → List Entry
entries_of values count = first_read entry_of values count

abbrev pub origins_of : (ℕ → List ℕ) → ℕ → List (Option ℕ)
origins_of values count = first_read origin_of values count

-- the rules of the keys below this one hold
pub record KeepsRules (map : ℕ → List ℕ) (below : ℕ) : Type 0 where
  pub version : 0 < below → IsVersion (map 0)
  pub term : 1 < below → IsTerm (map 1)
  pub vote : 2 < below → IsByteUpTo 125 (map 2)
  pub last : 3 < below → IsByteUpTo log_limit (map 3)
  pub commit : 4 < below → IsByteUpTo (last_of map) (map 4)
  pub entry_value : (i : ℕ) → 5 + i < below → i < last_of map → IsEntryValue (version_of map) (map (5 + i))
  pub entry : (i : ℕ) → 5 + i < below → i < last_of map →
      MayFollow (entries_of map i) (number_of (map 1)) (entry_of (map (5 + i)))

-- the key is the first whose rule does not hold
pub record IsFirstBroken (map : ℕ → List ℕ) (key : ℕ) : Type 0 where
  pub exists : key < key_count
  pub before : KeepsRules map key
  pub broken : KeepsRules map (key + 1) → ⊥

-- the value is this version, this term, this byte, this entry with this origin
pub record HasVersion (version : ℕ) (value : List ℕ) : Type 0 where
  pub size : IsVersion value
  pub number : slice_index value 0 ≡ version

pub record HasTerm (term : ℕ) (value : List ℕ) : Type 0 where
  pub size : IsTerm value
  pub number : number_of value ≡ term

pub record HasByte (byte : ℕ) (value : List ℕ) : Type 0 where
  pub size : length value ≤ 1
  pub byte_is : slice_index value 0 ≡ byte

pub record HasEntry (entry : Entry) (origin : Option ℕ) (value : List ℕ) : Type 0 where
  pub least : 21 ≤ length value
  pub most : length value ≤ 22
  pub entry_is : entry_of value ≡ entry
  pub origin_is : origin_of value ≡ origin

-- each key has its part of the state, which is one that is stored
pub record Stores (map : ℕ → List ℕ) (state : Stored) : Type 0 where
  pub version : HasVersion state.version (map 0)
  pub term : HasTerm state.term (map 1)
  pub vote : HasByte state.vote (map 2)
  pub last : HasByte (length state.log) (map 3)
  pub commit : HasByte state.commit (map 4)
  pub entries : (i : ℕ) → i < length state.log →
      HasEntry (slice_index_or state.log i (blank 0)) (slice_index_or state.origins i None) (map (5 + i))
  pub storable : IsStorable state

-- no key of the image has a length byte that is too large
abbrev pub IsWhole : List ℕ → Type 0
IsWhole image = (key : ℕ) → key < key_count → length_byte image key ≤ value_limit

-- the image stands for this state
pub record StandsForState (image : List ℕ) (state : Stored) : Type 0 where
  pub whole : IsWhole image
  pub stores : Stores (value_in image) state

-- whatever a stop leaves of the disk stands for the state
abbrev pub AlwaysStandsForState : Contents → Stored → Type 0
AlwaysStandsForState disk state = (image : List ℕ) → MayLeave disk image → StandsForState image state

-- the first key of the image that is damaged: length bytes are looked at first, over all keys, and then
-- the rules
pub data IsDamagedAt (image : List ℕ) (key : ℕ) : Type 0 where
  BadLength : IsFirstDamaged image key → IsDamagedAt image key
  BadValue : IsWhole image → IsFirstBroken (value_in image) key → IsDamagedAt image key
